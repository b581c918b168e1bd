-- `store_trees::nulls::close_up` meets its contract: the entries passed are kept at the front or gone. Assumes nothing.
use mathlib.Core.Path.{◌≡◌, sym, ap, ◌∙◌, subst}
use mathlib.Core.List.{List}
use Prim.Native.Nat.{ℕ, ◌+◌, ◌-◌}
use native.Mathlib.Omega.{arith}
use lib.ListN.{length, get_or}
use Rattle.model.specs.Bytes.{same}
use Rattle.model.specs.Tree.{null}
use Rattle.names_compact.specs.Compact.{packed}
use Rattle.names.specs.Splice.{splice}
use Rattle.store_runs.specs.Moves.{part}
use Rattle.store_trees.proofs.NullLaws.{Closing, Hand, hand, close_begin, close_end, close_gone, close_kept}
use Rattle.store_trees.proofs.nulls.close_up.Goals as goal
use Rattle.store_trees.proofs.nulls.close_up.Goals.{After-is_null}

pub loop-at-init : goal.loop-at-init
loop-at-init c = close_begin c.requires.0

pub bounds-run-at : goal.bounds-run-at
bounds-run-at c =
    let H = hand c.loop-at.invariant c.loop-at-test.true in
    omega (arith, H.room, H.size)

-- the entry at hand
abbrev at-hand : (c : After-is_null) → Hand c.args.width c.loop-at.run c.loop-at.at c.loop-at.invariant.left
at-hand c = hand c.loop-at.invariant c.loop-at-test.true

-- whether its id is null
said : (c : After-is_null) → c.is_null.result ≡ same (at-hand c).entry.id (null c.args.width)
said c =
    let H = at-hand c in
    c.is_null.ensures ∙ ap (λ (z : List ℕ). same z (null (length z))) (c.between.ensures ∙ H.id) ∙ ap (λ (n : ℕ). same H.entry.id (null n)) H.broad

-- and how long it is
long : (c : After-is_null) → 2 + c.args.width + get_or c.loop-at.run (c.loop-at.at + 1) 0 ≡ length (packed (at-hand c).entry)
long c = omega (arith, (at-hand c).size, (at-hand c).word)

pub overflow_add-gone : goal.overflow_add-gone
overflow_add-gone c =
    let H = hand c.loop-at.invariant c.loop-at-test.true in
    omega (arith, H.room, H.size, c.loop-at.invariant.few)

pub shift-requires : goal.shift-requires
shift-requires c =
    let H = hand c.loop-at.invariant c.loop-at-test.true in
    (omega arith, omega (arith, H.room, H.size, H.word), omega (arith, H.room, H.size, H.word, c.loop-at.invariant.low))

pub overflow_add-used : goal.overflow_add-used
overflow_add-used c =
    let H = hand c.loop-at.invariant c.loop-at-test.true in
    omega (arith, H.room, H.size, H.word, c.loop-at.invariant.low)

pub loop-at-preserved-then-is_null : goal.loop-at-preserved-then-is_null
loop-at-preserved-then-is_null c =
    let p = (goal.at.loop-at-preserved-then-is_null c).After-is_null in
    close_gone c.loop-at.invariant c.loop-at-test.true _ (ap (λ (n : ℕ). c.loop-at.at + n) (long p)) (sym c.if-is_null.true ∙ said p)

pub loop-at-preserved : goal.loop-at-preserved
loop-at-preserved c =
    let l = c.loop-at in
    let p = (goal.at.loop-at-preserved c).After-is_null in
    let m = 2 + c.args.width + get_or l.run (l.at + 1) 0 in
    let q : l.at + m - l.at ≡ length (packed (at-hand p).entry) = omega (arith, long p) in
    subst (λ (n : ℕ). Closing c.args.width c.args.run.now c.shift.new.s (l.at + m) (l.used + n) l.gone) (sym (long p))
    (close_kept l.invariant c.loop-at-test.true (l.at + m) (ap (λ (n : ℕ). l.at + n) (long p)) c.shift.new.s
    (c.shift.ensures ∙ ap (λ (z : ℕ). splice l.run l.used (part l.run l.at z)) q) (sym c.if-is_null.false ∙ said p))

pub returns : goal.returns
returns c =
    let old = close_end c.loop-at.invariant c.loop-at-test.false in
    record { front = old.0; counts = old.1 }
