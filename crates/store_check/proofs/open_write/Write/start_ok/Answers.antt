-- `store_check::open_write::Write::start_ok` meets its contract: only the root's path is empty; a write from the root begins there, and one from a cursor elsewhere leaves the root cached. Assumes nothing.
use mathlib.Core.Path.{◌≡◌, sym, ap, ◌∙◌}
use mathlib.Core.Bool.{not}
use Prim.Native.Nat.{ℕ, ◌<◌}
use native.Mathlib.Omega.{arith}
use borrow.Author.Tests.{eq-eqb}
use lib.ListN.{length, get_or}
use Rattle.store_slots.specs.View.{start_slot}
use Rattle.store_check.specs.Lending.{start_in, cached_in}
use Rattle.store_check.specs.declared.open_write.Write.{Write}
use Rattle.store_check.proofs.StartLaws.{path_nil, path_some, fine_nil, fine_root, fine_cursor}
use Rattle.store_check.proofs.WrittenLaws.{start_low}
use Rattle.store_check.proofs.open_write.Write.start_ok.Goals as goal

-- the slot of the start, and how long its path is
module _ (s : Write) (k : ℕ) (e : k ≡ start_slot s.store.record s.order.now) where
  low : start_slot s.store.record s.order.now < length s.store.plens.now
  low = omega (arith, start_low s.taken.opened s.taken.order_64, s.store.plens_64)

  long : get_or s.store.plens.now k 0 ≡ get_or s.store.plens.now (start_slot s.store.record s.order.now) 0
  long = ap (λ (x : ℕ). get_or s.store.plens.now x 0) e

pub returns-then-s-start-eq0 : goal.returns-then-s-start-eq0
returns-then-s-start-eq0 c =
    let w = c.args.self in
    let s = w.store in
    let k = c.start.result in
    eq-eqb (get_or s.plens.now k 0) 0 c.if-s-start-eq0.true
    ∙ fine_nil s.record.«open» (start_in s w.order.now) (cached_in s) w.«open»
    (path_nil s.plens.now s.paths.now s.record.paths (start_slot s.record w.order.now) w.taken.lays.laid.paths_sound (low w k c.start.ensures.slot) (sym (long w k c.start.ensures.slot) ∙ c.if-s-start-eq0.true))

pub returns-else-s-ne1 : goal.returns-else-s-ne1
returns-else-s-ne1 c =
    let w = c.args.self in
    let s = w.store in
    let k = c.start.result in
    ap not (eq-eqb s.record.«open» 1 c.if-s-ne1.false)
    ∙ fine_root s.record.«open» (start_in s w.order.now) (cached_in s) c.if-s-ne1.false
    (path_some s.plens.now s.paths.now s.record.paths (start_slot s.record w.order.now) w.taken.lays.laid.paths_sound (low w k c.start.ensures.slot) (λ e. c.if-s-start-eq0.false (long w k c.start.ensures.slot ∙ e)))

pub returns-then-s-ne1 : goal.returns-then-s-ne1
returns-then-s-ne1 c =
    let w = c.args.self in
    let s = w.store in
    let k = c.start.result in
    fine_cursor s.record.«open» (start_in s w.order.now) (cached_in s) c.root_cached.result w.«open» c.if-s-ne1.true
    (path_some s.plens.now s.paths.now s.record.paths (start_slot s.record w.order.now) w.taken.lays.laid.paths_sound (low w k c.start.ensures.slot) (λ e. c.if-s-start-eq0.false (long w k c.start.ensures.slot ∙ e)))
    c.root_cached.ensures
