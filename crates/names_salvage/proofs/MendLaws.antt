-- Laws of the answer: what the pass knows at its end is what the definition says, limit by limit. Assumes nothing.
use Prim.Native.Nat.{ℕ, ◌-◌, ◌≤◌, ◌<◌}
use mathlib.Core.Path.{◌≡◌, sym, ap, ◌∙◌, subst}
use mathlib.Core.Bool.{true, false, ◌||◌}
use mathlib.Core.List.{List}
use native.Mathlib.Omega.{arith}
use lib.Dec.{ltb, eqb}
use borrow.Author.Tests.{le-leb, lt-leb, ltb-true}
use lib.ListN.{length}
use Rattle.model.specs.Bytes.{Bytes}
use Rattle.model.specs.Raw.{raw_tree}
use Rattle.model.specs.Tree.{Tree, name_bytes}
use Rattle.model.proofs.Basics.{and_right}
use Rattle.names.specs.Splice.{splice}
use Rattle.names_salvage.specs.Answers.{Lists, Holds, mended_of, PassedTo, Passed, outcome}
use Rattle.names_salvage.specs.Mending.{Mended, sorted, within, refusal, told, mended, takes, salvaged}
use Rattle.names_salvage.specs.Pieces.{pieces_of}
use Rattle.names_salvage.specs.declared.pass.Tally.{Tally}
use Rattle.names_salvage.specs.declared.table.Slot.{Slot}
use Rattle.std.specs.Prelude.{Option, Some, None, Result, Ok, Err, IsErrAnd}
use Rattle.std.specs.Option.{ok_or}
use Rattle.names_salvage.specs.declared.mend.Mended as code
use Rattle.names_salvage.specs.declared.mend.Refusal.{Refusal}
use Rattle.names_salvage.specs.declared.mend.Refusal.TheVariants.{OverLimit}

-- what the pass says, by its answer
module _ {raw : Bytes} {w : ℕ} {vs : List Slot} {r : Option Tally} (p : Passed raw w vs r) where
  pub over_limit : r ≡ None → within (mended_of w raw).kept ≡ false
  over_limit e = subst (PassedTo raw w vs) e p.is

  module _ {t : Tally} (e : r ≡ Some t) where
    pub held : Holds raw w vs t (mended_of w raw)
    held = (subst (PassedTo raw w vs) e p.is).0

    pub left_over : length (pieces_of w raw).left ≡ length raw - t.at
    left_over = (subst (PassedTo raw w vs) e p.is).1

module _ {raw : Bytes} {w : ℕ} {vs : List Slot} {t : Tally} {m : Mended} (h : Holds raw w vs t m) where
  -- the room that the entries kept need
  pub enough : (d : Bytes) → t.len ≤ length d → length (raw_tree (sorted m.kept)) ≤ length d
  enough d g = omega (arith, h.len)

  is_within : within m.kept ≡ true
  is_within = rw (le-leb (length m.kept) 1024 (omega (arith, sym h.kept, h.few)), le-leb (name_bytes m.kept) 16384 (omega (arith, h.names, h.short)))

  told_short : (cut : ℕ) (d : Bytes) → length d < t.len → refusal 11 t.len d ≡ told m cut d
  unfolding told
  told_short cut d g =
      let q : t.len ≡ length (raw_tree (sorted m.kept)) = h.len in
      sym (rw (is_within, lt-leb (length (raw_tree (sorted m.kept))) (length d) (omega (arith, q)), ← q))

  told_done : (cut : ℕ) (d d' : Bytes) → t.len ≤ length d → d' ≡ splice d 0 (raw_tree (sorted m.kept)) →
      record { code = 0; len = t.len; cut = cut; bad_name = t.badname; bad_mode = t.badmode; double = t.double; moved = t.moved; out = d' } ≡ told m cut d
  unfolding told
  told_done cut d d' g e =
      let q : t.len ≡ length (raw_tree (sorted m.kept)) = h.len in
      rw (e, h.bad_name, h.bad_mode, h.double, h.moved, is_within, le-leb (length (raw_tree (sorted m.kept))) (length d) (omega (arith, q)), q)

told_over : (m : Mended) (cut : ℕ) (d : Bytes) → within m.kept ≡ false → refusal 5 0 d ≡ told m cut d
unfolding told
told_over m cut d e = sym (rw e)

pub mended_over : (raw : Bytes) (w : ℕ) (d : Bytes) → within (mended_of w raw).kept ≡ false → refusal 5 0 d ≡ mended w raw d
unfolding mended
mended_over raw w d e = told_over (mended_of w raw) (length (pieces_of w raw).left) d e

pub mended_short : {raw : Bytes} {w : ℕ} {vs : List Slot} {t : Tally} → Holds raw w vs t (mended_of w raw) → (d : Bytes) → length d < t.len → refusal 11 t.len d ≡ mended w raw d
unfolding mended
mended_short {raw} {w} h d g = told_short h (length (pieces_of w raw).left) d g

pub mended_done : {raw : Bytes} {w : ℕ} {vs : List Slot} {t : Tally} → Holds raw w vs t (mended_of w raw) → length (pieces_of w raw).left ≡ length raw - t.at → (d d' : Bytes) → t.len ≤ length d →
    d' ≡ splice d 0 (raw_tree (sorted (mended_of w raw).kept)) →
    record { code = 0; len = t.len; cut = length raw - t.at; bad_name = t.badname; bad_mode = t.badmode; double = t.double; moved = t.moved; out = d' } ≡ mended w raw d
unfolding mended
mended_done {raw} {w} {vs} {t} h l d d' g e =
    told_done h (length raw - t.at) d d' g e ∙ ap (λ (k : ℕ). told (mended_of w raw) k d) (sym l)

-- the width and the length
pub not_taken : (w : ℕ) (raw d : Bytes) → takes w raw ≡ false → refusal 255 0 d ≡ salvaged w raw d
unfolding salvaged
not_taken w raw d e = sym (rw e)

pub taken_on : (w : ℕ) (raw d : Bytes) → takes w raw ≡ true → mended w raw d ≡ salvaged w raw d
unfolding salvaged
taken_on w raw d e = sym (rw e)

pub taken_short : (w : ℕ) (raw : Bytes) → takes w raw ≡ true → length raw ≤ 536870911
taken_short w raw e = omega (arith, ltb-true (length raw) 536870912 (and_right (eqb w 20 || eqb w 32) (ltb (length raw) 536870912) e))

-- what a refusal answers
pub refused_as : (r : Result code.Mended Refusal) (e : Refusal) → IsErrAnd r (λ (x : Refusal). x ≡ e) → (o : Option Tally) → o ≡ None → Err e ≡ ok_or o OverLimit → (d : Bytes) → outcome r d ≡ refusal 5 0 d
refused_as (Ok m) e h o q p d = absurd h
refused_as (Err x) e h o q p d =
    let z : ◌≡◌ {A = Result Tally Refusal} (Err e) (Err OverLimit) = p ∙ ap (λ (s : Option Tally). ok_or s OverLimit) q in
    let y : x ≡ OverLimit = cc (h, z) in
    ap (λ (f : Refusal). outcome (Err f) d) y

pub lists_as : {raw : Bytes} {vs vs' : List Slot} {t : Tree} → vs' ≡ vs → Lists raw vs t → Lists raw vs' t
lists_as {raw} {vs} {vs'} {t} e l = subst (λ (z : List Slot). Lists raw z t) (sym e) l
