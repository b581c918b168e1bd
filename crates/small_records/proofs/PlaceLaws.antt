-- Laws of the lines by their places: what a line's parts say decides what is found. Assumes nothing.
use Prim.Native.Nat.{ℕ, ◌*◌, ◌/◌}
use mathlib.Core.Path.{◌≡◌, refl, sym, ◌∙◌}
use mathlib.Core.List.{[], ◌∷◌}
use mathlib.Core.Bool.{Bool, true, false, cond}
use mathlib.Core.Option.{Option, none, some}
use native.Mathlib.Omega.{arith}
use lib.Dec.{eqb}
use lib.ListN.{length}
use borrow.Author.Tests.{eq-eqb, ne_eqb, eqb-true, eqb-false}
use Rattle.model.specs.Bytes.{Bytes, is_nil}
use Rattle.model.specs.Tree.{Mode}
use Rattle.model.specs.Raw.{mode_of}
use Rattle.model.specs.Walk.{RemoveKind, ANY, LEAF}
use Rattle.std.proofs.Common.{nat_eq}
use Rattle.std.specs.Bool.{then_some}
use Rattle.std.specs.Cmp.Lexicographic.{pointwise}
use Rattle.lines.specs.Answers.{part, value_read}
use Rattle.lines.specs.Hex.{hexed}
use Rattle.lines.specs.declared.line.Span.{Span}
use Rattle.lines.proofs.PlaceLaws.{same_test}
use Rattle.small_records.specs.Answers.{as_op, op_read}
use Rattle.small_records.specs.declared.record.Op as code
use Rattle.small_records.specs.Records.{op_key, path_key, kind_key, id_key, upsert_word, remove_word, leaf_word, Verb, adds, takes, verb_of, Op, put, drops, put_as, op_of, good_id}
use Rattle.lines.specs.Places.{Part, text_at, past, value_at, told}
use Rattle.small_records.specs.Places.{op_at, path_at, kind_at, id_at}
use Rattle.lines.proofs.HexLaws.{hex_even}

-- The four lines: what their values say
module _ (s : Bytes) (at : ℕ) where
  pub no_op : none ≡ value_at op_key s at → none ≡ op_at s at
  unfolding op_at
  no_op e = rw (← e)

  pub no_path : none ≡ value_at path_key s at → none ≡ path_at s at
  unfolding path_at
  no_path e = rw (← e)

  pub no_kind : (v : Verb) → none ≡ value_at kind_key s at → none ≡ kind_at s v at
  unfolding kind_at
  no_kind v e = rw (← e)

  pub no_id : (w : ℕ) (k : Op) → none ≡ value_at id_key s at → none ≡ id_at w s k at
  unfolding id_at
  no_id w k e = rw (← e)

  module _ (p : Part) {t : Bytes} (et : t ≡ text_at s p) where
    pub op_is : some p ≡ value_at op_key s at → {o : Option Verb} → o ≡ verb_of t → told o (past p) ≡ op_at s at
    unfolding op_at
    op_is e eo = rw (← e, ← et, ← eo)

    pub path_is : some p ≡ value_at path_key s at → {b : Bool} → b ≡ hexed t → cond b (some p) none ≡ path_at s at
    unfolding path_at
    path_is e eb = rw (← e, ← et, ← eb)

    pub kind_is : (v : Verb) → some p ≡ value_at kind_key s at → {o : Option Op} → o ≡ op_of v t → told o (past p) ≡ kind_at s v at
    unfolding kind_at
    kind_is v e eo = rw (← e, ← et, ← eo)

    pub id_is : (w : ℕ) (k : Op) → some p ≡ value_at id_key s at → {b : Bool} → b ≡ good_id w k t → cond b (some p) none ≡ id_at w s k at
    unfolding id_at
    id_is w k e eb = rw (← e, ← et, ← eb)

-- an answer that is given where a test holds
pub value_if : (b : Bool) (v : Span) → value_read (then_some b v) ≡ cond b (some (part v)) none
value_if true v = refl
value_if false v = refl

pub op_if : (b : Bool) (o : code.Op) → op_read (then_some b o) ≡ cond b (some (as_op o)) none
op_if true o = refl
op_if false o = refl

-- the three words, told by comparing byte by byte
pub verb_says : (t : Bytes) → verb_of t ≡ cond (pointwise nat_eq t upsert_word) (some adds) (cond (pointwise nat_eq t remove_word) (some (takes ANY)) (cond (pointwise nat_eq t leaf_word) (some (takes LEAF)) none))
unfolding verb_of
verb_says t = rw (same_test t upsert_word, same_test t remove_word, same_test t leaf_word)

-- nothing is said only where there are no bytes
pub nil_test : (l : Bytes) → eqb (length l) 0 ≡ is_nil l
nil_test [] = refl
nil_test (x ∷ l) = ne_eqb (length (x ∷ l)) 0 (λ e. absurd (omega arith))

-- What the kind makes of the verb
module _ (t : Bytes) where
  pub kind_of_upsert : {v : Verb} → v ≡ adds → {m : Option Mode} → m ≡ mode_of t → put_as m ≡ op_of v t
  unfolding op_of
  kind_of_upsert e em = rw (e, ← em)

  pub kind_of_removal : {v : Verb} {k : RemoveKind} → v ≡ takes k → {b : Bool} → b ≡ eqb (length t) 0 → cond b (some (drops k)) none ≡ op_of v t
  unfolding op_of
  kind_of_removal e q = rw (e, q, nil_test t)

-- What the id may say
half : (n w : ℕ) → n ≡ 2 * (n / 2) → eqb (n / 2) w ≡ eqb n (2 * w)
half n w e = go (eqb (n / 2) w) refl
  where
    go : (t : Bool) → eqb (n / 2) w ≡ t → t ≡ eqb n (2 * w)
    go true q = let z = eqb-true (n / 2) w q in sym (eq-eqb n (2 * w) (omega arith))
    go false q = sym (ne_eqb n (2 * w) (λ z. eqb-false (n / 2) w q (omega arith)))

module _ (w : ℕ) (t : Bytes) where
  pub id_of_upsert : {k : Op} (m : Mode) → k ≡ put m → hexed t ≡ true → eqb (length t / 2) w ≡ good_id w k t
  unfolding good_id
  id_of_upsert m e h = half (length t) w (hex_even t h) ∙ rw (e, h)

  pub id_no_hex : {k : Op} (m : Mode) → k ≡ put m → hexed t ≡ false → false ≡ good_id w k t
  unfolding good_id
  id_no_hex m e h = rw (e, h)

  pub id_of_removal : {k : Op} (m : RemoveKind) → k ≡ drops m → eqb (length t) 0 ≡ good_id w k t
  unfolding good_id
  id_of_removal m e = rw e (nil_test t)
