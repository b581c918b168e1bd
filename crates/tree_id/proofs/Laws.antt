-- Laws of the header: it is short, and what is hashed behind it is the id. Assumes nothing.
use Prim.Native.Nat.{ℕ, zero, suc, ◌+◌, ◌/◌, ◌%◌, ◌≤◌}
use mathlib.Core.Path.{◌≡◌, refl, subst}
use mathlib.Core.Bool.{Bool, true, false, cond}
use mathlib.Core.List.{List, [], ◌∷◌, ◌++◌}
use native.Mathlib.Omega.{arith}
use lib.Dec.{eqb, ltb}
use lib.ListN.{length, length-append}
use Rattle.hash.specs.Stream.{Holds}
use Rattle.lines.specs.Texts.{decimal_from, decimal}
use Rattle.model.specs.Bytes.{Bytes}
use Rattle.tree_id.specs.Ids.{header, hashed_by, object_id}

digits_few : (k n : ℕ) (after : Bytes) → length (decimal_from k n after) ≤ k + length after
unfolding decimal_from
digits_few zero n after = omega arith
digits_few (suc k) n after = go (ltb n 10) (digits_few k (n / 10) ((48 + n % 10) ∷ after))
  where
    go : (b : Bool) → length (decimal_from k (n / 10) ((48 + n % 10) ∷ after)) ≤ k + suc (length after) → length (cond b ((48 + n) ∷ after) (decimal_from k (n / 10) ((48 + n % 10) ∷ after))) ≤ suc k + length after
    go true h = omega arith
    go false h = omega arith

pub header_short : (kind : Bytes) (n : ℕ) → length (header kind n) ≤ length kind + 22
unfolding header decimal
header_short kind n =
    omega (arith, length-append ((kind ++ (32 ∷ [])) ++ decimal_from 20 n []) (0 ∷ []), length-append (kind ++ (32 ∷ [])) (decimal_from 20 n []), length-append kind (32 ∷ []), digits_few 20 n [])

-- the kind, a space, the digits and a NUL are the header
pub header_held : {H : Type 0} {f : H → List ℕ → H} {h words : H} {block : List ℕ} {k : ℕ} (kind : Bytes) (n : ℕ) (digits : Bytes) → digits ≡ decimal n →
    Holds f h words block k (((kind ++ (32 ∷ [])) ++ digits) ++ (0 ∷ [])) → Holds f h words block k (header kind n)
unfolding header
header_held {H} {f} {h} {words} {block} {k} kind n digits e p = subst (λ (l : Bytes). Holds f h words block k (((kind ++ (32 ∷ [])) ++ l) ++ (0 ∷ []))) e p

-- an id is the hash of the header and the body, in the format of its width
pub id_of : (w : ℕ) (kind body : Bytes) → hashed_by (eqb w 32) (header kind (length body) ++ body) ≡ object_id w kind body
unfolding object_id
id_of w kind body = refl
