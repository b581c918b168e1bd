-- Laws of the component at hand, the first of what is left of a path: the walks over components share them. Assumes nothing.
use Prim.Native.Nat.{ℕ, suc, ◌+◌, ◌<◌}
use mathlib.Core.Path.{◌≡◌, refl, sym, ap, ◌∙◌, subst}
use mathlib.Core.List.{List, [], ◌∷◌, ◌++◌}
use mathlib.Core.Bool.{Bool, true, false, cond}
use mathlib.Core.Option.{Option, none, some}
use native.Mathlib.Numerals.{add-one}
use native.Mathlib.Omega.{arith}
use lib.Dec.{eqb}
use lib.ListN.{length, take, drop, take-append-drop}
use lib.Seq.{drop-cons, take-length}
use borrow.Author.Tests.{eqb-true, eqb-false}
use Rattle.model.specs.Bytes.{Bytes, is_nil}
use Rattle.model.specs.Map.{find}
use Rattle.model.specs.Tree.{Entry, Tree, as_kind, key, good_name, or_else, well_formed}
use Rattle.model.specs.Order.{All}
use Rattle.model.specs.Paths.{pieces, components, base}
use Rattle.model.proofs.ChangeLaws.{Plain}
use Rattle.model.proofs.DirBaseLaws.{base_self, has_slash}
use Rattle.model.proofs.OrderTheorem.{pieces_plain}
use Rattle.model.proofs.RawLaws.{well_entries}
use Rattle.model.proofs.SoundTrees.{name_of, sound_well}
use Rattle.model.proofs.WriteKeepsTrees.{good_find, name_some}
use Rattle.names.specs.Places.{first_piece}
use Rattle.names.proofs.FrontLaws.{pieces_some, piece_short, piece_slash, pieces_next, pieces_end}

-- a path of some bytes has components
pub components_some : (path : Bytes) → (length path ≡ 0 → ⊥) → components path ≡ pieces path
components_some [] n = absurd (n refl)
components_some (b ∷ bs) n = refl

-- the components after the one of k bytes, which is the last or not
abbrev pub rest_of : Bool → Bytes → ℕ → List Bytes
rest_of true p k = []
rest_of false p k = pieces (drop (k + 1) p)

pub rest_nil : (b : Bool) (p : Bytes) (k : ℕ) → is_nil (rest_of b p k) ≡ b
rest_nil true p k = refl
rest_nil false p k = pieces_some (drop (k + 1) p)

base_past : (q n : Bytes) → base (q ++ (47 ∷ n)) ≡ base n
base_past [] n = refl
base_past (b ∷ bs) n = ap (λ (z : Bool). cond z (base (bs ++ (47 ∷ n))) ((b ∷ bs) ++ (47 ∷ n))) (has_slash (b ∷ bs) n) ∙ base_past bs n

module _ (p : Bytes) (k : ℕ) (e : k ≡ length (first_piece p)) where
  pub last_long : {b : Bool} → b ≡ eqb k (length p) → b ≡ true → k ≡ length p
  last_long eb t = eqb-true k (length p) (sym eb ∙ t)

  pub not_last : {b : Bool} → b ≡ eqb k (length p) → b ≡ false → k < length p
  not_last eb f =
      let n = eqb-false k (length p) (sym eb ∙ f) in
      omega (arith, n, piece_short p k e)

  pub pieces_are : (b : Bool) → b ≡ eqb k (length p) → pieces p ≡ take k p ∷ rest_of b p k
  pieces_are true eb = pieces_end p k e (let z = last_long eb refl in omega (arith, z))
  pieces_are false eb = pieces_next p k e (not_last eb refl)

  -- the component has no slash
  pub piece_plain : Plain (take k p)
  piece_plain = go (eqb k (length p)) refl
    where
      go : (b : Bool) → b ≡ eqb k (length p) → Plain (take k p)
      go b eb = (subst (All Plain) (pieces_are b eb) (pieces_plain p)).0

  -- the last component is the base of what is left; an earlier one does not change it
  pub last_base : {b : Bool} → b ≡ eqb k (length p) → b ≡ true → base p ≡ take k p
  last_base eb t =
      let q : take k p ≡ p = ap (λ (n : ℕ). take n p) (last_long eb t) ∙ take-length p in
      ap base (sym q) ∙ base_self (take k p) piece_plain

  pub next_base : k < length p → base (drop (k + 1) p) ≡ base p
  next_base h =
      let split : p ≡ take k p ++ (47 ∷ drop (k + 1) p) =
      sym (take-append-drop k p) ∙ ap (λ (l : Bytes). take k p ++ l) (drop-cons p k 0 h ∙ ap (λ (b : ℕ). b ∷ drop (suc k) p) (piece_slash p k e h) ∙ ap (λ (j : ℕ). 47 ∷ drop j p) (sym (add-one k))) in
      sym (ap base split ∙ base_past (take k p) (drop (k + 1) p))

-- an entry that is found in a well-formed tree has the name, which has bytes
pub found_named : (t : Tree) (n : Bytes) (e : Entry) (b : Bool) → well_formed 20 t ≡ true → Plain n → find key (as_kind b n) t ≡ some e → (e.name ≡ n) × (is_nil n ≡ false)
found_named t n e b w p f =
    let q = name_of t (sound_well 20 t w) b n e p f in
    (q, name_some n (ap good_name (sym q) ∙ good_find 20 t (well_entries 20 t w) (as_kind b n) e f))

pub either_named : (t : Tree) (n : Bytes) (e : Entry) (b c : Bool) → well_formed 20 t ≡ true → Plain n → or_else (find key (as_kind b n) t) (find key (as_kind c n) t) ≡ some e → (e.name ≡ n) × (is_nil n ≡ false)
either_named t n e b c w p = go (find key (as_kind b n) t) refl
  where
    go : (o : Option Entry) → find key (as_kind b n) t ≡ o → or_else o (find key (as_kind c n) t) ≡ some e → (e.name ≡ n) × (is_nil n ≡ false)
    go none f h = found_named t n e c w p h
    go (some x) f h = found_named t n e b w p (f ∙ h)
