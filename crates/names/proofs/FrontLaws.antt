-- Laws of a path's front parts: the path so far and a slash stand before what is left of it, so each level's path is a front part of the whole. Assumes nothing.
use Prim.Native.Nat.{ℕ, zero, suc, ◌+◌, ◌-◌, ◌≤◌, ◌<◌, compare, Ordering}
use mathlib.Core.Path.{◌≡◌, refl, sym, ap, ◌∙◌}
use mathlib.Core.List.{List, [], ◌∷◌, ◌++◌, append_assoc}
use mathlib.Core.Bool.{Bool, true, false, not, ◌||◌, cond}
use native.Mathlib.Numerals.{add-one}
use native.Mathlib.Omega.{arith}
use lib.Dec.{eqb, leb}
use lib.ListN.{length, get_or, take, drop, length-append, take-append-drop}
use lib.Seq.{take_at, drop-cons, length-take-le, take-append-add, take-length}
use borrow.Author.Tests.{eqb-true, leb-true}
use Rattle.model.specs.Bytes.{Bytes, is_nil, has, by}
use Rattle.model.specs.Paths.{onto_first, pieces, components, some_long, join, full, refused}
use Rattle.model.proofs.Basics.{or_right, not_false}
use Rattle.names.specs.Places.{index_of, first_piece}
use Rattle.names.specs.Splice.{splice}
use Rattle.names.proofs.PathLaws.{first_slash, pieces_more, pieces_last}
use Rattle.names.proofs.WriteLaws.{splice_front, wrote, wrote_more}
use Rattle.names.specs.Fronts.{lead}

pub lead_join : (p c : Bytes) → lead p ++ c ≡ join p c
lead_join [] c = refl
lead_join (b ∷ bs) c = append_assoc (b ∷ bs) (47 ∷ []) c

pub lead_some : (p : Bytes) → (length p ≡ 0 → ⊥) → lead p ≡ p ++ (47 ∷ [])
lead_some [] n = absurd (n refl)
lead_some (b ∷ bs) n = refl

pub full_join : (p c : Bytes) → (length c ≡ 0 → ⊥) → full p c ≡ join p c
full_join p [] n = absurd (n refl)
full_join p (b ∷ bs) n = refl

pub full_none : (p c : Bytes) → length c ≡ 0 → full p c ≡ p
full_none p [] e = refl
full_none p (b ∷ bs) e = absurd (omega (arith, e))

pub full_long : (p c : Bytes) → (length c ≡ 0 → ⊥) → length (lead p) + length c ≡ length (full p c)
full_long p c n = sym (length-append (lead p) c) ∙ ap length (lead_join p c ∙ sym (full_join p c n))

-- a path that is not refused is short enough
pub full_short : (p c : Bytes) → refused p c ≡ false → length (full p c) ≤ 1024
unfolding refused
full_short p c e =
    leb-true (length (full p c)) 1024 (not_false (leb (length (full p c)) 1024) (or_right (has 0 c || some_long (components c)) (not (leb (length (full p c)) 1024)) e))

-- bytes written behind a front part: it stays, and they follow it
pub splice_after : (d : Bytes) (at : ℕ) (s : Bytes) → at ≤ length d → take (at + length s) (splice d at s) ≡ take at d ++ s
unfolding splice
splice_after d at s h = take_at (take at d ++ s) (drop (at + length s) d) (at + length s) (length-append (take at d) s ∙ ap (λ (n : ℕ). n + length s) (length-take-le at d h))

pub splice_before : (d : Bytes) (at : ℕ) (s : Bytes) → at ≤ length d → take at (splice d at s) ≡ take at d
unfolding splice
splice_before d at s h = ap (take at) (append_assoc (take at d) s (drop (at + length s) d)) ∙ take_at (take at d) (s ++ drop (at + length s) d) at (length-take-le at d h)

-- a name written behind the lead of p makes the path below, and the lead stays for the next one
module _ (d p : Bytes) (n : ℕ) (e : take n d ≡ lead p) (h : n ≤ length d) where
  pub name_after : (c : Bytes) → take (n + length c) (splice d n c) ≡ join p c
  name_after c = splice_after d n c h ∙ ap (λ (l : Bytes). l ++ c) e ∙ lead_join p c

  pub lead_stays : (c : Bytes) → take n (splice d n c) ≡ lead p
  lead_stays c = splice_before d n c h ∙ e

pub lead_put : (d p : Bytes) {d₁ d₂ : Bytes} {n r : ℕ} → length p < length d → (n ≡ 0 + length p) × (d₁ ≡ splice d 0 p) → (n ≡ 0 → ⊥) → (r ≡ n + 1) × (d₂ ≡ splice d₁ n (47 ∷ [])) →
    (r ≡ length (lead p)) × (take r d₂ ≡ lead p)
lead_put d p {d₁} {d₂} {n} {r} room a z b =
    let w = wrote {d₀ = d} {at = 0} {s = p} (omega (arith, room)) a in
    let v = wrote_more w (47 ∷ []) (omega (arith, room, w.long, a.0)) b in
    let q : lead p ≡ p ++ (47 ∷ []) = lead_some p (λ e. z (omega (arith, e, a.0))) in
    let l : r ≡ length (p ++ (47 ∷ [])) = omega (arith, v.next) in
    (l ∙ sym (ap length q), ap (take r) v.done ∙ splice_front d (p ++ (47 ∷ [])) r l ∙ sym q)

pub alone_put : (d p c : Bytes) {d₁ : Bytes} {r : ℕ} → length c ≡ 0 → (r ≡ 0 + length p) × (d₁ ≡ splice d 0 p) → (r ≡ length (full p c)) × (take r d₁ ≡ full p c)
alone_put d p c {d₁} {r} z a =
    let q = full_none p c z in
    let l : r ≡ length p = omega (arith, a.0) in
    (l ∙ sym (ap length q), ap (take r) a.1 ∙ splice_front d p r l ∙ sym q)

pub full_put : (d p c : Bytes) {d₁ : Bytes} {n r : ℕ} → (length c ≡ 0 → ⊥) → n ≤ length d → (n ≡ length (lead p)) × (take n d ≡ lead p) → (r ≡ n + length c) × (d₁ ≡ splice d n c) →
    (r ≡ length (full p c)) × (take r d₁ ≡ full p c)
full_put d p c {d₁} {n} {r} z h a b =
    let q : length (lead p) + length c ≡ length (full p c) = full_long p c z in
    (omega (arith, a.0, b.0, q), ap (take r) b.1 ∙ ap (λ (k : ℕ). take k (splice d n c)) b.0 ∙ name_after d p n a.1 h c ∙ sym (full_join p c z))

-- The whole path f is the lead of the path so far q, then what is left of it, p.
pub record Front (f q p : Bytes) : Type 0 where
  pub is : f ≡ lead q ++ p

pub front_begin : (prefix path : Bytes) → (length path ≡ 0 → ⊥) → Front (full prefix path) prefix path
front_begin prefix path n = record { is = full_join prefix path n ∙ sym (lead_join prefix path) }

joined_some : (q n : Bytes) → is_nil n ≡ false → length (join q n) ≡ 0 → ⊥
joined_some [] [] h e = absurd (let z : ◌≡◌ {A = ℕ} 0 1 = cc in omega arith)
joined_some [] (x ∷ n) h e = omega (arith, e)
joined_some (b ∷ q) n h e = omega (arith, e)

module _ {f q p : Bytes} (s : Front f q p) where
  pub front_long : length f ≡ length (lead q) + length p
  front_long = ap length s.is ∙ length-append (lead q) p

  -- where the component of k bytes ends, the path of the level below ends
  pub front_here : (k end : ℕ) → k ≤ length p → end ≡ length f - length p + k → take end f ≡ join q (take k p)
  front_here k end h e =
      let l : end ≡ length (lead q) + k = omega (arith, e, front_long) in
      ap (λ (n : ℕ). take n f) l ∙ ap (take (length (lead q) + k)) s.is ∙ take-append-add (lead q) p k ∙ lead_join q (take k p)

  -- past the slash after it
  pub front_next : (k : ℕ) → k < length p → get_or p k 0 ≡ 47 → is_nil (take k p) ≡ false → Front f (join q (take k p)) (drop (k + 1) p)
  front_next k h e n =
      let split : p ≡ take k p ++ (47 ∷ drop (k + 1) p) =
      sym (take-append-drop k p) ∙ ap (λ (l : Bytes). take k p ++ l) (drop-cons p k 0 h ∙ ap (λ (b : ℕ). b ∷ drop (suc k) p) e ∙ ap (λ (j : ℕ). 47 ∷ drop j p) (sym (add-one k))) in
      record {
        is = s.is ∙ ap (λ (l : Bytes). lead q ++ l) split ∙ sym (append_assoc (lead q) (take k p) (47 ∷ drop (k + 1) p)) ∙ ap (λ (l : Bytes). l ++ (47 ∷ drop (k + 1) p)) (lead_join q (take k p))
            ∙ sym (append_assoc (join q (take k p)) (47 ∷ []) (drop (k + 1) p)) ∙ ap (λ (l : Bytes). l ++ drop (k + 1) p) (sym (lead_some (join q (take k p)) (joined_some q (take k p) n)));
      }

-- the first slash of a path is after its first component
slash_there : (p : Bytes) → index_of 47 p < length p → get_or p (index_of 47 p) 0 ≡ 47
unfolding index_of
slash_there [] h = absurd (omega arith)
slash_there (b ∷ bs) h = go (eqb b 47) refl (slash_there bs) h
  where
    go : (t : Bool) → eqb b 47 ≡ t → (index_of 47 bs < length bs → get_or bs (index_of 47 bs) 0 ≡ 47) → cond t zero (suc (index_of 47 bs)) < suc (length bs) → get_or (b ∷ bs) (cond t zero (suc (index_of 47 bs))) 0 ≡ 47
    go true e ih k = eqb-true b 47 e
    go false e ih k = ih (omega (arith, k))

index_short : (p : Bytes) → index_of 47 p ≤ length p
unfolding index_of
index_short [] = omega arith
index_short (b ∷ bs) = go (eqb b 47) (index_short bs)
  where
    go : (t : Bool) → index_of 47 bs ≤ length bs → cond t zero (suc (index_of 47 bs)) ≤ suc (length bs)
    go true h = omega arith
    go false h = omega (arith, h)

pub pieces_some : (p : Bytes) → is_nil (pieces p) ≡ false
pieces_some [] = refl
pieces_some (b ∷ bs) = go (compare b 47) (pieces bs)
  where
    onto : (r : List Bytes) → is_nil (onto_first b r) ≡ false
    onto [] = refl
    onto (c ∷ cs) = refl

    go : (o : Ordering) (r : List Bytes) → is_nil (by o (onto_first b r) ([] ∷ r) (onto_first b r)) ≡ false
    go Ordering.lt r = onto r
    go Ordering.eq r = refl
    go Ordering.gt r = onto r

-- the first component, of k bytes, and what follows it
module _ (p : Bytes) (k : ℕ) (e : k ≡ length (first_piece p)) where
  pub piece_short : k ≤ length p
  piece_short = omega (arith, e, first_slash p, index_short p)

  pub piece_slash : k < length p → get_or p k 0 ≡ 47
  piece_slash h =
      let q : k ≡ index_of 47 p = omega (arith, e, first_slash p) in
      ap (λ (n : ℕ). get_or p n 0) q ∙ slash_there p (omega (arith, q, h))

  pub pieces_next : k < length p → pieces p ≡ take k p ∷ pieces (drop (k + 1) p)
  pieces_next h = pieces_more p (omega (arith, e, h)) ∙ ap (λ (n : ℕ). take n p ∷ pieces (drop (n + 1) p)) (sym e)

  pub pieces_end : length p ≤ k → pieces p ≡ take k p ∷ []
  pieces_end h =
      let q : k ≡ length p = omega (arith, h, piece_short) in
      pieces_last p (omega (arith, e, h)) ∙ ap (λ (l : Bytes). l ∷ []) (sym (take-length p) ∙ ap (λ (n : ℕ). take n p) (sym q))
