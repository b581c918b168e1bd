-- Laws of reading an entry as it stands: each test of the bytes is one that the definition makes, in the same order, so the first that fails decides. Assumes nothing.
use Prim.Native.Nat.{ℕ, suc, ◌+◌, ◌-◌, ◌≤◌, ◌<◌}
use mathlib.Core.Path.{◌≡◌, sym, ap, ◌∙◌}
use mathlib.Core.Option.{none, some}
use native.Mathlib.Numerals.{add-one}
use native.Mathlib.Omega.{arith}
use lib.ListN.{length, take, drop, length-drop}
use lib.Seq.{drop-drop, length-take-le}
use borrow.Author.Tests.{le-leb, lt-leb, lt-ltb, le-ltb}
use Rattle.model.specs.Bytes.{Bytes}
use Rattle.names.specs.Places.{index_of}
use Rattle.names_salvage.specs.Pieces.{piece_of}
use Rattle.names_salvage.specs.Answers.{piece_at, StandsAt}
use Rattle.names_salvage.specs.declared.piece.RawPiece.{RawPiece}

-- m is how long the mode's text is, t what is behind the space, n how long the name is, and u what is behind the NUL
module _ (w : ℕ) (s : Bytes) where
  space_none : index_of 32 s ≡ length s → piece_of w s ≡ none
  unfolding piece_of
  space_none e = rw (e, le-ltb (length s) (length s) (omega arith))

  module _ {m : ℕ} (em : index_of 32 s ≡ m) (h : m < length s) {t : Bytes} (et : drop (suc m) s ≡ t) where
    nul_none : index_of 0 t ≡ length t → piece_of w s ≡ none
    unfolding piece_of
    nul_none e = rw (em, et, lt-ltb m (length s) h, e, le-ltb (length t) (length t) (omega arith))

    module _ {n : ℕ} (en : index_of 0 t ≡ n) (g : n < length t) {u : Bytes} (eu : drop (suc n) t ≡ u) where
      id_none : length u < w → piece_of w s ≡ none
      unfolding piece_of
      id_none f = rw (em, et, en, eu, lt-ltb m (length s) h, lt-ltb n (length t) g, lt-leb w (length u) f)

      all_some : w ≤ length u → piece_of w s ≡ some (record { mode = take m s; name = take n t; id = take w u; rest = drop w u })
      unfolding piece_of
      all_some f = rw (em, et, en, eu, lt-ltb m (length s) h, lt-ltb n (length t) g, le-leb w (length u) f)

module _ (raw : Bytes) (at w : ℕ) {s : Bytes} (es : s ≡ drop at raw) where
  pub no_space : index_of 32 s ≡ length s → piece_of w (drop at raw) ≡ none
  no_space e = rw (← es) (space_none w s e)

  module _ {m : ℕ} (em : (m ≡ index_of 32 s) × (m < length s)) {t : Bytes} (et : t ≡ drop (m + 1) s) where
    behind : drop (suc m) s ≡ t
    behind = sym (et ∙ ap (λ (j : ℕ). drop j s) (add-one m))

    pub no_nul : index_of 0 t ≡ length t → piece_of w (drop at raw) ≡ none
    no_nul e = rw (← es) (nul_none w s (sym em.0) em.1 behind e)

    module _ {n : ℕ} (en : (n ≡ index_of 0 t) × (n < length t)) {u : Bytes} (eu : u ≡ drop (n + 1) t) where
      ids : drop (suc n) t ≡ u
      ids = sym (eu ∙ ap (λ (j : ℕ). drop j t) (add-one n))

      pub no_id : length u < w → piece_of w (drop at raw) ≡ none
      no_id f = rw (← es) (id_none w s (sym em.0) em.1 behind (sym en.0) en.1 ids f)

      long : length u + (at + m + 1 + n + 1) ≡ length raw
      long = omega (arith, ap length eu, length-drop (n + 1) t, ap length et, length-drop (m + 1) s, ap length es, length-drop at raw, em.1, en.1)

      far : (k j : ℕ) → k ≡ at + m + 1 + n + 1 + j → drop k raw ≡ drop j u
      far k j q = sym (ap (drop j) (eu ∙ ap (drop (n + 1)) (et ∙ ap (drop (m + 1)) es)) ∙ ap (drop j) (ap (drop (n + 1)) (drop-drop (m + 1) at raw)) ∙ ap (drop j) (drop-drop (n + 1) (at + (m + 1)) raw)
          ∙ drop-drop j (at + (m + 1) + (n + 1)) raw ∙ ap (λ (i : ℕ). drop i raw) (let z : at + (m + 1) + (n + 1) + j ≡ k = omega (arith, q) in z))

      pub whole : w ≤ length u → (p : RawPiece) → p.at ≡ at → p.mode.now ≡ take m s → p.name.now ≡ take n t → p.next ≡ length raw - (length u - w) → StandsAt raw w at p
      whole f p ea e₁ e₂ e₃ =
          record {
            start = ea;
            end = omega (arith, long, mode_len, name_len);
            within = omega arith;
            is = ap (piece_of w) (sym es) ∙ all_some w s (sym em.0) em.1 behind (sym en.0) en.1 ids f ∙ ap some parts;
          }
        where
          mode_len : length p.mode.now ≡ m
          mode_len = ap length e₁ ∙ length-take-le m s (omega (arith, em.1))

          name_len : length p.name.now ≡ n
          name_len = ap length e₂ ∙ length-take-le n t (omega (arith, en.1))

          parts : record { mode = take m s; name = take n t; id = take w u; rest = drop w u } ≡ piece_at raw w p
          parts = rw (far (p.at + length p.mode.now + 1 + length p.name.now + 1) 0 (omega (arith, ea, mode_len, name_len)), far p.next w (omega (arith, e₃, f, long)), e₁, e₂)
