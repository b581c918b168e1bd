-- Laws of the raw form of a compact tree: what is written or counted so far and the raw form of the entries that are left are together that of all. Assumes nothing.
use Prim.Native.Nat.{ℕ, ◌+◌, ◌*◌, ◌≤◌}
use mathlib.Core.Path.{◌≡◌, refl, sym, ap, ◌∙◌}
use mathlib.Core.List.{[], ◌∷◌, ◌++◌, append_assoc, append-nil}
use native.Mathlib.Omega.{arith}
use lib.ListN.{length, length-append}
use Rattle.model.specs.Bytes.{Bytes}
use Rattle.model.specs.Tree.{Mode, TREE, BLOB, EXEC, LINK, COMMIT, is_tree, Entry, Tree}
use Rattle.model.specs.Raw.{octal, raw_entry, raw_tree}
use Rattle.model.proofs.ValidLaws.{octal_length}
use Rattle.names.specs.Answers.{as_mode, entry}
use Rattle.names.specs.Check.{Wide}
use Rattle.names_compact.specs.Compact.{packed, packed_all, unpack, Run}
use Rattle.names.specs.Splice.{splice}
use Rattle.names.specs.declared.mode.EntryKind.{EntryKind}
use Rattle.names_compact.proofs.CompactLaws.{wide_good, packed_length}
use Rattle.names.proofs.WriteLaws.{Wrote, wrote_nothing, wrote_entry, entry_long, raw_snoc}
use mathlib.Core.Bool.{true, false, true≢false}

-- how long a mode's text is
pub octal_tree : (m : Mode) → is_tree m ≡ true → length (octal m) ≡ 5
unfolding is_tree octal
octal_tree TREE e = refl
octal_tree BLOB e = absurd (true≢false (sym e))
octal_tree EXEC e = absurd (true≢false (sym e))
octal_tree LINK e = absurd (true≢false (sym e))
octal_tree COMMIT e = absurd (true≢false (sym e))

pub octal_other : (m : Mode) → is_tree m ≡ false → length (octal m) ≡ 6
unfolding is_tree octal
octal_other TREE e = absurd (true≢false e)
octal_other BLOB e = refl
octal_other EXEC e = refl
octal_other LINK e = refl
octal_other COMMIT e = refl

-- the raw form of a first entry and of the others
pub raw_first : {t es : Tree} {e : Entry} → t ≡ e ∷ es → length (raw_tree t) ≡ length (raw_entry e) + length (raw_tree es)
raw_first {t} {es} {e} q = ap (λ (x : Tree). length (raw_tree x)) q ∙ length-append (raw_entry e) (raw_tree es)

raw_parts : (t s : Tree) → length (raw_tree t) ≤ length (raw_tree (t ++ s))
raw_parts [] s = omega arith
raw_parts (e ∷ es) s = omega (arith, raw_parts es s, length-append (raw_entry e) (raw_tree es), length-append (raw_entry e) (raw_tree (es ++ s)))

-- it is less than four times as long as the compact form
raw_few : (w : ℕ) (t : Tree) → Wide w t → length (raw_tree t) ≤ 4 * length (packed_all t)
unfolding packed_all
raw_few w [] u = omega arith
raw_few w (e ∷ es) (h, u) =
    omega (arith, raw_few w es u, length-append (raw_entry e) (raw_tree es), entry_long e, octal_length e.mode, length-append (packed e) (packed_all es), packed_length w e h)

pub raw_most : {w : ℕ} {b : Bytes} → Run w b → length (raw_tree (unpack w b)) ≤ 4 * length b
raw_most {w} {b} r = omega (arith, raw_few w (unpack w b) (wide_good w (unpack w b) r.good), ap length r.bytes)

-- the entries `done` of a tree were written in raw form to the front of d, which was d₀, and `left` are left
pub record Writing (t : Tree) (d₀ d : Bytes) (left : Tree) (to : ℕ) : Type 0 where
  pub done : Tree
  pub parts : t ≡ done ++ left
  pub wrote : Wrote d₀ 0 (raw_tree done) d to

pub write_begin : {t s : Tree} (d : Bytes) → s ≡ t → Writing t d d s 0
write_begin d e = record { done = []; parts = sym e; wrote = wrote_nothing d }

module _ {t left : Tree} {d₀ d : Bytes} {to : ℕ} (s : Writing t d₀ d left to) where
  pub write_end : left ≡ [] → (to ≡ length (raw_tree t)) × (d ≡ splice d₀ 0 (raw_tree t))
  write_end h =
      let q : s.done ≡ t = sym (append-nil s.done) ∙ ap (λ (x : Tree). s.done ++ x) (sym h) ∙ sym s.parts in
      (omega (arith, s.wrote.next, ap (λ (x : Tree). length (raw_tree x)) q), s.wrote.done ∙ ap (λ (x : Tree). splice d₀ 0 (raw_tree x)) q)

  module _ (room : length (raw_tree t) ≤ length d₀) {e : Entry} {es : Tree} (q : left ≡ e ∷ es) where
    one_more : t ≡ (s.done ++ (e ∷ [])) ++ es
    one_more = s.parts ∙ ap (λ (x : Tree). s.done ++ x) q ∙ sym (append_assoc s.done (e ∷ []) es)

    pub write_fits : to + length (raw_entry e) ≤ length d
    write_fits =
        let z = sym (raw_snoc s.done e) in
        omega (arith, s.wrote.next, s.wrote.long, ap (λ (x : Tree). length (raw_tree x)) one_more, raw_parts (s.done ++ (e ∷ [])) es, ap length z, length-append (raw_tree s.done) (raw_entry e))

    pub write_more : {to' : ℕ} {d' : Bytes} → to' ≡ to + length (raw_entry e) → d' ≡ splice d to (raw_entry e) → Writing t d₀ d' es to'
    write_more et ed = record { done = s.done ++ (e ∷ []); parts = one_more; wrote = wrote_entry s.done s.wrote e write_fits (et, ed) }

pub same_parts : (k : EntryKind) {n i : Bytes} (e : Entry) → as_mode k ≡ e.mode → n ≡ e.name → i ≡ e.id → entry k n i ≡ e
same_parts k e m n i = λ j. record { mode = m j; name = n j; id = i j }
