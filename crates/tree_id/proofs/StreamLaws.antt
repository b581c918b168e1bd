-- Laws of a tree that is hashed a part at a time: what was taken in and the raw form of the rest are the whole. Assumes nothing.
use Prim.Native.Nat.{ℕ, ◌+◌, ◌*◌, ◌≤◌}
use mathlib.Core.Path.{◌≡◌, refl, sym, ap, ◌∙◌, subst}
use mathlib.Core.List.{List, [], ◌∷◌, ◌++◌, append_assoc, append-nil}
use native.Mathlib.Omega.{arith}
use lib.ListN.{length, take, length-append}
use Rattle.hash.specs.Stream.{Holds, Grown}
use Rattle.model.specs.Bytes.{Bytes}
use Rattle.model.specs.Raw.{raw_entry, raw_tree}
use Rattle.model.specs.Tree.{Tree}
use Rattle.model.proofs.ValidLaws.{octal_length}
use Rattle.names.specs.Check.{Wide}
use Rattle.names.proofs.WriteLaws.{entry_long, splice_front, length_splice}
use Rattle.names.specs.Splice.{splice}
use Rattle.names_compact.specs.Compact.{packed, packed_all, unpack_in, unpack, Run}
use Rattle.names_compact.proofs.CompactLaws.{wide_good, packed_length}
use Rattle.tree_id.specs.Ids.{header, tree}
use Rattle.tree_id.specs.Parts.{Part}
use Rattle.tree_id.proofs.Laws.{header_short}

-- the raw form is at most four times as long as the compact one
few_all : (w : ℕ) (t : Tree) → Wide w t → length (raw_tree t) ≤ 4 * length (packed_all t)
unfolding packed_all
few_all w [] u = omega arith
few_all w (e ∷ es) (i, u) =
    omega (arith, few_all w es u, length-append (raw_entry e) (raw_tree es), length-append (packed e) (packed_all es), entry_long e, octal_length e.mode, packed_length w e i, i)

pub raw_few : (w : ℕ) (b : Bytes) → Run w b → length (raw_tree (unpack w b)) ≤ 4 * length b
raw_few w b r = omega (arith, few_all w (unpack w b) (wide_good w (unpack w b) r.good), ap length r.bytes)

empty_run : (w : ℕ) → raw_tree (unpack w []) ≡ []
unfolding unpack unpack_in
empty_run w = refl

-- once the raw form of a part is written to the front of a buffer, it is what the front holds
pub piece_held : {v w : ℕ} → v ≡ w → (one old : Bytes) {n : ℕ} {new l : Bytes} → n ≡ length (raw_tree (unpack v one)) → new ≡ splice old 0 (raw_tree (unpack v one)) → l ≡ take n new → l ≡ raw_tree (unpack w one)
piece_held {v} e one old {n} {new} {l} r s f = f ∙ ap (take n) s ∙ splice_front old (raw_tree (unpack v one)) n r ∙ ap (λ (u : ℕ). raw_tree (unpack u one)) e

pub piece_short : {v w n : ℕ} → v ≡ w → (one : Bytes) → length (raw_tree (unpack w one)) ≤ n → length (raw_tree (unpack v one)) ≤ n
piece_short e one h = rw e h

pub buffer_kept : (old one : Bytes) {new : Bytes} → new ≡ splice old 0 one → length one ≤ length old → length new ≡ length old
buffer_kept old one e h = ap length e ∙ length_splice old 0 one (omega (arith, h))

-- of the tree in the run b, `rest` is left: the hash of blocks f from h has taken in the header and the raw form of what came before
pub record Streaming {H : Type 0} (f : H → List ℕ → H) (h words : H) (block : List ℕ) (n w : ℕ) (b rest : Bytes) : Type 0 where
  pub done : Bytes
  pub holds : Holds f h words block n (header tree (length (raw_tree (unpack w b))) ++ done)
  pub raw : raw_tree (unpack w b) ≡ done ++ raw_tree (unpack w rest)
  pub run : Run w rest

pub stream_begin : {H : Type 0} {f : H → List ℕ → H} {h words : H} {block : List ℕ} {n w : ℕ} {b : Bytes} (k : ℕ) → Run w b → k ≡ length (raw_tree (unpack w b)) → Holds f h words block n (header tree k) → Streaming f h words block n w b b
stream_begin {H} {f} {h} {words} {block} {n} {w} {b} k r e a = record {
  done = [];
  holds = subst (λ (l : Bytes). Holds f h words block n l) (ap (header tree) e ∙ sym (append-nil (header tree (length (raw_tree (unpack w b)))))) a;
  raw = refl;
  run = r;
}

module _ {H : Type 0} {f : H → List ℕ → H} {h words : H} {block : List ℕ} {n w : ℕ} {b rest : Bytes} (s : Streaming f h words block n w b rest) where
  -- few bytes have been taken in
  pub stream_few : Run w b → n ≤ 26 + 4 * length b
  stream_few r =
      let all = raw_tree (unpack w b) in
      let d = header tree (length all) in
      omega (arith, s.holds.count, length-append d s.done, header_short tree (length all), ap length s.raw, length-append s.done (raw_tree (unpack w rest)), raw_few w b r)

  pub stream_more : {x y : Bytes} {m : ℕ} {words' : H} {block' : List ℕ} {n' : ℕ} {l : Bytes} → Part w rest x y m → l ≡ raw_tree (unpack w x) → Grown f h words block n l words' block' n' → Streaming f h words' block' n' w b y
  stream_more {x} {y} {m} {words'} {block'} {n'} {l} p e g =
      let two = raw_tree (unpack w y) in
      let d = header tree (length (raw_tree (unpack w b))) in
      record {
        done = s.done ++ l;
        holds = subst (λ (z : Bytes). Holds f h words' block' n' z) (append_assoc d s.done l) (g.holds (d ++ s.done) s.holds);
        raw = s.raw ∙ ap (λ (z : Bytes). s.done ++ z) (p.raw ∙ ap (λ (z : Bytes). z ++ two) (sym e)) ∙ sym (append_assoc s.done l two);
        run = p.others;
      }

  -- nothing is left
  pub stream_end : length rest ≤ 0 → Holds f h words block n (header tree (length (raw_tree (unpack w b))) ++ raw_tree (unpack w b))
  stream_end z =
      let all = raw_tree (unpack w b) in
      let nothing : raw_tree (unpack w rest) ≡ [] = empty_raw rest z in
      subst (λ (x : Bytes). Holds f h words block n (header tree (length all) ++ x)) (sym (s.raw ∙ ap (λ (x : Bytes). s.done ++ x) nothing ∙ append-nil s.done)) s.holds
    where
      empty_raw : (r : Bytes) → length r ≤ 0 → raw_tree (unpack w r) ≡ []
      empty_raw [] z = empty_run w
      empty_raw (x ∷ xs) z = absurd (omega arith)
