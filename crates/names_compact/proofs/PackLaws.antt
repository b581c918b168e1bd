-- Laws of packing: the entries that were read and written, and those that are left, are together the tree that the bytes are the raw form of. Assumes nothing.
use Prim.Native.Nat.{ℕ, zero, suc, ◌+◌, ◌*◌, ◌≤◌, ◌<◌}
use mathlib.Core.Path.{◌≡◌, refl, sym, ap, ◌∙◌, subst}
use mathlib.Core.List.{[], ◌∷◌, ◌++◌, append_assoc, append-nil}
use mathlib.Core.Option.{Option, none, some}
use mathlib.Core.Bool.{Bool, true, false, ◌&&◌}
use lib.Dec.{leb}
use borrow.Author.Tests.{leb-true, leb-false}
use native.Mathlib.Omega.{arith}
use lib.Dec.{eqb}
use lib.ListN.{length, take, drop, length-append}
use Rattle.model.specs.Bytes.{Bytes}
use Rattle.model.specs.Tree.{Entry, Tree, good_name, good_entries, name_bytes}
use Rattle.model.specs.Raw.{read_tree}
use Rattle.model.proofs.Basics.{none_some, some_inj, and_left, and_right}
use Rattle.model.proofs.RawLaws.{more_inv, well_entries, read_only}
use Rattle.names.specs.Answers.{as_mode, entry_read, checked_as, entry}
use Rattle.names.specs.Check.{TreeSize, size_of}
use Rattle.names_compact.specs.Compact.{packed, packed_all, Takes, PackedAs}
use Rattle.names.specs.Places.{Found, read_entry_at, entry_found, entries_at}
use Rattle.names.specs.Splice.{splice}
use Rattle.names.specs.declared.raw.RawEntry.{RawEntry}
use Rattle.names.specs.declared.tree.Size.{Size}
use Rattle.std.specs.Prelude as code
use Rattle.std.specs.Prelude.{Some, None}
use Rattle.names_compact.proofs.CompactLaws.{name_short, wide_good, packed_append, packed_room, packed_one}
use Rattle.names.proofs.EntriesLaws.{Reach, reach, entries_damaged, entries_entry}
use Rattle.names.proofs.ReadLaws.{read_entries, no_more}
use Rattle.names.proofs.WriteLaws.{Wrote, wrote_nothing, wrote_more, splice_whole}

-- For a caller: what the check of a raw tree reports is what its compact form takes.
pub size_inv : (o : Option Tree) (z : TreeSize) → some z ≡ size_of o → (t : Tree) × (o ≡ some t) × (z.entries ≡ length t) × (z.bytes ≡ name_bytes t)
size_inv none z e = none_some z (sym e)
size_inv (some t) z e =
    let q = some_inj z (record { entries = length t; bytes = name_bytes t }) e in
    (t, refl, ap (λ (y : TreeSize). y.entries) q, ap (λ (y : TreeSize). y.bytes) q)

pub takes_checked : {w : ℕ} {raw : Bytes} {r : code.Option Size} → checked_as r ≡ size_of (read_tree w raw) → {size : Size} → r ≡ Some size → (n : ℕ) → n ≡ size.entries * (2 + w) + size.name_bytes → Takes w raw n
takes_checked {w} {raw} c {size} e n en =
    let (t, f, a, b) = size_inv (read_tree w raw) (record { entries = size.entries; bytes = size.name_bytes }) (sym (ap checked_as e) ∙ c) in
    record { tree = t; reads = f; room = en ∙ ap (λ (k : ℕ). k * (2 + w) + size.name_bytes) a ∙ ap (λ (k : ℕ). length t * (2 + w) + k) b }

-- of the tree, the entries `done` have been written to the front of d, which was d₀, and `left` stand from `at` on
pub record Packing (w : ℕ) (raw d₀ d : Bytes) (at to : ℕ) : Type 0 where
  pub done : Tree
  pub left : Tree
  pub reads : read_tree w raw ≡ some (done ++ left)
  pub good : good_entries w left ≡ true
  pub rest : entries_at raw w at ≡ some left
  pub room : length d₀ ≡ length (packed_all (done ++ left))
  pub wrote : Wrote d₀ 0 (packed_all done) d to

read_good : (w : ℕ) (raw : Bytes) (t : Tree) → read_tree w raw ≡ some t → (entries_at raw w 0 ≡ some t) × (good_entries w t ≡ true)
unfolding read_tree
read_good zero raw t e = none_some t e
read_good (suc w) raw t e = (read_entries w raw t e, well_entries (suc w) t (read_only (suc w) raw t e).1)

pub pack_begin : {w : ℕ} {raw d : Bytes} → Takes w raw (length d) → Packing w raw d d 0 0
unfolding packed_all
pack_begin {w} {raw} {d} k =
    let (r, g) = read_good w raw k.tree k.reads in
    record {
      done = [];
      left = k.tree;
      reads = k.reads;
      good = g;
      rest = r;
      room = k.room ∙ sym (packed_room w k.tree (wide_good w k.tree g));
      wrote = wrote_nothing d;
    }

module _ {w : ℕ} {raw d₀ d : Bytes} {at to : ℕ} (s : Packing w raw d₀ d at to) where
  module _ {r : code.Option RawEntry} (er : entry_read r ≡ read_entry_at raw at w) where
    pub pack_end : r ≡ None → PackedAs w raw d
    pack_end e = go (leb (length raw) at) refl
      where
        go : (t : Bool) → leb (length raw) at ≡ t → PackedAs w raw d
        go true h =
            let n : s.left ≡ [] = no_more raw w at s.left s.rest (leb-true _ _ h) in
            let l : s.done ++ s.left ≡ s.done = ap (λ (l : Tree). s.done ++ l) n ∙ append-nil s.done in
            let q : d ≡ packed_all s.done = s.wrote.done ∙ splice_whole d₀ (packed_all s.done) (s.room ∙ ap (λ (l : Tree). length (packed_all l)) l) in
            record { is = λ t f. q ∙ ap packed_all (sym l ∙ some_inj (s.done ++ s.left) t (sym s.reads ∙ f)) }
        go false h = none_some s.left (sym (entries_damaged raw w at (leb-false _ _ h) (sym er ∙ ap entry_read e)) ∙ s.rest)

    module _ {read : RawEntry} (e : r ≡ Some read) where
      abbrev found : Found
      found = record { mode = as_mode read.kind; name = read.name_at; len = read.name_len; id = read.id_at; next = read.next }

      abbrev x : Entry
      x = entry_found raw w found

      pub pack_reach : Reach raw w at found
      pack_reach = reach raw w (sym er ∙ ap entry_read e)

      pack_here : at < length raw
      pack_here =
          let x = pack_reach in
          omega (arith, x.forward, x.inside)

      others : (xs : Tree) × (entries_at raw w read.next ≡ some xs) × (x ∷ xs ≡ s.left)
      others = more_inv x (entries_at raw w read.next) s.left (sym (entries_entry raw w at pack_here (sym er ∙ ap entry_read e)) ∙ s.rest)

      good_all : good_entries w (x ∷ others.0) ≡ true
      good_all = ap (good_entries w) others.2 ∙ s.good

      one_more : s.done ++ s.left ≡ (s.done ++ (x ∷ [])) ++ others.0
      one_more = ap (λ (l : Tree). s.done ++ l) (sym others.2) ∙ sym (append_assoc s.done (x ∷ []) others.0)

      packed_more : packed_all (s.done ++ (x ∷ [])) ≡ packed_all s.done ++ packed x
      packed_more = packed_append s.done (x ∷ []) ∙ ap (λ (l : Bytes). packed_all s.done ++ l) (packed_one x)

      x_fits : to + length (packed x) ≤ length d
      x_fits =
          let p = ap (λ (l : Tree). length (packed_all l)) one_more ∙ ap length (packed_append (s.done ++ (x ∷ [])) others.0) ∙ length-append (packed_all (s.done ++ (x ∷ []))) (packed_all others.0) in
          let q = ap length packed_more ∙ length-append (packed_all s.done) (packed x) in
          omega (arith, p, q, s.room, s.wrote.next, s.wrote.long)

      module _ {i l : Bytes} (ei : i ≡ take w (drop read.id_at raw)) (el : l ≡ take read.name_len (drop read.name_at raw)) where
        is_packed : packed (entry read.kind l i) ≡ packed x
        is_packed = rw (ei, el)

        pub pack_fits : to + length (packed (entry read.kind l i)) ≤ length d
        pack_fits = omega (arith, x_fits, ap length is_packed)

        pub pack_short : length l ≤ 255
        pack_short = rw el (name_short x.name (and_left (good_name x.name) (eqb (length x.id) w) (and_left (good_name x.name && eqb (length x.id) w) (good_entries w others.0) good_all)))

        pub pack_more : {to' : ℕ} {d' : Bytes} → to' ≡ to + length (packed (entry read.kind l i)) → d' ≡ splice d to (packed (entry read.kind l i)) → Packing w raw d₀ d' read.next to'
        pack_more {to'} {d'} et ed = record {
          done = s.done ++ (x ∷ []);
          left = others.0;
          reads = s.reads ∙ ap some one_more;
          good = and_right (good_name x.name && eqb (length x.id) w) (good_entries w others.0) good_all;
          rest = others.1;
          room = s.room ∙ ap (λ (t : Tree). length (packed_all t)) one_more;
          wrote = subst (λ (z : Bytes). Wrote d₀ 0 z d' to') (sym packed_more)
              (wrote_more s.wrote (packed x) x_fits (et ∙ ap (λ (z : Bytes). to + length z) is_packed, ed ∙ ap (splice d to) is_packed));
        }
