-- Laws of looking for a name: the search in compact form finds what the model's map finds, and in raw form what is left of the tree decides. Assumes nothing.
use Prim.Native.Nat.{ℕ, suc, ◌+◌, ◌-◌, ◌≤◌, ◌<◌, Ordering}
use mathlib.Core.Path.{◌≡◌, refl, sym, ap, ap₂, ◌∙◌}
use mathlib.Core.Logic.{◌≢◌}
use mathlib.Core.List.{[], ◌∷◌, ◌++◌}
use mathlib.Core.Bool.{Bool, true, false, not, ◌&&◌}
use mathlib.Core.Option.{Option, none, some}
use native.Mathlib.Omega.{arith}
use lib.Dec.{eqb}
use lib.ListN.{length, take, drop, length-drop}
use lib.Seq.{drop-cons}
use Rattle.model.specs.Bytes.{Bytes, cmp, by, same, has}
use Rattle.model.specs.Map.{find, rising}
use Rattle.model.specs.Tree.{Mode, is_tree, Entry, Tree, as_kind, key, or_else, entry_of, good_name, good_entries}
use Rattle.model.specs.Raw.{read_tree}
use Rattle.model.specs.Search.{searched}
use Rattle.model.proofs.Basics.{none_some, and_left, and_right}
use Rattle.model.proofs.ByteLaws.{same_eq, same_refl}
use Rattle.model.proofs.ChangeLaws.{Plain, keys_differ}
use Rattle.model.proofs.MapLaws.{cmp_refl, cmp_eq, find_none, above_less, rising_tail}
use Rattle.model.proofs.RawLaws.{more_inv, well_entries, read_only}
use Rattle.model.proofs.SearchLaws.{Right}
use Rattle.model.proofs.SoundTrees.{name_plain, sound_well}
use Rattle.names.proofs.FollowLaws.{file_tree}
use Rattle.names_compact.proofs.TwinLaws.{told_right}
use Rattle.names.specs.Answers.{as_mode, entry_read}
use Rattle.names_compact.specs.Compact.{unpack, blank, entry_at, spot_of, place_of, found_of as hits, Tells}
use Rattle.names.specs.Places.{read_entry_at, entry_found, entries_at}
use Rattle.names_compact.specs.declared.compact.Place.{Place}
use Rattle.names.specs.declared.mode.EntryKind.{EntryKind}
use Rattle.names.specs.declared.raw.RawEntry.{RawEntry}
use Rattle.std.specs.Prelude.{Option as Opt, Some, None, Result}
use Rattle.names.proofs.CheckLaws.{found_of}
use Rattle.names.proofs.EntriesLaws.{Reach, reach, stands, entries_damaged, entries_entry}
use Rattle.names.proofs.ReadLaws.{read_entries, no_more}
use Rattle.editor_terms.specs.Edits.{parts_of, seen_as}
use Rattle.editor_terms.specs.Ids.{id_bytes}
use Rattle.editor_walk.specs.Seen.{entry_by, SeenIn}
use Rattle.editor_terms.specs.declared.id.Id.{Id}

pub seen_parts : (k : EntryKind) (i : Id) (e : Entry) → as_mode k ≡ e.mode → id_bytes i ≡ e.id → seen_as (Some (record { kind = k; id = i })) ≡ parts_of (some e)
seen_parts k i e p q = ap₂ (λ (m : Mode) (l : Bytes). some (m, l)) p q

-- what the search of a tree in order gives
module _ (w : ℕ) (b k : Bytes) {r : Result Place Place} (s : Tells w b (searched key k (unpack w b)) r) (up : rising key (unpack w b) ≡ true) where
  right : (t : Bool) → hits r ≡ t → Right key k (unpack w b) (spot_of t (place_of r).index)
  right t e = told_right w b k r s up t e

  pub search_miss : hits r ≡ false → find key k (unpack w b) ≡ none
  search_miss e = (right false e).0

  pub search_hit : hits r ≡ true → ((place_of r).index < length (unpack w b)) × (find key k (unpack w b) ≡ some (entry_at w b (place_of r).index))
  search_hit e =
      let x = right true e in
      let l : length (unpack w b) - (place_of r).index ≡ suc (length x.1) = sym (length-drop (place_of r).index (unpack w b)) ∙ ap length x.2 in
      let h : (place_of r).index < length (unpack w b) = omega (arith, l) in
      let q : entry_at w b (place_of r).index ∷ drop (suc (place_of r).index) (unpack w b) ≡ x.0 ∷ x.1 = sym (drop-cons (unpack w b) (place_of r).index blank h) ∙ x.2 in
      let z : x.0 ≡ entry_at w b (place_of r).index = cc (q) in
      (h, x.3 ∙ ap some z)

-- the entry of a name, by the two searches
module _ (n : Bytes) (t : Tree) where
  pub by_first : (b : Bool) (x : Entry) → find key (as_kind b n) t ≡ some x → entry_by b n t ≡ some x
  by_first true x e = rw e
  by_first false x e = rw e

  pub by_second : (b : Bool) (o : Option Entry) → find key (as_kind b n) t ≡ none → find key (as_kind (not b) n) t ≡ o → entry_by b n t ≡ o
  by_second true o e f = ap₂ (λ (x y : Option Entry). or_else x y) e f
  by_second false o e f = ap₂ (λ (x y : Option Entry). or_else x y) e f

-- the entry of a name among entries in order, the first of them at hand
entry_here : (x : Entry) (xs : Tree) (n : Bytes) → x.name ≡ n → entry_of n (x ∷ xs) ≡ some x
entry_here x xs n e = go (is_tree x.mode) refl
  where
    go : (b : Bool) → is_tree x.mode ≡ b → entry_of n (x ∷ xs) ≡ some x
    go false f =
        let k : key x ≡ n = ap₂ as_kind f e in
        rw (k, cmp_refl n)
    go true f =
        let k : key x ≡ n ++ (47 ∷ []) = ap₂ as_kind f e in
        rw (k, file_tree n, cmp_refl (n ++ (47 ∷ [])))

find_past : (x : Entry) (xs : Tree) (n : Bytes) → Plain n → Plain x.name → x.name ≢ n → rising key (x ∷ xs) ≡ true → (b : Bool) → find key (as_kind b n) (x ∷ xs) ≡ find key (as_kind b n) xs
find_past x xs n p q ne r b = go (cmp (as_kind b n) (key x)) refl
  where
    go : (o : Ordering) → cmp (as_kind b n) (key x) ≡ o → by o none (some x) (find key (as_kind b n) xs) ≡ find key (as_kind b n) xs
    go Ordering.lt e = sym (find_none key (as_kind b n) xs (above_less key (as_kind b n) (key x) xs e r))
    go Ordering.eq e = absurd (keys_differ b (is_tree x.mode) n x.name p q (λ z. ne (sym z)) (cmp_eq (as_kind b n) (key x) e))
    go Ordering.gt e = refl

entry_past : (x : Entry) (xs : Tree) (n : Bytes) → Plain n → Plain x.name → x.name ≢ n → rising key (x ∷ xs) ≡ true → entry_of n (x ∷ xs) ≡ entry_of n xs
entry_past x xs n p q ne r = ap₂ (λ (y z : Option Entry). or_else y z) (find_past x xs n p q ne r false) (find_past x xs n p q ne r true)

-- of the tree t, these entries stand from `at` on, and have its entry of the name
pub record Left (raw name : Bytes) (at : ℕ) (t : Tree) : Type 0 where
  pub left : Tree
  pub rest : entries_at raw 20 at ≡ some left
  pub good : good_entries 20 left ≡ true
  pub order : rising key left ≡ true
  pub same : entry_of name t ≡ entry_of name left

pub record Scanning (raw name : Bytes) (at : ℕ) : Type 0 where
  pub is : (t : Tree) → read_tree 20 raw ≡ some t → Left raw name at t

pub scan_begin : (raw name : Bytes) → Scanning raw name 0
scan_begin raw name =
    record {
      is = λ t e.
          let g = (read_only 20 raw t e).1 in
          record { left = t; rest = read_entries 19 raw t e; good = well_entries 20 t g; order = (sound_well 20 t g).in_order; same = refl };
    }

module _ {raw name : Bytes} {at : ℕ} (s : Scanning raw name at) where
  pub scan_end : length raw ≤ at → SeenIn raw name None
  scan_end h =
      record {
        is = λ t e.
            let k = s.is t e in
            sym (ap parts_of (k.same ∙ ap (entry_of name) (no_more raw 20 at k.left k.rest h)));
      }

  module _ (h : at < length raw) {r : Opt RawEntry} (er : entry_read r ≡ read_entry_at raw at 20) where
    pub scan_damaged : r ≡ None → SeenIn raw name None
    scan_damaged d =
        record {
          is = λ t e.
              let k = s.is t e in
              none_some k.left (sym (entries_damaged raw 20 at h (sym er ∙ ap entry_read d)) ∙ k.rest);
        }

    module _ {f : RawEntry} (en : r ≡ Some f) where
      abbrev x : Entry
      x = entry_found raw 20 (found_of f)

      pub scan_reach : Reach raw 20 at (found_of f)
      scan_reach = reach raw 20 (sym er ∙ ap entry_read en)

      pub id_inside : f.id_at + 20 ≤ length raw
      id_inside =
          let z = stands raw 20 (sym er ∙ ap entry_read en) in
          omega (arith, z.id, z.next, z.inside)

      others : (left : Tree) → entries_at raw 20 at ≡ some left → (xs : Tree) × (entries_at raw 20 f.next ≡ some xs) × (x ∷ xs ≡ left)
      others left e = more_inv x (entries_at raw 20 f.next) left (sym (entries_entry raw 20 at h (sym er ∙ ap entry_read en)) ∙ e)

      module _ {l : Bytes} {b : Bool} (el : l ≡ take f.name_len (drop f.name_at raw)) (eb : b ≡ same l name) where
        pub scan_here : b ≡ true → {i : Id} → id_bytes i ≡ take 20 (drop f.id_at raw) → SeenIn raw name (Some (record { kind = f.kind; id = i }))
        scan_here h' {i} ei =
            record {
              is = λ t e.
                  let k = s.is t e in
                  let o = others k.left k.rest in
                  let q : x.name ≡ name = sym el ∙ same_eq l name (sym eb ∙ h') in
                  seen_parts f.kind i x refl ei ∙ ap parts_of (sym (entry_here x o.0 name q) ∙ ap (entry_of name) o.2 ∙ sym k.same);
            }

        pub scan_more : has 47 name ≡ false → b ≡ false → Scanning raw name f.next
        scan_more p h' =
            record {
              is = λ t e.
                  let k = s.is t e in
                  let o = others k.left k.rest in
                  let xs = o.0 in
                  let g : good_entries 20 (x ∷ xs) ≡ true = ap (good_entries 20) o.2 ∙ k.good in
                  let u : rising key (x ∷ xs) ≡ true = ap (rising key) o.2 ∙ k.order in
                  let gn : good_name x.name ≡ true = and_left (good_name x.name) (eqb (length x.id) 20) (and_left (good_name x.name && eqb (length x.id) 20) (good_entries 20 xs) g) in
                  record {
                    left = xs;
                    rest = o.1;
                    good = and_right (good_name x.name && eqb (length x.id) 20) (good_entries 20 xs) g;
                    order = rising_tail key x xs u;
                    same = k.same ∙ ap (entry_of name) (sym o.2) ∙ entry_past x xs name p (name_plain x.name gn) (differs el eb h') u;
                  };
            }
          where
            differs : l ≡ take f.name_len (drop f.name_at raw) → b ≡ same l name → b ≡ false → x.name ≢ name
            differs el eb h' q = let z : ◌≡◌ {A = ℕ} 0 1 = cc (same_refl name, el ∙ q) in omega arith
