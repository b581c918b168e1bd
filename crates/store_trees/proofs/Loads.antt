-- What the calls rest on, over variables: an empty tree in a slot becomes the one that was read. Assumes nothing.
use mathlib.Core.Path.{◌≡◌, refl, sym, ap, ap₂, ◌∙◌}
use mathlib.Core.Bool.{true}
use mathlib.Core.Option.{none, some}
use mathlib.Core.List.{List, []}
use Prim.Native.Nat.{ℕ, ◌+◌, ◌*◌, ◌≤◌}
use native.Mathlib.Omega.{arith}
use native.Mathlib.Nat.{add-mul, mul-le-mul_right}
use lib.ListN.{length, get_or, set}
use Rattle.model.specs.Bytes.{Bytes}
use Rattle.model.specs.Map.{find, put}
use Rattle.model.specs.Raw.{read_tree}
use Rattle.model.specs.Tree.{Tree, name_bytes}
use Rattle.model.specs.Editor.{Held, at, Cache, fits}
use Rattle.model.proofs.Basics.{some_inj}
use Rattle.model.proofs.MapLaws.{find_put_same, put_put_same}
use Rattle.model.proofs.RawLaws.{read_only}
use Rattle.model.proofs.SoundTrees.{total_put_new}
use Rattle.model.proofs.RoomCounts.{trees_total, entries_total, names_total, paths_total}
use Rattle.model.proofs.Growth.{fits_less}
use Rattle.names.specs.Check.{TreeSize, size_of}
use Rattle.names_compact.specs.Compact.{packed_all, Takes}
use Rattle.std.specs.Prelude.{Some}
use Rattle.names_compact.proofs.PackLaws.{takes_checked}
use Rattle.store_runs.specs.Digits.{digits}
use Rattle.store_runs.specs.Runs.{cut, with_run, Sound}
use Rattle.store_slots.specs.View.{view_of, held_as, Laid, Used, SameWrite, path_of, tree_of}
use Rattle.store_slots.specs.declared.Record.{Record}
use Rattle.store_slots.proofs.Changes.{tree_size}
use Rattle.store_slots.proofs.Counts.{trees_is}
use Rattle.store_slots.proofs.Relaid.{find_slot}
use Rattle.store_entries.specs.Entries.{Kept, Edited}
use Rattle.store_entries.proofs.EditLaws.{edited, entries_then, names_then}

-- the tree whose size the check told
module _ (w : ℕ) (raw : Bytes) (es ns : ℕ) (size : size_of (read_tree w raw) ≡ some (record { entries = es; bytes = ns })) where
  pub takes : Takes w raw (es * (2 + w) + ns)
  takes = takes_checked {w = w} {raw = raw} {r = Some (record { entries = es; name_bytes = ns })} (sym size) refl (es * (2 + w) + ns) refl

  abbrev told : TreeSize
  told = record { entries = es; bytes = ns }

  sized : (t : Tree) → read_tree w raw ≡ some t → told ≡ record { entries = length t; bytes = name_bytes t }
  sized t e = some_inj told (record { entries = length t; bytes = name_bytes t }) (sym size ∙ ap size_of e)

  pub as_many : (t : Tree) → read_tree w raw ≡ some t → es ≡ length t
  as_many t e = ap (λ (z : TreeSize). z.entries) (sized t e)

  pub as_long : (t : Tree) → read_tree w raw ≡ some t → ns ≡ name_bytes t
  as_long t e = ap (λ (z : TreeSize). z.bytes) (sized t e)

  -- in the place of a slot's empty tree
  module _ (r : Record) (plens paths tlens trees : List ℕ) (L : Laid w r plens paths tlens trees) (k : ℕ) (U : Used r k) (blank : tree_of w tlens trees k ≡ []) where
    pub no_bytes : get_or tlens k 0 ≡ 0
    no_bytes = tree_size w r plens paths tlens trees L k U.low ∙ ap (λ (t : Tree). length t * (2 + w) + name_bytes t) blank ∙ omega arith

    module _ (f : (t : Tree) → read_tree w raw ≡ some t → fits (put at (held_as (path_of plens paths k) t) (view_of w r plens paths tlens trees)) ≡ true) where
      pub counts_fit : (r.entries + es ≤ 1024) × (r.names + ns ≤ 16384)
      counts_fit =
          let t = takes.tree in
          let e = takes.reads in (
            omega (arith, entries_then L U t (f t e), as_many t e, ap length blank),
            omega (arith, names_then L U t (f t e), as_long t e, ap name_bytes blank),
          )

      pub bytes_fit : r.trees + (es * (2 + w) + ns) ≤ length trees
      bytes_fit =
          let m : (r.entries + es) * (2 + w) ≤ 1024 * (2 + w) = mul-le-mul_right (2 + w) counts_fit.0 in
          omega (arith, m, add-mul r.entries es (2 + w), counts_fit.1, trees_is w r plens paths tlens trees L, L.trees_room)

    pub filled : (q : Record) (tlens' trees' : List ℕ) → ((t : Tree) → read_tree w raw ≡ some t → cut tlens' trees' ≡ with_run k (λ (l : Bytes). packed_all t) (cut tlens trees)) →
        length tlens' ≡ length tlens → length trees' ≡ length trees → Sound tlens' trees' q.trees → Kept r q → q.entries ≡ r.entries + es → q.names ≡ r.names + ns →
        (t : Tree) → read_tree w raw ≡ some t → Edited w r plens paths tlens trees k t q tlens' trees'
    filled q tlens' trees' c tl tb st same ee en t e =
        edited L U t (λ (l : Bytes). packed_all t) q tlens' trees' refl (read_only w raw t e).1 (c t e) same tl tb st
        (omega (arith, ee, as_many t e, ap length blank)) (omega (arith, en, as_long t e, ap name_bytes blank))

-- an empty tree under a path has room where any tree has
pub less_fits : (p : Bytes) (t : Tree) (c : Cache) → find at p c ≡ none → fits (put at (held_as p t) c) ≡ true → fits (put at (held_as p []) c) ≡ true
less_fits p t c n f = fits_less (put at (held_as p []) c) (put at (held_as p t) c) (record {
  trees = omega (arith, trees_total (put at (held_as p []) c), trees_total (put at (held_as p t) c), total_put_new at (λ h. 1) (held_as p []) c n, total_put_new at (λ h. 1) (held_as p t) c n);
  entries = omega (arith, entries_total (put at (held_as p []) c), entries_total (put at (held_as p t) c), total_put_new at (λ h. length h.held) (held_as p []) c n, total_put_new at (λ h. length h.held) (held_as p t) c n);
  names = omega (arith, names_total (put at (held_as p []) c), names_total (put at (held_as p t) c), total_put_new at (λ h. name_bytes h.held) (held_as p []) c n, total_put_new at (λ h. name_bytes h.held) (held_as p t) c n);
  paths = omega (arith, paths_total (put at (held_as p []) c), paths_total (put at (held_as p t) c), total_put_new at (λ h. length h.path) (held_as p []) c n, total_put_new at (λ h. length h.path) (held_as p t) c n);
}) f

-- after an empty tree was cached under the path p, in the slot k
module _ (w : ℕ) (r q : Record) (plens paths tlens trees plens' paths' : List ℕ) (p : Bytes) (k : ℕ) (L : Laid w q plens' paths' tlens trees) (U : Used q k) (ep : path_of plens' paths' k ≡ p)
    (v : view_of w q plens' paths' tlens trees ≡ put at (held_as p []) (view_of w r plens paths tlens trees)) where
  abbrev c : Cache
  c = view_of w r plens paths tlens trees

  pub still_blank : tree_of w tlens trees k ≡ []
  still_blank =
      ap (λ (h : Held). h.held) (some_inj (held_as (path_of plens' paths' k) (tree_of w tlens trees k)) (held_as p [])
      (sym (find_slot w q plens' paths' tlens trees L k U.low U.used) ∙ ap₂ (λ (x : Bytes) (y : Cache). find at x y) ep v ∙ find_put_same at (held_as p []) c))

  then_put : (t : Tree) → put at (held_as (path_of plens' paths' k) t) (view_of w q plens' paths' tlens trees) ≡ put at (held_as p t) c
  then_put t = ap₂ (λ (x : Bytes) (y : Cache). put at (held_as x t) y) ep v ∙ put_put_same at (held_as p t) (held_as p []) c refl

  pub still_fits : (t : Tree) → fits (put at (held_as p t) (view_of w r plens paths tlens trees)) ≡ true → fits (put at (held_as (path_of plens' paths' k) t) (view_of w q plens' paths' tlens trees)) ≡ true
  still_fits t f = ap fits (then_put t) ∙ f

  module _ (s : Record) (tlens' trees' : List ℕ) (t : Tree) (E : Edited w q plens' paths' tlens trees k t s tlens' trees') where
    pub loaded_view : view_of w s plens' paths' tlens' trees' ≡ put at (held_as p t) (view_of w r plens paths tlens trees)
    loaded_view = E.view ∙ then_put t

    pub loaded_hidden : q.hidden ≡ q.free → s.hidden ≡ s.free
    loaded_hidden e = E.kept.hidden ∙ e ∙ sym E.kept.free

    pub loaded_write : SameWrite r q → SameWrite r s
    loaded_write b =
        let a = E.kept.write in
        record { «open» = a.«open» ∙ b.«open»; aside = a.aside ∙ b.aside; stacked = a.stacked ∙ b.stacked; asked = a.asked ∙ b.asked }

    pub loaded_digits : (ds : List ℕ) → digits 64 q.free ≡ set ds k 0 → digits 64 s.free ≡ set ds k 0
    loaded_digits ds e = ap (digits 64) E.kept.free ∙ e
