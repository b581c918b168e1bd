-- Two stores that hold one editor agree in every number of the record that is no slot number: the counts are sums over the editor's trees, and the numbers of the write are those of the editor's write. Assumes nothing.
use Prim.Native.Nat.{ℕ, zero, suc, ◌+◌, ◌-◌, ◌*◌, ◌≤◌}
use mathlib.Core.Path.{◌≡◌, refl, sym, ap, ap₂, ◌∙◌}
use mathlib.Core.Bool.{Bool, true, false}
use mathlib.Core.List.{List, map, reverse}
use mathlib.Core.Option.{Option, none, some}
use native.Mathlib.Omega.{arith}
use borrow.Author.Tests.{eqb-true, eqb-false}
use lib.Dec.{eqb}
use lib.ListN.{length, take, drop, length-map, length-drop, length-reverse}
use lib.Seq.{length-take-le}
use Rattle.model.specs.Tree.{name_bytes}
use Rattle.model.specs.Editor.{Held, Start, from_root, from_cursor, Write}
use Rattle.model.specs.Editor.{Editor as Model}
use Rattle.model.specs.Formats.{sha1}
use Rattle.model.specs.Valid.{every_tree}
use Rattle.model.proofs.RoomCounts.{entries_total, names_total, paths_total}
use Rattle.model.proofs.SoundTrees.{total}
use Rattle.store_slots.specs.View.{tree_room, slots, view_of, held_at, aside_of, stacked_of, write_of, Laid, Ordered}
use Rattle.store_slots.specs.declared.Record.{Record}
use Rattle.store_slots.proofs.Counts.{paths_is, trees_is}
use Rattle.store_slots.proofs.Gather.{total_gather}
use Rattle.store_check.proofs.Whole.{every_total}
use Rattle.editor.specs.Lent.{Lent, Good, viewed}

-- the numbers of a record that are no slot numbers
pub record Numbers (r r' : Record) : Type 0 where
  pub paths : r.paths ≡ r'.paths
  pub trees : r.trees ≡ r'.trees
  pub entries : r.entries ≡ r'.entries
  pub names : r.names ≡ r'.names
  pub «open» : r.«open» ≡ r'.«open»
  pub aside : r.aside ≡ r'.aside
  pub stacked : r.stacked ≡ r'.stacked

-- ---- of the editor's write

from : Start → ℕ
from from_root = 1
from (from_cursor p) = 2

opens : Option Write → ℕ
opens none = 0
opens (some w) = from w.start

asides : Option Write → ℕ
asides none = 0
asides (some w) = length w.aside

stacks : Option Write → ℕ
stacks none = 0
stacks (some w) = length w.stacked

opens_of : (n : ℕ) (h : Held) (us ss : List Held) → n ≤ 2 → n ≡ opens (write_of n h us ss)
unfolding opens from
opens_of zero h us ss l = refl
opens_of (suc zero) h us ss l = refl
opens_of (suc (suc n)) h us ss l = omega (arith, l)

asides_of : (n m : ℕ) (h : Held) (us ss : List Held) → (n ≡ 0 → m ≡ 0) → ((n ≡ 0 → ⊥) → length us ≡ m) → m ≡ asides (write_of n h us ss)
unfolding asides
asides_of zero m h us ss a b = a refl
asides_of (suc n) m h us ss a b = sym (b (λ z. omega (arith, z)))

stacks_of : (n m : ℕ) (h : Held) (us ss : List Held) → (n ≡ 0 → m ≡ 0) → ((n ≡ 0 → ⊥) → length ss ≡ m) → m ≡ stacks (write_of n h us ss)
unfolding stacks
stacks_of zero m h us ss a b = a refl
stacks_of (suc n) m h us ss a b = sym (b (λ z. omega (arith, z)))

front_length : (f : ℕ → Held) (k : ℕ) (o : List ℕ) → length o ≡ 64 → k ≤ 63 → length (reverse (map f (take k o))) ≡ k
front_length f k o e l = length-reverse (map f (take k o)) ∙ length-map (take k o) f ∙ length-take-le k o (omega (arith, e, l))

back_length : (f : ℕ → Held) (k : ℕ) (o : List ℕ) → length o ≡ 64 → k ≤ 63 → length (map f (drop (64 - k) o)) ≡ k
back_length f k o e l = length-map (drop (64 - k) o) f ∙ length-drop (64 - k) o ∙ omega (arith, e, l)

-- ---- of a store that holds an editor

module _ (s : Lent) (g : Good s) where
  abbrev r : Record
  r = s.ed

  abbrev plens : List ℕ
  plens = take 64 s.plens

  abbrev paths : List ℕ
  paths = take 8192 s.paths

  abbrev tlens : List ℕ
  tlens = take 64 s.tlens

  abbrev trees : List ℕ
  trees = take (tree_room 20) s.trees

  abbrev order : List ℕ
  order = take 64 s.order

  laid : Laid 20 r plens paths tlens trees
  unfolding sha1
  laid = g.holds.laid

  ordered : Ordered r order
  ordered = g.holds.ordered

  -- a sum over the editor's trees
  abbrev every : (Held → ℕ) → ℕ
  every f = total f (every_tree (viewed s).cached (viewed s).writing)

  whole : (f : Held → ℕ) → total f (view_of 20 r plens paths tlens trees) ≡ every f
  whole f = total_gather f (slots 20 r plens paths tlens trees) laid.apart ∙ sym (every_total 20 r plens paths tlens trees laid order ordered f r.«open» refl)

  entries_is : r.entries ≡ every (λ h. length h.held)
  entries_is = laid.entries ∙ entries_total (view_of 20 r plens paths tlens trees) ∙ whole (λ h. length h.held)

  names_is : r.names ≡ every (λ h. name_bytes h.held)
  names_is = laid.names ∙ names_total (view_of 20 r plens paths tlens trees) ∙ whole (λ h. name_bytes h.held)

  path_bytes_is : r.paths ≡ every (λ h. length h.path)
  path_bytes_is = sym (paths_is 20 r plens paths tlens trees laid) ∙ paths_total (view_of 20 r plens paths tlens trees) ∙ whole (λ h. length h.path)

  low : r.«open» ≤ 2
  low = go (eqb r.«open» 0) refl
    where
      go : (b : Bool) → eqb r.«open» 0 ≡ b → r.«open» ≤ 2
      go true e = omega (arith, eqb-true r.«open» 0 e)
      go false e = (ordered.opened (eqb-false r.«open» 0 e)).from

  open_is : r.«open» ≡ opens (viewed s).writing
  open_is = opens_of r.«open» (held_at 20 plens paths tlens trees r.asked) (aside_of 20 r plens paths tlens trees order) (stacked_of 20 r plens paths tlens trees order) low

  aside_is : r.aside ≡ asides (viewed s).writing
  aside_is =
      asides_of r.«open» r.aside (held_at 20 plens paths tlens trees r.asked) (aside_of 20 r plens paths tlens trees order) (stacked_of 20 r plens paths tlens trees order)
      (λ z. (ordered.closed z).aside)
      (λ z. front_length (held_at 20 plens paths tlens trees) r.aside order ordered.order_64 (omega (arith, (ordered.opened z).room)))

  stacked_is : r.stacked ≡ stacks (viewed s).writing
  stacked_is =
      stacks_of r.«open» r.stacked (held_at 20 plens paths tlens trees r.asked) (aside_of 20 r plens paths tlens trees order) (stacked_of 20 r plens paths tlens trees order)
      (λ z. (ordered.closed z).stacked)
      (λ z. back_length (held_at 20 plens paths tlens trees) r.stacked order ordered.order_64 (omega (arith, (ordered.opened z).room)))

-- the theorem
pub same_numbers : (s s' : Lent) → Good s → Good s' → viewed s ≡ viewed s' → Numbers s.ed s'.ed
same_numbers s s' g g' v =
    let e : s.ed.entries ≡ s'.ed.entries = entries_is s g ∙ ap (λ (E : Model). total (λ h. length h.held) (every_tree E.cached E.writing)) v ∙ sym (entries_is s' g') in
    let n : s.ed.names ≡ s'.ed.names = names_is s g ∙ ap (λ (E : Model). total (λ h. name_bytes h.held) (every_tree E.cached E.writing)) v ∙ sym (names_is s' g') in
    record {
      paths = path_bytes_is s g ∙ ap (λ (E : Model). total (λ h. length h.path) (every_tree E.cached E.writing)) v ∙ sym (path_bytes_is s' g');
      trees = sym (tree_bytes s g) ∙ ap₂ (λ (x y : ℕ). x * 22 + y) e n ∙ tree_bytes s' g';
      entries = e;
      names = n;
      «open» = open_is s g ∙ ap (λ (E : Model). opens E.writing) v ∙ sym (open_is s' g');
      aside = aside_is s g ∙ ap (λ (E : Model). asides E.writing) v ∙ sym (aside_is s' g');
      stacked = stacked_is s g ∙ ap (λ (E : Model). stacks E.writing) v ∙ sym (stacked_is s' g');
    }
  where
    tree_bytes : (q : Lent) (h : Good q) → q.ed.entries * 22 + q.ed.names ≡ q.ed.trees
    tree_bytes q h = trees_is 20 q.ed (take 64 q.plens) (take 8192 q.paths) (take 64 q.tlens) (take (tree_room 20) q.trees) (laid q h)
