-- What a new root leaves in a store. Assumes nothing.
use Rattle.std.specs.Prelude.{ℕ, ◌≡◌, List, length}
use Rattle.std.proofs.Math.Option.{some}
use Rattle.model.specs.Bytes.{Bytes}
use Rattle.model.specs.Raw.{read_tree}
use Rattle.model.specs.Tree.{Tree}
use Rattle.model.specs.Calls.{root_only, rooted}
use Rattle.model.specs.Formats.{sha1}
use Rattle.store_slots.specs.View.{editor_of, Holds}
use Rattle.store_slots.specs.declared.Record.{Record}
use Rattle.store_slots.specs.declared.Store.{Store}
use Rattle.editor.specs.Lent.{Lent, Long, Good, viewed, Behind, Still}

-- slices as long as a store hold the editor whose one tree is the raw one
pub record RootOnly (raw : Bytes) (r : Record) (plens paths tlens trees : List ℕ) : Type 0 where
  pub holds : (t : Tree) → read_tree 20 raw ≡ some t → (order : List ℕ) → length order ≡ 64 → Holds sha1 r plens paths tlens trees order
  pub is : (t : Tree) → read_tree 20 raw ≡ some t → (order : List ℕ) → length order ≡ 64 → editor_of 20 r plens paths tlens trees order ≡ root_only t

abbrev pub RootOnlyIn : Bytes → Store → Type 0
RootOnlyIn raw s = RootOnly raw s.ed s.plens.now s.paths.now s.tlens.now s.trees.now

-- a new root in a store that is long enough: 12, then 5, then the root alone
pub record Roots (raw : Bytes) (s : Lent) (code : ℕ) (q : Lent) : Type 0 where
  pub is : record { code = code; editor = viewed q } ≡ rooted (viewed s) (read_tree 20 raw)
  pub good : code ≡ 0 → Good q
  pub behind : Behind s q
  pub kept : Still code → q ≡ s

-- An editor is made with this root: 13 is for slices that are shorter than a store, whatever they hold.
pub record Makes (raw : Bytes) (s : Lent) (code : ℕ) (q : Lent) : Type 0 where
  pub refused : code ≡ 13 → (Long s → ⊥) × (q ≡ s)
  pub done : (code ≡ 13 → ⊥) → Long s × Roots raw s code q
