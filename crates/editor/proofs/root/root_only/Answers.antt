-- `editor::root::root_only` meets its contract: every tree is dropped, then the root is cached. Assumes nothing.
use mathlib.Core.List.{[]}
use mathlib.Core.Path.{◌≡◌, refl, sym, ap, ◌∙◌, subst}
use native.Mathlib.Omega.{arith}
use Rattle.store_slots.specs.View.{SameWrite, fresh}
use Rattle.store_slots.specs.Stores.{view_in}
use Rattle.std.proofs.Math.Option.{some}
use Rattle.model.specs.Raw.{read_tree}
use Rattle.model.specs.Tree.{Tree}
use Rattle.store_slots.specs.declared.Record.{Record}
use Rattle.store_trees.proofs.Loads.{as_many, as_long}
use Rattle.editor.proofs.root.root_only.Goals.{After-load}
use Rattle.editor.proofs.RootLaws.{alone, one_fits, root_fits, no_root_yet, root_cached, root_view, root_holds}
use Rattle.editor.proofs.root.root_only.Goals as goal

pub load-requires : goal.load-requires
load-requires c =
    let a = c.args in
    (c.drop_all.ensures.laid, omega arith, ap (λ (r : Record). r.hidden) c.drop_all.ensures.record ∙ sym (ap (λ (r : Record). r.free) c.drop_all.ensures.record), c.requires.4, no_root_yet [] _ c.drop_all.ensures.view, λ t e. root_fits [] t _ refl c.drop_all.ensures.view (omega (arith, c.requires.5, as_many 20 a.raw.now a.size.entries a.size.name_bytes c.requires.4 t e)) (omega (arith, c.requires.6, as_long 20 a.raw.now a.size.entries a.size.name_bytes c.requires.4 t e)))

-- what is cached is the root alone
cached : (c : After-load) (t : Tree) → read_tree 20 c.args.raw.now ≡ some t → view_in 20 c.load.new.s ≡ alone t
cached c t e = root_cached [] t _ _ (c.load.ensures.view t e) refl c.drop_all.ensures.view

fresh_left : (c : After-load) → SameWrite fresh c.load.new.s.ed
fresh_left c = subst (λ (r : Record). SameWrite r c.load.new.s.ed) c.drop_all.ensures.record c.load.ensures.same.1

pub returns-clause-done : goal.returns-clause-done
returns-clause-done c =
    let a = c.args in
    let q = c.load.new.s in
    let l = c.load.ensures in
    let at = (goal.at.returns-clause-done c).After-load in
    record {
      holds = λ t e order k.
          root_holds q.ed q.plens.now q.paths.now q.tlens.now q.trees.now t l.laid l.same.0 (fresh_left at) (cached at t e) order k a.raw.now e
          (one_fits t (omega (arith, c.requires.5, as_many 20 a.raw.now a.size.entries a.size.name_bytes c.requires.4 t e)) (omega (arith, c.requires.6, as_long 20 a.raw.now a.size.entries a.size.name_bytes c.requires.4 t e)));
      is = λ t e order k. root_view q.ed q.plens.now q.paths.now q.tlens.now q.trees.now t l.laid l.same.0 (fresh_left at) (cached at t e) order;
    }
