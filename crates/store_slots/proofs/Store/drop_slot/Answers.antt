-- `store_slots::drop_slot` meets its contract: the slot's path and run are taken out whole. Assumes nothing.
use Rattle.model.specs.Tree.{name_bytes}
use Rattle.store_slots.proofs.Changes.{searched_run, counted, counted_size, run_fits, dropped}
use Rattle.store_slots.proofs.StoreLaws.{tree_seen}
use Rattle.store_slots.proofs.Relaid.{others_with, entries_in_lem, names_in_lem}
use Rattle.store_slots.specs.View.{tree_of}
use Rattle.names_compact.specs.Compact.{Run}
use lib.ListN.{length, get_or}
use native.Mathlib.Omega.{arith}
use Prim.Native.Nat.{ℕ, ◌+◌, ◌*◌, ◌^◌}
use Rattle.store_runs.specs.Digits.{digits}
use mathlib.Core.Path.{◌≡◌, refl, sym, ap, ◌∙◌, subst}
use Rattle.store_slots.proofs.Store.drop_slot.Goals as goal
use Rattle.store_slots.proofs.Store.drop_slot.Goals.{After-count-es}

pub invariant_of-tree : goal.invariant_of-tree
invariant_of-tree c =
    let a = c.args in
    let s = c.args.self.now in record {
      run = subst (Run a.width) (sym (tree_seen _ _ _ _ c.view.ensures c.tree_in.ensures)) (searched_run a.width s.ed s.plens.now s.paths.now s.tlens.now s.trees.now c.requires.0 a.k c.requires.2.low);
      narrow = c.requires.1;
    }

-- as many entries as the slot's tree has
entries : (c : After-count-es) → c.count-es.result ≡ length (tree_of c.args.width c.args.self.now.tlens.now c.args.self.now.trees.now c.args.k)
entries c =
    let a = c.args in
    let s = c.args.self.now in
    counted a.width s.ed s.plens.now s.paths.now s.tlens.now s.trees.now c.requires.0 a.k c.requires.2.low c.tree_in.result.now _ (tree_seen _ _ _ _ c.view.ensures c.tree_in.ensures) c.count-es.ensures

size : (c : After-count-es) → get_or c.args.self.now.tlens.now c.args.k 0 ≡ c.count-es.result * (2 + c.args.width) + name_bytes (tree_of c.args.width c.args.self.now.tlens.now c.args.self.now.trees.now c.args.k)
size c =
    let a = c.args in
    let s = c.args.self.now in
    counted_size a.width s.ed s.plens.now s.paths.now s.tlens.now s.trees.now c.requires.0 a.k c.requires.2.low c.tree_in.result.now _ (tree_seen _ _ _ _ c.view.ensures c.tree_in.ensures) c.count-es.ensures

pub overflow_mul-ns : goal.overflow_mul-ns
overflow_mul-ns c =
    let a = c.args in
    let s = c.args.self.now in
    omega (arith, size c, run_fits a.width s.ed s.plens.now s.paths.now s.tlens.now s.trees.now c.requires.0 a.k c.requires.2.low, c.requires.1)

pub overflow_sub-ns : goal.overflow_sub-ns
overflow_sub-ns c = omega (arith, size c)

pub overflow_sub-left : goal.overflow_sub-left
overflow_sub-left c =
    let a = c.args in
    let s = c.args.self.now in
    omega (arith, entries (goal.at.overflow_sub-left c).After-count-es, entries_in_lem a.width s.ed s.plens.now s.paths.now s.tlens.now s.trees.now c.requires.0 a.k c.requires.2.low c.requires.2.used)

pub overflow_sub-bytes : goal.overflow_sub-bytes
overflow_sub-bytes c =
    let a = c.args in
    let s = c.args.self.now in
    omega (arith, size (goal.at.overflow_sub-bytes c).After-count-es, names_in_lem a.width s.ed s.plens.now s.paths.now s.tlens.now s.trees.now c.requires.0 a.k c.requires.2.low c.requires.2.used)

pub returns : goal.returns
returns c =
    let a = c.args in
    let s = c.args.self.now in
    let x =
    dropped a.width s.ed s.plens.now s.paths.now s.tlens.now s.trees.now c.requires.0 a.k c.requires.2 _
    c.remove.new.lens c.remove.new.bytes c.remove-2.new.lens c.remove-2.new.bytes (get_or s.plens.now a.k 0) (get_or s.tlens.now a.k 0) c.count-es.result refl refl (entries (goal.at.returns c).After-count-es)
    c.remove.ensures.view c.remove-2.ensures.view c.remove.ensures.sound.0 c.remove-2.ensures.sound.0 c.remove.auto.lens c.remove-2.auto.lens c.remove.auto.bytes c.remove-2.auto.bytes c.set.ensures.0 refl refl in record {
      view = x.0;
      laid = x.1;
      others = (others_with _ s.plens.now s.paths.now c.remove.new.lens c.remove.new.bytes a.k c.remove.ensures.view, others_with _ s.tlens.now s.trees.now c.remove-2.new.lens c.remove-2.new.bytes a.k c.remove-2.ensures.view, c.set.ensures.0, c.set-2.ensures.0);
      same = (
        λ e. c.set-2.ensures.1 (ap (λ (y : ℕ). get_or (digits 64 y) a.k 0) e ∙ c.requires.2.used) ∙ ap (λ (y : ℕ). y + 2 ^ a.k) e ∙ sym (c.set.ensures.1 c.requires.2.used),
        record { «open» = refl; aside = refl; stacked = refl; asked = refl },
      );
      lent = record { plens = refl; paths = refl; tlens = refl; trees = refl };
    }
