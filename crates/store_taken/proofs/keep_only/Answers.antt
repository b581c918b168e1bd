-- `store_taken::keep_only` meets its contract: the path and the tree of the slot are the only runs that are left. Assumes nothing.
use mathlib.Core.Path.{◌≡◌, refl, sym, ap, ◌∙◌, subst}
use mathlib.Core.List.{List}
use mathlib.Core.Option.{none}
use Prim.Native.Nat.{ℕ, ◌+◌, ◌-◌, ◌*◌}
use native.Mathlib.Omega.{arith}
use lib.ListN.{length, get_or}
use Rattle.model.specs.Tree.{name_bytes}
use Rattle.model.specs.Editor.{Cache}
use Rattle.model.specs.Editor.{Editor as Model}
use Rattle.names_compact.specs.Compact.{Run, unpack}
use Rattle.store_slots.specs.View.{tree_of}
use Rattle.store_slots.specs.declared.Record.{Record}
use Rattle.store_slots.proofs.Changes.{searched_run, counted, counted_size, run_fits}
use Rattle.store_slots.proofs.StoreLaws.{tree_seen}
use Rattle.store_taken.proofs.Ends.{closed_ordered}
use Rattle.store_taken.proofs.Keeping.{ones_at, sole_same, sole_digit, sole_view, sole_laid}
use Rattle.store_taken.proofs.keep_only.Goals as goal

abbrev closed : Cache → Model
closed x = record { cached = x; writing = none }

pub invariant_of-tree : goal.invariant_of-tree
invariant_of-tree c =
    let a = c.args in
    let s = c.args.s.now in
    record {
      run = subst (Run a.width) (sym (tree_seen _ _ _ _ c.view.ensures c.tree_in.ensures)) (searched_run a.width s.ed s.plens.now s.paths.now s.tlens.now s.trees.now c.requires.0 a.slot c.requires.2.low);
      narrow = c.requires.1;
    }

-- as long as the slot's tree takes
size : (c : goal.After-keep_run-t) → get_or c.args.s.now.tlens.now c.args.slot 0 ≡ c.count-es.result * (2 + c.args.width) + name_bytes (tree_of c.args.width c.args.s.now.tlens.now c.args.s.now.trees.now c.args.slot)
size c =
    let a = c.args in
    let s = c.args.s.now in
    counted_size a.width s.ed s.plens.now s.paths.now s.tlens.now s.trees.now c.requires.0 a.slot c.requires.2.low c.tree_in.result.now _ (tree_seen _ _ _ _ c.view.ensures c.tree_in.ensures) c.count-es.ensures

pub overflow_mul-ns : goal.overflow_mul-ns
overflow_mul-ns c =
    let a = c.args in
    let s = c.args.s.now in
    omega (arith, size c, run_fits a.width s.ed s.plens.now s.paths.now s.tlens.now s.trees.now c.requires.0 a.slot c.requires.2.low, c.requires.1)

pub overflow_sub-ns : goal.overflow_sub-ns
overflow_sub-ns c = omega (arith, size c, c.keep_run-t.ensures.sound.1)

pub clear-f-requires : goal.clear-f-requires
clear-f-requires c = (c.requires.2.low, ones_at c.args.slot c.requires.2.low)

pub returns : goal.returns
returns c =
    let a = c.args in
    let s = c.args.s.now in
    let f = c.clear-f.result in
    let L = c.requires.0 in
    let pl = c.keep_run-p.auto.lens ∙ L.plens_64 in
    let tl = c.keep_run-t.auto.lens ∙ L.tlens_64 in
    let es = c.count-es.result in
    let q : Record = record { free = f; hidden = f; paths = c.keep_run-p.result; trees = c.keep_run-t.result; entries = es; names = c.keep_run-t.result - es * (2 + a.width); «open» = 0; aside = 0; stacked = 0; asked = 0 } in
    let same = sole_same a.width s.ed s.plens.now s.paths.now s.tlens.now s.trees.now L a.slot c.requires.2.low q c.keep_run-p.new.lens c.keep_run-p.new.bytes c.keep_run-t.new.lens c.keep_run-t.new.bytes c.keep_run-p.ensures.view c.keep_run-t.ensures.view pl tl c.clear-f.ensures in
    let digit = sole_digit a.width s.ed s.plens.now s.paths.now s.tlens.now s.trees.now L a.slot c.requires.2.low q c.keep_run-p.new.lens c.keep_run-p.new.bytes c.keep_run-t.new.lens c.keep_run-t.new.bytes c.keep_run-p.ensures.view c.keep_run-t.ensures.view pl tl c.clear-f.ensures in
    let view = sole_view a.width s.ed s.plens.now s.paths.now s.tlens.now s.trees.now L a.slot c.requires.2.low q c.keep_run-p.new.lens c.keep_run-p.new.bytes c.keep_run-t.new.lens c.keep_run-t.new.bytes c.keep_run-p.ensures.view c.keep_run-t.ensures.view pl tl c.clear-f.ensures in
    let laid =
    sole_laid a.width s.ed s.plens.now s.paths.now s.tlens.now s.trees.now L a.slot c.requires.2.low q c.keep_run-p.new.lens c.keep_run-p.new.bytes c.keep_run-t.new.lens c.keep_run-t.new.bytes c.keep_run-p.ensures.view c.keep_run-t.ensures.view pl tl c.clear-f.ensures
    c.keep_run-p.ensures.sound.0 c.keep_run-t.ensures.sound.0 c.keep_run-p.auto.bytes c.keep_run-t.auto.bytes (counted a.width s.ed s.plens.now s.paths.now s.tlens.now s.trees.now c.requires.0 a.slot c.requires.2.low c.tree_in.result.now _ (tree_seen _ _ _ _ c.view.ensures c.tree_in.ensures) c.count-es.ensures) (omega (arith, counted_size a.width s.ed s.plens.now s.paths.now s.tlens.now s.trees.now c.requires.0 a.slot c.requires.2.low c.tree_in.result.now _ (tree_seen _ _ _ _ c.view.ensures c.tree_in.ensures) c.count-es.ensures, c.keep_run-t.ensures.sound.1)) in record { editor = λ order. ap closed view; ordered = λ order l. closed_ordered q order l refl (record { hidden = refl; aside = refl; stacked = refl; asked = refl }); laid = laid; others = (record { low = c.requires.2.low; used = digit }, same); same = (refl, refl); lent = record { plens = refl; paths = refl; tlens = refl; trees = refl } }
