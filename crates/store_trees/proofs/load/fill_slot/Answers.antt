-- `store_trees::load::fill_slot` meets its contract: the empty run is filled with the packed form of the tree. Assumes nothing.
use mathlib.Core.Path.{refl}
use Prim.Native.Nat.{◌+◌, ◌*◌, ◌≤◌}
use native.Mathlib.Omega.{arith}
use Rattle.store_trees.proofs.Loads.{takes, no_bytes, counts_fit, bytes_fit, filled}
use Rattle.store_trees.proofs.load.fill_slot.Goals as goal
use Rattle.store_trees.proofs.load.fill_slot.Goals.{Start}
use lib.ListN.{length}

bytes_room : (c : Start) → c.args.s.now.ed.trees + (c.args.size.entries * (2 + c.args.width) + c.args.size.name_bytes) ≤ length c.args.s.now.trees.now
bytes_room c =
    let a = c.args in
    let s = c.args.s.now in bytes_fit a.width a.raw.now a.size.entries a.size.name_bytes c.requires.4 s.ed s.plens.now s.paths.now s.tlens.now s.trees.now c.requires.0 a.slot c.requires.2 c.requires.3 c.requires.5

pub overflow_mul-n : goal.overflow_mul-n
overflow_mul-n c = omega (arith, bytes_room (goal.at.overflow_mul-n c).Start, c.requires.0.trees_room, c.requires.1)

pub overflow_add-n-2 : goal.overflow_add-n-2
overflow_add-n-2 c = omega (arith, bytes_room (goal.at.overflow_add-n-2 c).Start, c.requires.0.trees_room, c.requires.1)

pub fill-requires : goal.fill-requires
fill-requires c =
    let a = c.args in
    let s = c.args.s.now in
    (c.requires.0.trees_sound, omega (arith, c.requires.0.tlens_64, c.requires.2.low), no_bytes a.width a.raw.now a.size.entries a.size.name_bytes c.requires.4 s.ed s.plens.now s.paths.now s.tlens.now s.trees.now c.requires.0 a.slot c.requires.2 c.requires.3, bytes_room (goal.at.fill-requires c).Start, takes a.width a.raw.now a.size.entries a.size.name_bytes c.requires.4)

counts : (c : Start) → (c.args.s.now.ed.entries + c.args.size.entries ≤ 1024) × (c.args.s.now.ed.names + c.args.size.name_bytes ≤ 16384)
counts c =
    let a = c.args in
    let s = c.args.s.now in counts_fit a.width a.raw.now a.size.entries a.size.name_bytes c.requires.4 s.ed s.plens.now s.paths.now s.tlens.now s.trees.now c.requires.0 a.slot c.requires.2 c.requires.3 c.requires.5

pub overflow_add-bytes : goal.overflow_add-bytes
overflow_add-bytes c = omega (arith, counts (goal.at.overflow_add-bytes c).Start)

pub overflow_add-s : goal.overflow_add-s
overflow_add-s c = omega (arith, bytes_room (goal.at.overflow_add-s c).Start, c.requires.0.trees_room, c.requires.1)

pub overflow_add-s-2 : goal.overflow_add-s-2
overflow_add-s-2 c = omega (arith, counts (goal.at.overflow_add-s-2 c).Start)

pub returns-clause-edited : goal.returns-clause-edited
returns-clause-edited c t e =
    let a = c.args in
    let s = c.args.s.now in
    record {
      edit = filled a.width a.raw.now a.size.entries a.size.name_bytes c.requires.4 s.ed s.plens.now s.paths.now s.tlens.now s.trees.now c.requires.0 a.slot c.requires.2 c.requires.3 _
          c.fill.new.lens c.fill.new.bytes c.fill.ensures.view c.fill.auto.lens c.fill.auto.bytes c.fill.ensures.sound
          (record { free = refl; hidden = refl; paths = refl; write = record { «open» = refl; aside = refl; stacked = refl; asked = refl } }) refl refl t e;
      keys = record { plens = refl; paths = refl };
      lent = record { plens = refl; paths = refl; tlens = refl; trees = refl };
    }
