-- `store_slots::add_empty` meets its contract: the first free slot is blank, so it is at the new path with no entry. Assumes nothing.
use Rattle.store_slots.proofs.Relaid.{others_with}
use Rattle.store_slots.proofs.Changes.{added}
use Rattle.store_slots.proofs.Counts.{room_slot, room_paths}
use Rattle.store_runs.proofs.DigitLaws.{first_set_lem}
use Rattle.store_runs.specs.Digits.{digits}
use lib.ListN.{get_or}
use mathlib.Core.List.{[]}
use native.Mathlib.Omega.{arith}
use Prim.Native.Nat.{ℕ, ◌<◌}
use mathlib.Core.Path.{refl, ap, ◌∙◌}
use Rattle.store_slots.proofs.Store.add_empty.Goals as goal
use Rattle.store_slots.proofs.Store.add_empty.Goals.{After-first-slot}

low : (c : After-first-slot) → c.first-slot.result < 64
low c =
    let a = c.args in
    let s = c.args.self.now in
    omega (arith, c.first-slot.ensures, room_slot a.width s.ed s.plens.now s.paths.now s.tlens.now s.trees.now c.requires.0 a.path.now [] c.requires.2 c.requires.3)

pub clear-free-requires : goal.clear-free-requires
clear-free-requires c =
    let l = low c in
    (l, ap (λ (x : ℕ). get_or (digits 64 c.args.self.now.ed.free) x 0) c.first-slot.ensures ∙ first_set_lem 64 c.args.self.now.ed.free (omega (arith, l, c.first-slot.ensures)))

pub insert-requires : goal.insert-requires
insert-requires c =
    let a = c.args in
    let s = c.args.self.now in
    let L = c.requires.0 in
    let l = low (goal.at.insert-requires c).After-first-slot in
    (L.paths_sound, omega (arith, l, L.plens_64), omega arith, omega (arith, room_paths a.width s.ed s.plens.now s.paths.now s.tlens.now s.trees.now L a.path.now [] c.requires.2 c.requires.3, L.paths_room))

pub returns : goal.returns
returns c =
    let a = c.args in
    let s = c.args.self.now in
    let x =
    added a.width s.ed s.plens.now s.paths.now s.tlens.now s.trees.now c.requires.0 a.path.now c.requires.2 c.first-slot.result c.first-slot.ensures (low (goal.at.returns c).After-first-slot)
    _ c.insert.new.lens c.insert.new.bytes c.insert.ensures.view c.insert.ensures.sound.0 c.insert.auto.lens c.insert.auto.bytes
    c.clear-free.ensures refl refl refl in record { view = x.view; slot = (x.used, x.path); laid = x.laid; others = (others_with _ s.plens.now s.paths.now c.insert.new.lens c.insert.new.bytes c.first-slot.result c.insert.ensures.view, c.clear-free.ensures); same = (refl, record { «open» = refl; aside = refl; stacked = refl; asked = refl }); trees = record { tlens = refl; trees = refl }; lent = record { plens = refl; paths = refl; tlens = refl; trees = refl } }
