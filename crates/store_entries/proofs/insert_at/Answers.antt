-- `store_entries::insert_at` meets its contract: the place that the search gave is the one where the model puts the entry. Assumes nothing.
use mathlib.Core.Path.{refl}
use native.Mathlib.Omega.{arith}
use lib.ListN.{take, length-append}
use lib.Seq.{length-take-le}
use Rattle.names.specs.Answers.{as_mode}
use Rattle.names_compact.proofs.CompactLaws.{name_short}
use Rattle.store_entries.proofs.EditLaws.{place_fits, insert_room, counts_fit, inserting}
use Rattle.store_entries.proofs.insert_at.Goals as goal

pub put_entry-n-requires : goal.put_entry-n-requires
put_entry-n-requires c = (refl, omega (arith, c.requires.3, c.requires.1), name_short c.args.given.name.now c.requires.4)

pub insert-s-requires : goal.insert-s-requires
insert-s-requires c =
    let g = c.args.given in
    let place = place_fits c.requires.0 c.requires.2 (as_mode g.kind) g.name.now g.id.now c.requires.3 c.requires.4 c.requires.5 c.requires.7 in
    let room = insert_room c.requires.0 c.requires.2 (as_mode g.kind) g.name.now g.id.now c.requires.3 c.requires.4 c.requires.5 c.requires.7 c.requires.6 in
    let whole = length-take-le c.put_entry-n.result c.put_entry-n.new.buf (omega (arith, c.put_entry-n.ensures.0, c.put_entry-n.auto.buf, c.requires.3, c.requires.1, name_short g.name.now c.requires.4, length-append g.id.now g.name.now)) in
    (c.requires.0.trees_sound, omega (arith, c.requires.0.tlens_64, c.requires.2.low), place, omega (arith, whole, c.put_entry-n.ensures.0, room, c.requires.3, length-append g.id.now g.name.now))

pub overflow_add-s : goal.overflow_add-s
overflow_add-s c =
    let g = c.args.given in
    omega (arith, (counts_fit c.requires.0 c.requires.2 (as_mode g.kind) g.name.now g.id.now c.requires.3 c.requires.4 c.requires.5 c.requires.7 c.requires.6).0)

pub overflow_add-s-2 : goal.overflow_add-s-2
overflow_add-s-2 c =
    let g = c.args.given in
    omega (arith, (counts_fit c.requires.0 c.requires.2 (as_mode g.kind) g.name.now g.id.now c.requires.3 c.requires.4 c.requires.5 c.requires.7 c.requires.6).1)

pub returns : goal.returns
returns c =
    let g = c.args.given in
    record {
      edit = inserting c.requires.0 c.requires.2 (as_mode g.kind) g.name.now g.id.now c.requires.3 c.requires.4 c.requires.5 c.requires.7 (take c.put_entry-n.result c.put_entry-n.new.buf) c.put_entry-n.ensures.1 _
          c.insert-s.new.lens c.insert-s.new.bytes c.insert-s.ensures.view c.insert-s.auto.lens c.insert-s.auto.bytes c.insert-s.ensures.sound.0 (record { free = refl; hidden = refl; paths = refl; write = record { «open» = refl; aside = refl; stacked = refl; asked = refl } }) refl refl;
      keys = record { plens = refl; paths = refl };
      lent = record { plens = refl; paths = refl; tlens = refl; trees = refl };
    }
