-- `store_trees::nulls::drop_null` meets its contract: the record's counts lose what the run has lost. Assumes nothing.
use mathlib.Core.Path.{refl}
use native.Mathlib.Omega.{arith}
use Rattle.store_slots.proofs.Relaid.{run_in}
use Rattle.store_trees.proofs.NullLaws.{gone_in, bytes_in_lem, names_left, dropping}
use Rattle.store_trees.proofs.nulls.drop_null.Goals as goal

pub close_run-left-requires : goal.close_run-left-requires
close_run-left-requires c =
    let a = c.args in
    let s = c.args.s.now in
    (c.requires.0.trees_sound, omega (arith, c.requires.0.tlens_64, c.requires.2.low), run_in a.width s.ed s.plens.now s.paths.now s.tlens.now s.trees.now c.requires.0 a.slot c.requires.2.low, c.requires.1)

pub overflow_sub-bytes : goal.overflow_sub-bytes
overflow_sub-bytes c = c.close_run-left.ensures.counts.less

pub overflow_mul-bytes : goal.overflow_mul-bytes
overflow_mul-bytes c =
    let a = c.args in
    let s = c.args.s.now in
    omega (arith, bytes_in_lem a.width s.ed s.plens.now s.paths.now s.tlens.now s.trees.now c.requires.0 a.slot c.requires.2 c.close_run-left.result c.close_run-left.ensures.counts, c.requires.0.trees_sound.fits, c.requires.0.trees_room, c.requires.1)

pub overflow_sub-bytes-2 : goal.overflow_sub-bytes-2
overflow_sub-bytes-2 c =
    let a = c.args in
    let s = c.args.s.now in
    omega (arith, bytes_in_lem a.width s.ed s.plens.now s.paths.now s.tlens.now s.trees.now c.requires.0 a.slot c.requires.2 c.close_run-left.result c.close_run-left.ensures.counts)

pub overflow_sub-s : goal.overflow_sub-s
overflow_sub-s c =
    let a = c.args in
    let s = c.args.s.now in
    gone_in a.width s.ed s.plens.now s.paths.now s.tlens.now s.trees.now c.requires.0 a.slot c.requires.2 c.close_run-left.result c.close_run-left.ensures.counts

pub overflow_sub-s-2 : goal.overflow_sub-s-2
overflow_sub-s-2 c =
    let a = c.args in
    let s = c.args.s.now in
    names_left a.width s.ed s.plens.now s.paths.now s.tlens.now s.trees.now c.requires.0 a.slot c.requires.2 c.close_run-left.result c.close_run-left.ensures.counts

pub returns : goal.returns
returns c =
    let a = c.args in
    let s = c.args.s.now in
    record {
      edit = dropping a.width s.ed s.plens.now s.paths.now s.tlens.now s.trees.now c.requires.0 a.slot c.requires.2 c.close_run-left.result c.close_run-left.ensures.counts
          _
          c.close_run-left.new.lens c.close_run-left.new.bytes c.close_run-left.ensures.view c.close_run-left.auto.lens c.close_run-left.auto.bytes c.close_run-left.ensures.sound
          (record { free = refl; hidden = refl; paths = refl; write = record { «open» = refl; aside = refl; stacked = refl; asked = refl } }) refl refl;
      keys = record { plens = refl; paths = refl };
      lent = record { plens = refl; paths = refl; tlens = refl; trees = refl };
    }
