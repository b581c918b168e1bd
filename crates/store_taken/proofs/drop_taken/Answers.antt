-- `store_taken::drop_taken` meets its contract: the slot was hidden and is none of the others that are taken. Assumes nothing.
use Rattle.store_taken.proofs.Ends.{dropped_hidden, dropped_between, dropped_going}
use Rattle.store_taken.proofs.drop_taken.Goals as goal

pub drop_slot-requires : goal.drop_slot-requires
drop_slot-requires c = (c.requires.0, c.requires.1, c.requires.2.1.marks.used.0)

pub returns : goal.returns
returns c =
    let a = c.args in
    let s = c.args.s.now in
    let p = c.drop_slot.new.self.plens.now in
    let pb = c.drop_slot.new.self.paths.now in
    let t = c.drop_slot.new.self.tlens.now in
    let tb = c.drop_slot.new.self.trees.now in
    let L = c.requires.0 in
    let eh = dropped_hidden s.ed c.requires.2.0 a.slot c.requires.2.1 _ c.drop_slot.ensures.others.3 in record {
      going = λ order b. dropped_going s.ed order a.slot b c.drop_slot.new.self.ed a.width s.plens.now s.paths.now s.tlens.now s.trees.now p pb t tb
          (record { p = L.plens_64; t = L.tlens_64; p' = c.drop_slot.ensures.laid.plens_64; t' = c.drop_slot.ensures.laid.tlens_64 }) eh c.drop_slot.ensures.same.1 (λ j n. record { path = c.drop_slot.ensures.others.0.run j n; run = c.drop_slot.ensures.others.1.run j n });
      between = λ order b. dropped_between s.ed order a.slot b c.drop_slot.new.self.ed c.drop_slot.ensures.others.2 eh c.drop_slot.ensures.same.1;
      laid = c.drop_slot.ensures.laid;
      others = (λ j n. record { path = c.drop_slot.ensures.others.0.run j n; run = c.drop_slot.ensures.others.1.run j n }, c.drop_slot.ensures.others.2, eh);
      same = c.drop_slot.ensures.same.1;
      lent = c.drop_slot.ensures.lent;
    }
