-- `store_taken::drop_others` meets its contract: the map of the others has every hidden slot but one. Assumes nothing.
use mathlib.Core.Path.{◌≡◌, refl, sym}
use Prim.Native.Nat.{ℕ, zero, suc, ◌≤◌}
use native.Mathlib.Omega.{arith}
use Rattle.store_slots.specs.declared.Record.{Record}
use Rattle.store_taken.specs.Taken.{all_taken}
use Rattle.store_taken.proofs.Dropping.{left_used, left_hidden, left_out, left_self, left_between}
use Rattle.store_taken.proofs.Ends.{cached_same}
use Rattle.store_taken.proofs.Steps.{laid_same}
use Rattle.store_taken.proofs.drop_others.Goals as goal

low : (n m : ℕ) → n ≡ m → (m ≡ 0 → ⊥) → 1 ≤ n
low zero m e z = absurd (z (sym e))
low (suc n) m e z = omega arith

pub clear-gone-requires : goal.clear-gone-requires
clear-gone-requires c =
    let a = c.args in
    let s = c.args.s.now in
    let t = c.requires.2 in
    let ks = all_taken s.ed t.0 t.1 in
    ((left_used s.ed ks t.2.marks a.start t.3).low, left_hidden s.ed ks t.2.marks a.start t.3)

pub drop_each-requires : goal.drop_each-requires
drop_each-requires c = (c.requires.0, c.requires.1)

pub returns : goal.returns
returns c =
    let a = c.args in
    let s = c.args.s.now in
    let L = c.requires.0 in
    let L' = c.drop_each.ensures.laid in
    let w = c.drop_each.ensures.same in
    let t = c.requires.2 in
    let b = t.2 in
    let l = c.drop_each.ensures.lent in
    let ks = all_taken s.ed t.0 t.1 in
    let q : Record = record { free = c.drop_each.new.s.ed.free; hidden = s.ed.hidden; paths = c.drop_each.new.s.ed.paths; trees = c.drop_each.new.s.ed.trees; entries = c.drop_each.new.s.ed.entries; names = c.drop_each.new.s.ed.names; «open» = c.drop_each.new.s.ed.«open»; aside = 0; stacked = 0; asked = c.drop_each.new.s.ed.asked } in record {
      cache = cached_same a.width s.plens.now s.paths.now s.tlens.now s.trees.now c.drop_each.new.s.plens.now c.drop_each.new.s.paths.now c.drop_each.new.s.tlens.now c.drop_each.new.s.trees.now s.ed q
          (record { p = L.plens_64; t = L.tlens_64; p' = L'.plens_64; t' = L'.tlens_64 }) refl (λ j h z. c.drop_each.ensures.others j (left_out s.ed ks b.marks a.start t.3 c.clear-gone.result c.clear-gone.ensures j z));
      between = λ order l. left_between s.ed ks b.marks a.start t.3 c.clear-gone.result c.clear-gone.ensures c.drop_each.new.s.ed c.drop_each.ensures.free q refl refl (low c.drop_each.new.s.ed.«open» s.ed.«open» w.«open» b.under_way) (omega (arith, w.«open», b.from)) refl refl order l;
      laid = laid_same a.width c.drop_each.new.s.ed q c.drop_each.new.s.plens.now c.drop_each.new.s.paths.now c.drop_each.new.s.tlens.now c.drop_each.new.s.trees.now (record { free = refl; paths = refl; trees = refl; entries = refl; names = refl }) L';
      others = c.drop_each.ensures.others a.start (left_self s.ed ks b.marks a.start t.3 c.clear-gone.result c.clear-gone.ensures);
      same = (refl, w.«open», refl, refl);
      lent = record { plens = l.plens; paths = l.paths; tlens = l.tlens; trees = l.trees };
    }
