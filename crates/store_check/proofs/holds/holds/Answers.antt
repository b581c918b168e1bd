-- `store_check::holds::holds` meets its contract: slices that are too short are no store, and the fronts of the others decide. Assumes nothing.
use native.Mathlib.Omega.{arith}
use lib.Seq.{length-take-le}
use Rattle.model.specs.Formats.{sha1}
use Rattle.store_check.proofs.Deciding.{refuses}
use Rattle.store_check.proofs.StoredLaws.{sha1_width, sha1_room, stored_decides}
use Rattle.store_check.proofs.holds.holds.Goals as goal

pub returns-then-plens-lt-SLOTS : goal.returns-then-plens-lt-SLOTS
returns-then-plens-lt-SLOTS c = refuses (λ h. omega (arith, h.plens_room, h.paths_room, h.tlens_room, h.trees_room, sha1_room, h.order_room, c.then-plens-lt-SLOTS.either))

pub invariant_of-exact : goal.invariant_of-exact
invariant_of-exact c =
    let a = c.args.v in
    record {
      plens_64 = length-take-le 64 a.plens.now c.if-plens-lt-SLOTS.false;
      paths_room = length-take-le 8192 a.paths.now c.if-paths-lt-PATH_BYTES.false;
      tlens_64 = length-take-le 64 a.tlens.now c.if-tlens-lt-SLOTS.false;
      trees_room = length-take-le 38912 a.trees.now c.if-trees-lt-TREE_BYTES.false;
      order_64 = length-take-le 64 c.args.order.now c.if-order-lt-SLOTS.false;
      narrow = omega arith;
    }

pub returns : goal.returns
returns c =
    let a = c.args.v in
    stored_decides a.ed a.plens.now a.paths.now a.tlens.now a.trees.now c.args.order.now c.exact.result
    c.if-plens-lt-SLOTS.false c.if-paths-lt-PATH_BYTES.false c.if-tlens-lt-SLOTS.false c.if-trees-lt-TREE_BYTES.false c.if-order-lt-SLOTS.false (c.exact.ensures sha1 sha1_width)
