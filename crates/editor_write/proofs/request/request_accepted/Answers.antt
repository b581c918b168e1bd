-- `editor_write::request::request_accepted` meets its contract: a store with no open write is refused, then the request is read in the fronts. Assumes nothing.
use mathlib.Core.Path.{refl, sym}
use lib.Seq.{length-take-le}
use Rattle.editor.specs.Lent.{lent_seen}
use Rattle.editor.proofs.LookLaws.{trees_long}
use Rattle.editor_write.proofs.RequestLaws.{none_open, answers, asked_of, can_read, brief}
use Rattle.editor_write.proofs.request.request_accepted.Goals as goal

pub returns-then-v-eq0 : goal.returns-then-v-eq0
returns-then-v-eq0 c order g = none_open (lent_seen c.args.v order) c.args.out.now g c.if-v-eq0.true

pub slice_bounds-fronts-end-4 : goal.slice_bounds-fronts-end-4
slice_bounds-fronts-end-4 c = sym (length-take-le 38912 c.args.v.trees.now (trees_long _ _ _ _ _ _ c.requires.1))

pub request_held-requires : goal.request_held-requires
request_held-requires c = can_read (lent_seen c.args.v c.requires.0) c.requires.1 c.if-v-eq0.false

pub returns : goal.returns
returns c order g =
    let v = c.args.v in
    let s = lent_seen v order in
    answers s c.args.out.now g c.request_held.result c.request_held.new.out (c.request_held.ensures _ _ (asked_of v.ed.«open» _ _ _ _ c.if-v-eq0.false) refl (brief s g c.if-v-eq0.false))
