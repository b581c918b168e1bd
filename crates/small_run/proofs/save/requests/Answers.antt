-- `small_run::save::requests` meets its contract: what was told and what is left to tell are the lines of the write; it ends, since each answer leaves fewer trees. Assumes nothing.
use native.Mathlib.Omega.{arith}
use borrow.Author.Rules.{rules}
use Rattle.editor.specs.Lent.{lent_in}
use Rattle.small_run.proofs.PutLaws.{put_told, put_refused}
use Rattle.small_run.proofs.SaveLaws.{open_none, open_some, saving_begin, saving_less, saving_more, saving_stop, saving_end}
use Rattle.small_run.proofs.save.requests.Goals as goal

pub loop-s-init : goal.loop-s-init
loop-s-init c =
    let a = c.args in
    record { law = saving_begin (lent_in a.s.now a.order.now) a.out.now a.to a.raw.now c.requires.0 c.requires.1 c.requires.2; lent = search rules }

pub make_request-requires : goal.make_request-requires
make_request-requires c =
    let m = c.loop-s.invariant.law in
    (m.good, m.room, m.within, open_some (lent_in c.loop-s.s c.loop-s.order) c.loop-s-test.true)

pub loop-s-smaller : goal.loop-s-smaller
loop-s-smaller c =
    let (h, q) = open_some (lent_in c.loop-s.s c.loop-s.order) c.loop-s-test.true in
    omega (arith, saving_less c.loop-s.invariant.law h q c.make_request.ensures.editor)

pub loop-s-preserved : goal.loop-s-preserved
loop-s-preserved c =
    let (h, q) = open_some (lent_in c.loop-s.s c.loop-s.order) c.loop-s-test.true in
    record {
      law = saving_more c.loop-s.invariant.law h q c.make_request.ensures.editor (put_told (c.make_request.ensures.put h q) c.in_ok-at.was) _ (search rules);
      lent = search (rules, c.loop-s.invariant.lent, c.make_request.ensures.lent);
    }

pub returns-in_err-at-clause-put : goal.returns-in_err-at-clause-put
returns-in_err-at-clause-put c =
    let (h, q) = open_some (lent_in c.loop-s.s c.loop-s.order) c.loop-s-test.true in
    rw c.from_residual.ensures (saving_stop c.loop-s.invariant.law h q (put_refused _ _ _ _ (c.make_request.ensures.put h q) c.in_err-at.was))

pub returns-clause-put : goal.returns-clause-put
returns-clause-put c = saving_end c.loop-s.invariant.law (open_none (lent_in c.loop-s.s c.loop-s.order) c.loop-s-test.false) _ c.counted.ensures c.put_hex_line.result c.put_hex_line.new.out c.put_hex_line.ensures
