-- The output has room for all that there is to be written, and its front is what the run wrote.
use Rattle.std.proofs.Common.{◌≡◌, ℕ, List, OnOk, take, arith, rules, ap, ◌∙◌, subst}
use Rattle.std.specs.Io.KnownBytes.{Appends}
use Rattle.names.proofs.WriteLaws.{splice_front}
use Rattle.small_run.specs.Puts.{PutAt}
use Rattle.small.proofs.answer.answer.Goals as goal

-- what stands at the front is what was put there
front_put : (d s e : List ℕ) (n : ℕ) → PutAt d 0 s n e → take n e ≡ s
front_put d s e n p = ap (take n) p.done ∙ splice_front d s n (omega (arith, p.next))

pub returns : goal.returns
returns g c = subst (λ (b : List ℕ). OnOk c.write_all.result (Appends (g.W.Write.contents c.args.writer.now) (g.W.Write.contents c.write_all.new.self) b)) (c.front.ensures ∙ front_put _ _ _ _ c.in-Some.ensures.output) c.write_all.ensures.bytes

pub unreachable-requires : goal.unreachable-requires
unreachable-requires g c = let w = (c.in-None.ensures.whole (search rules)).1 in cc
