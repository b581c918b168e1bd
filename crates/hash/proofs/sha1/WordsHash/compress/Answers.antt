-- `hash::sha1::Words::compress` meets its contract: turn by turn, over the schedule of the block. Assumes nothing.
use Rattle.std.proofs.Common.{◌≡◌, ℕ, get_or, refl, ap, ◌∙◌, arith}
use Rattle.hash.specs.Blocks.{turns}
use Rattle.hash.specs.Sha1.{turn, step, sums, compress}
use Rattle.hash.specs.declared.sha1.Words.{Words}
use Rattle.hash.proofs.Laws.{turns_more, turn_first, turn_second, turn_third, turn_last}
use Rattle.hash.proofs.sha1.WordsHash.compress.Goals as goal

pub first-init : goal.first-init
unfolding turns
first-init c = refl

pub first-preserved : goal.first-preserved
first-preserved c =
    let l = c.first in
    let W = c.schedule-w.result in
    turns_more turn W c.args.self l.s _ l.t l.invariant
    (c.turn-s.ensures ∙ ap (λ (x : ℕ). step x 0x5a827999 (get_or W l.t 0) l.s) c.ch.ensures ∙ turn_first l.s l.t (get_or W l.t 0) (omega arith))

pub second-init : goal.second-init
second-init c =
    let e : c.first.t ≡ 20 = omega arith in
    rw e at c.first.invariant

pub second-preserved : goal.second-preserved
second-preserved c =
    let l = c.second in
    let W = c.schedule-w.result in
    turns_more turn W c.args.self l.s _ l.t l.invariant
    (c.turn-s-in-second.ensures ∙ ap (λ (x : ℕ). step x 0x6ed9eba1 (get_or W l.t 0) l.s) c.parity.ensures ∙ turn_second l.s l.t (get_or W l.t 0) (omega arith) (omega arith))

pub third-init : goal.third-init
third-init c =
    let e : c.second.t ≡ 40 = omega arith in
    rw e at c.second.invariant

pub third-preserved : goal.third-preserved
third-preserved c =
    let l = c.third in
    let W = c.schedule-w.result in
    turns_more turn W c.args.self l.s _ l.t l.invariant
    (c.turn-s-in-third.ensures ∙ ap (λ (x : ℕ). step x 0x8f1bbcdc (get_or W l.t 0) l.s) c.maj.ensures ∙ turn_third l.s l.t (get_or W l.t 0) (omega arith) (omega arith))

pub last-init : goal.last-init
last-init c =
    let e : c.third.t ≡ 60 = omega arith in
    rw e at c.third.invariant

pub last-preserved : goal.last-preserved
last-preserved c =
    let l = c.last in
    let W = c.schedule-w.result in
    turns_more turn W c.args.self l.s _ l.t l.invariant
    (c.turn-s-in-last.ensures ∙ ap (λ (x : ℕ). step x 0xca62c1d6 (get_or W l.t 0) l.s) c.parity-in-last.ensures ∙ turn_last l.s l.t (get_or W l.t 0) (omega arith))

pub returns : goal.returns
unfolding compress
returns c =
    let e : c.last.t ≡ 80 = omega arith in
    c.sums.ensures ∙ ap (λ (u : Words). sums u c.args.self) (rw (e, c.schedule-w.ensures) at c.last.invariant)
