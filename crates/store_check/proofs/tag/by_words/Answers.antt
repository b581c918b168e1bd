-- `store_check::tag::by_words` meets its contract: the word is that of the first i bytes, and then of the last four too. Assumes nothing.
use mathlib.Core.Path.{◌≡◌, ap, ◌∙◌}
use Prim.Native.Nat.{ℕ}
use native.Mathlib.Omega.{arith}
use Rattle.store_check.specs.Tag.{turned}
use Rattle.store_check.proofs.TagLaws.{words_none, words_more, words_all}
use Rattle.store_check.proofs.tag.by_words.Goals as goal
use Rattle.store_check.proofs.tag.by_words.Goals.{else-loop-i-test, then-loop-i-test+else-last-i-gt4}

pub loop-i-init : goal.loop-i-init
loop-i-init c = words_none _ c.requires

pub loop-i-preserved : goal.loop-i-preserved
loop-i-preserved c = words_more c.loop-i.invariant _ _ c.loop-i-test.true c.word_at.ensures c.rotate_xor-h.ensures

pub returns : goal.returns
returns c =
    let last = λ (h : ℕ) (e : c.loop-i-test.h ≡ h). c.rotate_xor.ensures ∙ ap (λ (x : ℕ). turned x c.word_at-2.result) e in
    elim c.loop-i-test.branch [
      | else-loop-i-test w ↦ words_all c.loop-i.invariant _ _ (omega arith) c.word_at-2.ensures (last _ w.h-is)
      | then-loop-i-test+else-last-i-gt4 w ↦ words_all (words_more c.loop-i.invariant _ _ (omega arith) w.word_at.ensures w.rotate_xor-h.ensures) _ _ (omega arith) c.word_at-2.ensures (last _ w.h-is)
    ]
