-- `store_slots::drop_all` meets its contract: with every length 0, no run has a byte. Assumes nothing.
use mathlib.Core.Path.{refl, ap, ◌∙◌}
use Prim.Native.Nat.{ℕ}
use lib.ListN.{replicate}
use Rattle.store_slots.proofs.Emptied.{none_view, none_laid}
use Rattle.store_slots.proofs.Store.drop_all.Goals as goal

pub returns : goal.returns
returns c =
    let a = c.args in
    let s = c.args.self.now in
    let e = c.clear.ensures ∙ ap (λ (n : ℕ). replicate n 0) c.requires.0 in
    let f = c.clear-2.ensures ∙ ap (λ (n : ℕ). replicate n 0) c.requires.1 in
    let x = c.clear.new.lens in
    let y = c.clear-2.new.lens in
    record { view = none_view a.width x s.paths.now y s.trees.now e f; laid = none_laid a.width x s.paths.now y s.trees.now e f c.requires.2 c.requires.3; «record» = refl; bytes = (refl, refl); lent = record { plens = refl; paths = refl; tlens = refl; trees = refl } }
