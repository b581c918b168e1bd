-- `names_salvage::table::begins_at` meets its contract: what a good name shares with the bytes it shares with the entry's name, so it is all of it exactly if the entry's name begins with it. Assumes nothing.
use mathlib.Core.Path.{ap, ◌∙◌}
use native.Mathlib.Omega.{arith}
use Prim.Native.Nat.{ℕ}
use lib.ListN.{drop}
use Rattle.names_salvage.specs.Answers.{empty}
use Rattle.names_salvage.proofs.StandLaws.{begun_by, begun_past}
use Rattle.names_salvage.proofs.table.begins_at.Goals as goal

pub returns-in-Some : goal.returns-in-Some
returns-in-Some c =
    let a = c.args in
    let q = c.in-Some.ensures.lookup.3 in
    λ t l.
    begun_by l a.name.now a.i c.requires (omega (arith, q.0)) c.in-Some.slot.now
    (q.1 empty)
    c.shared.ensures
    (c.after.ensures ∙ ap (λ (k : ℕ). drop k a.raw.now) c.name_at.ensures)

pub returns-in-None : goal.returns-in-None
returns-in-None c =
    let a = c.args in
    λ t l. begun_past l a.name.now a.i (omega (arith, c.in-None.ensures.lookup.3))
