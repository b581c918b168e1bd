-- `names_compact::judge::end_of` meets its contract: each test is one of those that the definition makes before it says where the entry ends. Assumes nothing.
use mathlib.Core.Path.{ap, ◌∙◌}
use native.Mathlib.Omega.{arith}
use Rattle.names_compact.proofs.JudgeLaws.{end_kind, end_short, end_far, end_there}
use Rattle.names_compact.specs.Judge.{end_as}
use Rattle.names_compact.proofs.judge.end_of.Goals as goal
use Rattle.names_compact.proofs.judge.end_of.Goals.{then-room-n-via-then-room-n, then-room-n-via-else-room-n+then-tree-at-gt4}

pub returns-in_err-checked_sub : goal.returns-in_err-checked_sub
returns-in_err-checked_sub c = ap end_as c.from_residual.ensures ∙ end_short _ _ _ (omega arith)

pub returns-in_err-checked_sub-2 : goal.returns-in_err-checked_sub-2
returns-in_err-checked_sub-2 c = ap end_as c.from_residual-in_err-checked_sub-2.ensures ∙ end_short _ _ _ (omega arith)

pub returns-in_err-room : goal.returns-in_err-room
returns-in_err-room c = ap end_as c.from_residual-in_err-room.ensures ∙ end_far _ _ _ (omega arith)

pub returns-then-room-n : goal.returns-then-room-n
returns-then-room-n c =
    elim c.then-room-n.branch [
      | then-room-n-via-then-room-n w ↦ end_far _ _ _ (omega arith)
      | then-room-n-via-else-room-n+then-tree-at-gt4 w ↦ end_kind _ _ _ (omega arith)
    ]

pub returns : goal.returns
returns c = end_there _ _ _ (omega arith) (omega arith)
