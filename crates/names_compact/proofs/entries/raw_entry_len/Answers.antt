-- `names_compact::entries::raw_entry_len` meets its contract: a mode has five digits for a tree and six for the others, beside a space and a NUL. Assumes nothing.
use mathlib.Core.Path.{sym, ◌∙◌}
use native.Mathlib.Omega.{arith}
use Rattle.names.specs.Answers.{as_mode, entry}
use Rattle.names.proofs.WriteLaws.{entry_long}
use Rattle.names_compact.proofs.CompactRawLaws.{octal_tree, octal_other}
use Rattle.names_compact.proofs.entries.raw_entry_len.Goals as goal

pub overflow_add-rest : goal.overflow_add-rest
overflow_add-rest c = omega (arith, entry_long (entry c.args.e.kind c.args.e.name.now c.args.e.id.now), c.requires)

pub overflow_add-rest-2 : goal.overflow_add-rest-2
overflow_add-rest-2 c = omega (arith, entry_long (entry c.args.e.kind c.args.e.name.now c.args.e.id.now), c.requires)

pub overflow_add-result : goal.overflow_add-result
overflow_add-result c = omega (arith, entry_long (entry c.args.e.kind c.args.e.name.now c.args.e.id.now), octal_tree (as_mode c.args.e.kind) (sym c.is_tree.ensures ∙ c.if-is_tree.true), c.requires)

pub overflow_add-result-else-is_tree : goal.overflow_add-result-else-is_tree
overflow_add-result-else-is_tree c = omega (arith, entry_long (entry c.args.e.kind c.args.e.name.now c.args.e.id.now), octal_other (as_mode c.args.e.kind) (sym c.is_tree.ensures ∙ c.if-is_tree.false), c.requires)

pub returns-then-is_tree : goal.returns-then-is_tree
returns-then-is_tree c = omega (arith, entry_long (entry c.args.e.kind c.args.e.name.now c.args.e.id.now), octal_tree (as_mode c.args.e.kind) (sym c.is_tree.ensures ∙ c.if-is_tree.true))

pub returns-else-is_tree : goal.returns-else-is_tree
returns-else-is_tree c = omega (arith, entry_long (entry c.args.e.kind c.args.e.name.now c.args.e.id.now), octal_other (as_mode c.args.e.kind) (sym c.is_tree.ensures ∙ c.if-is_tree.false))
