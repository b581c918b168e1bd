-- `editor_walk::measure::cached` meets its contract: a tree over a limit by itself passes it, and the counts decide otherwise. Assumes nothing.
use mathlib.Core.Path.{sym, ◌∙◌}
use mathlib.Core.Logic.{inl, inr}
use Rattle.editor_walk.proofs.MeasureLaws.{cached_entries, cached_names, cached_past, cached_on}
use Rattle.editor_walk.proofs.measure.cached.Goals as goal

pub returns-then-size-gt-ENTRIES : goal.returns-then-size-gt-ENTRIES
returns-then-size-gt-ENTRIES c =
    elim c.then-size-gt-ENTRIES.either [ inl h ↦ cached_entries h | inr h ↦ cached_names h.1 ]

pub returns-then-not-within : goal.returns-then-not-within
returns-then-not-within c = cached_past c.with_tree-w.result c.with_tree-w.ensures (sym c.within.ensures ∙ c.if-not-within.true)

pub returns : goal.returns
returns c = cached_on c.with_tree-w.result c.with_tree-w.ensures (sym c.within.ensures ∙ c.if-not-within.false)
