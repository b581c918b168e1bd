-- What is used, as the model counts it. Assumes nothing.
use Rattle.std.specs.Prelude.{◌-◌}
use Rattle.model.specs.Measure.{Counts as Model}
use Rattle.store_runs.specs.Digits.{digits}
use Rattle.store_runs.specs.Runs.{total}
use Rattle.store_slots.specs.declared.Record.{Record}
use Rattle.editor_walk.specs.declared.counts.Counts.{Counts}

abbrev pub counts_as : Counts → Model
counts_as u = record { trees = u.trees; entries = u.entries; names = u.names; paths = u.paths }

-- what a record says of its trees; in a store that is laid out, it is what the model counts
abbrev pub record_counts : Record → Model
record_counts r = record { trees = 64 - total (digits 64 r.free); entries = r.entries; names = r.names; paths = r.paths }
