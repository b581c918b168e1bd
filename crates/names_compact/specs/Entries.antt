-- What an entry that a reader of a tree gives is. Assumes nothing.
use Rattle.model.specs.Tree as model
use Rattle.names.specs.Answers.{entry}
use Rattle.names.specs.declared.write.Entry.{Entry}

-- the entry that it shows
abbrev pub shown : Entry → model.Entry
shown e = entry e.kind e.name.now e.id.now
