-- `names_compact::compact::kind_byte` meets its contract: the kinds are declared in the order of their bytes. Assumes nothing.
use mathlib.Core.Path.{◌≡◌, refl}
use denote.Enum.Declared.{tag_of}
use Rattle.names.specs.Answers.{as_mode}
use Rattle.names.specs.contracts.mode.EntryKind.{the_type}
use Rattle.names.specs.declared.mode.EntryKind.{EntryKind}
use Rattle.names.specs.declared.mode.EntryKind.TheVariants.{Tree, Blob, BlobExecutable, Link, Commit}
use Rattle.names_compact.specs.Compact.{kind_of}
use Rattle.names_compact.proofs.compact.kind_byte.Goals as goal

tag_is : (k : EntryKind) → tag_of the_type k ≡ kind_of (as_mode k)
unfolding kind_of
tag_is Tree = refl
tag_is Blob = refl
tag_is BlobExecutable = refl
tag_is Link = refl
tag_is Commit = refl

pub returns : goal.returns
returns c = tag_is c.args.kind
