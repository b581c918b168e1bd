-- What a comparison of keys answers. Assumes nothing.
use Rattle.std.specs.Prelude.{Bool}
use Rattle.std.specs.Cmp.Lexicographic.{pointwise, slice_cmp}
use Rattle.std.specs.Ordering.{on, nat_cmp}
use Rattle.std.specs.Prelude.{nat_eq}
use Rattle.std.specs.declared.cmp.Ordering.{Ordering}
use Rattle.model.specs.Bytes.{Bytes}
use Rattle.model.specs.Tree.{as_kind}
use Rattle.names.specs.declared.order.Key.{Key}

-- the bytes that an entry is ordered by
abbrev pub ordered : Key → Bytes
ordered k = as_kind k.tree k.name.now

-- keys are equal where these bytes are, and are in the order of these
abbrev pub key_eq : Key → Key → Bool
key_eq = on ordered (pointwise nat_eq)

abbrev pub key_cmp : Key → Key → Ordering
key_cmp = on ordered (slice_cmp nat_cmp)
