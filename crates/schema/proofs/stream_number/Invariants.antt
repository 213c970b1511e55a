-- `stream_number`: the streams passed have other names.
use mathlib.Core.Path.{◌≡◌}
use Prim.Native.Nat.{◌+◌}
use Rattle.lists.specs.Lists.{position}
use Rattle.calls.specs.Names.{stream_number}
use Rattle.text.specs.Words.{name_of}
use Rattle.schema.specs.Schemas.{schema_of}
use Rattle.schema.proofs.Lookups.{names}
use Rattle.schema.proofs.stream_number.Given as goal

abbrev pub invariant-loop-s : goal.invariant-loop-s
invariant-loop-s l = (stream_number (schema_of l.names) (name_of l.code) ≡ l.s + position (name_of l.code) (names l.names l.s l.n))
