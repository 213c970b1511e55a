-- `columns_mask`: the bits of the streams passed.
use mathlib.Core.Path.{◌≡◌}
use lib.Bits.{bit_or}
use lib.ListN.{drop}
use Rattle.grant.specs.Grants.{places_of, streams_mask}
use Rattle.grant.proofs.columns_mask.Given as goal

abbrev pub invariant-loop-s : goal.invariant-loop-s
invariant-loop-s l = streams_mask l.names (places_of l.count l.fn.streams) ≡ bit_or l.m (streams_mask l.names (drop l.s-index l.s-items))
