-- `stream_place`: a place among the four fits.
use native.Mathlib.Omega.{arith}
use Prim.Native.Nat.{◌≤◌}
use Rattle.terms.proofs.Codes.{found_few, stream_there}
use Rattle.terms.proofs.stream_place.Goals as goal

pub overflow_cast-result : goal.overflow_cast-result
overflow_cast-result c = let h : c.find.result ≤ 4 = search found_few in omega arith

pub returns : goal.returns
returns c = search stream_there
