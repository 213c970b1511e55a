-- `stream_sound`: no number at all where the stream is not declared, or none after the last column.
use native.Mathlib.Omega.{arith}
use Prim.Native.Nat.{◌≤◌}
use Rattle.schema.proofs.Tests.{columns_few, stream_ends}
use Rattle.schema.proofs.stream_sound.Goals as goal

pub returns-then-n-s : goal.returns-then-n-s
returns-then-n-s c = search stream_ends

pub overflow_add-at-2 : goal.overflow_add-at-2
overflow_add-at-2 c = let h : c.filled-w.result ≤ 6 = search columns_few in omega arith

pub overflow_sub-w : goal.overflow_sub-w
overflow_sub-w c = search columns_few

pub zeros-requires-2 : goal.zeros-requires-2
zeros-requires-2 c = let h : c.filled-w.result ≤ 6 = search columns_few in omega arith

pub returns-then-not-zeros : goal.returns-then-not-zeros
returns-then-not-zeros c = search stream_ends

pub returns-then-w-eq0 : goal.returns-then-w-eq0
returns-then-w-eq0 c = search stream_ends

pub named-requires : goal.named-requires
named-requires c = let h : c.filled-w.result ≤ 6 = search columns_few in omega arith

pub returns : goal.returns
returns c = search stream_ends
