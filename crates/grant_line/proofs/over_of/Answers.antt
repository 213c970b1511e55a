use Rattle.grant_line.proofs.Tests.{over_ends}
use Rattle.grant_line.proofs.over_of.Goals as goal

pub returns-then-h : goal.returns-then-h
returns-then-h c = search over_ends

pub returns-then-o : goal.returns-then-o
returns-then-o c = search over_ends

pub returns-then-w : goal.returns-then-w
returns-then-w c = search over_ends

pub returns-then-c : goal.returns-then-c
returns-then-c c = search over_ends

pub returns-then-c-2 : goal.returns-then-c-2
returns-then-c-2 c = search over_ends

pub returns-then-e : goal.returns-then-e
returns-then-e c = search over_ends

pub returns-then-e-2 : goal.returns-then-e-2
returns-then-e-2 c = search over_ends

pub returns : goal.returns
returns c = search over_ends
