use Rattle.grant.proofs.Tests.{window_ends}
use Rattle.grant.proofs.Grant.window_sound.Goals as goal

pub returns-then-self-gt-SUM : goal.returns-then-self-gt-SUM
returns-then-self-gt-SUM c = search window_ends

pub returns-then-self-ne0 : goal.returns-then-self-ne0
returns-then-self-ne0 c = search window_ends

pub returns-then-self-eq-READ : goal.returns-then-self-eq-READ
returns-then-self-eq-READ c = search window_ends

pub returns-then-self-gt-TOP : goal.returns-then-self-gt-TOP
returns-then-self-gt-TOP c = search window_ends

pub returns : goal.returns
returns c = search window_ends
