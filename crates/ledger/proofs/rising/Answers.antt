use Rattle.ledger.proofs.Bounds.{rising_first, rising_second, rising_third, rising_last}
use Rattle.ledger.proofs.rising.Goals as goal

ruleset ends = (rising_first, rising_second, rising_third, rising_last)

pub returns-then-a-low : goal.returns-then-a-low
returns-then-a-low c = search ends

pub returns-then-b-a : goal.returns-then-b-a
returns-then-b-a c = search ends

pub returns-then-c-b : goal.returns-then-c-b
returns-then-c-b c = search ends

pub returns : goal.returns
returns c = search ends
