use borrow.Author.Rules.{rules}
use Rattle.print_query.proofs.Lines.{line_ends}
use Rattle.print_query.proofs.line.Goals as goal
use Rattle.print_query.proofs.line.Goals.{then-k-ge-FURTHEST-via-then-k-ge-FURTHEST, then-k-ge-FURTHEST-via-else-k-ge-FURTHEST+then-out-k}

pub returns-then-k-ge-FURTHEST : goal.returns-then-k-ge-FURTHEST
returns-then-k-ge-FURTHEST c =
    elim c.then-k-ge-FURTHEST.branch [ then-k-ge-FURTHEST-via-then-k-ge-FURTHEST w ↦ search (line_ends, rules) | then-k-ge-FURTHEST-via-else-k-ge-FURTHEST+then-out-k w ↦ search (line_ends, rules) ]

pub returns : goal.returns
returns c = search (line_ends, rules)
