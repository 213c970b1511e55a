use borrow.Author.Rules.{rules}
use Rattle.ask.proofs.Lines.{natural_read, print_none, print_past, print_many, print_full, print_filled}
use Rattle.ask.proofs.print.Goals as goal

pub returns-then-k-eq0 : goal.returns-then-k-eq0
returns-then-k-eq0 c = print_none _ _ _ c.requires _ _ c.routes-r.ensures (natural_read _ (search rules) c.natural-k.ensures) c.if-k-eq0.true c.refused.ensures

pub returns-then-r-k : goal.returns-then-r-k
returns-then-r-k c = print_past _ _ _ c.requires _ _ c.routes-r.ensures (natural_read _ (search rules) c.natural-k.ensures) c.if-r-k.true c.refused-then-r-k.ensures

pub returns-then-r-gt-MOST : goal.returns-then-r-gt-MOST
returns-then-r-gt-MOST c = print_many _ _ _ c.requires _ _ c.routes-r.ensures (natural_read _ (search rules) c.natural-k.ensures) c.if-k-eq0.false c.if-r-k.false c.if-r-gt-MOST.true c.refused-then-r-gt-MOST.ensures

pub returns-then-not-p : goal.returns-then-not-p
returns-then-not-p c = print_full _ _ _ c.requires _ _ c.routes-r.ensures (natural_read _ (search (c.struct_told-1.given, rules)) c.natural-k.ensures) c.if-k-eq0.false c.if-r-k.false c.if-r-gt-MOST.false c.route.ensures c.of-y.ensures c.write_line-p.ensures c.if-not-p.true c.refused-then-not-p.ensures

pub returns : goal.returns
returns c = print_filled _ _ _ c.requires _ _ c.routes-r.ensures (natural_read _ (search (c.struct_told-1.given, rules)) c.natural-k.ensures) c.if-k-eq0.false c.if-r-k.false c.if-r-gt-MOST.false c.route.ensures c.of-y.ensures c.write_line-p.ensures c.if-not-p.false
