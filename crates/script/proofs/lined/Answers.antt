use borrow.Author.Rules.{rules}
use Rattle.ask.proofs.Called.{lines_numbered}
use Rattle.script.proofs.Opening.{route_prepared, routes_said}
use Rattle.script.proofs.lined.Goals as goal

pub lined-requires : goal.lined-requires
lined-requires c = search (route_prepared, rules)

pub returns : goal.returns
returns c = search (routes_said, lines_numbered, rules)
