use Rattle.ask.proofs.Running.{run_none, run_many}
use Rattle.ask.proofs.run.Goals as goal

pub returns-then-task-eq0 : goal.returns-then-task-eq0
returns-then-task-eq0 c = run_none _ _ _ c.requires _ c.routes.ensures c.if-task-eq0.true c.refused.ensures

pub returns-then-task-gt-MOST : goal.returns-then-task-gt-MOST
returns-then-task-gt-MOST c = run_many _ _ _ c.requires _ c.routes.ensures c.if-task-eq0.false c.if-task-gt-MOST.true c.refused-then-task-gt-MOST.ensures
