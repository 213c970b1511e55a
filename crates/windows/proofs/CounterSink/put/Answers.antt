use Prim.Native.Nat.{◌≤◌}
use borrow.Author.Tests.{ltb-false}
use Rattle.windows.proofs.Picks.{count_kept, count_left}
use Rattle.windows.proofs.CounterSink.put.Goals as goal

pub returns-then-not-passes_all : goal.returns-then-not-passes_all
returns-then-not-passes_all c = search count_left

pub returns : goal.returns
returns c =
    let h : c.args.rows ≤ c.args.self.now.room = ltb-false c.args.self.now.room c.args.rows c.requires.1 in
    search count_kept
