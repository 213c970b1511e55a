use Rattle.windows.proofs.Picks.{put_left, put_kept}
use Rattle.windows.proofs.WriterSink.put.Goals as goal

pub returns-then-not-passes_all : goal.returns-then-not-passes_all
returns-then-not-passes_all c = search put_left

pub returns : goal.returns
returns c = search put_kept
