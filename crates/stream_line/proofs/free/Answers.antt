-- `free`: by the stream's name, then the columns'.
use Rattle.stream_line.proofs.Names.{line_frees}
use Rattle.stream_line.proofs.free.Goals as goal

pub returns-then-not-free_name : goal.returns-then-not-free_name
returns-then-not-free_name c = search line_frees

pub returns : goal.returns
returns c = search line_frees
