use native.Mathlib.Omega.{arith}
use Rattle.console.proofs.Keeping.{keep_copied}
use Rattle.console.proofs.keep.Goals as goal

pub returns : goal.returns
returns c = keep_copied c.args.line.now c.args.part.now c.args.kept c.min-k.ensures c.min-n.ensures (omega arith) c.copy_from_slice.ensures.after
