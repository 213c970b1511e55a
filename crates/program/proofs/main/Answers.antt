use mathlib.Core.Path.{refl, sym}
use Prim.Native.Nat.{ℕ}
use lib.ListN.{length-replicate}
use Rattle.program.proofs.Whole.{lent_main}
use Rattle.program.proofs.main.Goals as goal

pub do_all-r-requires : goal.do_all-r-requires
do_all-r-requires c = lent_main c.new.ensures (sym (length-replicate {A = ℕ} 65536 0)) refl refl refl refl
