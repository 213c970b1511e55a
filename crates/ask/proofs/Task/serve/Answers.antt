use borrow.Author.Rules.{rules}
use Rattle.ask.proofs.Running.{run_ready, run_full, put_ready, run_filled}
use Rattle.ask.proofs.Task.serve.Goals as goal

pub fits-requires : goal.fits-requires
fits-requires c = let k = c.requires in (run_ready _ _ _ k.ready c.args.cells.now k.listed k.some k.few k.all k.each, search rules)

pub returns-in_default : goal.returns-in_default
returns-in_default c = let k = c.requires in run_full _ _ _ k.ready _ k.listed k.some k.few k.all (rw c.in_default.is at c.fits.ensures.1) c.fits.ensures.0 c.refused.ensures

pub put_all-requires : goal.put_all-requires
put_all-requires c =
    let k = c.requires in
    let x = put_ready _ _ _ k.ready _ k.listed k.some k.few k.all c.in-Some.ensures.1.0 c.fits.ensures.0 k.each in
    (x.0, x.1, c.in-Some.ensures.1.1)

pub returns : goal.returns
returns c = let k = c.requires in run_filled _ _ _ k.ready _ k.listed k.some k.few k.all c.in-Some.ensures.1.0 c.fits.ensures.0 c.put_all.ensures
