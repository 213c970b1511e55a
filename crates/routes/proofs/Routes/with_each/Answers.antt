-- `with_each`: a walk through the places of the mask.
use mathlib.Core.Path.{ap, ◌∙◌}
use mathlib.Core.List.{[], ◌∷◌}
use native.Mathlib.Omega.{arith}
use Rattle.lists.specs.Lists.{select}
use Rattle.routes.specs.Listing.{leaves_some, with_routes}
use Rattle.routes.proofs.Listed.{at_start, at_more, at_falls, walk_start, walk_more, count_one, each_made}
use Rattle.routes.proofs.Routes.with_each.Goals as goal

pub loop-i-init : goal.loop-i-init
loop-i-init g c = (at_start c.next_bit-i.ensures, λ f h. walk_start c.args.self c.next_bit-i.ensures, omega arith)

pub loop-i-smaller : goal.loop-i-smaller
loop-i-smaller g c = at_falls c.loop-i.invariant.0 c.loop-i-test.true c.next_bit-i-in-loop-i.ensures

pub loop-i-preserved : goal.loop-i-preserved
loop-i-preserved g c =
    let a = c.args in
    let l = c.loop-i in (
      at_more c.loop-i-test.true c.next_bit-i-in-loop-i.ensures,
      λ f h.
          walk_more (l.invariant.1 f h) c.loop-i-test.true (c.with_leaving-r.ensures.0 ∙ ap (λ x. with_routes l.r (select (leaves_some a.g a.shown.now) (x ∷ []))) (h l.i _ c.loop-i-test.true c.route.ensures))
          c.next_bit-i-in-loop-i.ensures,
      count_one a.m l.i c.loop-i-test.true c.next_bit-i-in-loop-i.ensures _ _ _ l.invariant.2 c.with_leaving-r.ensures.1,
    )

pub returns-clause-routes : goal.returns-clause-routes
returns-clause-routes g c = λ f h. each_made c.args.g c.args.shown.now f (c.loop-i.invariant.1 f h) c.loop-i-test.false

pub returns-clause-count : goal.returns-clause-count
returns-clause-count g c = let w = c.loop-i.invariant.0.within in omega (arith, c.loop-i.invariant.2)
