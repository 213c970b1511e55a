-- `put_cond` and `put_list`: a place falls from one to the other.
use Rattle.std.proofs.Common.{length, ◌≡◌, ◌-◌, ◌+◌, ◌*◌}
use Rattle.schema.specs.Schemas.{schema_of}
use Rattle.nodes.specs.Profiles.{profile_in}
use Rattle.print.specs.Texts.{values}
use Rattle.print.proofs.Conditions.{Left}
use Rattle.print.proofs.+put_cond_put_list.Given as goal

abbrev pub decreases-put_cond : goal.decreases-put_cond
decreases-put_cond l = 2 * l.k

abbrev pub decreases-put_list : goal.decreases-put_list
decreases-put_list l = 2 * l.list.end + 1

abbrev pub invariant-put_list-loop-at : goal.invariant-put_list-loop-at
invariant-put_list-loop-at l = Left (schema_of l.names) (values l.own (profile_in l.profile)) l.words l.list.stop l.list.end l.initial.out l.p l.at l.out l.q × (length l.out ≡ length l.initial.out)

abbrev pub decreases-put_list-loop-at : goal.decreases-put_list-loop-at
decreases-put_list-loop-at l = l.list.end - l.at
