-- A grant whose words are laid out as stored ones is the caller's by the walk over its words as by the definition.
use mathlib.Core.Path.{◌≡◌, sym, ap, ◌∙◌}
use mathlib.Core.List.{List, map}
use mathlib.Core.Bool.{◌&&◌}
use Prim.Native.Nat.{ℕ}
use lib.Dec.{T}
use Rattle.lists.specs.Lists.{every, some?, gather, same_list}
use Rattle.lists.proofs.Laws.{parts}
use Rattle.lists.proofs.Gathers.{every_gathers}
use Rattle.syntax.specs.Grammar.{Cond, Entry}
use Rattle.model.specs.Conditions.{tests}
use Rattle.model.specs.Queries.{Compare}
use Rattle.model.specs.Grants.{known, belongs}
use Rattle.text.specs.Words.{name_of}
use Rattle.nodes.specs.Nodes.{conditions_of}
use Rattle.grant.specs.Grants.{grant_of, grant_tidy, laid_out}
use Rattle.grant.specs.declared.Grant.{Grant}
use Rattle.comparisons.specs.Compared.{profile_in, compare_known}
use Rattle.comparisons.proofs.Walked.{laid_tests}
use Rattle.routes.specs.Opening.{caller_in, belongs_in}

known_tests : (p : List Entry) (cs : List (Cond Compare)) → every (known p) cs ≡ every (compare_known p) (gather tests cs)
unfolding known compare_known
known_tests p cs = sym (every_gathers (compare_known p) tests cs)

pub belongs_is : (ns : List ℕ) (g : Grant) (ws roles profile : List ℕ) → T (laid_out ws g.words) → belongs_in g ws roles profile ≡ belongs (caller_in roles profile) (grant_of ns g ws)
unfolding belongs_in belongs caller_in grant_of
belongs_is ns g ws roles profile t =
    ap (λ b. some? (same_list (name_of g.role)) (map name_of roles) && b)
    (ap (every (compare_known (profile_in profile))) (sym (laid_tests ws g.words t)) ∙ sym (known_tests (profile_in profile) (conditions_of ws g.words)))

-- what may be lent is laid out so
pub tidy_laid : (ns : List ℕ) (g : Grant) (ws : List ℕ) → T (grant_tidy ns g ws) → T (laid_out ws g.words)
unfolding grant_tidy
tidy_laid ns g ws t = search parts
