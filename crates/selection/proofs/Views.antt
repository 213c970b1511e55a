-- The rows that conditions select, with the caller's values put into the conditions.
use mathlib.Core.Path.{◌≡◌, refl, sym, ap₂, ◌∙◌}
use mathlib.Core.List.{List, [], ◌∷◌, map}
use mathlib.Core.Bool.{Bool, true, false, ◌&&◌, not}
use Prim.Native.Nat.{ℕ}
use lib.IntN.{ℤ}
use borrow.Author.Tests.{not-true, not-false}
use Rattle.lists.specs.Lists.{every}
use Rattle.syntax.specs.Grammar.{Cond}
use Rattle.model.specs.Queries.{Compare}
use Rattle.model.specs.Conditions.{true_of}
use Rattle.model.specs.Meaning.{compare_holds, holds}
use Rattle.model.specs.Grants.{fill, fill_compare}
use Rattle.model.proofs.Conditions.{true_map}
use Rattle.nodes.specs.Nodes.{conditions_of}
use Rattle.rows.specs.declared.Rows.{Rows}
use Rattle.rows.specs.Masks.{no_rows}
use Rattle.rows.proofs.Masks.{rows_alike}
use Rattle.selection.specs.declared.Scope.{Scope}
use Rattle.selection.specs.Scopes.{scope_fits, scope_columns, scope_row, profile_in, cond_at, holds_at, meets, selected, selected_all}
use Rattle.selection.specs.Evaluating.{test_at, passing, all_passing, list_passing, list_at}

-- ---- to put values into the comparisons of a condition is to put them in where each is tried

module _ (sc : Scope) (ts : List ℕ) (vs : List ℤ) (ps : List ℕ) where
  filled_holds : (i : ℕ) (c : Cond Compare) → true_of (test_at sc ts vs ps i) c ≡ holds_at sc ts vs (fill (profile_in ps) c) i
  unfolding test_at holds_at holds fill
  filled_holds i c = sym (true_map (compare_holds (scope_columns sc) (scope_row sc ts vs i)) (fill_compare (profile_in ps)) c)

  filled_every : (i : ℕ) (cs : List (Cond Compare)) → every (true_of (test_at sc ts vs ps i)) cs ≡ meets sc ts vs (map (fill (profile_in ps)) cs) i
  unfolding every meets holds_at
  filled_every i [] = refl
  filled_every i (c ∷ cs) = ap₂ ◌&&◌ (filled_holds i c) (filled_every i cs)

  module _ (ws : List ℕ) (n : ℕ) {b : Bool} (e : b ≡ scope_fits sc ts vs) {x : Rows} where
    pub condition_short : not b ≡ true → x ≡ no_rows → x ≡ selected sc ts vs (fill (profile_in ps) (cond_at ws n))
    unfolding selected
    condition_short h f = rw (sym e ∙ not-true b h) f

    pub condition_end : not b ≡ false → x ≡ passing sc ts vs ps (cond_at ws n) → x ≡ selected sc ts vs (fill (profile_in ps) (cond_at ws n))
    unfolding selected passing
    condition_end h f =
        rw (sym e ∙ not-false b h)
        (f ∙ rows_alike (λ i. true_of (test_at sc ts vs ps i) (cond_at ws n)) (holds_at sc ts vs (fill (profile_in ps) (cond_at ws n))) 0 sc.rows (λ i k l. filled_holds i (cond_at ws n)))

    pub conditions_short : not b ≡ true → x ≡ no_rows → x ≡ selected_all sc ts vs (map (fill (profile_in ps)) (conditions_of ws n))
    unfolding selected_all
    conditions_short h f = rw (sym e ∙ not-true b h) f

    pub conditions_end : not b ≡ false → x ≡ list_passing false sc ts vs ps (list_at ws 0 n) → x ≡ selected_all sc ts vs (map (fill (profile_in ps)) (conditions_of ws n))
    unfolding selected_all list_passing all_passing list_at conditions_of
    conditions_end h f =
        rw (sym e ∙ not-false b h)
        (f ∙ rows_alike (λ i. every (true_of (test_at sc ts vs ps i)) (conditions_of ws n)) (meets sc ts vs (map (fill (profile_in ps)) (conditions_of ws n))) 0 sc.rows (λ i k l. filled_every i (conditions_of ws n)))

pub ruleset view_ends = (condition_short, condition_end, conditions_short, conditions_end)
