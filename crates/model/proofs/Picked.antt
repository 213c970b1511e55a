-- Picks that are put on a query leave its rows row by row.
use mathlib.Core.List.{List, [], ◌∷◌}
use Prim.Native.Nat.{ℕ}
use Rattle.syntax.specs.Grammar.{Cond}
use Rattle.model.specs.Queries.{Compare, Query, Caller, Record}
use Rattle.model.specs.Meaning.{holds, picked, meaning}
use Rattle.model.specs.Routes.{Source, picked_by}
use Rattle.model.proofs.Rowwise.{Rowwise, rowwise_select}
use Rattle.model.proofs.OneRow.{table}

module _ (x : Record) (who : Caller) where
  pub rowwise_picks : {ss : List ℕ} (ps : List (Cond Compare)) (r : Query Source) → Rowwise ss (table x who r) → Rowwise ss (table x who (picked_by ps r))
  unfolding picked_by meaning picked
  rowwise_picks [] r h = h
  rowwise_picks {ss} (p ∷ ps) r h = rowwise_select ss (λ cs t. holds cs t p) (rowwise_picks ps r h)
