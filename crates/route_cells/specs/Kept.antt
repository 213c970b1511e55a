-- Rows kept by places, four words a place.
use Rattle.std.specs.Prelude.{◌≡◌, List, [], ◌∷◌, Bool, true, ℕ, ◌+◌, ◌*◌, ◌≤◌, ◌<◌, length, get_or}
use Rattle.syntax.specs.Limits.{max_routes}
use Rattle.rows.specs.declared.Rows.{Rows}

-- one place for each route of an answer
abbrev pub kept_size : ℕ
kept_size = max_routes * 4

unfoldable pub kept_at : List ℕ → ℕ → Rows
kept_at ks i = record { a = get_or ks (i * 4) 0; b = get_or ks (i * 4 + 1) 0; c = get_or ks (i * 4 + 2) 0; d = get_or ks (i * 4 + 3) 0 }

unfoldable pub words_in : Rows → List ℕ
words_in m = m.a ∷ (m.b ∷ (m.c ∷ (m.d ∷ [])))

-- there is a place, which has the rows where they are known
pub record Keepable (m : Rows) (i : ℕ) (known : Bool) (ks : List ℕ) : Type 0 where
  pub placed : i < max_routes
  pub lent : kept_size ≤ length ks
  pub held : known ≡ true → kept_at ks i ≡ m

-- the rows are in the place, and in the other places what was
pub record Keeping (m : Rows) (i : ℕ) (ks ks' : List ℕ) : Type 0 where
  pub size : length ks' ≡ length ks
  pub here : kept_at ks' i ≡ m
  pub elsewhere : (j : ℕ) → (j ≡ i → ⊥) → kept_at ks' j ≡ kept_at ks j
