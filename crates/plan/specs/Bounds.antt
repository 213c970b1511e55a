-- How many rows a plan can have at most, by the rows of its streams or the windows up to the clock.
use Rattle.std.specs.Prelude.{cond, ℕ, suc, ◌*◌, ◌/◌, eqb, length}
use Rattle.model.specs.Queries.{Record}
use Rattle.model.specs.Meaning.{table_of}
use Rattle.plan.specs.declared.Plan.{Plan}

unfoldable pub stream_rows : Record → ℕ → ℕ
stream_rows x s = length (table_of x s).rows

unfoldable pub most_rows : Record → Plan → ℕ
most_rows x p =
    cond (eqb p.number 0) (cond p.joined (stream_rows x p.left * stream_rows x p.right) (stream_rows x p.left)) (suc (x.clock / p.offset))
