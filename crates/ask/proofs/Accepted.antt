-- A query whose text passes its checks: all that its routes ask of it.
use mathlib.Core.Path.{◌≡◌, refl, sym, ap, ◌∙◌, subst}
use mathlib.Core.List.{List}
use Prim.Native.Nat.{ℕ, ◌+◌, ◌*◌, ◌<◌}
use lib.Dec.{T, lt→ltb, ltb→lt}
use lib.ListN.{length, length-map}
use Rattle.refusal.specs.Checks.{passes}
use Rattle.lists.specs.Lists.{All, every, count_from}
use Rattle.lists.proofs.Counting.{count_length}
use Rattle.lists.proofs.Laws.{all_weaken, all_map, all_any, every_all, all_every, and_l}
use Rattle.syntax.specs.Grammar.{Form}
use Rattle.syntax.specs.Limits.{max_rows}
use Rattle.model.specs.Queries.{Schema, Query, Row, col, sources, columns_of}
use Rattle.model.specs.Meaning.{table_of}
use Rattle.model.proofs.Widths.{Wide}
use Rattle.model.specs.Checks.{allowed, placed}
use Rattle.calls.specs.Names.{resolve}
use Rattle.calls.specs.Tables.{query_checks}
use Rattle.calls.proofs.Accepted.{Accepted, query_accepted, spans_written}
use Rattle.claims.proofs.Resolved.{resolved_sourced, resolved_distinct}
use Rattle.schema.specs.Schemas.{schema_of, streams_in, width_in}
use Rattle.schema.proofs.Lookups.{length_schema, stream_columns}
use Rattle.ledger.specs.Records.{Memory, record_of, rows_in, row_in, count_in}
use Rattle.ledger.proofs.Told.{rows_at}
use Rattle.grant.proofs.Masked.{declared_stream}
use Rattle.query.specs.declared.Query as Q
use Rattle.query.specs.Tables.{query_forms}
use Rattle.query.specs.Forms.{query_in}
use Rattle.query_line.specs.Asking.{Means}
use Rattle.needs.specs.Asking.{needs_in, needs_of}
use Rattle.needs.proofs.Exact.{needs_exact}
use Rattle.sides.specs.Sides.{words_of}
use Rattle.plan.proofs.Rewritten.{Asked}
use Rattle.route_plan.proofs.Meant.{Checked}
use Rattle.route_plan.proofs.Spans.{near_offset}

-- the rows of a declared stream have a value for each of its columns
memory_wide : (m : Memory) (s : ℕ) → s < streams_in m.names → Wide (table_of (record_of m) s)
unfolding table_of record_of rows_in row_in
memory_wide m s low =
    let width = width_in m.names s in
    let cols : length (columns_of (schema_of m.names) s) ≡ width = ap length (stream_columns m.names s low) ∙ length-map (count_from 0 width) (col s) ∙ count_length 0 width in
    let long : (r : ℕ) → length (rows_at_place s width r).values ≡ length (columns_of (schema_of m.names) s) = λ r. length-map (count_from 0 width) _ ∙ count_length 0 width ∙ sym cols in
    rw (rows_at m s low) (all_map {P = λ (r : ℕ). Unit {0}} _ (λ r h. long r) (all_any (count_from 0 (count_in m.ledger s))))
  where
    rows_at_place : ℕ → ℕ → ℕ → Row
    rows_at_place s width r = row_in m.times m.values width (s * max_rows + r)

module _ (m : Memory) (own ws ps : List ℕ) (f : Form) (t : Q.Query) (means : Means (schema_of m.names) f own t) (ok : T (passes (query_checks (schema_of m.names) f))) where
  abbrev ns : List ℕ
  ns = m.names

  abbrev d : Schema
  d = schema_of ns

  abbrev q : Query ℕ
  q = query_in (words_of own ws ps) (query_forms t)

  acc : Accepted d f
  acc = query_accepted d f ok

  pub resolved_is : resolve (schema_of m.names) f ≡ query_in (words_of own ws ps) (query_forms t)
  resolved_is = means.is ws (words_of own ws ps).profile

  placing : T (placed d q)
  placing = subst (λ v. T (placed d v)) resolved_is acc.places

  all_declared : (ss : List ℕ) → All (λ s. s < length d) ss → T (every (declared_stream ns) ss)
  all_declared ss h = all_every (declared_stream ns) {xs = ss} (all_weaken (λ s l. lt→ltb s (streams_in ns) (rw (length_schema ns) at l)) h)

  declared : T (every (declared_stream ns) (sources q))
  declared = all_declared (sources q) (rw (← resolved_is) (resolved_sourced d f acc.names))

  asked : Asked (record_of m) q
  unfolding record_of
  asked =
      record {
        placing = placing;
        once = rw (← resolved_is) (resolved_distinct d f acc.names acc.places acc.sizes acc.once);
        wide = all_weaken (λ s l. memory_wide m s (ltb→lt s (streams_in ns) l)) (every_all (declared_stream ns) (sources q) declared);
      }

  pub checked : Checked (record_of m) m.names (words_of own ws ps) (query_forms t)
  unfolding record_of
  checked =
      record {
        schema = refl;
        one = means.one;
        few = means.few;
        laid = means.laid;
        numbers = means.numbers;
        declared = declared;
        asked = asked;
        fits = rw (← resolved_is) acc.sizes;
        near = near_offset q (rw (← resolved_is) (spans_written d f acc.bounded));
      }

  may : T (allowed (columns_of d) q)
  unfolding placed
  may = and_l (allowed (columns_of d) q) _ placing

  -- what its table asks of grants is what it asks
  pub asks_is : needs_in m.names own (query_forms t) ≡ needs_of m.names (query_in (words_of own ws ps) (query_forms t))
  asks_is = needs_exact ns (words_of own ws ps) (columns_of d) (query_forms t) means.laid may
