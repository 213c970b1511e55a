-- What is read of a query at a place of a line: its checks, and the table of its forms.
use Rattle.std.specs.Prelude.{◌≡◌, List, ◌∷◌, Bool, false, not, cond, ℕ, ◌-◌, ◌≤◌, T, leb, length, drop}
use Rattle.std.specs.Prelude.{MatchOption}
use Rattle.std.proofs.Math.Option.{none, some}
use Rattle.lists.specs.Lists.{every}
use Rattle.refusal.specs.Checks.{Check, refuse, first, table, unread, shown}
use Rattle.refusal.specs.declared.Refusal.TheVariants.{Bound}
use Rattle.syntax.specs.Grammar.{Bytes, Form, Entry}
use Rattle.syntax.specs.Limits.{max_depth, max_forms, form_depth}
use Rattle.syntax.specs.Readers.{Read}
use Rattle.model.specs.Queries.{Schema}
use Rattle.calls.specs.Names.{resolve}
use Rattle.calls.specs.Tables.{query_checks}
use Rattle.text.specs.Words.{Found, Some, None, seen, left_at}
use Rattle.text.specs.Readings.{any_form}
use Rattle.schema.specs.Schemas.{schema_of, schema_sound}
use Rattle.query.specs.Forms.{query_in}
use Rattle.query.specs.Tables.{query_forms, new_query}
use Rattle.query.specs.Shapes.{one_query, laid_forms, has_number}
use Rattle.query.specs.declared.Query.{Query}
use Rattle.query_read.specs.Parts.{parts}
use Rattle.query_read.specs.Seeing.{with_parts, no_reading, reading_ended, form_stored, readable}
use Rattle.query_read.specs.declared.Reading.{Reading}
use Rattle.query_line.specs.Placing.{begun, placed_from}
use Rattle.query_line.specs.declared.Asked.{Asked}
use Rattle.query_line.specs.declared.Placing.{Placing}

-- ---- by what is read of the forms

unfoldable pub placing_of : List ℕ → Reading → Placing
placing_of ns r = placed_from ns r.forms r.lefts r.rights r.count begun

unfoldable pub asked_of : Reading → Placing → Asked
asked_of r p = record { next = r.next; checks = shown r.over r.unknown r.repeated p.misplaced p.window; query = record { forms = r.forms; len = r.count } }

-- nothing was read: the text is too long, or of another form
unfoldable pub unread_asked : Bool → Asked
unread_asked long = record { next = 0; checks = unread long; query = new_query }

-- ---- by the form, whatever the names are

-- a query that ends at a place
unfoldable pub asked_form : List ℕ → Form → ℕ → Asked
asked_form ns q next = let r = reading_ended (with_parts ns no_reading (parts 0 q)) next in asked_of r (placing_of ns r)

unfoldable pub asked_seen : List ℕ → Bytes → Read Form → Asked
asked_seen ns s q = asked_form ns q.what (left_at s q)

-- ---- what its checks and its table mean

-- how deep its brackets go, and its own checks
unfoldable pub form_checks : Schema → Form → List Check
form_checks d q = refuse Bound (not (leb (form_depth q) max_depth)) ∷ query_checks d q

-- A table and words that stand for a query, whatever is granted and whoever asks: one query of forms that people write.
pub record Means (d : Schema) (q : Form) (ws : List ℕ) (t : Query) : Type 0 where
  pub is : (granted : List ℕ) (profile : List Entry) → resolve d q ≡ query_in (record { own = ws; granted = granted; profile = profile }) (query_forms t)
  pub one : T (one_query (query_forms t))
  pub few : length (query_forms t) ≤ max_forms
  pub laid : T (laid_forms ws (query_forms t))
  pub numbers : T (every has_number (query_forms t))

-- its place, its checks, and the table and words that stand for it where none of them fails
pub record Tells (ns : List ℕ) (s : Bytes) (ws : List ℕ) (q : Read Form) (r : Asked) : Type 0 where
  pub next : r.next ≡ length s - length q.left
  pub checks : first (table r.checks) ≡ first (form_checks (schema_of ns) q.what)
  pub query : first (form_checks (schema_of ns) q.what) ≡ none → Means (schema_of ns) q.what ws r.query

-- What is read, and the words with its conditions where nothing of it is out of bounds; what that means, for a line that is not too long, words enough and a sound schema.
pub record Asks (ns : List ℕ) (s : Bytes) (at : ℕ) (ws ws' : List ℕ) (r : Found Asked) : Type 0 where
  pub is : r ≡ cond (readable s ws) (seen (asked_seen ns s) (any_form (drop at s))) None
  pub stored : (a : Asked) → r ≡ Some a → a.checks.bound ≡ false → ws' ≡ form_stored ns (any_form (drop at s)) ws
  pub none_read : any_form (drop at s) ≡ none → r ≡ None
  pub some_read : T (schema_sound ns) → T (readable s ws) → (q : Read Form) → any_form (drop at s) ≡ some q → MatchOption r ⊥ (λ a. Tells ns s ws' q a)
  pub kept : length ws' ≡ length ws
