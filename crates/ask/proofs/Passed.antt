-- The checks of a call in their order: 12 first, then those of the text, then those of what it gives.
use mathlib.Core.Path.{◌≡◌, refl, sym, ap, ◌∙◌, subst}
use mathlib.Core.List.{List, [], ◌∷◌, ◌++◌}
use mathlib.Core.Bool.{Bool, true, false, ◌&&◌, not, cond, true≢false}
use mathlib.Core.Option.{Option, none, some, none-ne-some}
use Prim.Native.Nat.{ℕ, ◌≤◌}
use lib.Dec.{T, ltb}
use lib.ListN.{length}
use Rattle.std.specs.Prelude.{Ok, Err}
use Rattle.refusal.specs.Results.{Said, result_of}
use Rattle.refusal.specs.Checks.{Check, refuse, first, passes, table}
use Rattle.refusal.specs.declared.Checks.{Checks}
use Rattle.refusal.specs.declared.Refusal.{Refusal}
use Rattle.refusal.specs.declared.Refusal.TheVariants.{Lent, Malformed, Bound}
use Rattle.refusal.proofs.Passing.{passes_first}
use Rattle.refusal.proofs.Results.{result_none, result_some}
use Rattle.refusal.proofs.Verdicts.{never, never_first}
use Rattle.lists.specs.Lists.{every}
use Rattle.lists.proofs.Laws.{T_true, and_l, and_r}
use Rattle.syntax.specs.Grammar.{Bytes, Form, query_text}
use Rattle.syntax.specs.Limits.{max_line, shallow}
use Rattle.calls.specs.Replies.{written}
use Rattle.calls.specs.Tables.{query_checks}
use Rattle.calls.proofs.Order.{never_written}
use Rattle.schema.specs.Schemas.{schema_of, schema_sound}
use Rattle.ledger.specs.Records.{Memory, memory_sound}
use Rattle.ledger.proofs.Soundness.{sound_parts}
use Rattle.caller.specs.declared.Caller.{Caller}
use Rattle.caller.specs.Callers.{caller_sound}
use Rattle.grant.specs.declared.Grant.{Grant}
use Rattle.grant.specs.Catalogues.{catalogue_sound}
use Rattle.query_line.specs.Asking.{Means}
use Rattle.catalogue.specs.Callers.{roles_of, profile_of}
use Rattle.catalogue.specs.Opened.{opened_in}
use Rattle.catalogue.specs.declared.Opened.{Opened}
use Rattle.query_text.specs.declared.Told.{Told}
use Rattle.query_text.specs.Texts.{TextRead}
use Rattle.ask.specs.Asking.{Lending, lent_sound}
use Rattle.query_text.proofs.Firsts.{not_first}

-- ---- tables of checks, one after the other

first_stops : (cs ds : List Check) (r : Refusal) → first cs ≡ some r → first (cs ++ ds) ≡ some r
unfolding first
first_stops [] ds r e = absurd (none-ne-some r e)
first_stops (c ∷ cs) ds r e = go c.fails e (first_stops cs ds r)
  where
    go : (b : Bool) → cond b (some c.refusal) (first cs) ≡ some r → (first cs ≡ some r → first (cs ++ ds) ≡ some r) → cond b (some c.refusal) (first (cs ++ ds)) ≡ some r
    go true e k = e
    go false e k = k e

pub first_goes_on : (cs ds : List Check) → first cs ≡ none → first (cs ++ ds) ≡ first ds
unfolding first
first_goes_on [] ds e = refl
first_goes_on (c ∷ cs) ds e = go c.fails e (first_goes_on cs ds)
  where
    go : (b : Bool) → cond b (some c.refusal) (first cs) ≡ none → (first cs ≡ none → first (cs ++ ds) ≡ first ds) → cond b (some c.refusal) (first (cs ++ ds)) ≡ first ds
    go true e k = absurd (none-ne-some c.refusal (sym e))
    go false e k = k e

-- ---- the checks as the code has them

-- checks with another answer to 12
abbrev pub with_lent : Bool → Checks → Checks
with_lent b c =
    record {
      lent = b;
      long = c.long;
      malformed = c.malformed;
      bound = c.bound;
      undeclared = c.undeclared;
      repeated = c.repeated;
      misplaced = c.misplaced;
      window = c.window;
      back = c.back;
      full = c.full;
      unrouted = c.unrouted;
      many = c.many;
      room = c.room;
    }

-- where 12 is not among the refusals that they give, it is the first check of all
lent_first : (b : Bool) (c : Checks) (cs : List Check) → T (never 12 cs) → (T b → first (table c) ≡ first cs) → first (table (with_lent (not b) c)) ≡ first (refuse Lent (not b) ∷ cs)
unfolding table first refuse
lent_first false c cs n h = refl
lent_first true c cs n h = go c.lent (h tt)
  where
    rest : Option Refusal
    rest = first (table (with_lent false c))

    go : (a : Bool) → cond a (some Lent) rest ≡ first cs → rest ≡ first cs
    go true e = absurd (never_first 12 cs Lent n (sym e) refl)
    go false e = e

-- ---- the table of a call

-- what is known where the checks of 12 and of the text hold off
pub record Passed (m : Memory) (ws : List ℕ) (who : Caller) (t : Told) (form : Option Form) (gs : List Grant) : Type 0 where
  pub query : Form
  pub is : form ≡ some query
  pub ok : T (passes (query_checks (schema_of m.names) query))
  pub short : length (query_text query) ≤ max_line
  pub means : Means (schema_of m.names) query t.words t.query
  pub safe : T (memory_sound m)
  pub lawful : T (catalogue_sound m.names gs ws)
  pub caller : caller_sound who ≡ true

-- checks of the query where there is one
unfoldable pub of_form : (Form → List Check) → Option Form → List Check
of_form rest none = []
of_form rest (some f) = rest f

module _ (m : Memory) (ws : List ℕ) (who : Caller) (t : Told) (spare : ℕ) (bs : Bytes) (form : Option Form) (gs : List Grant) (text : TextRead spare form m.names bs t)
    {x : Opened} (opened : x ≡ opened_in t.needs m.names gs ws (roles_of who) (profile_of who)) {b : Bool} (may : b ≡ (memory_sound m && x.sound && caller_sound who))
    {v : Said} (told : v ≡ result_of (first (table (with_lent (not b) t.checks)))) where
  abbrev lending : Lending
  lending = record { memory = m; grants = gs; granted = ws; caller = who }

  lent_is : b ≡ lent_sound lending
  unfolding lent_sound opened_in
  lent_is = may ∙ ap (λ (y : Opened). memory_sound m && y.sound && caller_sound who) opened

  abbrev front : List Check
  front = written spare bs form (query_checks (schema_of m.names))

  schema_safe : T b → T (schema_sound m.names)
  schema_safe u = (sound_parts m (and_l (memory_sound m) _ (and_l (memory_sound m && x.sound) _ (subst T may u)))).names

  front_never : T (never 12 front)
  unfolding query_checks every refuse
  front_never = never_written 12 spare bs form (query_checks (schema_of m.names)) tt tt (λ f. tt)

  first_is : first (table (with_lent (not b) t.checks)) ≡ first (refuse Lent (not b) ∷ front)
  first_is = lent_first b t.checks front front_never (λ u. text.checks (schema_safe u))

  -- the checks of what it gives come last
  module _ (rest : Form → List Check) where
    abbrev pub whole : List Check
    whole = refuse Lent (not (lent_sound lending)) ∷ written spare bs form (λ f. query_checks (schema_of m.names) f ++ rest f)

    whole_is : whole ≡ (refuse Lent (not b) ∷ front) ++ of_form rest form
    unfolding written of_form
    whole_is = go form ∙ ap (λ (c : Bool). (refuse Lent (not c) ∷ front) ++ of_form rest form) (sym lent_is)
      where
        go : (o : Option Form) → ◌≡◌ {A = List Check} (refuse Lent (not (lent_sound lending)) ∷ written spare bs o (λ f. query_checks (schema_of m.names) f ++ rest f))
            ((refuse Lent (not (lent_sound lending)) ∷ written spare bs o (query_checks (schema_of m.names))) ++ of_form rest o)
        go none = refl
        go (some f) = refl

    pub whole_refused : {f : Refusal} → v ≡ Err f → first whole ≡ some f
    whole_refused {f} e = ap first whole_is ∙ first_stops (refuse Lent (not b) ∷ front) (of_form rest form) f (sym first_is ∙ result_some _ f (sym told ∙ e))

    pub whole_passed : v ≡ Ok tt → first whole ≡ first (of_form rest form)
    whole_passed e = ap first whole_is ∙ first_goes_on (refuse Lent (not b) ∷ front) (of_form rest form) (sym first_is ∙ result_none _ (sym told ∙ e))

  module _ (e : v ≡ Ok tt) where
    none_fails : first (refuse Lent (not b) ∷ front) ≡ none
    none_fails = sym first_is ∙ result_none _ (sym told ∙ e)

    sound : T b
    sound = go b (not_first (not b) Lent front none_fails).0
      where
        go : (c : Bool) → not c ≡ false → T c
        go true h = tt
        go false h = absurd (true≢false h)

    both : T (memory_sound m && x.sound)
    both = and_l (memory_sound m && x.sound) _ (subst T may sound)

    pub front_passes : first front ≡ none
    front_passes = (not_first (not b) Lent front none_fails).1

    -- its text has a form
    some_form : (o : Option Form) → first (written spare bs o (query_checks (schema_of m.names))) ≡ none → (f : Form) × (o ≡ some f) × T (passes (query_checks (schema_of m.names) f))
    unfolding written
    some_form none h = absurd (true≢false (not_first true Malformed [] (not_first (ltb max_line (length bs)) Bound (refuse Malformed true ∷ []) h).1).0)
    some_form (some f) h =
        let h₁ = (not_first (ltb max_line (length bs)) Bound _ h).1 in
        let h₂ = (not_first false Malformed _ h₁).1 in
        let h₃ = (not_first (not (shallow spare bs)) Bound _ h₂).1 in
        (f, refl, passes_first (query_checks (schema_of m.names) f) h₃)

    pub passed : Passed m ws who t form gs
    unfolding opened_in
    passed =
        let found = some_form form front_passes in
        record {
          query = found.0;
          is = found.1;
          ok = found.2;
          short = text.short found.0 found.1 front_passes;
          means = text.query (schema_safe sound) found.0 found.1 front_passes;
          safe = and_l (memory_sound m) _ both;
          lawful = subst (λ (y : Opened). T y.sound) opened (and_r (memory_sound m) _ both);
          caller = T_true (caller_sound who) (and_r (memory_sound m && x.sound) _ (subst T may sound));
        }
