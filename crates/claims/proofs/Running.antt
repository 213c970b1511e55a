-- Scripts: what a line leaves is sound, so that none is refused as lent memory; a line leaves the record as its call does, and a refused one leaves all as it stood.
use mathlib.Core.Path.{◌≡◌, refl, sym, ap, ◌∙◌}
use mathlib.Core.List.{List, [], ◌∷◌, ◌++◌}
use mathlib.Core.Bool.{Bool, true, false, ◌&&◌, not, cond}
use mathlib.Core.Option.{Option, none, some, none-ne-some}
use Prim.Native.Nat.{ℕ, zero, suc, ◌≤◌, ◌<◌}
use native.Mathlib.Omega.{arith}
use lib.IntN.{ℤ, pos, negsuc}
use lib.Dec.{T, leb, ltb, le→leb, ltb→lt, nltb→le}
use lib.ListN.{length, length-append}
use Rattle.refusal.specs.Numbers.{number_of}
use Rattle.refusal.specs.Checks.{Check, refuse, first, passes}
use Rattle.refusal.specs.declared.Refusal.{Refusal}
use Rattle.refusal.specs.declared.Refusal.TheVariants.{Lent, Malformed, Bound, NoRoute, ManyRoutes, NoRoom}
use Rattle.refusal.proofs.Passing.{pass_first, pass_rest, passes_first, first_skip, passes_left}
use Rattle.refusal.proofs.Verdicts.{stops, never, never_first, first_last}
use Rattle.lists.specs.Lists.{every, distinct, gather}
use Rattle.lists.proofs.Laws.{parts, and_both, T_true, All, all_nil, all_cons, all_append, all_weaken, every_weaken}
use Rattle.syntax.specs.Grammar as G
use Rattle.syntax.specs.Grammar.{Bytes, Verb, GrantLine, RouteLine, body?, query_text}
use Rattle.syntax.specs.Limits.{max_grants, max_line, max_printed, max_routes, shallow}
use Rattle.syntax.specs.Readers.{parse_as, parse_query, verb_of}
use Rattle.syntax.proofs.Lines.{parsed_printed, query_parsed_printed}
use Rattle.syntax.proofs.Exact.{body_length, line_length, query_text_length, line_text_length}
use Rattle.model.specs.Queries.{Stream, Schema, Record, Grant, Caller}
use Rattle.model.specs.Routes.{Route}
use Rattle.calls.specs.Names.{stream_names, resolve_grant, map_option}
use Rattle.calls.specs.Validity.{valid_schema, rows_match, valid_record, valid_grant, valid_catalogue, entry_names, valid_caller}
use Rattle.calls.specs.Replies.{written, Reply, refused, filled}
use Rattle.calls.specs.Tables.{grant_checks, caller_checks, query_checks}
use Rattle.calls.specs.Calls.{Call, stream, clock, row, clear, clock_line, row_line, clear_line, call_table, with_stream, with_clock, with_row, with_row_line, cleared, effect, next, fresh, grant_table, next_catalogue, with_grant, caller_table, with_caller, nobody}
use Rattle.calls.specs.Asking.{lent_valid, query_routes, answer_checks, ask_table, route_line, numbered_line, some_bytes, no_line, line_given, printed_line, line_checks, line_table, with_route}
use Rattle.calls.specs.Events.{Fixture, new_fixture, Event, call, grant, caller, query, happen, happened_from, happened}
use Rattle.calls.specs.Scripts.{Outcome, quiet, refusal, cells, text, changed, told, Act, on_record, act, perform, step, run_from, script}
use Rattle.calls.proofs.Order.{never_written, call_never}
use Rattle.calls.proofs.Written.{written_passes, written_short}
use Rattle.calls.proofs.Accepted.{Granted, grant_accepted, grant_passes}
use Rattle.calls.proofs.Valid.{valid_effect, every_add}
use Rattle.calls.proofs.Stored.{grant_stored, caller_stored}
use Rattle.calls.proofs.Steps.{act_table, refused_first}
use Rattle.claims.proofs.Fitting.{Written, line_fits}
use Rattle.claims.proofs.Extending.{grant_later, written_later}

-- ---- sound fixtures

-- what lines make: all is valid, and each grant was made by an accepted line
pub record Sound (f : Fixture) : Type 0 where
  pub kept : T (valid_record f.record_kept)
  pub granted : T (valid_catalogue f.record_kept.schema f.catalogue)
  pub lines : All (Written f.record_kept.schema) f.catalogue
  pub asking : T (valid_caller f.caller)

-- a new fixture is sound
pub sound_new : Sound new_fixture
unfolding new_fixture fresh nobody valid_record valid_schema rows_match valid_catalogue valid_caller entry_names every distinct stream_names
sound_new = record { kept = tt; granted = tt; lines = all_nil; asking = tt }

-- a change leaves what it makes where no check fails, and else what stood
changed_left : (P : Fixture → Type 0) (f g : Fixture) (cs : List Check) → P f → (T (passes cs) → P g) → P (changed f (first cs) g).left
changed_left P f g cs p k = go (first cs) refl
  where
    go : (o : Option Refusal) → first cs ≡ o → P (changed f o g).left
    go none e = unfold changed in k (passes_first cs e)
    go (some r) e = unfold changed in p

told_left : {A : Type 0} (f : Fixture) (show : List A → Outcome) (r : Reply A) → (told f show r).left ≡ f
unfolding told
told_left f show (refused r) = refl
told_left f show (filled n lent) = refl

-- ---- what a call does to the streams

-- none, or one more
pub data Grown (d : Schema) : Schema → Type 0 where
  same : Grown d d
  more : (s : Stream) → Grown d (d ++ (s ∷ []))

grown_stream : (x : Record) (o : Option Stream) → Grown x.schema (with_stream x o).schema
unfolding with_stream
grown_stream x none = same
grown_stream x (some s) = more s

grown_clock : (x : Record) (o : Option ℤ) → Grown x.schema (with_clock x o).schema
unfolding with_clock
grown_clock x none = same
grown_clock x (some n) = same

grown_row : (x : Record) (o : Option G.RowLine) → Grown x.schema (with_row_line x o).schema
unfolding with_row_line with_row
grown_row x none = same
grown_row x (some w) = same

grown_by : (x : Record) (c : Call) → Grown x.schema (effect x c).schema
unfolding effect with_row cleared
grown_by x (stream bs) = grown_stream x (parse_as G.stream bs)
grown_by x (clock n) = grown_clock x (some n)
grown_by x (row s vs) = same
grown_by x clear = same
grown_by x (clock_line bs) = grown_clock x (parse_as G.clock bs)
grown_by x (row_line bs) = grown_row x (parse_as G.row bs)
grown_by x (clear_line bs) = same

grown_catalogue : {d e : Schema} (gs : List Grant) → Grown d e → T (valid_catalogue d gs) → T (valid_catalogue e gs)
unfolding valid_catalogue
grown_catalogue gs same v = v
grown_catalogue {d} gs (more s) v = and_both (leb (length gs) max_grants) _ (search parts) (every_weaken (valid_grant d) (valid_grant (d ++ (s ∷ []))) (grant_later d s) gs (search parts))

grown_lines : {d e : Schema} {gs : List Grant} → Grown d e → All (Written d) gs → All (Written e) gs
grown_lines same ws = ws
grown_lines {d} (more s) ws = all_weaken (written_later d s) ws

-- ---- what a line leaves is sound

module _ (f : Fixture) (sound : Sound f) where
  abbrev x : Record
  x = f.record_kept

  abbrev d : Schema
  d = f.record_kept.schema

  schema_kept : T (valid_schema d)
  unfolding valid_record
  schema_kept = let v = sound.kept in search parts

  sound_call : (c : Call) → T (passes (call_table x c)) → Sound (record { record_kept = effect x c; catalogue = f.catalogue; caller = f.caller })
  sound_call c t =
      let g = grown_by x c in
      record { kept = valid_effect x c sound.kept t; granted = grown_catalogue f.catalogue g sound.granted; lines = grown_lines g sound.lines; asking = sound.asking }

  -- an accepted grant passes its checks with no grant before it too
  grant_alone : (g : GrantLine) → Granted d f.catalogue g → T (passes (grant_checks d [] g))
  grant_alone g h = grant_passes d [] g (record { bounded = h.bounded; room = tt; streams = h.streams; refs = h.refs; once = h.once; shown_once = h.shown_once; shows = h.shows; places = h.places; windows = h.windows })

  catalogue_more : (g : Grant) → length f.catalogue < max_grants → T (valid_grant d g) → T (valid_catalogue d (f.catalogue ++ (g ∷ [])))
  unfolding valid_catalogue
  catalogue_more g l t =
      let v = sound.granted in
      and_both (leb (length (f.catalogue ++ (g ∷ []))) max_grants) _
      (le→leb (length (f.catalogue ++ (g ∷ []))) max_grants (let h = length-append f.catalogue (g ∷ []) in omega arith))
      (every_add (valid_grant d) f.catalogue g (search parts) t)

  sound_grant : (bs : Bytes) → T (passes (grant_table d f.catalogue bs)) → Sound (record { record_kept = x; catalogue = with_grant d f.catalogue (parse_as G.grant bs); caller = f.caller })
  unfolding grant_table with_grant body?
  sound_grant bs t =
      let u = pass_rest _ _ _ (pass_rest _ _ _ t) in
      let l = written_short 0 bs (parse_as G.grant bs) _ u in
      written_passes 0 bs (parse_as G.grant bs) _ u (λ g e p.
      let (w, b) = parsed_printed G.grant bs g e in
      let ok = grant_accepted d f.catalogue g p in
      let made : Written d (resolve_grant d g) = record { text = g; formed = w; fits = (rw b at l); passed = grant_alone g ok; made = refl } in
      rw e (record {
        kept = sound.kept;
        granted = catalogue_more (resolve_grant d g) (ltb→lt (length f.catalogue) max_grants ok.room) (grant_stored d f.catalogue g schema_kept w p);
        lines = all_append sound.lines (all_cons made all_nil);
        asking = sound.asking;
      }))

  sound_caller : (bs : Bytes) → T (passes (caller_table bs)) → Sound (record { record_kept = x; catalogue = f.catalogue; caller = with_caller f.caller (parse_as G.caller bs) })
  unfolding caller_table with_caller
  sound_caller bs t =
      written_passes 0 bs (parse_as G.caller bs) _ t (λ w e p.
      rw e (record { kept = sound.kept; granted = sound.granted; lines = sound.lines; asking = caller_stored w (parsed_printed G.caller bs w e).0 p }))

-- ---- refusals

-- a refused line leaves all as it stood
pub refused_stays : (zs : List ℤ) (ys : Bytes) (f : Fixture) (bs : Bytes) (n : ℕ) → (step zs ys f bs).outcome ≡ refusal n → (step zs ys f bs).left ≡ f
refused_stays zs ys f bs n e = refused_first zs ys f bs n e (λ r h k s. ap (λ t. t.left) s)

-- ---- what a script makes is never refused as lent memory

twelve_skipped : (b : Bool) (cs : List Check) (r : Refusal) → T b → T (never 12 cs) → first (refuse Lent (not b) ∷ cs) ≡ some r → number_of r ≡ 12 → ⊥
twelve_skipped b cs r t u e h = never_first 12 cs r u (sym (first_skip Lent b cs t) ∙ e) h

module _ (f : Fixture) (s : Sound f) where
  call_twelve : (c : Call) (r : Refusal) → first (call_table f.record_kept c) ≡ some r → number_of r ≡ 12 → ⊥
  unfolding call_table
  call_twelve c r = twelve_skipped (valid_record f.record_kept) _ r s.kept (call_never f.record_kept c)

  lent_kept : T (lent_valid f.record_kept f.catalogue f.caller)
  unfolding lent_valid
  lent_kept = and_both (valid_record f.record_kept && valid_catalogue f.record_kept.schema f.catalogue) _ (and_both (valid_record f.record_kept) _ s.kept s.granted) s.asking

  -- what a line does to a sound fixture: it leaves one, and is not refused as lent memory
  record Fair (a : Act) : Type 0 where
    pub leaves : Sound (perform f a).left
    pub not_lent : (r : Refusal) → first (act_table a) ≡ some r → number_of r ≡ 12 → ⊥

  fair_call : (c : Call) → Fair (on_record f c)
  unfolding on_record perform act_table
  fair_call c = record { leaves = changed_left Sound f _ _ s (sound_call f s c); not_lent = call_twelve c }

  fair : (zs : List ℤ) (ys bs : Bytes) (v : Option Verb) → Fair (act zs ys f bs v)
  unfolding act perform act_table grant_table caller_table ask_table line_table grant_checks caller_checks query_checks answer_checks line_checks refuse every
  fair zs ys bs none =
      record { leaves = changed_left Sound f f _ s (λ t. s); not_lent = λ r. never_first 12 _ r (never_written {A = Unit {0}} 12 0 bs none (λ u. []) tt tt (λ u. tt)) }
  fair zs ys bs (some G.stream) = fair_call (stream bs)
  fair zs ys bs (some G.grant) =
      record {
        leaves = changed_left Sound f _ _ s (sound_grant f s bs);
        not_lent = λ r e.
            twelve_skipped (valid_catalogue f.record_kept.schema f.catalogue) _ r s.granted (never_written 12 0 bs (parse_as G.grant bs) _ tt tt (λ g. tt))
            (sym (first_skip Lent (valid_schema f.record_kept.schema) _ (schema_kept f s)) ∙ e);
      }
  fair zs ys bs (some G.clock) = fair_call (clock_line bs)
  fair zs ys bs (some G.row) = fair_call (row_line bs)
  fair zs ys bs (some G.clear) = fair_call (clear_line bs)
  fair zs ys bs (some G.caller) =
      record { leaves = changed_left Sound f _ _ s (sound_caller f s bs); not_lent = λ r. never_first 12 _ r (never_written 12 0 bs (parse_as G.caller bs) _ tt tt (λ w. tt)) }
  fair zs ys bs (some G.ask) =
      record {
        leaves = rw (told_left f cells) s;
        not_lent = λ r. twelve_skipped (lent_valid f.record_kept f.catalogue f.caller) _ r lent_kept (never_written 12 1 bs (parse_as G.ask bs) _ tt tt (λ q. tt));
      }
  fair zs ys bs (some G.line) =
      record {
        leaves = rw (told_left f text) s;
        not_lent = λ r. twelve_skipped (lent_valid f.record_kept f.catalogue f.caller) _ r lent_kept (never_written 12 1 bs (parse_as G.line bs) _ tt tt (λ l. tt));
      }

-- what any line leaves is sound
pub sound_step : (zs : List ℤ) (ys : Bytes) (f : Fixture) (bs : Bytes) → Sound f → Sound (step zs ys f bs).left
unfolding step
sound_step zs ys f bs sound = (fair f sound zs ys bs (verb_of bs)).leaves

-- lines put to a sound fixture, and a whole script
pub never_twelve_from : (zs : List ℤ) (ys : Bytes) (f : Fixture) (ls : List Bytes) → Sound f → All (λ o. o ≡ refusal 12 → ⊥) (run_from zs ys f ls)
unfolding run_from
never_twelve_from zs ys f [] s = all_nil
never_twelve_from zs ys f (l ∷ ls) s =
    all_cons (λ e. refused_first zs ys f l 12 e (λ r h k i. (fair f s zs ys l (verb_of l)).not_lent r h k)) (never_twelve_from zs ys (step zs ys f l).left ls (sound_step zs ys f l s))

pub never_twelve : (zs : List ℤ) (ys : Bytes) (ls : List Bytes) → All (λ o. o ≡ refusal 12 → ⊥) (script zs ys ls)
unfolding script
never_twelve zs ys ls = never_twelve_from zs ys new_fixture ls sound_new

-- ---- no line of a route is refused for want of room

given_short : (d : Schema) (who : Caller) {rs : List Route} → All (λ r. length (route_line d who r) ≤ max_printed) rs → (n : ℤ) → length (some_bytes (numbered_line d who rs n)) ≤ max_printed
unfolding numbered_line some_bytes
given_short d who all_nil n = omega arith
given_short d who (all_cons h hs) (pos zero) = omega arith
given_short d who (all_cons h hs) (pos (suc zero)) = h
given_short d who (all_cons h hs) (pos (suc (suc n))) = given_short d who hs (pos (suc n))
given_short d who (all_cons h hs) (negsuc n) = omega arith

-- a line's query is shorter than the line
query_short : (bs : Bytes) (l : RouteLine) → parse_as G.line bs ≡ some l → length bs ≤ max_line → length (query_text l.query) ≤ max_line
unfolding line_length body_length
query_short bs l e h =
    let b = ap length (parsed_printed G.line bs l e).1 in
    let k = line_text_length G.line l in
    let m = query_text_length l.query in
    omega arith

module _ (f : Fixture) (s : Sound f) (ys bs : Bytes) (room : max_printed ≤ length ys) where
  -- the checks of a line that was read, but the last
  front : RouteLine → List Check
  front l =
      refuse Lent (not (lent_valid f.record_kept f.catalogue f.caller))
      ∷ refuse Bound (ltb max_line (length bs))
      ∷ refuse Malformed false
      ∷ refuse Bound (not (shallow 1 bs))
      ∷ (query_checks f.record_kept.schema l.query
      ++ (refuse NoRoute (no_line (line_given f.record_kept f.catalogue f.caller l))
      ∷ refuse ManyRoutes (ltb max_routes (length (query_routes f.record_kept f.catalogue f.caller l.query)))
      ∷ []))

  line_roomy : (o : Option RouteLine) → parse_as G.line bs ≡ o → (r : Refusal) → first (line_table f.record_kept f.catalogue f.caller 1 bs o ys) ≡ some r → number_of r ≡ 11 → ⊥
  unfolding line_table written query_checks line_checks printed_line line_given query_routes refuse every front
  line_roomy none p r e h = never_first 11 _ r tt e h
  line_roomy (some l) p r e h =
      first_last 11 (front l) (refuse NoRoom (ltb (length ys) (length (printed_line f.record_kept f.catalogue f.caller (some l))))) r tt e h (λ t b.
      let u = nltb→le max_line (length bs) (pass_first _ (ltb max_line (length bs)) _ (pass_rest _ _ _ t)) in
      let m = passes_left (query_checks f.record_kept.schema l.query) _ (pass_rest _ _ _ (pass_rest _ _ _ (pass_rest _ _ _ (pass_rest _ _ _ t)))) in
      let k = given_short f.record_kept.schema f.caller (line_fits f.record_kept.schema (schema_kept f s) f.caller s.asking f.catalogue s.lines l.query (query_short bs l p u) m) l.route in
      let o = ltb→lt (length ys) (length (printed_line f.record_kept f.catalogue f.caller (some l))) b in
      omega arith)

-- with 4,096 bytes lent, no line of a route is refused for want of room
pub line_has_room : (zs : List ℤ) (ys : Bytes) (f : Fixture) (bs : Bytes) → Sound f → max_printed ≤ length ys → verb_of bs ≡ some G.line → (step zs ys f bs).outcome ≡ refusal 11 → ⊥
unfolding act_table act
line_has_room zs ys f bs s l v e = refused_first zs ys f bs 11 e (λ r h k i. line_roomy f s ys bs l (parse_as G.line bs) refl r (rw v at h) k)

-- ---- what a line leaves

-- the call or line that a line of a script is
unfoldable pub events_of : Bytes → Option Verb → List Event
events_of bs none = []
events_of bs (some G.stream) = call (stream bs) ∷ []
events_of bs (some G.grant) = grant bs ∷ []
events_of bs (some G.clock) = call (clock_line bs) ∷ []
events_of bs (some G.row) = call (row_line bs) ∷ []
events_of bs (some G.clear) = call (clear_line bs) ∷ []
events_of bs (some G.caller) = caller bs ∷ []
events_of bs (some G.ask) = query ∷ []
events_of bs (some G.line) = query ∷ []

-- a change leaves what it makes where its table passes, and else what stood
changed_is : (f g h : Fixture) (cs : List Check) → (passes cs ≡ true → g ≡ h) → (passes cs ≡ false → f ≡ h) → (changed f (first cs) g).left ≡ h
changed_is f g h cs p q = go (first cs) refl
  where
    go : (o : Option Refusal) → first cs ≡ o → (changed f o g).left ≡ h
    go none e = unfold changed in p (T_true (passes cs) (passes_first cs e))
    go (some r) e = unfold changed in q (stops cs r e)

call_leaves : (f : Fixture) (c : Call) → (perform f (on_record f c)).left ≡ happen f (call c)
unfolding on_record perform happen next
call_leaves f c = changed_is f _ _ (call_table f.record_kept c) (λ e. rw e) (λ e. rw e)

grant_leaves : (zs : List ℤ) (ys : Bytes) (f : Fixture) (bs : Bytes) → (perform f (act zs ys f bs (some G.grant))).left ≡ happen f (grant bs)
unfolding act perform happen next_catalogue
grant_leaves zs ys f bs = changed_is f _ _ (grant_table f.record_kept.schema f.catalogue bs) (λ e. rw e) (λ e. rw e)

caller_leaves : (zs : List ℤ) (ys : Bytes) (f : Fixture) (bs : Bytes) → (perform f (act zs ys f bs (some G.caller))).left ≡ happen f (caller bs)
unfolding act perform happen
caller_leaves zs ys f bs = changed_is f _ _ (caller_table bs) (λ e. rw e) (λ e. rw e)

-- the verb of the lines that print it
printed_by : Outcome → Option Verb
printed_by quiet = none
printed_by (refusal n) = none
printed_by (cells zs) = some G.ask
printed_by (text bs) = some G.line

changed_prints : {X : Type 0} (f g : Fixture) (o : Option Refusal) (v : Verb) → printed_by (changed f o g).outcome ≡ some v → X
unfolding changed printed_by
changed_prints f g none v e = absurd (none-ne-some v e)
changed_prints f g (some r) v e = absurd (none-ne-some v e)

told_prints : {A : Type 0} (f : Fixture) (show : List A → Outcome) (w : Verb) → ((l : List A) → printed_by (show l) ≡ some w) → (r : Reply A) (v : Verb) → printed_by (told f show r).outcome ≡ some v → some w ≡ some v
unfolding told printed_by
told_prints f show w h (refused r) v e = absurd (none-ne-some v e)
told_prints f show w h (filled n lent) v e = sym (h _) ∙ e

-- what a line of a verb leaves and prints
record Runs (f : Fixture) (bs : Bytes) (v : Option Verb) (a : Act) : Type 0 where
  pub leaves : (perform f a).left ≡ happened_from f (events_of bs v)
  pub prints_as : (w : Verb) → printed_by (perform f a).outcome ≡ some w → v ≡ some w

runs_call : (f : Fixture) (bs : Bytes) (v : Option Verb) (c : Call) → events_of bs v ≡ call c ∷ [] → Runs f bs v (on_record f c)
unfolding happened_from on_record perform printed_by
runs_call f bs v c e = record { leaves = call_leaves f c ∙ sym (ap (happened_from f) e); prints_as = λ w. changed_prints f _ _ w }

runs : (zs : List ℤ) (ys : Bytes) (f : Fixture) (bs : Bytes) (v : Option Verb) → Runs f bs v (act zs ys f bs v)
unfolding act perform events_of happened_from happen printed_by
runs zs ys f bs none = record { leaves = changed_is f f f _ (λ e. refl) (λ e. refl); prints_as = λ w. changed_prints f _ _ w }
runs zs ys f bs (some G.stream) = runs_call f bs _ (stream bs) refl
runs zs ys f bs (some G.grant) = record { leaves = grant_leaves zs ys f bs; prints_as = λ w. changed_prints f _ _ w }
runs zs ys f bs (some G.clock) = runs_call f bs _ (clock_line bs) refl
runs zs ys f bs (some G.row) = runs_call f bs _ (row_line bs) refl
runs zs ys f bs (some G.clear) = runs_call f bs _ (clear_line bs) refl
runs zs ys f bs (some G.caller) = record { leaves = caller_leaves zs ys f bs; prints_as = λ w. changed_prints f _ _ w }
runs zs ys f bs (some G.ask) = record { leaves = told_left f cells _; prints_as = told_prints f cells G.ask (λ l. refl) _ }
runs zs ys f bs (some G.line) = record { leaves = told_left f text _; prints_as = told_prints f text G.line (λ l. refl) _ }

-- a line, refused or accepted, leaves what its call leaves
pub step_runs : (zs : List ℤ) (ys : Bytes) (f : Fixture) (bs : Bytes) → (step zs ys f bs).left ≡ happened_from f (events_of bs (verb_of bs))
unfolding step
step_runs zs ys f bs = (runs zs ys f bs (verb_of bs)).leaves

-- what the lines of a script leave
unfoldable pub left_by : List ℤ → Bytes → Fixture → List Bytes → Fixture
left_by zs ys f [] = f
left_by zs ys f (l ∷ ls) = left_by zs ys (step zs ys f l).left ls

happened_append : (f : Fixture) (es fs : List Event) → happened_from f (es ++ fs) ≡ happened_from (happened_from f es) fs
unfolding happened_from
happened_append f [] fs = refl
happened_append f (e ∷ es) fs = happened_append (happen f e) es fs

runs_from : (zs : List ℤ) (ys : Bytes) (f : Fixture) (ls : List Bytes) → left_by zs ys f ls ≡ happened_from f (gather (λ l. events_of l (verb_of l)) ls)
unfolding left_by gather happened_from
runs_from zs ys f [] = refl
runs_from zs ys f (l ∷ ls) =
    runs_from zs ys (step zs ys f l).left ls ∙ ap (λ x. happened_from x (gather (λ l. events_of l (verb_of l)) ls)) (step_runs zs ys f l)
    ∙ sym (happened_append f (events_of l (verb_of l)) (gather (λ l. events_of l (verb_of l)) ls))

-- a whole script leaves what the list of its calls and lines leaves
pub script_runs : (zs : List ℤ) (ys : Bytes) (ls : List Bytes) → left_by zs ys new_fixture ls ≡ happened (gather (λ l. events_of l (verb_of l)) ls)
unfolding happened
script_runs zs ys ls = runs_from zs ys new_fixture ls

-- ---- what prints

-- a line that prints cells is an `ask`
pub only_asks_print : (zs : List ℤ) (ys : Bytes) (f : Fixture) (bs : Bytes) (out : List ℤ) → (step zs ys f bs).outcome ≡ cells out → verb_of bs ≡ some G.ask
unfolding step printed_by
only_asks_print zs ys f bs out e = (runs zs ys f bs (verb_of bs)).prints_as G.ask (ap printed_by e)

-- and one that prints a text is a `line`
pub only_lines_print : (zs : List ℤ) (ys : Bytes) (f : Fixture) (bs out : Bytes) → (step zs ys f bs).outcome ≡ text out → verb_of bs ≡ some G.line
unfolding step printed_by
only_lines_print zs ys f bs out e = (runs zs ys f bs (verb_of bs)).prints_as G.line (ap printed_by e)

-- ==== the same of calls, not of script lines alone

-- what any list of calls and lines leaves is sound: each of its grants was made by an accepted line
sound_happen : (f : Fixture) → Sound f → (e : Event) → Sound (happen f e)
unfolding happen next next_catalogue
sound_happen f s (call c) = go (passes (call_table f.record_kept c)) (sound_call f s c)
  where
    go : (b : Bool) → (T b → Sound (record { record_kept = effect f.record_kept c; catalogue = f.catalogue; caller = f.caller })) → Sound (record { record_kept = cond b (effect f.record_kept c) f.record_kept; catalogue = f.catalogue; caller = f.caller })
    go true k = k tt
    go false k = s
sound_happen f s (grant bs) = go (passes (grant_table f.record_kept.schema f.catalogue bs)) (sound_grant f s bs)
  where
    go : (b : Bool) → (T b → Sound (record { record_kept = f.record_kept; catalogue = with_grant f.record_kept.schema f.catalogue (parse_as G.grant bs); caller = f.caller }))
        → Sound (record { record_kept = f.record_kept; catalogue = cond b (with_grant f.record_kept.schema f.catalogue (parse_as G.grant bs)) f.catalogue; caller = f.caller })
    go true k = k tt
    go false k = s
sound_happen f s (caller bs) = go (passes (caller_table bs)) (sound_caller f s bs)
  where
    go : (b : Bool) → (T b → Sound (record { record_kept = f.record_kept; catalogue = f.catalogue; caller = with_caller f.caller (parse_as G.caller bs) }))
        → Sound (record { record_kept = f.record_kept; catalogue = f.catalogue; caller = cond b (with_caller f.caller (parse_as G.caller bs)) f.caller })
    go true k = k tt
    go false k = s
sound_happen f s query = s

sound_happened_from : (f : Fixture) → Sound f → (es : List Event) → Sound (happened_from f es)
unfolding happened_from
sound_happened_from f s [] = s
sound_happened_from f s (e ∷ es) = sound_happened_from (happen f e) (sound_happen f s e) es

pub sound_happened : (es : List Event) → Sound (happened es)
unfolding happened
sound_happened es = sound_happened_from new_fixture sound_new es

-- the call for a line, over what any list of calls leaves and for any valid caller: with 4,096 bytes lent it is never refused for want of room
module _ (es : List Event) (who : Caller) (valid : T (valid_caller who)) (n : ℤ) (bs ys : Bytes) (room : max_printed ≤ length ys) where
  abbrev left : Fixture
  left = happened es

  abbrev asks : G.Form → RouteLine
  asks q = record { route = n; query = q }

  fronts : G.Form → List Check
  fronts q =
      refuse Lent (not (lent_valid left.record_kept left.catalogue who))
      ∷ refuse Bound (ltb max_line (length bs))
      ∷ refuse Malformed false
      ∷ refuse Bound (not (shallow 0 bs))
      ∷ (query_checks left.record_kept.schema q
      ++ (refuse NoRoute (no_line (line_given left.record_kept left.catalogue who (asks q)))
      ∷ refuse ManyRoutes (ltb max_routes (length (query_routes left.record_kept left.catalogue who q)))
      ∷ []))

  roomy : (o : Option G.Form) → parse_query bs ≡ o → (r : Refusal) → first (line_table left.record_kept left.catalogue who 0 bs (with_route n o) ys) ≡ some r → number_of r ≡ 11 → ⊥
  unfolding line_table written query_checks line_checks printed_line line_given query_routes refuse every fronts with_route map_option
  roomy none p r e h = never_first 11 _ r tt e h
  roomy (some q) p r e h =
      first_last 11 (fronts q) (refuse NoRoom (ltb (length ys) (length (printed_line left.record_kept left.catalogue who (some (asks q)))))) r tt e h (λ t b.
      let s = sound_happened es in
      let u = nltb→le max_line (length bs) (pass_first _ (ltb max_line (length bs)) _ (pass_rest _ _ _ t)) in
      let m = passes_left (query_checks left.record_kept.schema q) _ (pass_rest _ _ _ (pass_rest _ _ _ (pass_rest _ _ _ (pass_rest _ _ _ t)))) in
      let short = ap length (query_parsed_printed bs q p).1 in
      let k = given_short left.record_kept.schema who (line_fits left.record_kept.schema (schema_kept left s) who valid left.catalogue s.lines q (omega (arith, short)) m) n in
      let o = ltb→lt (length ys) (length (printed_line left.record_kept left.catalogue who (some (asks q)))) b in
      omega arith)

  pub line_call_has_room : (r : Refusal) → first (line_table left.record_kept left.catalogue who 0 bs (with_route n (parse_query bs)) ys) ≡ some r → number_of r ≡ 11 → ⊥
  line_call_has_room r = roomy (parse_query bs) refl r
