-- The reply to a query of which the text and the catalogue were read, by the whole table of the call.
use mathlib.Core.Path.{◌≡◌, refl, sym, ap, ap₂, ◌∙◌, subst}
use mathlib.Core.List.{List, [], ◌∷◌, ◌++◌}
use mathlib.Core.Bool.{Bool, ◌&&◌, not}
use mathlib.Core.Option.{Option, none, some}
use Prim.Native.Nat.{ℕ}
use lib.IntN.{ℤ}
use lib.Dec.{T}
use lib.ListN.{length}
use Rattle.std.specs.Prelude.{Ok, Err}
use Rattle.refusal.specs.Results.{Said, result_of}
use Rattle.refusal.specs.Checks.{Check, refuse, first, table}
use Rattle.refusal.specs.declared.Refusal.{Refusal}
use Rattle.refusal.specs.declared.Refusal.TheVariants.{Lent}
use Rattle.syntax.specs.Grammar.{Bytes, Form, RouteLine}
use Rattle.model.specs.Queries as M
use Rattle.calls.specs.Names.{map_option, resolve}
use Rattle.calls.specs.Validity.{valid_caller}
use Rattle.calls.specs.Replies.{written, reply, lent_after}
use Rattle.calls.specs.Tables.{query_checks}
use Rattle.calls.specs.Asking.{query_routes, answer, answer_checks, numbered_line, some_bytes, line_given, printed_line, line_checks, with_route}
use Rattle.text.specs.Words.{clamp}
use Rattle.schema.specs.Schemas.{schema_of, schema_sound}
use Rattle.schema.proofs.Valid as S
use Rattle.ledger.specs.Records.{Memory, record_of, memory_sound}
use Rattle.ledger.proofs.Soundness.{sound_parts}
use Rattle.caller.specs.declared.Caller.{Caller}
use Rattle.caller.proofs.Identifying as C
use Rattle.caller.specs.Callers.{caller_of, caller_sound}
use Rattle.grant.specs.declared.Grant.{Grant}
use Rattle.grant.specs.Grants.{grant_of}
use Rattle.grant.specs.Catalogues.{catalogue_of}
use Rattle.query.specs.declared.Form as Q
use Rattle.query.specs.Tables.{query_forms}
use Rattle.query.specs.Forms.{Words, query_in}
use Rattle.needs.specs.Asking.{needs_in, needs_of}
use Rattle.needs.specs.declared.Needs.{Needs}
use Rattle.routes.specs.declared.Open.{Open}
use Rattle.routes.specs.Opening.{caller_in}
use Rattle.routes.specs.Listing.{open_all, routes_in}
use Rattle.sides.specs.Sides.{words_of}
use Rattle.catalogue.specs.Callers.{roles_of, profile_of}
use Rattle.catalogue.specs.Opened.{blank, opened_in}
use Rattle.catalogue.specs.declared.Opened.{Opened}
use Rattle.catalogue.proofs.Held.{caller_held}
use Rattle.route_plan.proofs.Meant.{Checked}
use Rattle.ask.specs.declared.Reply.{Reply}
use Rattle.query_text.specs.declared.Told.{Told}
use Rattle.ask.specs.Replies.{refused_with, reply_of, Replies}
use Rattle.query_text.specs.Texts.{TextRead, RouteRead}
use Rattle.route_cells.specs.Routes.{Setting}
use Rattle.ask.specs.Cells.{run_reply, run_checks, run_cells, Ready}
use Rattle.route_line.specs.Texts.{Wording}
use Rattle.ask.specs.Lines.{text_at, print_checks, print_reply, Printable}
use Rattle.ask.specs.Asking.{Lending, lent_sound, asked_table, asked, lined_table, lined}
use Rattle.ask.proofs.Accepted.{checked, asks_is, resolved_is}
use Rattle.ask.proofs.Evaluable.{routes_ready}
use Rattle.ask.proofs.Cells.{many, answer_is, checks_are}
use Rattle.ask.proofs.Printed.{line_is, lines_short}
use Rattle.ask.proofs.Numbered.{clamp_twice, print_numbered}
use Rattle.ask.proofs.Passed.{with_lent, Passed, of_form, whole, whole_refused, whole_passed, front_passes, passed}

-- ---- where the checks of 12 and of the text hold off

module _ (m : Memory) (ws : List ℕ) (who : Caller) (t : Told) {x : Opened} (form : Option Form) (gs : List Grant) (asks : t.needs ≡ needs_in m.names t.words (query_forms t.query))
    (opened : x ≡ opened_in t.needs m.names gs ws (roles_of who) (profile_of who)) (p : Passed m ws who t form gs) where
  abbrev ns : List ℕ
  ns = m.names

  abbrev cat : List M.Grant
  cat = catalogue_of ns gs ws

  abbrev fs : List Q.Form
  fs = query_forms t.query

  abbrev roles : List ℕ
  roles = roles_of who

  abbrev profile : List ℕ
  profile = profile_of who

  -- what the routes are evaluated over
  abbrev s : Setting
  s = record { memory = m; own = t.words; granted = ws; profile = profile; forms = fs }

  abbrev w : Words
  w = words_of t.words ws profile

  abbrev n : Needs
  n = needs_of ns (query_in w fs)

  abbrev o : Open
  o = open_all n ws roles profile gs

  held : caller_in roles profile ≡ caller_of who
  held = caller_held who p.caller

  checks : Checked (record_of m) ns w fs
  checks = checked m t.words ws profile p.query t.query p.means p.ok

  is : resolve (schema_of ns) p.query ≡ query_in w fs
  is = resolved_is m t.words ws profile p.query t.query p.means p.ok

  needs_are : n ≡ t.needs
  needs_are = sym (asks ∙ asks_is m t.words ws profile p.query t.query p.means p.ok)

  opens_are : o ≡ x.opens
  unfolding opened_in
  opens_are = ap (λ k. open_all k ws roles profile gs) needs_are ∙ sym (ap (λ (y : Opened). y.opens) opened)

  -- a statement on the grants that are opened for the query, and on what it asks
  by_query : (P : Open → Needs → Type 0) → P o n → P x.opens t.needs
  by_query P h = subst (λ (k : Needs). P x.opens k) needs_are (subst (λ (k : Open). P k n) opens_are h)

  -- in the place of no grant
  abbrev z : Grant
  z = blank

  abbrev any : M.Grant
  any = grant_of ns blank []

  -- ---- its answer

  ready : Ready s x.opens t.needs
  ready = by_query (λ k i. Ready s k i) (routes_ready m p.safe ws t.words roles profile fs checks gs p.lawful z any)

  answer_run : answer (record_of m) cat (caller_of who) form ≡ run_cells s x.opens t.needs
  answer_run =
      ap₂ (λ (c : M.Caller) (g : Option Form). answer (record_of m) cat c g) (sym held) p.is
      ∙ by_query (λ k i. answer (record_of m) cat (caller_in roles profile) (some p.query) ≡ run_cells s k i)
      (answer_is m p.safe ws t.words roles profile fs checks gs p.lawful z any p.query is)

  checks_run : (cells : List ℤ) → of_form (λ f. answer_checks (record_of m) cat (caller_of who) cells f) form ≡ run_checks s x.opens t.needs cells
  unfolding of_form
  checks_run cells =
      ap (of_form (λ f. answer_checks (record_of m) cat (caller_of who) cells f)) p.is
      ∙ ap (λ (c : M.Caller). answer_checks (record_of m) cat c cells p.query) (sym held)
      ∙ by_query (λ k i. answer_checks (record_of m) cat (caller_in roles profile) cells p.query ≡ run_checks s k i cells)
      (checks_are m p.safe ws t.words roles profile fs checks gs p.lawful z any p.query is cells)

  -- ---- the line of a route

  abbrev wording : Wording
  wording = record { names = ns; own = t.words; granted = ws; profile = profile; forms = fs }

  printable : Printable wording x.opens t.needs
  printable =
      by_query (λ k i. Printable wording k i)
      (lines_short m p.safe ws t.words roles profile fs checks gs p.lawful z any p.query is (S.sound_valid ns (sound_parts m p.safe).names) (subst (λ (c : M.Caller). T (valid_caller c)) (sym held) (C.sound_valid who p.caller)) p.short p.ok)

  module _ (number : ℤ) where
    abbrev route_line : Form → RouteLine
    route_line f = record { route = number; query = f }

    -- the line of the route is the text at its place, and there are as many routes
    given_run : line_given (record_of m) cat (caller_of who) (route_line p.query) ≡ text_at wording x.opens t.needs number
    unfolding line_given record_of
    given_run =
        ap (λ (c : M.Caller). numbered_line (schema_of ns) c (query_routes (record_of m) cat c p.query) number) (sym held)
        ∙ by_query (λ k i. numbered_line (schema_of ns) (caller_in roles profile) (query_routes (record_of m) cat (caller_in roles profile) p.query) number ≡ text_at wording k i number)
        (line_is m p.safe ws t.words roles profile fs checks gs p.lawful z any p.query is number)

    many_run : length (query_routes (record_of m) cat (caller_of who) p.query) ≡ length (routes_in x.opens t.needs)
    many_run =
        ap (λ (c : M.Caller). length (query_routes (record_of m) cat c p.query)) (sym held)
        ∙ by_query (λ k i. length (query_routes (record_of m) cat (caller_in roles profile) p.query) ≡ length (routes_in k i))
        (many m p.safe ws t.words roles profile fs checks gs p.lawful z any p.query is)

    printed_run : printed_line (record_of m) cat (caller_of who) (with_route number form) ≡ some_bytes (text_at wording x.opens t.needs number)
    unfolding printed_line with_route map_option
    printed_run = ap (λ (g : Option Form). printed_line (record_of m) cat (caller_of who) (with_route number g)) p.is ∙ ap some_bytes given_run

    line_checks_run : (out : Bytes) → of_form (λ f. line_checks (record_of m) cat (caller_of who) out (route_line f)) form ≡ print_checks wording x.opens t.needs number out
    unfolding of_form line_checks print_checks printed_line
    line_checks_run out = ap (of_form (λ f. line_checks (record_of m) cat (caller_of who) out (route_line f))) p.is ∙ rw (given_run, many_run) refl

-- ---- the call

module _ (m : Memory) (ws : List ℕ) (who : Caller) (t : Told) (spare : ℕ) (bs : Bytes) (form : Option Form) (gs : List Grant) (text : TextRead spare form m.names bs t)
    {x : Opened} (opened : x ≡ opened_in t.needs m.names gs ws (roles_of who) (profile_of who)) {b : Bool} (may : b ≡ (memory_sound m && x.sound && caller_sound who))
    {v : Said} (told : v ≡ result_of (first (table (with_lent (not b) t.checks)))) where
  abbrev pass : v ≡ Ok tt → Passed m ws who t form gs
  pass e = passed m ws who t spare bs form gs text opened may told e

  -- ---- asking

  module _ (cells : List ℤ) where
    abbrev last : Form → List Check
    last f = answer_checks (record_of m) (catalogue_of m.names gs ws) (caller_of who) cells f

    stops : {f : Refusal} → v ≡ Err f → first (asked_table spare form (record { memory = m; grants = gs; granted = ws; caller = who }) bs cells) ≡ some f
    unfolding asked_table
    stops e = whole_refused m ws who t spare bs form gs text opened may told last e

    pub text_refused : {f : Refusal} → v ≡ Err f → {r : Reply} → r ≡ refused_with f → Replies (asked spare form (record { memory = m; grants = gs; granted = ws; caller = who }) bs cells) cells cells r
    unfolding asked reply reply_of lent_after
    text_refused e g = record { said = rw (stops e) g; left = rw (stops e) refl }

    module _ (e : v ≡ Ok tt) where
      pub text_ready : Ready (record { memory = m; own = t.words; granted = ws; profile = profile_of who; forms = query_forms t.query }) x.opens t.needs
      text_ready = ready m ws who t form gs text.needs opened (pass e)

      asked_run : asked spare form (record { memory = m; grants = gs; granted = ws; caller = who }) bs cells ≡ run_reply (record { memory = m; own = t.words; granted = ws; profile = profile_of who; forms = query_forms t.query }) x.opens t.needs cells
      unfolding asked asked_table run_reply
      asked_run =
          ap₂ (λ (a : Option Refusal) (l : List ℤ). reply a l cells) (whole_passed m ws who t spare bs form gs text opened may told last e ∙ ap first (checks_run m ws who t form gs text.needs opened (pass e) cells))
          (answer_run m ws who t form gs text.needs opened (pass e))

      pub text_answered : {cells' : List ℤ} {r : Reply} → Replies (run_reply (record { memory = m; own = t.words; granted = ws; profile = profile_of who; forms = query_forms t.query }) x.opens t.needs cells) cells cells' r
          → Replies (asked spare form (record { memory = m; grants = gs; granted = ws; caller = who }) bs cells) cells cells' r
      text_answered {cells'} {r} h = subst (λ y. Replies y cells cells' r) (sym asked_run) h

  -- ---- the line of a route

  module _ (number : ℤ) (out : Bytes) where
    abbrev lending : Lending
    lending = record { memory = m; grants = gs; granted = ws; caller = who }

    abbrev line_last : Form → List Check
    line_last f = line_checks (record_of m) (catalogue_of m.names gs ws) (caller_of who) out (record { route = number; query = f })

    -- with the number beside the query
    lined_is : lined_table spare (with_route number form) lending bs out ≡ whole m ws who t spare bs form gs text opened may told line_last
    unfolding lined_table written with_route map_option
    lined_is = go form
      where
        go : (o : Option Form) → ◌≡◌ {A = List Check} (refuse Lent (not (lent_sound lending)) ∷ written spare bs (with_route number o) (λ (k : RouteLine). query_checks (schema_of m.names) k.query ++ line_checks (record_of m) (catalogue_of m.names gs ws) (caller_of who) out k))
            (refuse Lent (not (lent_sound lending)) ∷ written spare bs o (λ f. query_checks (schema_of m.names) f ++ line_last f))
        go none = refl
        go (some f) = refl

    line_stops : {f : Refusal} → v ≡ Err f → first (lined_table spare (with_route number form) lending bs out) ≡ some f
    line_stops e = ap first lined_is ∙ whole_refused m ws who t spare bs form gs text opened may told line_last e

    pub line_refused : {f : Refusal} → v ≡ Err f → {r : Reply} → r ≡ refused_with f → Replies (lined spare (with_route number form) (record { memory = m; grants = gs; granted = ws; caller = who }) bs out) out out r
    unfolding lined reply reply_of lent_after
    line_refused e g = record { said = rw (line_stops e) g; left = rw (line_stops e) refl }

    module _ (e : v ≡ Ok tt) where
      pub line_ready : Printable (record { names = m.names; own = t.words; granted = ws; profile = profile_of who; forms = query_forms t.query }) x.opens t.needs
      line_ready = printable m ws who t form gs text.needs opened (pass e)

      lined_run : lined spare (with_route number form) lending bs out ≡ print_reply (record { names = m.names; own = t.words; granted = ws; profile = profile_of who; forms = query_forms t.query }) x.opens t.needs number out
      unfolding lined print_reply
      lined_run =
          ap₂ (λ (a : Option Refusal) (l : Bytes). reply a l out) (ap first lined_is ∙ whole_passed m ws who t spare bs form gs text opened may told line_last e ∙ ap first (line_checks_run m ws who t form gs text.needs opened (pass e) number out))
          (printed_run m ws who t form gs text.needs opened (pass e) number)

      pub line_answered : {out' : Bytes} {r : Reply} → Replies (print_reply (record { names = m.names; own = t.words; granted = ws; profile = profile_of who; forms = query_forms t.query }) x.opens t.needs number out) out out' r
          → Replies (lined spare (with_route number form) (record { memory = m; grants = gs; granted = ws; caller = who }) bs out) out out' r
      line_answered {out'} {r} h = subst (λ y. Replies y out out' r) (sym lined_run) h

-- ---- a route's number in the text

module _ (m : Memory) (ws : List ℕ) (who : Caller) (t : Told) (spare : ℕ) (bs : Bytes) (gs : List Grant) {x : Opened} (opened : x ≡ opened_in t.needs m.names gs ws (roles_of who) (profile_of who)) (out : Bytes) where
  abbrev lends : Lending
  lends = record { memory = m; grants = gs; granted = ws; caller = who }

  abbrev may_lend : Bool
  may_lend = memory_sound m && x.sound && caller_sound who

  -- two numbers that are not told apart where the text passes
  same_numbered : (form : Option Form) → TextRead spare form m.names bs t → (y z : ℤ) → (T (schema_sound m.names) → first (table t.checks) ≡ none → clamp y ≡ clamp z)
      → lined spare (with_route y form) lends bs out ≡ lined spare (with_route z form) lends bs out
  unfolding lined reply
  same_numbered form text y z k = go (result_of (first (table (with_lent (not may_lend) t.checks)))) refl
    where
      go : (v : Said) → v ≡ result_of (first (table (with_lent (not may_lend) t.checks))) → lined spare (with_route y form) lends bs out ≡ lined spare (with_route z form) lends bs out
      go (Err f) e = rw (line_stops m ws who t spare bs form gs text opened refl e y out refl, line_stops m ws who t spare bs form gs text opened refl e z out refl)
      go (Ok u) e =
          let p = passed m ws who t spare bs form gs text opened refl e refl in
          let safe = (sound_parts m p.safe).names in
          lined_run m ws who t spare bs form gs text opened refl e y out refl
          ∙ print_numbered _ x.opens t.needs y z (k safe (text.checks safe ∙ front_passes m ws who t spare bs form gs text opened refl e refl)) out
          ∙ sym (lined_run m ws who t spare bs form gs text opened refl e z out refl)

  pub line_numbered : (o : Option RouteLine) → RouteRead spare o m.names bs t → lined spare (with_route t.number (map_option (λ (l : RouteLine). l.query) o)) lends bs out ≡ lined spare o lends bs out
  unfolding with_route map_option
  line_numbered none r = refl
  line_numbered (some l) r = same_numbered (some l.query) r.text t.number l.route (λ s f. ap clamp (r.number s l refl f) ∙ clamp_twice l.route)
