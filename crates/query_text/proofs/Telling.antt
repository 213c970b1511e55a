-- What is read of a text.
use mathlib.Core.Path.{◌≡◌, refl, sym, ap, subst}
use mathlib.Core.List.{List}
use mathlib.Core.Option.{Option, none, some, none-ne-some, some-injective}
use Prim.Native.Nat.{ℕ, ◌≤◌}
use native.Mathlib.Omega.{arith}
use lib.IntN.{pos}
use lib.Dec.{T, leb, ltb, le→leb}
use lib.ListN.{length, replicate, length-replicate}
use borrow.Author.Tests.{ltb-false}
use Rattle.refusal.specs.Checks.{Check, first}
use Rattle.refusal.specs.declared.Refusal.TheVariants.{Bound}
use Rattle.syntax.specs.Grammar as G
use Rattle.syntax.specs.Grammar.{Bytes, Form, RouteLine, query_text}
use Rattle.syntax.specs.Limits.{max_line}
use Rattle.syntax.specs.Readers.{parse_as, parse_query}
use Rattle.syntax.proofs.Lines.{parsed_printed, query_parsed_printed}
use Rattle.syntax.proofs.Exact.{body_length, line_length, query_text_length, line_text_length}
use Rattle.calls.specs.Names.{map_option}
use Rattle.calls.specs.Replies.{written}
use Rattle.calls.specs.Tables.{query_checks}
use Rattle.schema.specs.Schemas.{schema_of}
use Rattle.query_read.specs.Seeing.{max_words}
use Rattle.query_line.specs.declared.Asked.{Asked}
use Rattle.query_line.specs.declared.Routed.{Routed}
use Rattle.query_line.specs.Asking.{Means}
use Rattle.query_line.specs.Texts as L
use Rattle.query_line.specs.Texts.{QueryTold, AskTold, RouteTold}
use Rattle.query_line.proofs.Texts.{route_clamped}
use Rattle.query.specs.Tables.{query_forms}
use Rattle.needs.specs.Asking.{needs_in}
use Rattle.needs.specs.declared.Needs.{Needs}
use Rattle.query_text.specs.declared.Told.{Told}
use Rattle.query_text.specs.Texts.{told_of, TextRead, PlainRead, QueryRead, AskRead, LineRead}
use Rattle.query_text.proofs.Firsts.{not_first}

-- a text whose checks hold off is no longer than a line, and so is its query
text_short : (spare : ℕ) (bs : Bytes) (o : Option Form) (checks : Form → List Check) (q : Form) → o ≡ some q → length (query_text q) ≤ length bs → first (written spare bs o checks) ≡ none → length (query_text q) ≤ max_line
unfolding written
text_short spare bs none checks q e g h = absurd (none-ne-some q e)
text_short spare bs (some p) checks q e g h = let l = ltb-false max_line (length bs) (not_first (ltb max_line (length bs)) Bound _ h).0 in omega arith

pub told_made : (ns ws : List ℕ) (r : Routed) {n : Needs} → n ≡ needs_in ns ws (query_forms r.asked.query)
    → ◌≡◌ {A = Told} (record { checks = r.asked.checks; query = r.asked.query; needs = n; words = ws; number = r.route }) (told_of ns ws r)
unfolding told_of
told_made ns ws r e = rw e

-- the query of what a text says is no longer than the text
alone_short : (bs : Bytes) (q : Form) → parse_query bs ≡ some q → length (query_text q) ≤ length bs
alone_short bs q e = let z = ap length (query_parsed_printed bs q e).1 in omega arith

ask_short : (bs : Bytes) (q : Form) → parse_as G.ask bs ≡ some q → length (query_text q) ≤ length bs
unfolding line_length body_length
ask_short bs q e =
    let b = ap length (parsed_printed G.ask bs q e).1 in
    let k = line_text_length G.ask q in
    let m = query_text_length q in
    omega arith

line_short : (bs : Bytes) (l : RouteLine) → parse_as G.line bs ≡ some l → length (query_text l.query) ≤ length bs
unfolding line_length body_length
line_short bs l e =
    let b = ap length (parsed_printed G.line bs l e).1 in
    let k = line_text_length G.line l in
    let m = query_text_length l.query in
    omega arith

abbrev room : T (leb max_words (length {A = ℕ} (replicate max_words 0)))
room = le→leb max_words (length {A = ℕ} (replicate max_words 0)) (omega (arith, length-replicate {A = ℕ} max_words 0))

-- with words enough, and its needs
read_told : (spare : ℕ) (o : Option Form) (ns : List ℕ) (bs : Bytes) {ws : List ℕ} (r : Routed) → ((q : Form) → o ≡ some q → length (query_text q) ≤ length bs)
    → L.Told (λ q. q) spare o ns bs (replicate max_words 0) ws r.asked → TextRead spare o ns bs (told_of ns ws r)
unfolding told_of
read_told spare o ns bs r l t =
    record { checks = λ s. t.checks s room; query = λ s q e f. t.query s room q e f; short = λ q e f. text_short spare bs o (query_checks (schema_of ns)) q e (l q e) f; needs = refl }

-- the query of a line by itself
of_line : (spare : ℕ) (o : Option RouteLine) (ns : List ℕ) (bs : Bytes) {ws ws' : List ℕ} {a : Asked} → L.Told (λ (l : RouteLine). l.query) spare o ns bs ws ws' a
    → L.Told (λ q. q) spare (map_option (λ (l : RouteLine). l.query) o) ns bs ws ws' a
unfolding map_option written
of_line spare none ns bs t = record { is = t.is; stored = t.stored; checks = t.checks; query = λ s u q e. absurd (none-ne-some q e); kept = t.kept }
of_line spare (some l) ns bs {ws} {ws'} {a} t =
    record { is = t.is; stored = t.stored; checks = t.checks; query = λ s u q e f. subst (λ p. Means (schema_of ns) p ws' a.query) (some-injective l.query q e) (t.query s u l refl f); kept = t.kept }

-- a query by itself or of an `ask` line
plain_told : (spare : ℕ) (o : Option Form) (ns : List ℕ) (bs : Bytes) {ws : List ℕ} {a : Asked} {t : Told} → ((q : Form) → o ≡ some q → length (query_text q) ≤ length bs) → L.Told (λ q. q) spare o ns bs (replicate max_words 0) ws a
    → t ≡ told_of ns ws (record { route = pos 0; asked = a }) → PlainRead spare o ns bs t
plain_told spare o ns bs {ws} {a} l k e = subst (λ x. PlainRead spare o ns bs x) (sym e) (record { text = read_told spare o ns bs (record { route = pos 0; asked = a }) l k; number = unfold told_of in refl })

pub query_told : (ns : List ℕ) (bs : Bytes) {ws : List ℕ} {a : Asked} {t : Told} → QueryTold ns bs (replicate max_words 0) ws a → t ≡ told_of ns ws (record { route = pos 0; asked = a }) → QueryRead ns bs t
query_told ns bs k e = plain_told 0 (parse_query bs) ns bs (alone_short bs) k e

pub ask_told : (ns : List ℕ) (bs : Bytes) {ws : List ℕ} {a : Asked} {t : Told} → AskTold ns bs (replicate max_words 0) ws a → t ≡ told_of ns ws (record { route = pos 0; asked = a }) → AskRead ns bs t
ask_told ns bs k e = plain_told 1 (parse_as G.ask bs) ns bs (ask_short bs) k e

pub line_told : (ns : List ℕ) (bs : Bytes) {ws : List ℕ} {r : Routed} {t : Told} → RouteTold ns bs (replicate max_words 0) ws r → t ≡ told_of ns ws r → LineRead ns bs t
unfolding told_of map_option
line_told ns bs {ws} {r} k e =
    subst (λ x. LineRead ns bs x) (sym e) (record {
      text = read_told 1 (map_option (λ (l : RouteLine). l.query) (parse_as G.line bs)) ns bs r (go (parse_as G.line bs) refl) (of_line 1 (parse_as G.line bs) ns bs k.told);
      number = λ s l p f. route_clamped ns bs (replicate max_words 0) ws k room l p f;
    })
  where
    go : (o : Option RouteLine) → parse_as G.line bs ≡ o → (q : Form) → map_option (λ (l : RouteLine). l.query) o ≡ some q → length (query_text q) ≤ length bs
    go none p q f = absurd (none-ne-some q f)
    go (some l) p q f = subst (λ x. length (query_text x) ≤ length bs) (some-injective l.query q f) (line_short bs l p)
