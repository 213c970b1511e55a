-- The calls: what may be lent, the whole table of each, and its reply.
use Rattle.std.specs.Prelude.{◌≡◌, List, ◌∷◌, ◌++◌, Bool, ◌&&◌, not, ℕ, ℤ, T}
use Rattle.std.proofs.Math.Option.{Option}
use Rattle.refusal.specs.Checks.{Check, refuse, first}
use Rattle.refusal.specs.declared.Refusal.TheVariants.{Lent}
use Rattle.lists.specs.Lists.{every}
use Rattle.syntax.specs.Grammar.{Bytes, Form, RouteLine}
use Rattle.syntax.specs.Limits.{is_value}
use Rattle.calls.specs.Replies as C
use Rattle.calls.specs.Replies.{written, reply}
use Rattle.calls.specs.Tables.{query_checks}
use Rattle.calls.specs.Asking.{answer, answer_checks, printed_line, line_checks, with_route}
use Rattle.schema.specs.Schemas.{schema_of}
use Rattle.ledger.specs.Records.{Memory, record_of, memory_sound}
use Rattle.caller.specs.declared.Caller.{Caller}
use Rattle.caller.specs.Callers.{caller_of, caller_sound}
use Rattle.grant.specs.declared.Grant.{Grant}
use Rattle.grant.specs.Catalogues.{catalogue_of, catalogue_sound}
use Rattle.catalogue.specs.Callers.{roles_of, profile_of}
use Rattle.catalogue.specs.Opened.{opened_in}
use Rattle.catalogue.specs.declared.Opened.{Opened}
use Rattle.query_text.specs.declared.Told.{Told}
use Rattle.ask.specs.declared.Reply.{Reply}
use Rattle.ask.specs.Replies.{Replies}
use Rattle.query_text.specs.Texts.{TextRead, RouteRead}

-- what is lent to a query: the record, the grants with their words, and the caller
pub record Lending : Type 0 where
  pub memory : Memory
  pub grants : List Grant
  pub granted : List ℕ
  pub caller : Caller

unfoldable pub lent_sound : Lending → Bool
lent_sound x = memory_sound x.memory && catalogue_sound x.memory.names x.grants x.granted && caller_sound x.caller

-- ---- asking: 12, then the checks of the text, of the query, and of what it gives. `spare` brackets of the text are not counted.

unfoldable pub asked_table : ℕ → Option Form → Lending → Bytes → List ℤ → List Check
asked_table spare q x bs lent =
    refuse Lent (not (lent_sound x))
    ∷ written spare bs q (λ f. query_checks (schema_of x.memory.names) f
    ++ answer_checks (record_of x.memory) (catalogue_of x.memory.names x.grants x.granted) (caller_of x.caller) lent f)

unfoldable pub asked : ℕ → Option Form → Lending → Bytes → List ℤ → C.Reply ℤ
asked spare q x bs lent =
    reply (first (asked_table spare q x bs lent)) (answer (record_of x.memory) (catalogue_of x.memory.names x.grants x.granted) (caller_of x.caller) q) lent

-- ---- the line of a route

unfoldable pub lined_table : ℕ → Option RouteLine → Lending → Bytes → Bytes → List Check
lined_table spare l x bs lent =
    refuse Lent (not (lent_sound x))
    ∷ written spare bs l (λ m. query_checks (schema_of x.memory.names) m.query
    ++ line_checks (record_of x.memory) (catalogue_of x.memory.names x.grants x.granted) (caller_of x.caller) lent m)

unfoldable pub lined : ℕ → Option RouteLine → Lending → Bytes → Bytes → C.Reply ℕ
lined spare l x bs lent =
    reply (first (lined_table spare l x bs lent)) (printed_line (record_of x.memory) (catalogue_of x.memory.names x.grants x.granted) (caller_of x.caller) l) lent

-- ---- what a call has read before it looks at the record

-- the text of some query, and what the grants of some catalogue open for it
pub record Prepared (ns granted : List ℕ) (who : Caller) (t : Told) (x : Opened) : Type 0 where
  pub spare : ℕ
  pub bytes : Bytes
  pub form : Option Form
  pub grants : List Grant
  pub text : TextRead spare form ns bytes t
  pub opened : x ≡ opened_in t.needs ns grants granted (roles_of who) (profile_of who)

-- the reply is that of the call, whatever query the text has and whatever catalogue they are of
pub record Answers (m : Memory) (granted : List ℕ) (who : Caller) (t : Told) (x : Opened) (cells cells' : List ℤ) (r : Reply) : Type 0 where
  pub shown : (spare : ℕ) (bs : Bytes) (form : Option Form) (gs : List Grant) → TextRead spare form m.names bs t → x ≡ opened_in t.needs m.names gs granted (roles_of who) (profile_of who)
      → Replies (asked spare form (record { memory = m; grants = gs; granted = granted; caller = who }) bs cells) cells cells' r

-- the reply to a call for a line, and that the values lent to it are numbers of 32 bits
pub record LineReplies (spare : ℕ) (o : Option RouteLine) (x : Lending) (bs out out' : Bytes) (r : Reply) : Type 0 where
  pub said : Replies (lined spare o x bs out) out out' r
  pub ranges : T (every is_value x.memory.values)

pub record Lines (m : Memory) (granted : List ℕ) (who : Caller) (t : Told) (x : Opened) (number : ℤ) (out out' : Bytes) (r : Reply) : Type 0 where
  pub shown : (spare : ℕ) (bs : Bytes) (form : Option Form) (gs : List Grant) → TextRead spare form m.names bs t → x ≡ opened_in t.needs m.names gs granted (roles_of who) (profile_of who)
      → LineReplies spare (with_route number form) (record { memory = m; grants = gs; granted = granted; caller = who }) bs out out' r

-- and with the number that the text has
pub record RouteLines (m : Memory) (granted : List ℕ) (who : Caller) (t : Told) (x : Opened) (out out' : Bytes) (r : Reply) : Type 0 where
  pub shown : (spare : ℕ) (bs : Bytes) (o : Option RouteLine) (gs : List Grant) → RouteRead spare o m.names bs t → x ≡ opened_in t.needs m.names gs granted (roles_of who) (profile_of who)
      → LineReplies spare o (record { memory = m; grants = gs; granted = granted; caller = who }) bs out out' r
