-- A query that was answered has a line for each of its routes: the call for it is refused for want of room alone.
use mathlib.Core.Path.{◌≡◌, refl, ap, ◌∙◌, subst}
use mathlib.Core.List.{List, [], ◌∷◌}
use mathlib.Core.Bool.{Bool, true, false, not, true≢false}
use mathlib.Core.Option.{Option, some}
use Prim.Native.Nat.{ℕ, zero, suc, ◌<◌}
use native.Mathlib.Omega.{arith}
use lib.IntN.{ℤ, pos}
use lib.Dec.{ltb}
use lib.ListN.{length}
use Rattle.refusal.specs.Checks.{Check, refuse, first}
use Rattle.refusal.specs.declared.Refusal.TheVariants.{Lent, Malformed, Bound, NoRoute, ManyRoutes, NoRoom}
use Rattle.lists.specs.Lists.{empty?}
use Rattle.syntax.specs.Grammar.{Bytes, Form, RouteLine}
use Rattle.syntax.specs.Limits.{max_line, max_routes, shallow}
use Rattle.model.specs.Queries.{Schema, Caller}
use Rattle.model.specs.Routes.{Route}
use Rattle.calls.specs.Names.{map_option}
use Rattle.calls.specs.Replies.{written}
use Rattle.calls.specs.Tables.{query_checks}
use Rattle.calls.specs.Asking.{answer_checks, numbered_line, no_line, line_given, line_checks, with_route}
use Rattle.schema.specs.Schemas.{schema_of}
use Rattle.ledger.specs.Records.{record_of}
use Rattle.caller.specs.Callers.{caller_of}
use Rattle.grant.specs.Catalogues.{catalogue_of}
use Rattle.ask.specs.declared.Reply.{Reply}
use Rattle.ask.specs.Replies.{Replies}
use Rattle.ask.specs.Asking.{Lending, lent_sound, asked_table, asked, lined_table, lined}
use Rattle.ask.proofs.Passed.{first_goes_on}
use Rattle.query_text.proofs.Firsts.{not_first}
use Rattle.demands.specs.Holding.{routes_of}
use Rattle.demands.specs.Refusing.{refused_number, first_number}
use Rattle.demands.proofs.Refused.{lined_refusal}
use Rattle.demands.proofs.Answered.{both_pass, replied}

line_there : (d : Schema) (who : Caller) (rs : List Route) (n : ℕ) → n < length rs → no_line (numbered_line d who rs (pos (suc n))) ≡ false
unfolding numbered_line no_line
line_there d who [] n h = absurd (omega arith)
line_there d who (r ∷ rs) zero h = refl
line_there d who (r ∷ rs) (suc n) h = line_there d who rs n (omega arith)

-- of the last three checks, only the last is left
only_room : (l m k : Bool) → l ≡ false → m ≡ false → (first_number (refuse NoRoute l ∷ refuse ManyRoutes m ∷ refuse NoRoom k ∷ []) ≡ 11 → ⊥) → ◌≡◌ {A = ℕ} (first_number (refuse NoRoute l ∷ refuse ManyRoutes m ∷ refuse NoRoom k ∷ [])) 0
unfolding first_number refused_number first refuse
only_room true m k e f h = absurd (true≢false e)
only_room false true k e f h = absurd (true≢false f)
only_room false false true e f h = absurd (h refl)
only_room false false false e f h = refl

module _ (x : Lending) (spare : ℕ) (bs : Bytes) (q : Form) where
  abbrev numbered : ℕ → RouteLine
  numbered n = record { route = pos (suc n); query = q }

  abbrev front : List Check
  front = refuse Lent (not (lent_sound x)) ∷ refuse Bound (ltb max_line (length bs)) ∷ refuse Malformed false ∷ refuse Bound (not (shallow spare bs)) ∷ query_checks (schema_of x.memory.names) q

  pub each_line : (cells : List ℤ) {cells' : List ℤ} {r : Reply} → Replies (asked spare (some q) x bs cells) cells cells' r → r.refusal ≡ 0
      → (n : ℕ) → n < length (routes_of x q) → (out : Bytes) {out' : Bytes} {i : Reply} → Replies (lined spare (some (numbered n)) x bs out) out out' i → (i.refusal ≡ 11 → ⊥) → i.refusal ≡ 0
  unfolding asked asked_table lined_table written answer_checks line_checks line_given first_number record_of
  each_line cells p e n h out {out'} {i} l room =
      let c = catalogue_of x.memory.names x.grants x.granted in
      let w = caller_of x.caller in
      let (a, b) = both_pass front (answer_checks (record_of x.memory) c w cells q) (replied _ _ cells _ _ p e).0 in
      let many = (not_first (ltb max_routes (length (routes_of x q))) ManyRoutes _ (not_first (empty? (routes_of x q)) NoRoute _ b).1).0 in
      let last : List Check = line_checks (record_of x.memory) c w out (numbered n) in
      let is : i.refusal ≡ first_number last = (lined_refusal x spare (some (numbered n)) bs out l).0 ∙ ap refused_number (first_goes_on front last a) in
      is ∙ only_room _ _ _ (line_there (schema_of x.memory.names) w (routes_of x q) n h) many (λ g. room (is ∙ g))

-- of what was read of a text
pub each_route : (x : Lending) (spare : ℕ) (bs : Bytes) (o : Option Form) (q : Form) → o ≡ some q → (cells : List ℤ) {cells' : List ℤ} {r : Reply} → Replies (asked spare o x bs cells) cells cells' r → r.refusal ≡ 0
    → (n : ℕ) → n < length (routes_of x q) → (out : Bytes) {out' : Bytes} {i : Reply} → Replies (lined spare (with_route (pos (suc n)) o) x bs out) out out' i → (i.refusal ≡ 11 → ⊥) → i.refusal ≡ 0
unfolding with_route map_option
each_route x spare bs o q f cells {cells'} {r} p e n h out {out'} {i} l room =
    each_line x spare bs q cells (subst (λ (u : Option Form). Replies (asked spare u x bs cells) cells cells' r) f p) e n h out
    (subst (λ (u : Option Form). Replies (lined spare (with_route (pos (suc n)) u) x bs out) out out' i) f l) room
