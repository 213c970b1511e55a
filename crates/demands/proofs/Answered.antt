-- Demand 2, of the contracts of asking and of lines, whatever text they were read from: what the lent cells and bytes hold where nothing is refused.
use mathlib.Core.Path.{◌≡◌, refl, sym, ap, ◌∙◌}
use mathlib.Core.List.{List, [], ◌∷◌, ◌++◌}
use mathlib.Core.Bool.{Bool, true, false, not, cond, true≢false}
use mathlib.Core.Option.{Option, none, some, none-ne-some, some-injective}
use Prim.Native.Nat.{ℕ, zero, suc, ◌≤◌, ◌<◌}
use native.Mathlib.Omega.{arith}
use lib.IntN.{ℤ, pos, negsuc}
use lib.Dec.{T, ltb}
use lib.ListN.{length, take, drop}
use lib.Seq.{take-append_seam}
use borrow.Author.Tests.{ltb-false}
use Rattle.refusal.specs.Numbers.{number_of}
use Rattle.refusal.specs.Checks.{Check, refuse, first, passes}
use Rattle.refusal.specs.declared.Refusal.{Refusal}
use Rattle.refusal.specs.declared.Refusal.TheVariants.{Lent, Malformed, Bound, Undeclared, Repeated, Misplaced, WindowSize, ClockBack, StreamFull, NoRoute, ManyRoutes, NoRoom}
use Rattle.refusal.proofs.Passing.{passes_first}
use Rattle.lists.specs.Lists.{nth, empty?}
use Rattle.lists.proofs.Laws.{not_not, all_nth}
use Rattle.syntax.specs.Grammar.{Bytes, Form, RouteLine}
use Rattle.syntax.specs.Limits.{max_line, max_routes, shallow}
use Rattle.model.specs.Queries as M
use Rattle.model.specs.Routes.{Route}
use Rattle.model.specs.Answers.{route_table, answer_cells}
use Rattle.calls.specs.Replies.{written, reply, lent_after}
use Rattle.calls.specs.Validity.{valid_record}
use Rattle.calls.specs.Tables.{query_checks}
use Rattle.calls.specs.Asking.{answer, answer_checks, route_line, numbered_line, some_bytes, no_line, line_given, printed_line, line_checks, run_line}
use Rattle.claims.proofs.Claims.{printed}
use Rattle.schema.specs.Schemas.{schema_of}
use Rattle.ledger.specs.Records.{record_of}
use Rattle.caller.specs.Callers.{caller_of}
use Rattle.grant.specs.Catalogues.{catalogue_of}
use Rattle.ask.specs.declared.Reply.{Reply}
use Rattle.ask.specs.Replies.{reply_of, Replies}
use Rattle.ask.specs.Asking.{Lending, lent_sound, asked_table, asked, lined_table, lined}
use Rattle.query_text.proofs.Firsts.{not_first}
use Rattle.demands.specs.Holding.{routes_of, Answered, Lined}
use Rattle.demands.proofs.Defined.{valid_cat}

-- ---- a reply that is no refusal

numbered : (f : Refusal) → number_of f ≡ 0 → ⊥
numbered Lent e = omega arith
numbered Malformed e = omega arith
numbered Bound e = omega arith
numbered Undeclared e = omega arith
numbered Repeated e = omega arith
numbered Misplaced e = omega arith
numbered WindowSize e = omega arith
numbered ClockBack e = omega arith
numbered StreamFull e = omega arith
numbered NoRoute e = omega arith
numbered ManyRoutes e = omega arith
numbered NoRoom e = omega arith

-- no check of the table failed, and what was written stands first
pub replied : {A : Type 0} (o : Option Refusal) (out lent lent' : List A) (r : Reply) → Replies (reply o out lent) lent lent' r → r.refusal ≡ 0 → (o ≡ none) × (r.count ≡ length out) × (lent' ≡ out ++ drop (length out) lent)
unfolding reply reply_of lent_after
replied none out lent lent' r p e = (refl, ap (λ (y : Reply). y.count) p.said, p.left)
replied (some f) out lent lent' r p e = absurd (numbered f (sym (ap (λ (y : Reply). y.refusal) p.said) ∙ e))

-- ---- tables

-- two tables, one after the other, without a failing check
pub both_pass : (cs ds : List Check) → first (cs ++ ds) ≡ none → (first cs ≡ none) × (first ds ≡ none)
unfolding first
both_pass [] ds h = (refl, h)
both_pass (c ∷ cs) ds h = go c.fails h (both_pass cs ds)
  where
    go : (b : Bool) → cond b (some c.refusal) (first (cs ++ ds)) ≡ none → (first (cs ++ ds) ≡ none → (first cs ≡ none) × (first ds ≡ none)) → (cond b (some c.refusal) (first cs) ≡ none) × (first ds ≡ none)
    go true h k = absurd (none-ne-some c.refusal (sym h))
    go false h k = k h

false_not : (b : Bool) → b ≡ false → T (not b)
false_not true e = absurd (true≢false e)
false_not false e = tt

some_there : {A : Type 0} (xs : List A) → empty? xs ≡ false → 1 ≤ length xs
unfolding empty?
some_there [] e = absurd (true≢false e)
some_there (y ∷ ys) e = omega arith

-- a table without a failing check: what is lent may be, and something was read of the text whose checks all pass, those of what it gives included
record Passed {A : Type 0} (x : Lending) (o : Option A) (before rest : A → List Check) : Type 0 where
  lent : T (lent_sound x)
  said : A
  reads : o ≡ some said
  ok : T (passes (before said))
  last : first (rest said) ≡ none

module _ {A : Type 0} (x : Lending) (spare : ℕ) (bs : Bytes) (before rest : A → List Check) where
  text_passed : (o : Option A) → T (lent_sound x) → first (written spare bs o (λ s. before s ++ rest s)) ≡ none → Passed x o before rest
  unfolding written
  text_passed none l h = absurd (true≢false (not_first true Malformed [] (not_first (ltb max_line (length bs)) Bound (refuse Malformed true ∷ []) h).1).0)
  text_passed (some s) l h =
      let h₁ = (not_first (ltb max_line (length bs)) Bound _ h).1 in
      let h₂ = (not_first false Malformed _ h₁).1 in
      let h₃ = (not_first (not (shallow spare bs)) Bound _ h₂).1 in
      let (a, b) = both_pass (before s) (rest s) h₃ in
      record { lent = l; said = s; reads = refl; ok = passes_first (before s) a; last = b }

  table_passed : (o : Option A) → first (refuse Lent (not (lent_sound x)) ∷ written spare bs o (λ s. before s ++ rest s)) ≡ none → Passed x o before rest
  table_passed o h =
      let k = not_first (not (lent_sound x)) Lent _ h in
      text_passed o (not_not (lent_sound x) (false_not (not (lent_sound x)) k.0)) k.1

module _ (x : Lending) where
  abbrev d : M.Schema
  d = schema_of x.memory.names

  abbrev kept : M.Record
  kept = record_of x.memory

  abbrev cat : List M.Grant
  cat = catalogue_of x.memory.names x.grants x.granted

  abbrev who : M.Caller
  who = caller_of x.caller

  -- ---- asking

  pub answered : (spare : ℕ) (o : Option Form) (bs : Bytes) (cells : List ℤ) {cells' : List ℤ} {r : Reply} → Replies (asked spare o x bs cells) cells cells' r → r.refusal ≡ 0 → Answered x o cells cells' r
  unfolding asked asked_table answer answer_checks
  answered spare o bs cells {cells'} {r} p e =
      let given : Option Form → List ℤ = λ o. answer kept cat who o in
      let (none_fails, counted, filled) = replied _ (given o) cells cells' r p e in
      let s = table_passed x spare bs (query_checks d) (λ f. answer_checks kept cat who cells f) o none_fails in
      let q = s.said in
      let h₁ = not_first (empty? (routes_of x q)) NoRoute _ s.last in
      let h₂ = not_first (ltb max_routes (length (routes_of x q))) ManyRoutes _ h₁.1 in
      let is : given o ≡ answer_cells kept who (routes_of x q) = ap given s.reads in
      let k : r.count ≡ length (answer_cells kept who (routes_of x q)) = counted ∙ ap length is in
      record {
        query = q;
        reads = s.reads;
        some_routes = some_there (routes_of x q) h₁.0;
        few_routes = ltb-false max_routes (length (routes_of x q)) h₂.0;
        count = k;
        holds = filled ∙ ap (λ l. l ++ drop (length l) cells) is ∙ ap (λ n. answer_cells kept who (routes_of x q) ++ drop n cells) (sym k);
      }

  -- ---- the line of a route

  -- a number that has a line is that of a route's place
  record At (rs : List Route) (z : ℤ) (t : Bytes) : Type 0 where
    place : ℕ
    is : z ≡ pos (suc place)
    there : place < length rs
    route : Route
    at : (any : Route) → nth any rs place ≡ route
    text : t ≡ route_line d who route

  line_at : (rs : List Route) (z : ℤ) (t : Bytes) → numbered_line d who rs z ≡ some t → At rs z t
  unfolding numbered_line nth
  line_at [] z t h = absurd (none-ne-some t h)
  line_at (r ∷ rs) (pos zero) t h = absurd (none-ne-some t h)
  line_at (r ∷ rs) (pos (suc zero)) t h = record { place = 0; is = refl; there = omega arith; route = r; at = λ any. refl; text = sym (some-injective (route_line d who r) t h) }
  line_at (r ∷ rs) (pos (suc (suc n))) t h =
      let k = line_at rs (pos (suc n)) t h in
      let l = k.there in
      record { place = suc k.place; is = ap next k.is; there = omega arith; route = k.route; at = k.at; text = k.text }
    where
      next : ℤ → ℤ
      next (pos n) = pos (suc n)
      next (negsuc n) = negsuc n
  line_at (r ∷ rs) (negsuc n) t h = absurd (none-ne-some t h)

  some_line : (o : Option Bytes) → no_line o ≡ false → (t : Bytes) × (o ≡ some t)
  unfolding no_line
  some_line none h = absurd (true≢false h)
  some_line (some t) h = (t, refl)

  module _ (valid : T (lent_sound x) → T (valid_record kept)) where
    given_is : (l : RouteLine) → line_given kept cat who l ≡ numbered_line d who (routes_of x l.query) l.route
    unfolding line_given record_of
    given_is l = refl

    runs_at : (q : Form) → T (lent_sound x) → T (passes (query_checks d q)) → {z : ℤ} {t : Bytes} → (a : At (routes_of x q) z t) → run_line kept t ≡ some (route_table kept who a.route)
    unfolding record_of
    runs_at q l ok a =
        let each = printed kept (valid l) cat (valid_cat x (valid l) l) who q ok in
        let h = all_nth a.route a.place each a.there in
        rw a.text (rw (a.at a.route) at h)

    pub lined_holds : (spare : ℕ) (o : Option RouteLine) (bs out : Bytes) {out' : Bytes} {r : Reply} → Replies (lined spare o x bs out) out out' r → r.refusal ≡ 0 → Lined x o out out' r
    unfolding lined lined_table printed_line line_checks
    lined_holds spare o bs out {out'} {r} p e =
        let given : Option RouteLine → Bytes = λ o. printed_line kept cat who o in
        let (none_fails, counted, filled) = replied _ (given o) out out' r p e in
        let s = table_passed x spare bs (λ l. query_checks d l.query) (λ l. line_checks kept cat who out l) o none_fails in
        let l = s.said in
        let h₁ = not_first (no_line (line_given kept cat who l)) NoRoute _ s.last in
        let h₂ = not_first (ltb max_routes (length (routes_of x l.query))) ManyRoutes _ h₁.1 in
        let (t, f) = some_line (line_given kept cat who l) h₁.0 in
        let a = line_at (routes_of x l.query) l.route t (sym (given_is l) ∙ f) in
        let is : given o ≡ route_line d who a.route = ap given s.reads ∙ ap some_bytes f ∙ some_is t ∙ a.text in
        let k : r.count ≡ length (route_line d who a.route) = counted ∙ ap length is in
        let held : out' ≡ route_line d who a.route ++ drop r.count out = filled ∙ ap (λ y. y ++ drop (length y) out) is ∙ ap (λ n. route_line d who a.route ++ drop n out) (sym k) in
        record {
          line = l;
          reads = s.reads;
          few_routes = ltb-false max_routes (length (routes_of x l.query)) h₂.0;
          place = a.place;
          numbered_from_one = a.is;
          there = a.there;
          route = a.route;
          at_place = a.at;
          count = k;
          holds = held;
          runs =
              ap (run_line kept) (ap (take r.count) held ∙ ap (λ n. take n (route_line d who a.route ++ drop r.count out)) k ∙ take-append_seam (route_line d who a.route) (drop r.count out) ∙ sym a.text)
              ∙ runs_at l.query s.lent s.ok a;
        }
      where
        some_is : (t : Bytes) → some_bytes (some t) ≡ t
        some_is t = unfold some_bytes in refl
