-- The three demands, of the calls for C and from their contracts alone: `Called`, `Calls` and `Recorded` (specs/Lists) say what a call, and a list of calls, returned and left.
use mathlib.Core.Path.{◌≡◌}
use mathlib.Core.List.{List}
use Prim.Native.Nat.{ℕ, suc, ◌≤◌, ◌<◌}
use lib.IntN.{ℤ, pos}
use lib.ListN.{length}
use Rattle.refusal.specs.Checks.{Ordered}
use Rattle.syntax.specs.Grammar.{Bytes}
use Rattle.syntax.specs.Limits.{max_printed}
use Rattle.syntax.specs.Readers.{parse_query}
use Rattle.model.specs.Alike.{Alike}
use Rattle.calls.specs.Calls.{Call, after}
use Rattle.calls.specs.Events.{Event, query, happen, happened}
use Rattle.calls.specs.Asking.{with_route}
use Rattle.ledger.specs.Records.{Memory}
use Rattle.caller.specs.declared.Caller.{Caller}
use Rattle.caller.specs.Callers.{caller_of}
use Rattle.grant.specs.declared.Grant.{Grant}
use Rattle.grant.specs.Catalogues.{catalogue_of}
use Rattle.history.specs.States as M
use Rattle.history.specs.Fixtures.{Store, fixture_of, Sound, Fresh}
use Rattle.history.proofs.Events.{step, left_after}
use Rattle.ask.specs.declared.Reply.{Reply}
use Rattle.ask.specs.Replies.{Replies}
use Rattle.ask.specs.Asking.{Lending, asked_table, asked, lined_table, LineReplies}
use Rattle.demands.specs.Lending.{lending, SameLent}
use Rattle.demands.specs.Holding.{routes_of, Answered, Lined}
use Rattle.demands.specs.Refusing.{first_number}
use Rattle.demands.proofs.Refused.{asked_refusal, lined_refusal, asked_ordered, lined_ordered}
use Rattle.demands.proofs.Defined.{valid_kept}
use Rattle.demands.proofs.Answered as A
use Rattle.demands.proofs.Each.{each_route}
use Rattle.demands.proofs.Room as Q
use Rattle.demands.proofs.Interference as I
use Rattle.maltziru.specs.Lists.{Recorded, Called, Calls, table_of}
use Rattle.maltziru.proofs.Lists.{recorded, happens, trace}
use Rattle.maltziru.proofs.Refusals as R

-- ---- demand 1: every call is answered or refused by its table, and a refusal changes nothing

-- over any memory, the number returned is 0 where no check of the call's table fails, or that of the first which does
pub first_refusal : {e : Event} {s t : Store} {n : ℕ} → Called e s t n → (e ≡ query → ⊥) → n ≡ first_number (table_of e s)
first_refusal = R.says_first

-- and its checks stand in the paper's order
pub ordered : (e : Event) (s : Store) → Ordered (table_of e s)
ordered = R.table_ordered

-- over any memory, a call that returned a refusal left everything
pub refused_stays : {e : Event} {s t : Store} {n : ℕ} → Called e s t n → (n ≡ 0 → ⊥) → t ≡ s
refused_stays = R.refused_stays

-- over memory that may be lent, what a call left stands for what the definitions make of it, and may be lent again
pub does : {e : Event} {s t : Store} {n : ℕ} → Called e s t n → Sound s → (fixture_of t ≡ happen (fixture_of s) e) × Sound t
does c = step (happens c)

-- so does what a list of calls left that began with fresh memory
pub leaves : {es : List Event} {s t : Store} → Fresh s → Calls s es t → (fixture_of t ≡ happened es) × Sound t
leaves f r = left_after f (trace r)

-- a query, whatever is lent: 0 or the number of the first check that fails; refused, every cell as it was; and its checks stand in the paper's order
pub ask_refusal : (x : Lending) (bs : Bytes) (cells : List ℤ) {p : List ℤ} {r : Reply} → Replies (asked 0 (parse_query bs) x bs cells) cells p r
    → (r.refusal ≡ first_number (asked_table 0 (parse_query bs) x bs cells)) × ((r.refusal ≡ 0 → ⊥) → p ≡ cells)
ask_refusal x bs cells h = asked_refusal x 0 (parse_query bs) bs cells h

pub ask_ordered : (x : Lending) (bs : Bytes) (cells : List ℤ) → Ordered (asked_table 0 (parse_query bs) x bs cells)
ask_ordered x bs cells = asked_ordered x 0 (parse_query bs) bs cells

-- and the line of a route
pub line_refusal : (x : Lending) (route : ℤ) (bs out : Bytes) {p : Bytes} {r : Reply} → LineReplies 0 (with_route route (parse_query bs)) x bs out p r
    → (r.refusal ≡ first_number (lined_table 0 (with_route route (parse_query bs)) x bs out)) × ((r.refusal ≡ 0 → ⊥) → p ≡ out)
line_refusal x route bs out h = lined_refusal x 0 (with_route route (parse_query bs)) bs out h.said

pub line_ordered : (x : Lending) (route : ℤ) (bs out : Bytes) → Ordered (lined_table 0 (with_route route (parse_query bs)) x bs out)
line_ordered x route bs out = lined_ordered x 0 (with_route route (parse_query bs)) bs out

-- ---- demand 2: an answer holds exactly the rows of the granted views, and a line gives them again

-- what `maltziru_ask` wrote where it returned 0: of every route that the caller's grants open its rows, in order; all cells past them as they were
pub answered : (x : Lending) (bs : Bytes) (cells : List ℤ) {p : List ℤ} {r : Reply} → Replies (asked 0 (parse_query bs) x bs cells) cells p r → r.refusal ≡ 0 → Answered x (parse_query bs) cells p r
answered x bs cells h e = A.answered x 0 (parse_query bs) bs cells h e

-- what `maltziru_line` wrote where it returned 0: the route's line; read, checked and run with no grants it gives the route's rows.
pub printed : (x : Lending) (route : ℤ) (bs out : Bytes) {p : Bytes} {r : Reply}
    → LineReplies 0 (with_route route (parse_query bs)) x bs out p r → r.refusal ≡ 0 → Lined x (with_route route (parse_query bs)) out p r
printed x route bs out h e = A.lined_holds x (valid_kept x h.ranges) 0 (with_route route (parse_query bs)) bs out h.said e

-- of a query that was answered every route has its line: the call for it is refused for want of room alone
pub each_line : (x : Lending) (bs : Bytes) (cells : List ℤ) {p : List ℤ} {r : Reply} (h : Replies (asked 0 (parse_query bs) x bs cells) cells p r) (e : r.refusal ≡ 0)
    (n : ℕ) → n < length (routes_of x (answered x bs cells h e).query) → (out : Bytes) {q : Bytes} {i : Reply} → LineReplies 0 (with_route (pos (suc n)) (parse_query bs)) x bs out q i → (i.refusal ≡ 11 → ⊥) → i.refusal ≡ 0
each_line x bs cells h e n k out l room = let a = answered x bs cells h e in each_route x 0 bs (parse_query bs) a.query a.reads cells h e n k out l.said room

-- 4,096 bytes are room for it, after any list of calls from fresh memory, whoever the caller is
pub room_enough : {es : List Event} {s t : Store} → Fresh s → Calls s es t → (w : Caller) (route : ℤ) (bs out : Bytes) {p : Bytes} {r : Reply}
    → LineReplies 0 (with_route route (parse_query bs)) (lending t.memory t.grants t.words w) bs out p r → max_printed ≤ length out → r.refusal ≡ 11 → ⊥
room_enough f c w route bs out h room = Q.room_enough f (trace c) w route bs out h.said room

-- ---- demand 3: an answer hangs on nothing but what is shown

-- Two lists of calls on the record, each from fresh memory, refused calls included, with any grant, caller, ask and line calls between them. After each, grants, words and a caller are lent to a
-- query; by the definitions the catalogue and the caller are the same both times (`SameLent`).
-- If by the definitions the clock and the streams are the same after both, and so are, under that catalogue, the caller's views and admitted figures (`Alike`),
-- then every query with the same cells lent returned the same count and left the same cells, or the same refusal.
module _ {m n u v : Memory} {cs ds : List Call} (f : M.Fresh m) (r : Recorded m cs u) (g : M.Fresh n) (k : Recorded n ds v) where
  pub same_answers : (gs hs : List Grant) (ws zs : List ℕ) (w z : Caller) → SameLent (lending u gs ws w) (lending v hs zs z)
      → Alike (after cs) (after ds) (caller_of w) (catalogue_of u.names gs ws)
      → (query : Bytes) (cells : List ℤ) {p q : List ℤ} {i j : Reply}
      → Replies (asked 0 (parse_query query) (lending u gs ws w) query cells) cells p i
      → Replies (asked 0 (parse_query query) (lending v hs zs z) query cells) cells q j
      → (i ≡ j) × (p ≡ q)
  same_answers gs hs ws zs w z s a bs cells h l = I.same_answers f (recorded r) g (recorded k) gs hs ws zs w z s a 0 (parse_query bs) bs cells h l

  -- and every call for a line
  pub same_lines : (gs hs : List Grant) (ws zs : List ℕ) (w z : Caller) → SameLent (lending u gs ws w) (lending v hs zs z)
      → Alike (after cs) (after ds) (caller_of w) (catalogue_of u.names gs ws)
      → (route : ℤ) (query out : Bytes) {p q : Bytes} {i j : Reply}
      → LineReplies 0 (with_route route (parse_query query)) (lending u gs ws w) query out p i
      → LineReplies 0 (with_route route (parse_query query)) (lending v hs zs z) query out q j
      → (i ≡ j) × (p ≡ q)
  same_lines gs hs ws zs w z s a n bs out h l = I.same_lines f (recorded r) g (recorded k) gs hs ws zs w z s a 0 (with_route n (parse_query bs)) bs out h.said l.said

  -- the same structs and words, whatever they hold, are the same by the definitions where the streams are
  pub same_structs : (after cs).schema ≡ (after ds).schema → (grants : List Grant) (words : List ℕ) (caller : Caller) → SameLent (lending u grants words caller) (lending v grants words caller)
  same_structs e grants words caller = I.same_structs f (recorded r) g (recorded k) e grants words caller
