-- Demand 3: after two lists of calls that leave a caller the same views and figures, every query of that caller gets the same reply.
use mathlib.Core.Path.{◌≡◌, refl, ap, ap₂, ◌∙◌}
use mathlib.Core.List.{List, [], ◌∷◌, ◌++◌}
use mathlib.Core.Bool.{Bool, true, false, not, cond}
use mathlib.Core.Option.{Option, none, some}
use Prim.Native.Nat.{ℕ}
use lib.IntN.{ℤ}
use lib.Dec.{T}
use Rattle.refusal.specs.Checks.{Check, refuse, first, passes}
use Rattle.refusal.proofs.Passing.{pass_rest}
use Rattle.lists.proofs.Laws.{parts, T_true}
use Rattle.syntax.specs.Grammar.{Bytes, Form, RouteLine}
use Rattle.model.specs.Queries.{Schema, Row, Record, Grant, Caller}
use Rattle.model.specs.Checks.{placed}
use Rattle.model.specs.Alike.{Alike}
use Rattle.model.proofs.Interference.{same_cells}
use Rattle.calls.specs.Names.{resolve}
use Rattle.calls.specs.Validity.{valid_record}
use Rattle.calls.specs.Replies.{written, reply}
use Rattle.calls.specs.Tables.{query_checks}
use Rattle.calls.specs.Asking.{lent_valid, query_routes, answer, answer_checks, ask_table, asked, line_given, printed_line, line_checks, line_table, lined}
use Rattle.calls.proofs.Accepted.{query_accepted, spans_written}

-- checks that fail before the answer counts make the answers no matter
reply_same : {A : Type 0} (cs gs hs : List Check) (out other lent : List A) → (T (passes cs) → (gs ≡ hs) × (out ≡ other)) → reply (first (cs ++ gs)) out lent ≡ reply (first (cs ++ hs)) other lent
unfolding passes first reply
reply_same [] gs hs out other lent f = let (p, q) = f tt in ap₂ (λ c o. reply (first c) o lent) p q
reply_same (c ∷ cs) gs hs out other lent f = go c.fails f (reply_same cs gs hs out other lent)
  where
    go : (b : Bool) → (T (cond b false (passes cs)) → (gs ≡ hs) × (out ≡ other)) → ((T (passes cs) → (gs ≡ hs) × (out ≡ other)) → reply (first (cs ++ gs)) out lent ≡ reply (first (cs ++ hs)) other lent)
        → reply (cond b (some c.refusal) (first (cs ++ gs))) out lent ≡ reply (cond b (some c.refusal) (first (cs ++ hs))) other lent
    go true f i = refl
    go false f i = i f

module _ (k : ℕ) (d : Schema) (xs ys : List (List Row)) (who : Caller) (gs : List Grant) where
  abbrev X : Record
  X = record { clock = k; schema = d; rows = xs }

  abbrev Y : Record
  Y = record { clock = k; schema = d; rows = ys }

  lent_same : T (valid_record X) → T (valid_record Y) → lent_valid X gs who ≡ lent_valid Y gs who
  unfolding lent_valid
  lent_same v w = rw (T_true (valid_record X) v, T_true (valid_record Y) w)

  cells_same : Alike X Y who gs → (f : Form) → T (passes (query_checks d f)) → answer X gs who (some f) ≡ answer Y gs who (some f)
  unfolding answer query_routes placed
  cells_same a f t =
      let h = query_accepted d f t in
      let p = h.places in
      same_cells X Y who gs a (resolve d f) (search parts) h.sizes (spans_written d f h.bounded)

  checks_same : (f : Form) (lent : List ℤ) → answer X gs who (some f) ≡ answer Y gs who (some f) → answer_checks X gs who lent f ≡ answer_checks Y gs who lent f
  unfolding answer_checks query_routes
  checks_same f lent e = rw e

  asked_same : T (valid_record X) → T (valid_record Y) → Alike X Y who gs → (spare : ℕ) (bs : Bytes) (q : Option Form) (lent : List ℤ) → asked X gs who spare bs q lent ≡ asked Y gs who spare bs q lent
  unfolding asked ask_table written answer
  asked_same v w a spare bs none lent = rw (lent_same v w)
  asked_same v w a spare bs (some f) lent = rw (lent_same v w)
      (reply_same (refuse _ (not (lent_valid Y gs who)) ∷ (refuse _ _ ∷ (refuse _ false ∷ (refuse _ _ ∷ query_checks d f)))) (answer_checks X gs who lent f) (answer_checks Y gs who lent f) (answer X gs who (some f)) (answer Y gs who (some f)) lent
      (λ t. let e = cells_same a f (pass_rest _ _ _ (pass_rest _ _ _ (pass_rest _ _ _ (pass_rest _ _ _ t)))) in (checks_same f lent e, e)))

  lined_same : T (valid_record X) → T (valid_record Y) → (spare : ℕ) (bs : Bytes) (l : Option RouteLine) (lent : Bytes) → lined X gs who spare bs l lent ≡ lined Y gs who spare bs l lent
  unfolding lined line_table written line_checks printed_line line_given query_routes
  lined_same v w spare bs none lent = rw (lent_same v w)
  lined_same v w spare bs (some l) lent = rw (lent_same v w)

moved : (x y : Record) (who : Caller) (gs : List Grant) → Alike x y who gs → ◌≡◌ {A = Record} (record { clock = x.clock; schema = x.schema; rows = y.rows }) y
moved x y who gs a = λ i. record { clock = a.clocks i; schema = a.schemas i; rows = y.rows }

-- Two valid records that are alike for a caller: the same reply to every query, whatever its text and the cells lent.
pub same_asked : (x y : Record) → T (valid_record x) → T (valid_record y) → (who : Caller) (gs : List Grant) → Alike x y who gs
    → (spare : ℕ) (bs : Bytes) (q : Option Form) (lent : List ℤ) → asked x gs who spare bs q lent ≡ asked y gs who spare bs q lent
same_asked x y v w who gs a spare bs q lent =
    let m = moved x y who gs a in
    asked_same x.clock x.schema x.rows y.rows who gs v (rw m w) (rw m a) spare bs q lent ∙ ap (λ z. asked z gs who spare bs q lent) m

-- The line of a route hangs on the streams, the catalogue and the caller alone.
pub same_lined : (x y : Record) → T (valid_record x) → T (valid_record y) → (who : Caller) (gs : List Grant) → x.clock ≡ y.clock → x.schema ≡ y.schema
    → (spare : ℕ) (bs : Bytes) (l : Option RouteLine) (lent : Bytes) → lined x gs who spare bs l lent ≡ lined y gs who spare bs l lent
same_lined x y v w who gs e f spare bs l lent =
    let m : ◌≡◌ {A = Record} (record { clock = x.clock; schema = x.schema; rows = y.rows }) y = λ i. record { clock = e i; schema = f i; rows = y.rows } in
    lined_same x.clock x.schema x.rows y.rows who gs v (rw m w) spare bs l lent ∙ ap (λ z. lined z gs who spare bs l lent) m
