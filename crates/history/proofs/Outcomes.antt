-- The contracts leave nothing open: of every call and line there is one outcome, so that every list of them has one trace from each store.
use mathlib.Core.Path.{◌≡◌, refl, sym, ap, ap₂, ◌∙◌, subst}
use mathlib.Core.List.{List, [], ◌∷◌}
use mathlib.Core.Bool.{not}
use mathlib.Core.Option.{Option, none, some}
use Prim.Native.Nat.{ℕ}
use lib.IntN.{pos}
use lib.Dec.{lit≤}
use lib.ListN.{length, replicate, length-replicate}
use Rattle.std.specs.Prelude.{Result}
use Rattle.refusal.specs.Results.{Said, result_of, giving, held_after, settled}
use Rattle.refusal.proofs.Results.{said_giving}
use Rattle.refusal.specs.Checks.{refuse, first}
use Rattle.refusal.specs.declared.Refused.{Refused}
use Rattle.refusal.specs.declared.Refusal.TheVariants.{Lent}
use Rattle.lists.specs.Lists.{every}
use Rattle.syntax.specs.Grammar as G
use Rattle.syntax.specs.Grammar.{Bytes}
use Rattle.syntax.specs.Readers.{parse_as}
use Rattle.model.specs.Queries as M
use Rattle.calls.specs.Replies.{written}
use Rattle.calls.specs.Tables.{grant_checks}
use Rattle.calls.specs.Calls.{Call, stream, clock, row, clear, clock_line, row_line, clear_line}
use Rattle.calls.specs.Events.{Event, call, grant, caller, query}
use Rattle.schema.specs.Schemas.{schema_size, schema_of}
use Rattle.stream_line.specs.Declaring.{with_stream}
use Rattle.ledger.specs.Records.{with_ledger, with_names, places_size, values_size}
use Rattle.ledger.specs.Calls.{begun, with_row}
use Rattle.record_lines.specs.Calls.{with_row_line}
use Rattle.caller.specs.Callers.{no_caller}
use Rattle.grant.specs.declared.Grant.{Grant}
use Rattle.grant.specs.Grants.{grant_of}
use Rattle.grant.specs.Catalogues.{catalogue_words}
use Rattle.grant_line.specs.Lines.{no_grant}
use Rattle.grant_line.specs.Granting.{lent_sound, grant_table, grant_made, with_words, grants_after, Grants}
use Rattle.history.specs.States.{State, Promise, declared, clocked, rowed, cleared, clock_lined, row_lined, clear_lined}
use Rattle.history.specs.Fixtures.{Store, with_memory, with_grants, with_caller, Happens, called, granted, named, asked, Trace, stop, then, Fresh}

-- ---- calls on the record

some_left : (c : Call) (s : State) → (t : State) × Promise c s t
some_left (stream bs) s = (_, declared (record { said = refl; left = refl }))
some_left (clock t) s = (_, clocked refl)
some_left (row n vs) s = (_, rowed (record { said = refl; left = refl }))
some_left clear s = (_, cleared refl)
some_left (clock_line bs) s = (_, clock_lined refl)
some_left (row_line bs) s = (_, row_lined (record { said = refl; left = refl }))
some_left (clear_line bs) s = (_, clear_lined refl)

one_left : {c : Call} {s t u : State} → Promise c s t → Promise c s u → t ≡ u
one_left (declared {s} {bs} d) (declared k) = ap (with_names s) (d.left ∙ ap (λ v. settled v s.names (with_stream s.names (parse_as G.stream bs))) (d.said ∙ sym k.said) ∙ sym k.left)
one_left (clocked {s} d) (clocked k) = ap (λ r. with_ledger s (held_after r)) (d ∙ sym k)
one_left (rowed {s} {t} {n} {vs} d) (rowed k) = d.left ∙ ap (λ v. settled v s (with_row s n vs)) (d.said ∙ sym k.said) ∙ sym k.left
one_left (cleared {s} d) (cleared k) = ap (λ r. with_ledger s (held_after r)) (d ∙ sym k)
one_left (clock_lined {s} d) (clock_lined k) = ap (λ r. with_ledger s (held_after r)) (d ∙ sym k)
one_left (row_lined {s} {t} {bs} d) (row_lined k) = d.left ∙ ap (λ v. settled v s (with_row_line s (parse_as G.row bs))) (d.said ∙ sym k.said) ∙ sym k.left
one_left (clear_lined {s} d) (clear_lined k) = ap (λ r. with_ledger s (held_after r)) (d ∙ sym k)

-- ---- grants

-- how many grants there are is all that the call's table asks of them
verdict_many : (d : M.Schema) (gs hs : List M.Grant) (g : G.GrantLine) → length gs ≡ length hs → grant_checks d gs g ≡ grant_checks d hs g
unfolding grant_checks
verdict_many d gs hs g e = rw e

table_many : (ns : List ℕ) (gs hs : List M.Grant) (ws : List ℕ) (bs : Bytes) → length gs ≡ length hs → grant_table ns gs ws bs ≡ grant_table ns hs ws bs
unfolding grant_table written
table_many ns gs hs ws bs e = rw e (go (parse_as G.grant bs))
  where
    go : (o : Option G.GrantLine) → refuse Lent (not (lent_sound ns (length hs) (length ws))) ∷ written 0 bs o (grant_checks (schema_of ns) gs) ≡ refuse Lent (not (lent_sound ns (length hs) (length ws))) ∷ written 0 bs o (grant_checks (schema_of ns) hs)
    go none = refl
    go (some g) = rw (verdict_many (schema_of ns) gs hs g e) refl

module _ (ns : List ℕ) (count : ℕ) (bs : Bytes) (ws : List ℕ) where
  abbrev as_many : List M.Grant
  as_many = replicate count (grant_of ns no_grant [])

  abbrev said_granted : Said
  said_granted = result_of (first (grant_table ns as_many ws bs))

  some_grant : (us : List ℕ) × (r : Result Grant (Refused Grant)) × Grants ns count bs ws us r
  some_grant =
      let g = grant_made ns (parse_as G.grant bs) in
      let v = said_giving said_granted g no_grant in (
        settled said_granted ws (with_words ns count (parse_as G.grant bs) ws),
        giving said_granted g no_grant,
        record {
          said = λ gs e. v ∙ ap (λ cs. result_of (first cs)) (table_many ns as_many gs ws bs (length-replicate count (grant_of ns no_grant []) ∙ sym e));
          given = ap (λ u. giving u g no_grant) (sym v);
          left = ap (λ u. settled u ws (with_words ns count (parse_as G.grant bs) ws)) (sym v);
        },
      )

  one_grant : {us ts : List ℕ} {r q : Result Grant (Refused Grant)} → Grants ns count bs ws us r → Grants ns count bs ws ts q → (r ≡ q) × (us ≡ ts)
  one_grant g h =
      let e = g.said as_many (length-replicate count (grant_of ns no_grant [])) ∙ sym (h.said as_many (length-replicate count (grant_of ns no_grant []))) in (
        g.given ∙ ap (λ v. giving v (grant_made ns (parse_as G.grant bs)) no_grant) e ∙ sym h.given,
        g.left ∙ ap (λ v. settled v ws (with_words ns count (parse_as G.grant bs) ws)) e ∙ sym h.left,
      )

-- ---- calls and lines of every kind

pub some_outcome : (e : Event) (s : Store) → (t : Store) × Happens e s t
some_outcome (call c) s = let (m, p) = some_left c s.memory in (_, called p)
some_outcome (grant bs) s = let (us, r, g) = some_grant s.memory.names (length s.grants) bs s.words in (_, granted g)
some_outcome (caller bs) s = (_, named refl)
some_outcome query s = (_, asked)

pub some_trace : (es : List Event) (s : Store) → (t : Store) × Trace s es t
some_trace [] s = (s, stop)
some_trace (e ∷ es) s =
    let (t, p) = some_outcome e s in
    let (u, r) = some_trace es t in
    (u, then p r)

pub one_outcome : {e : Event} {s t u : Store} → Happens e s t → Happens e s u → t ≡ u
one_outcome (called {s} p) (called q) = ap (with_memory s) (one_left p q)
one_outcome (granted {s} {bs} g) (granted h) =
    let (e, k) = one_grant s.memory.names (length s.grants) bs s.words g h in
    ap₂ (λ r ws. with_grants s (grants_after r s.grants) ws) e k
one_outcome (named {s} d) (named k) = ap (λ r. with_caller s (held_after r)) (d ∙ sym k)
one_outcome asked asked = refl

pub one_trace : {es : List Event} {s t u : Store} → Trace s es t → Trace s es u → t ≡ u
one_trace stop stop = refl
one_trace {t} (then {es} p r) (then q k) = one_trace (subst (λ m. Trace m es t) (one_outcome p q) r) k

-- ---- a fresh store

abbrev pub new_state : State
new_state = record { ledger = begun; names = replicate schema_size 0; times = replicate places_size 0; values = replicate values_size (pos 0) }

abbrev pub new_store : Store
new_store = record { memory = new_state; grants = []; words = replicate catalogue_words 0; caller = no_caller }

pub new_fresh : Fresh new_store
unfolding every
new_fresh =
    record {
      memory = record {
        begins = refl;
        zero = tt;
        long = lit≤ tt;
        places = lit≤ tt;
        room = lit≤ tt;
      };
      grants = refl;
      words = lit≤ tt;
      caller = refl;
    }
