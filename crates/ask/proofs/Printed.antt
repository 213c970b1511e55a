-- The texts of routes are their lines, and shorter than there are places.
use mathlib.Core.Path.{◌≡◌, refl, sym, ap, ◌∙◌, subst}
use mathlib.Core.List.{List, ◌∷◌, map}
use mathlib.Core.Bool.{Bool, true, false, cond}
use mathlib.Core.Option.{none, some}
use Prim.Native.Nat.{ℕ, zero, suc, ◌≤◌, ◌<◌}
use lib.IntN.{ℤ, pos, negsuc}
use lib.Dec.{T, ltb}
use lib.ListN.{length}
use native.Mathlib.Omega.{arith}
use native.Mathlib.Decide.{dec_lt}
use borrow.Author.Tests.{lt-ltb, le-ltb}
use Rattle.refusal.specs.Checks.{passes}
use Rattle.lists.specs.Lists.{All, all_nil, all_cons, nth}
use Rattle.lists.proofs.Laws.{all_weaken, all_both}
use Rattle.syntax.specs.Grammar.{Bytes, Form, query_text}
use Rattle.syntax.specs.Limits.{max_line}
use Rattle.model.specs.Queries as M
use Rattle.model.specs.Routes as MR
use Rattle.model.specs.Rewriting.{rewritten}
use Rattle.calls.specs.Names.{map_option, resolve, form_of}
use Rattle.calls.specs.Validity.{valid_schema, valid_caller}
use Rattle.calls.specs.Tables.{query_checks}
use Rattle.calls.specs.Asking.{query_routes, route_line, numbered_line}
use Rattle.schema.specs.Schemas.{schema_of}
use Rattle.ledger.specs.Records.{Memory, record_of, memory_sound}
use Rattle.grant.specs.declared.Grant as D
use Rattle.grant.specs.Catalogues.{catalogue_of, catalogue_sound}
use Rattle.query.specs.declared.Form as Q
use Rattle.query.specs.Forms.{query_in}
use Rattle.needs.specs.Asking.{needs_of}
use Rattle.needs.specs.declared.Needs.{Needs}
use Rattle.routes.specs.declared.Open.{Open}
use Rattle.routes.specs.declared.Route as R
use Rattle.routes.specs.Opening.{caller_in}
use Rattle.routes.specs.Listing.{no_route, open_all, routes_in}
use Rattle.routes.proofs.Agreed.{all_unmap}
use Rattle.sides.specs.Sides.{words_of}
use Rattle.print.specs.Writing.{furthest}
use Rattle.print_query.specs.Texts.{table_text}
use Rattle.route_plan.specs.Ways.{way_of}
use Rattle.route_plan.proofs.Meant.{Checked, Meant, all_meant, route_in}
use Rattle.route_plan.proofs.Short.{line_short}
use Rattle.ask.proofs.Cells.{routes_are}
use Rattle.route_line.specs.Texts.{Wording, written_forms, way_text}
use Rattle.ask.specs.Lines.{place_of, text_at, Printable}

below : (i n : ℕ) → ltb (suc i) (suc n) ≡ ltb i n
below i n = go (dec_lt i n)
  where
    go : Dec (i < n) → ltb (suc i) (suc n) ≡ ltb i n
    go (yes h) = lt-ltb (suc i) (suc n) (omega arith) ∙ sym (lt-ltb i n h)
    go (no h) = le-ltb (suc i) (suc n) (omega arith) ∙ sym (le-ltb i n (omega arith))

-- the route of a number, by the place of the number
numbered_at : {A : Type 0} (d : M.Schema) (who : M.Caller) (f : A → MR.Route) (g : A → Bytes) (any : A) {ys : List A} → All (λ y. route_line d who (f y) ≡ g y) ys → (z : ℤ)
    → numbered_line d who (map f ys) z ≡ map_option (λ i. g (nth any ys i)) (place_of (length ys) z)
unfolding numbered_line map_option place_of nth
numbered_at d who f g any all_nil (pos zero) = refl
numbered_at d who f g any all_nil (pos (suc i)) = rw (le-ltb i 0 (omega arith)) refl
numbered_at d who f g any all_nil (negsuc i) = refl
numbered_at d who f g any (all_cons h hs) (pos zero) = refl
numbered_at d who f g any (all_cons {x} {xs} h hs) (pos (suc zero)) = ap some h ∙ rw (lt-ltb 0 (suc (length xs)) (omega arith)) refl
numbered_at d who f g any (all_cons {x} {xs} h hs) (pos (suc (suc i))) = numbered_at d who f g any hs (pos (suc i)) ∙ rw (below i (length xs)) (go (ltb i (length xs)))
  where
    go : (b : Bool) → map_option (λ i. g (nth any xs i)) (cond b (some i) none) ≡ map_option (λ i. g (nth any (x ∷ xs) i)) (cond b (some (suc i)) none)
    go true = refl
    go false = refl
numbered_at d who f g any (all_cons h hs) (negsuc i) = refl

module _ (m : Memory) (safe : T (memory_sound m)) (ws own roles profile : List ℕ) (fs : List Q.Form) (c : Checked (record_of m) m.names (words_of own ws profile) fs) (gs : List D.Grant)
    (lawful : T (catalogue_sound m.names gs ws)) (z : D.Grant) (e : M.Grant) where
  abbrev n : Needs
  n = needs_of m.names (query_in (words_of own ws profile) fs)

  abbrev o : Open
  o = open_all n ws roles profile gs

  abbrev who : M.Caller
  who = caller_in roles profile

  abbrev d : M.Schema
  d = schema_of m.names

  abbrev wording : Wording
  wording = record { names = m.names; own = own; granted = ws; profile = profile; forms = fs }

  abbrev route_of : R.Route → MR.Route
  route_of = route_in (record_of m) m.names ws own roles profile fs c gs lawful z e

  text_is : (y : R.Route) → Meant (record_of m) m.names ws own roles profile fs c gs lawful z e y → route_line d who (route_of y) ≡ way_text wording (way_of o n y)
  unfolding route_line way_text written_forms table_text rewritten query_text
  text_is y k = sym (ap (λ v. query_text (form_of d v)) k.made.is)

  texts_are : All (λ y. route_line d who (route_of y) ≡ way_text wording (way_of o n y)) (routes_in o n)
  texts_are = all_weaken text_is (all_meant (record_of m) m.names ws own roles profile fs c gs lawful z e)

  module _ (f : Form) (is : resolve (schema_of m.names) f ≡ query_in (words_of own ws profile) fs) where
    abbrev cat : List M.Grant
    cat = catalogue_of m.names gs ws

    are : query_routes (record_of m) cat who f ≡ map route_of (routes_in o n)
    are = routes_are m safe ws own roles profile fs c gs lawful z e f is

    pub line_is : (number : ℤ) → numbered_line (schema_of m.names) (caller_in roles profile) (query_routes (record_of m) (catalogue_of m.names gs ws) (caller_in roles profile) f) number
        ≡ text_at (record { names = m.names; own = own; granted = ws; profile = profile; forms = fs }) o n number
    unfolding text_at
    line_is number = ap (λ l. numbered_line d who l number) are ∙ numbered_at d who route_of (λ y. way_text wording (way_of o n y)) no_route texts_are number

    pub lines_short : T (valid_schema (schema_of m.names)) → T (valid_caller (caller_in roles profile)) → length (query_text f) ≤ max_line → T (passes (query_checks (schema_of m.names) f))
        → Printable (record { names = m.names; own = own; granted = ws; profile = profile; forms = fs }) o n
    unfolding query_routes record_of
    lines_short v u l ok =
        record {
          short = all_weaken (λ y h. subst (λ (t : Bytes). length t < furthest) h.0 h.1)
              (all_both texts_are (all_unmap route_of (routes_in o n) (subst (All (λ (r : MR.Route). length (route_line d who r) < furthest)) are (line_short m.names ws gs v lawful who u f l ok))));
        }
