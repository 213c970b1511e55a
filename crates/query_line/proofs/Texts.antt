-- Whole texts: each return of the code that reads them.
use mathlib.Core.Path.{◌≡◌, refl, sym, ap, ap₂, ◌∙◌, subst}
use mathlib.Core.List.{List, [], ◌∷◌, map}
use mathlib.Core.Bool.{Bool, true, false, not, cond}
use mathlib.Core.Option.{Option, none, some, none-ne-some, some-injective}
use Prim.Native.Nat.{ℕ, ◌-◌, ◌≤◌, ◌<◌}
use native.Mathlib.Omega.{arith}
use lib.IntN.{ℤ, pos}
use lib.Dec.{T, leb, ltb}
use lib.ListN.{length, drop, length-drop}
use borrow.Author.Tests.{le-leb, lt-leb, le-ltb, lt-ltb, not-false, ltb-true, ltb-false}
use Rattle.refusal.specs.Checks.{Check, refuse, first, table}
use Rattle.refusal.specs.declared.Refusal.TheVariants.{Bound, Malformed}
use Rattle.std.proofs.lemmas.Option.{same_Some}
use Rattle.lists.proofs.Laws.{true_T, T_true, never, by_test, same_list→eq}
use Rattle.syntax.specs.Grammar as G
use Rattle.syntax.specs.Grammar.{Bytes, Form, RouteLine, verb_word}
use Rattle.syntax.specs.Limits.{form_depth, shallow}
use Rattle.syntax.specs.Readers.{Read, bind, byte, ◌>>=◌, ◌>>◌, give, read_number, read_body, parse, parse_as, parse_query}
use Rattle.syntax.proofs.Depths.{query_shallow, ask_shallow, line_shallow}
use Rattle.calls.specs.Names.{form_conds, map_option}
use Rattle.calls.specs.Tables.{query_checks}
use Rattle.calls.specs.Replies.{written}
use Rattle.text.specs.declared.Unread.TheVariants as L
use Rattle.text.specs.declared.Number.{Number}
use Rattle.text.specs.declared.Unread.{Unread}
use Rattle.text.specs.declared.Unread.TheVariants.{TooLong}
use Rattle.text.specs.Words.{Found, Some, None, seen, left_at, read_end, clamp, number_found}
use Rattle.text.specs.Keywords.{Ok, Err, ok_or, opening_end, line_after, too_long, closes_at}
use Rattle.text.specs.Readings.{any_form, whole, closed}
use Rattle.text.proofs.Fuel.{form_any, any_form_leaves}
use Rattle.text.proofs.Views.{no_some, left_drop, skip_none, skip_is}
use Rattle.text.proofs.Places.{Spells, whole_some, closed_none, closed_is, closed_not, ask_word, line_word}
use Rattle.text.proofs.Found as F
use Rattle.text.proofs.Found.{number_none, number_some, line_unread}
use Rattle.schema.specs.Schemas.{schema_of, schema_sound}
use Rattle.nodes.specs.Storing.{store_list}
use Rattle.conditions.specs.Seeing.{nodes_of}
use Rattle.query_read.specs.Seeing.{reading_ended, form_stored, readable}
use Rattle.query_line.specs.declared.Asked.{Asked}
use Rattle.query_line.specs.declared.Routed.{Routed}
use Rattle.query_line.specs.Asking.{asked_of, unread_asked, asked_form, asked_seen, form_checks, Tells, Asks, Means}
use Rattle.query_line.specs.Texts.{unread_routed, routed_of, route_said, said_asked, said_stored, text_asked, Told, QueryTold, AskTold, RouteTold}

-- a query's text has no line around it
query_whole : (s : Bytes) → parse_query s ≡ whole (any_form (drop 0 s))
unfolding parse_query parse whole any_form
query_whole s = refl

some_not : {A X : Type 0} {a : A} → ◌≡◌ {A = Option A} (some a) none → X
some_not {a} e = absurd (none-ne-some a (sym e))

readable_is : (s : Bytes) (ws : List ℕ) → length s ≤ 512 → T (leb 102 (length ws)) → T (readable s ws)
unfolding readable
readable_is s ws h t = rw (le-ltb 512 (length s) h) t

unreadable : (s : Bytes) (ws : List ℕ) → length s ≤ 512 → leb 102 (length ws) ≡ false → readable s ws ≡ false
unfolding readable
unreadable s ws h e = rw (le-ltb 512 (length s) h, e)

unread_malformed : (long : Bool) → (unread_asked long).checks.malformed ≡ true
unfolding unread_asked
unread_malformed long = refl

form_well : (ns : List ℕ) (q : Form) (n : ℕ) → (asked_form ns q n).checks.malformed ≡ false
unfolding asked_form asked_of
form_well ns q n = refl

form_ends : (ns : List ℕ) (q : Form) (n : ℕ) → (asked_form ns q n).next ≡ n
unfolding asked_form asked_of reading_ended
form_ends ns q n = refl

-- a closing bracket that is the last byte
close_last : (s : Bytes) (n : ℕ) {c : Bool} → c ≡ closes_at s n → not c ≡ false → n ≡ length s - 1
unfolding closes_at
close_last s n {c} e f =
    let d : (41 ∷ []) ≡ drop n s = same_list→eq (41 ∷ []) (drop n s) (true_T _ (sym e ∙ not-false c f)) in
    let l = ap length d in
    omega (arith, length-drop n s)

-- ---- the checks of a text

-- the query at a place, and the words with its conditions
record Here (ns : List ℕ) (s : Bytes) (ws vs : List ℕ) (x : Asked) (q : Form) : Type 0 where
  asked : x ≡ asked_form ns q x.next
  lent : T (leb 102 (length ws))
  stored : x.checks.bound ≡ false → vs ≡ store_list (map (nodes_of ns) (form_conds q)) 0 ws
  tells : T (schema_sound ns) → Tells ns s vs (record { what = q; left = drop x.next s }) x
  inside : x.next ≤ length s

-- what a text says, with the query in it as it was read
record Spoken {A : Type 0} (form : A → Form) (spare : ℕ) (o : Option A) (ns : List ℕ) (s : Bytes) (ws vs : List ℕ) (x : Asked) : Type 0 where
  what : A
  is : o ≡ some what
  ended : x.next ≡ length s - spare
  here : Here ns s ws vs x (form what)

module _ {A : Type 0} (form : A → Form) (spare : ℕ) (ns : List ℕ) (s : Bytes) where
  abbrev checked : Option A → List Check
  checked o = written spare s o (λ a. query_checks (schema_of ns) (form a))

  first_long : (o : Option A) → 512 < length s → first (checked o) ≡ some Bound
  unfolding written first refuse
  first_long none h = rw (lt-ltb 512 (length s) h)
  first_long (some a) h = rw (lt-ltb 512 (length s) h)

  first_none : length s ≤ 512 → first (checked none) ≡ some Malformed
  unfolding written first refuse
  first_none h = rw (le-ltb 512 (length s) h)

  first_some : (a : A) → length s ≤ 512 → shallow spare s ≡ leb (form_depth (form a)) 8 → first (checked (some a)) ≡ first (form_checks (schema_of ns) (form a))
  unfolding written first refuse form_checks
  first_some a h e = rw (le-ltb 512 (length s) h, e)

  unread_first : (long : Bool) → first (table (unread_asked long).checks) ≡ cond long (some Bound) (some Malformed)
  unfolding unread_asked first table refuse
  unread_first true = refl
  unread_first false = refl

  module _ (o : Option A) (ws vs : List ℕ) (k : length vs ≡ length ws) {x : Asked} where
    -- too long
    text_long : 512 < length s → x ≡ unread_asked true → Told form spare o ns s ws vs x
    unfolding text_asked
    text_long h d =
        record {
          is = d ∙ rw (lt-ltb 512 (length s) h);
          stored = λ z b. never (sym (unread_malformed true) ∙ sym (ap (λ y. y.checks.malformed) d) ∙ z);
          checks = λ sound lent. ap (λ y. first (table y.checks)) d ∙ unread_first true ∙ sym (first_long o h);
          query = λ sound lent a e f. some_not (sym (first_long o h) ∙ f);
          kept = k;
        }

    -- of another form
    text_none : length s ≤ 512 → (T (leb 102 (length ws)) → o ≡ none) → x ≡ unread_asked false → Told form spare o ns s ws vs x
    unfolding text_asked said_asked map_option
    text_none h n d =
        record {
          is = by_test (leb 102 (length ws)) (λ a. d ∙ rw (le-ltb 512 (length s) h, a, n (true_T _ a))) (λ a. d ∙ rw (le-ltb 512 (length s) h, a));
          stored = λ z b. never (sym (unread_malformed false) ∙ sym (ap (λ y. y.checks.malformed) d) ∙ z);
          checks = λ sound lent. ap (λ y. first (table y.checks)) d ∙ unread_first false ∙ sym (ap (λ p. first (checked p)) (n lent) ∙ first_none h);
          query = λ sound lent a e f. some_not (sym (ap (λ p. first (checked p)) (n lent) ∙ first_none h) ∙ f);
          kept = k;
        }

    -- read
    text_some : length s ≤ 512 → ((a : A) → o ≡ some a → shallow spare s ≡ leb (form_depth (form a)) 8) → Spoken form spare o ns s ws vs x → Told form spare o ns s ws vs x
    unfolding text_asked said_asked said_stored map_option
    text_some h e f =
        let a = f.what in
        let i = f.is in
        let q = f.here in
        let v = verdict a h i (e a i) in
        record {
          is = q.asked ∙ ap (asked_form ns (form a)) f.ended ∙ sym (rw (le-ltb 512 (length s) h, T_true (leb 102 (length ws)) q.lent, i));
          stored = λ z b. q.stored b ∙ sym (rw i);
          checks = λ sound lent. (q.tells sound).checks ∙ sym v;
          query = λ sound lent b p g.
              let u : a ≡ b = some-injective a b (sym i ∙ p) in
              subst (λ y. Means (schema_of ns) y vs x.query) (ap form u) ((q.tells sound).query (sym v ∙ g));
          kept = k;
        }
      where
        verdict : (a : A) → length s ≤ 512 → o ≡ some a → shallow spare s ≡ leb (form_depth (form a)) 8 → first (checked o) ≡ first (form_checks (schema_of ns) (form a))
        verdict a h p e = ap (λ m. first (checked m)) p ∙ first_some a h e

-- ---- what was read at a place

module _ (ns : List ℕ) (s : Bytes) (at : ℕ) (ws vs : List ℕ) (line : length s ≤ 512) where
  readable_lent : T (leb 102 (length ws)) → T (readable s ws)
  readable_lent lent = readable_is s ws line lent

  asked_none : Asks ns s at ws vs None → T (leb 102 (length ws)) → any_form (drop at s) ≡ none
  unfolding seen
  asked_none h lent = go (any_form (drop at s)) refl
    where
      go : (o : Option (Read Form)) → any_form (drop at s) ≡ o → any_form (drop at s) ≡ none
      go none e = e
      go (some q) e = let d : None ≡ Some (asked_seen ns s q) = h.is ∙ rw (T_true (readable s ws) (readable_lent lent), e) in absurd (no_some d)

  module _ {a : Asked} (h : Asks ns s at ws vs (Some a)) where
    read_lent : T (leb 102 (length ws))
    read_lent = by_test (leb 102 (length ws)) (true_T _) (λ e. let d : Some a ≡ None = h.is ∙ rw (unreadable s ws line e) in absurd (no_some (sym d)))

    rd : T (readable s ws)
    rd = readable_lent read_lent

    -- a form, with what is left as a place
    asked_some : {X : Type 0} → ((f : Form) → any_form (drop at s) ≡ some (record { what = f; left = drop a.next s }) → Here ns s ws vs a f → X) → X
    unfolding seen asked_seen left_at form_stored
    asked_some {X} g = go (any_form (drop at s)) refl
      where
        told : (q : Read Form) → any_form (drop at s) ≡ some q → T (schema_sound ns) → Tells ns s vs q a
        told q e sound = h.some_read sound rd q e

        go : (o : Option (Read Form)) → any_form (drop at s) ≡ o → X
        go none e = let d : Some a ≡ None = h.is ∙ rw (T_true (readable s ws) rd, e) in absurd (no_some (sym d))
        go (some q) e =
            let i : a ≡ asked_form ns q.what (length s - length q.left) = same_Some a (asked_form ns q.what (length s - length q.left)) (h.is ∙ rw (T_true (readable s ws) rd, e)) in
            let n : a.next ≡ length s - length q.left = ap (λ y. y.next) i ∙ form_ends ns q.what (length s - length q.left) in
            let d : drop a.next s ≡ q.left = ap (λ i. drop i s) n ∙ left_drop any_form_leaves s at q e in
            let p : record { what = q.what; left = drop a.next s } ≡ q = ap (λ l. record { what = q.what; left = l }) d in
            g q.what (e ∙ ap some (sym p))
            (record {
              asked = i ∙ ap (asked_form ns q.what) (sym n);
              lent = read_lent;
              stored = λ b. h.stored a refl b ∙ rw e;
              tells = λ sound. told _ (e ∙ ap some (sym p)) sound;
              inside = omega arith;
            })

-- ---- a query alone

module _ (ns : List ℕ) (s : Bytes) (ws : List ℕ) where
  pub query_long : {x : Asked} → 512 < length s → x ≡ unread_asked true → QueryTold ns s ws ws x
  query_long h d = text_long (λ q. q) 0 ns s (parse_query s) ws ws refl h d

  module _ (line : length s ≤ 512) {vs : List ℕ} where
    pub query_unread : {x : Asked} → Asks ns s 0 ws vs None → x ≡ unread_asked false → QueryTold ns s ws vs x
    unfolding whole bind
    query_unread h d = text_none (λ q. q) 0 ns s (parse_query s) ws vs h.kept line (λ lent. query_whole s ∙ rw (asked_none ns s 0 ws vs line h lent)) d

    module _ {a : Asked} (h : Asks ns s 0 ws vs (Some a)) where
      query_here : {X : Type 0} → ((f : Form) → parse_query s ≡ cond (leb (length s) a.next) (some f) none → Here ns s ws vs a f → X) → X
      query_here k = asked_some ns s 0 ws vs line h (λ f e t. k f (query_whole s ∙ ap whole e ∙ whole_some s a.next f) t)

      pub query_longer : {x : Asked} → (a.next ≡ length s → ⊥) → x ≡ unread_asked false → QueryTold ns s ws vs x
      query_longer z d =
          text_none (λ q. q) 0 ns s (parse_query s) ws vs h.kept line (λ lent. query_here (λ f e t. let n = t.inside in e ∙ rw (lt-leb (length s) a.next (omega arith)))) d

      pub query_read : a.next ≡ length s → QueryTold ns s ws vs a
      query_read z =
          text_some (λ q. q) 0 ns s (parse_query s) ws vs h.kept line (λ q e. query_shallow s q e)
          (query_here (λ f e t. record { what = f; is = e ∙ rw (le-leb (length s) a.next (omega arith)); ended = omega arith; here = t }))

-- ---- a line after its first word

ok_err : {A E : Type 0} {a : A} {e : E} → Ok a ≡ Err e → ⊥
ok_err h = cc

module _ (v : G.Verb) (s : Bytes) {c : ℕ} (k : Spells c (verb_word v)) where
  -- too long, or of another form
  line_fails : {X : Type 0} {e : Unread} → Err e ≡ line_after s c → (512 < length s → e ≡ TooLong → X) → (length s ≤ 512 → parse_as v s ≡ none → e ≡ L.Malformed → X) → X
  unfolding line_after
  line_fails {X} {e} q f g = go (ltb 512 (length s)) (opening_end s 0 c) refl q
    where
      nothing : none ≡ cond (ltb 512 (length s)) none (parse_as v s)
      nothing = line_unread v s k (λ b. none) (λ o. o) refl q

      go : (b : Bool) (u : Found ℕ) → ltb 512 (length s) ≡ b → Err e ≡ cond b (Err TooLong) (ok_or u L.Malformed) → X
      go true u t d = f (ltb-true 512 (length s) t) cc
      go false None t d = g (ltb-false 512 (length s) t) (sym (nothing ∙ rw t)) cc
      go false (Some p) t d = absurd (ok_err (sym d))

  -- what follows
  module _ {at : ℕ} (q : Ok at ≡ line_after s c) where
    line_low : length s ≤ 512
    unfolding line_after
    line_low = go (ltb 512 (length s)) refl q
      where
        go : (b : Bool) → ltb 512 (length s) ≡ b → Ok at ≡ cond b (Err TooLong) (ok_or (opening_end s 0 c) L.Malformed) → length s ≤ 512
        go true e d = absurd (ok_err d)
        go false e d = ltb-false 512 (length s) e

    line_body : parse_as v s ≡ closed (read_body v (length s) (drop at s))
    line_body = let h = line_low in let d : cond (ltb 512 (length s)) none (parse_as v s) ≡ closed (read_body v (length s) (drop at s)) = F.line_read v s k (λ b. none) (λ o. o) q in sym (rw (le-ltb 512 (length s) h)) ∙ d

too_long_is : (e : Unread) → {b : Bool} → b ≡ too_long e → e ≡ TooLong → b ≡ true
unfolding too_long
too_long_is e d z = d ∙ rw z

malformed_is : (e : Unread) → {b : Bool} → b ≡ too_long e → e ≡ L.Malformed → b ≡ false
unfolding too_long
malformed_is e d z = d ∙ rw z

-- ---- an `ask` line

module _ (ns : List ℕ) (s : Bytes) (ws : List ℕ) where
  pub ask_unopened : {e : Unread} {b : Bool} {x : Asked} → Err e ≡ line_after s 0x61736b → b ≡ too_long e → x ≡ unread_asked b → AskTold ns s ws ws x
  ask_unopened {e} p l d =
      line_fails G.ask s ask_word p (λ h z. text_long (λ q. q) 1 ns s (parse_as G.ask s) ws ws refl h (d ∙ ap unread_asked (too_long_is e l z)))
      (λ h n z. text_none (λ q. q) 1 ns s (parse_as G.ask s) ws ws refl h (λ lent. n) (d ∙ ap unread_asked (malformed_is e l z)))

  module _ {at : ℕ} (p : Ok at ≡ line_after s 0x61736b) where
    line : length s ≤ 512
    line = line_low G.ask s ask_word p

    pub ask_unspaced : {x : Asked} → None ≡ read_end s (byte 32 (drop at s)) → x ≡ unread_asked false → AskTold ns s ws ws x
    unfolding read_body ◌>>◌ bind closed
    ask_unspaced u d = text_none (λ q. q) 1 ns s (parse_as G.ask s) ws ws refl line (λ lent. line_body G.ask s ask_word p ∙ rw (skip_none s at 32 u)) d

    module _ {i : ℕ} (sp : Some i ≡ read_end s (byte 32 (drop at s))) where
      form_here : parse_as G.ask s ≡ closed (any_form (drop i s))
      unfolding read_body ◌>>◌ ◌>>=◌ give bind
      form_here = line_body G.ask s ask_word p ∙ ap closed (rw (skip_is s at 32 sp, form_any (length s) (drop i s) (omega (arith, length-drop i s))) (same (any_form (drop i s))))
        where
          same : (m : Option (Read Form)) → bind m (λ q. some (record { what = q.what; left = q.left })) ≡ m
          same none = refl
          same (some q) = refl

      pub ask_unread : {vs : List ℕ} {x : Asked} → Asks ns s i ws vs None → x ≡ unread_asked false → AskTold ns s ws vs x
      ask_unread {vs} h d = text_none (λ q. q) 1 ns s (parse_as G.ask s) ws vs h.kept line (λ lent. form_here ∙ ap closed (asked_none ns s i ws vs line h lent) ∙ closed_none) d

      module _ {vs : List ℕ} {a : Asked} (h : Asks ns s i ws vs (Some a)) {c : Bool} (v : c ≡ closes_at s a.next) where
        here_is : {X : Type 0} → ((f : Form) → parse_as G.ask s ≡ closed (some (record { what = f; left = drop a.next s })) → Here ns s ws vs a f → X) → X
        here_is k = asked_some ns s i ws vs line h (λ f e t. k f (form_here ∙ ap closed e) t)

        pub ask_unclosed : {x : Asked} → not c ≡ true → x ≡ unread_asked false → AskTold ns s ws vs x
        ask_unclosed z d = text_none (λ q. q) 1 ns s (parse_as G.ask s) ws vs h.kept line (λ lent. here_is (λ f e t. e ∙ closed_not s a.next f v z)) d

        pub ask_read : not c ≡ false → AskTold ns s ws vs a
        ask_read z =
            text_some (λ q. q) 1 ns s (parse_as G.ask s) ws vs h.kept line (λ q e. ask_shallow s q e)
            (here_is (λ f e t. record { what = f; is = e ∙ closed_is s a.next f v z; ended = close_last s a.next v z; here = t }))

-- ---- a `line` line

unread_some : (b : Bool) → first (table (unread_asked b).checks) ≡ some (cond b Bound Malformed)
unfolding unread_asked first table refuse
unread_some true = refl
unread_some false = refl

module _ (ns : List ℕ) (s : Bytes) (ws : List ℕ) where
  abbrev said : Option RouteLine
  said = parse_as G.line s

  nothing : {vs : List ℕ} {x : Routed} (long : Bool) → x ≡ unread_routed long → ((y : Asked) → y ≡ unread_asked long → Told (λ l. l.query) 1 said ns s ws vs y) → RouteTold ns s ws vs x
  unfolding unread_routed
  nothing {x} long d f =
      record {
        told = f x.asked (ap (λ y. y.asked) d);
        route = ap (λ y. y.route) d ∙ sym (ap (λ b. cond b (pos 0) (route_said said)) (ap (λ y. y.asked.checks.malformed) d ∙ unread_malformed long));
      }

  pub line_unopened : {e : Unread} {b : Bool} {x : Routed} → Err e ≡ line_after s 0x6c696e65 → b ≡ too_long e → x ≡ unread_routed b → RouteTold ns s ws ws x
  line_unopened {e} p l d =
      line_fails G.line s line_word p (λ h z. nothing true (d ∙ ap unread_routed (too_long_is e l z)) (λ y f. text_long (λ l. l.query) 1 ns s said ws ws refl h f))
      (λ h n z. nothing false (d ∙ ap unread_routed (malformed_is e l z)) (λ y f. text_none (λ l. l.query) 1 ns s said ws ws refl h (λ lent. n) f))

  module _ {at : ℕ} (p : Ok at ≡ line_after s 0x6c696e65) where
    short : length s ≤ 512
    short = line_low G.line s line_word p

    whole_body : said ≡ closed (read_body G.line (length s) (drop at s))
    whole_body = line_body G.line s line_word p

    unsaid : {vs : List ℕ} {x : Routed} → length vs ≡ length ws → (T (leb 102 (length ws)) → said ≡ none) → x ≡ unread_routed false → RouteTold ns s ws vs x
    unsaid {vs} k n d = nothing false d (λ y f. text_none (λ l. l.query) 1 ns s said ws vs k short n f)

    pub line_unspaced : {x : Routed} → None ≡ read_end s (byte 32 (drop at s)) → x ≡ unread_routed false → RouteTold ns s ws ws x
    unfolding read_body read_number ◌>>◌ ◌>>=◌ bind closed
    line_unspaced u d = unsaid refl (λ lent. whole_body ∙ rw (skip_none s at 32 u)) d

    module _ {i : ℕ} (sp : Some i ≡ read_end s (byte 32 (drop at s))) where
      pub line_routeless : {x : Routed} → None ≡ number_found s i → x ≡ unread_routed false → RouteTold ns s ws ws x
      unfolding read_body read_number ◌>>◌ ◌>>=◌ bind closed
      line_routeless q d = unsaid refl (λ lent. whole_body ∙ rw (skip_is s at 32 sp, number_none s i q)) d

      module _ {n : Number} (q : Some n ≡ number_found s i) where
        pub line_alone : {x : Routed} → None ≡ read_end s (byte 32 (drop n.next s)) → x ≡ unread_routed false → RouteTold ns s ws ws x
        unfolding read_body read_number ◌>>◌ ◌>>=◌ bind closed
        line_alone u d = unsaid refl (λ lent. number_some s i q (λ z e g. whole_body ∙ rw (skip_is s at 32 sp, e, skip_none s n.next 32 u))) d

        module _ {j : ℕ} (sq : Some j ≡ read_end s (byte 32 (drop n.next s))) where
          with_route : ℤ → Option (Read Form) → Option (Read RouteLine)
          with_route z m = bind m (λ f. some (record { what = record { route = z; query = f.what }; left = f.left }))

          route_here : {X : Type 0} → ((z : ℤ) → n.value ≡ clamp z → said ≡ closed (with_route z (any_form (drop j s))) → X) → X
          unfolding read_body read_number ◌>>◌ ◌>>=◌ give bind with_route
          route_here k =
              number_some s i q (λ z e g.
              k z g (whole_body ∙ ap closed (rw (skip_is s at 32 sp, e, skip_is s n.next 32 sq, form_any (length s) (drop j s) (omega (arith, length-drop j s))))))

          pub line_unquery : {vs : List ℕ} {x : Routed} → Asks ns s j ws vs None → x ≡ unread_routed false → RouteTold ns s ws vs x
          unfolding with_route bind
          line_unquery {vs} h d = unsaid h.kept (λ lent. route_here (λ y g i. i ∙ ap closed (rw (asked_none ns s j ws vs short h lent)) ∙ closed_none)) d

          module _ {vs : List ℕ} {a : Asked} (h : Asks ns s j ws vs (Some a)) {w : Bool} (y : w ≡ closes_at s a.next) where
            said_is : {X : Type 0} → ((f : Form) (z : ℤ) → n.value ≡ clamp z → said ≡ closed (some (record { what = record { route = z; query = f }; left = drop a.next s })) → Here ns s ws vs a f → X) → X
            unfolding with_route bind
            said_is k = asked_some ns s j ws vs short h (λ f e t. route_here (λ z g i. k f z g (i ∙ ap closed (rw e)) t))

            pub line_unclosed : {x : Routed} → not w ≡ true → x ≡ unread_routed false → RouteTold ns s ws vs x
            line_unclosed z d = unsaid h.kept (λ lent. said_is (λ f i g e t. e ∙ closed_not s a.next _ y z)) d

            pub line_read : {x : Routed} → not w ≡ false → x ≡ routed_of n.value a → RouteTold ns s ws vs x
            unfolding routed_of route_said
            line_read z d =
                rw d (record {
                  told = text_some (λ l. l.query) 1 ns s said ws vs h.kept short (λ l e. line_shallow s l e)
                      (said_is (λ f i g e t. record { what = record { route = i; query = f }; is = e ∙ closed_is s a.next _ y z; ended = close_last s a.next y z; here = t }));
                  route = said_is (λ f i g e t. g ∙ sym (ap₂ (λ b o. cond b (pos 0) (route_said o)) (ap (λ y. y.checks.malformed) t.asked ∙ form_well ns f a.next) (e ∙ closed_is s a.next _ y z)));
                })

-- the number of a route where no check fails
pub route_clamped : (ns : List ℕ) (s : Bytes) (ws ws' : List ℕ) {r : Routed} → RouteTold ns s ws ws' r → T (leb 102 (length ws)) → (l : RouteLine) → parse_as G.line s ≡ some l → first (table r.asked.checks) ≡ none
    → r.route ≡ clamp l.route
unfolding route_said text_asked said_asked map_option
route_clamped ns s ws ws' {r} t lent l e f = t.route ∙ ap₂ (λ b o. cond b (pos 0) (route_said o)) well e
  where
    well : r.asked.checks.malformed ≡ false
    well =
        by_test (ltb 512 (length s))
        (λ a. let i : r.asked ≡ unread_asked true = t.told.is ∙ rw a in some_not (sym (unread_some true) ∙ sym (ap (λ y. first (table y.checks)) i) ∙ f))
        (λ a. let i : r.asked ≡ asked_form ns l.query (length s - 1) = t.told.is ∙ rw (a, T_true (leb 102 (length ws)) lent, e) in ap (λ y. y.checks.malformed) i ∙ form_well ns l.query (length s - 1))
