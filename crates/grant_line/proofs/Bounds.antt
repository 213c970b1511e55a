-- Check 3 of a grant line by what is read of it.
use mathlib.Core.Path.{◌≡◌, refl, sym, ap, ◌∙◌}
use mathlib.Core.List.{List, [], ◌∷◌, ◌++◌, map}
use mathlib.Core.Bool.{Bool, true, false, ◌&&◌, ◌||◌, not}
use mathlib.Core.Option.{Option, none, some}
use Prim.Native.Nat.{ℕ, ◌≤◌}
use native.Mathlib.Omega.{arith}
use lib.IntN.{ℤ}
use lib.Dec.{leb, ltb}
use borrow.Author.Tests.{le-leb, lt-leb, ltb-true, ltb-false}
use Rattle.lists.specs.Lists.{every, some?, gather}
use Rattle.lists.proofs.Laws.{not_both}
use Rattle.syntax.specs.Grammar as G
use Rattle.syntax.specs.Grammar.{Operand, Test, Cond, Show, Span, GrantLine}
use Rattle.syntax.specs.Limits.{cond_depth, short, short_ref, is_value, is_time}
use Rattle.model.specs.Conditions.{tests}
use Rattle.calls.specs.Names.{operand_refs, operand_numbers, cond_refs, cond_numbers, show_refs}
use Rattle.calls.specs.Bounds.{cond_bounded, is_limit, is_span, grant_bounded}
use Rattle.terms.specs.Terms.{operand_over, test_over}
use Rattle.nodes.specs.Storing.{list_size}
use Rattle.text.specs.Words.{left_at}
use Rattle.columns.specs.declared.Streams.{Streams}
use Rattle.columns.specs.Columns.{streams_seen, columns_seen}
use Rattle.conditions.specs.declared.Seen.{Seen}
use Rattle.conditions.specs.Seeing.{nodes_of, deep_seen, seen_of, has_room, list_seen}
use Rattle.grant_line.specs.declared.Holder.{Holder}
use Rattle.grant_line.specs.declared.Shown.{Shown}
use Rattle.grant_line.specs.declared.Limit.{Limit}
use Rattle.grant_line.specs.declared.Window.{Window}
use Rattle.grant_line.specs.Parts.{holder_seen, shown_all, shown_listed, show_of, limit_over, limit_seen, window_of}
use Rattle.grant_line.specs.Lines.{whens_seen, over_read}
use Rattle.grant_line.proofs.Folds.{not_not_is, some_not, every_gathered}

-- ---- the parts of a line as they are read

abbrev pub holder : GrantLine → Holder
holder g = holder_seen [] (record { what = record { role = g.role; right = g.right }; left = [] })

abbrev pub streams : List ℕ → GrantLine → Streams
streams ns g = streams_seen ns [] (record { what = g.of; left = [] })

abbrev pub shows : List ℕ → GrantLine → Shown
shows ns g = show_of ns [] g.show 0

abbrev pub seen : List ℕ → GrantLine → Seen
seen ns g = whens_seen ns g.when

abbrev pub first_time : GrantLine → Limit
first_time g = limit_seen [] (record { what = g.from; left = [] })

abbrev pub last_time : GrantLine → Limit
last_time g = limit_seen [] (record { what = g.to; left = [] })

abbrev pub span : GrantLine → Window
span g = window_of g.window 0

-- the comparisons of all its conditions, and how many words these take
abbrev pub grant_tests : GrantLine → List Test
grant_tests g = gather tests g.when

abbrev pub grant_size : List ℕ → GrantLine → ℕ
grant_size ns g = list_size (map (nodes_of ns) g.when)

-- no brackets nest too deep
abbrev pub flat_enough : GrantLine → Bool
flat_enough g = every (λ c. leb (cond_depth c) 6) g.when

-- ---- comparisons

unfoldable pub test_bounded : Test → Bool
test_bounded t = not (test_over t)

tests_bounded : (ts : List Test) → (every short_ref (gather (λ t. t.left ∷ operand_refs t.right) ts) && every is_value (gather (λ t. operand_numbers t.right) ts)) ≡ every test_bounded ts
unfolding every gather test_bounded test_over operand_over operand_refs operand_numbers
tests_bounded [] = refl
tests_bounded (t ∷ ts) = go t.right (tests_bounded ts)
  where
    one : (a b c d e : Bool) → (c && d) ≡ e → ((a && (b && c)) && d) ≡ (not (not a || not b) && e)
    one true true c d e i = i
    one true false c d e i = refl
    one false b c d e i = refl

    two : (a b c d e : Bool) → (c && d) ≡ e → ((a && c) && (b && d)) ≡ (not (not a || not b) && e)
    two true true c d e i = i
    two true false true d e i = refl
    two true false false d e i = refl
    two false b c d e i = refl

    refs : Bool
    refs = every short_ref (gather (λ t. t.left ∷ operand_refs t.right) ts)

    numbers : Bool
    numbers = every is_value (gather (λ t. operand_numbers t.right) ts)

    go : (o : Operand) → (refs && numbers) ≡ every test_bounded ts
        → (every short_ref ((t.left ∷ operand_refs o) ++ gather (λ t. t.left ∷ operand_refs t.right) ts) && every is_value (operand_numbers o ++ gather (λ t. operand_numbers t.right) ts)) ≡ (not (not (short_ref t.left) || operand_over o) && every test_bounded ts)
    go (G.ref r) i = one (short_ref t.left) (short_ref r) refs numbers (every test_bounded ts) i
    go (G.number z) i = two (short_ref t.left) (is_value z) refs numbers (every test_bounded ts) i

pub conds_bounded : (cs : List (Cond Test)) → every cond_bounded cs ≡ every test_bounded (gather tests cs)
unfolding cond_bounded cond_refs cond_numbers
conds_bounded cs = every_gathered test_bounded cond_bounded tests (λ c. tests_bounded (tests c)) cs

pub tests_over : (cs : List (Cond Test)) → some? test_over (gather tests cs) ≡ not (every cond_bounded cs)
unfolding test_bounded
tests_over cs = some_not test_over test_bounded (λ t. not_not_is (test_over t)) (gather tests cs) ∙ ap not (sym (conds_bounded cs))

-- ---- the other parts

show_over : (ns : List ℕ) (x : Show) → (show_of ns [] x 0).over ≡ not (every short_ref (show_refs x))
unfolding show_of shown_all shown_listed columns_seen show_refs every
show_over ns G.everything = refl
show_over ns (G.listed rs) = refl

limit_bounded : (n : Option ℤ) → limit_over n ≡ not (is_limit n)
unfolding limit_over is_limit
limit_bounded none = refl
limit_bounded (some n) = refl

window_bounded : (w : Option Span) → (window_of w 0).over ≡ not (is_span w)
unfolding window_of is_span
window_bounded none = refl
window_bounded (some w) = not_both (is_time w.size) (is_time w.offset)

-- ---- all of them

-- conditions that fit are seen as they are
pub seen_flat : (ns : List ℕ) (g : GrantLine) → flat_enough g ≡ true → grant_size ns g ≤ 95 → seen ns g ≡ seen_of ns (grant_tests g) 0 (grant_size ns g)
unfolding whens_seen list_seen left_at has_room
seen_flat ns g e h = rw (e, le-leb (grant_size ns g) 95 h, le-leb (grant_size ns g) 255 (omega arith))

pub seen_deep : (ns : List ℕ) (g : GrantLine) → flat_enough g ≡ false → seen ns g ≡ deep_seen 0
unfolding whens_seen list_seen left_at
seen_deep ns g e = rw e

abbrev over : List ℕ → GrantLine → Bool
over ns g = over_read (holder g) (streams ns g) (shows ns g) (seen ns g) (first_time g) (last_time g) (span g)

seven : (a b c d e f g : Bool) → (not a || (not b || (not c || (not d || (false || (not e || (not f || not g))))))) ≡ not (a && b && c && d && e && f && g)
seven true true true true true true g = refl
seven true true true true true false g = refl
seven true true true true false f g = refl
seven true true true false e f g = refl
seven true true false d e f g = refl
seven true false c d e f g = refl
seven false b c d e f g = refl

over_flat : (ns : List ℕ) (g : GrantLine) → flat_enough g ≡ true → grant_size ns g ≤ 95 → over ns g ≡ not (grant_bounded g)
unfolding over_read holder_seen streams_seen limit_seen seen_of grant_bounded
over_flat ns g e h =
    rw (seen_flat ns g e h, show_over ns g.show, tests_over g.when, limit_bounded g.from, limit_bounded g.to, window_bounded g.window)
    (seven (short g.role) (every short g.of) (every short_ref (show_refs g.show)) (every cond_bounded g.when) (is_limit g.from) (is_limit g.to) (is_span g.window))

over_deep : (ns : List ℕ) (g : GrantLine) → flat_enough g ≡ false → over ns g ≡ true
unfolding over_read deep_seen
over_deep ns g e = rw (seen_deep ns g e) (go (holder g).long (streams ns g).over (shows ns g).over)
  where
    go : (a b c : Bool) → (a || (b || (c || true))) ≡ true
    go true b c = refl
    go false true c = refl
    go false false true = refl
    go false false false = refl

-- brackets too deep, or something above its bound
pub over_is : (ns : List ℕ) (g : GrantLine) → grant_size ns g ≤ 95 → over ns g ≡ (not (flat_enough g) || not (grant_bounded g))
over_is ns g h = go (flat_enough g) refl
  where
    go : (b : Bool) → flat_enough g ≡ b → over ns g ≡ (not b || not (grant_bounded g))
    go true e = over_flat ns g e h
    go false e = over_deep ns g e

pub full_is : (n : ℕ) → leb 24 n ≡ not (ltb n 24)
full_is n = go (ltb n 24) refl
  where
    go : (b : Bool) → ltb n 24 ≡ b → leb 24 n ≡ not b
    go true d = let i = ltb-true n 24 d in lt-leb 24 n i
    go false d = let i = ltb-false n 24 d in le-leb 24 n i
