-- The grant call: each return.
use mathlib.Core.Path.{◌≡◌, refl, sym, ap, ap₂, ◌∙◌}
use mathlib.Core.List.{List}
use mathlib.Core.Bool.{Bool, true, false, ◌||◌, not, cond}
use mathlib.Core.Option.{Option, none, some}
use Prim.Native.Nat.{ℕ, ◌+◌, ◌*◌, ◌≤◌, ◌<◌}
use native.Mathlib.Omega.{arith}
use lib.Dec.{T, leb, ltb, leb→le}
use lib.ListN.{length, replicate}
use lib.Seq.{paste}
use borrow.Author.Tests.{leb-false, ltb-false}
use Rattle.std.specs.Prelude.{Result, Ok, Err}
use Rattle.refusal.specs.Results.{Said, result_of, giving, said_by, settled}
use Rattle.refusal.specs.Checks.{first, table, refuse}
use Rattle.refusal.specs.declared.Checks.{Checks}
use Rattle.refusal.specs.declared.Refusal.{Refusal}
use Rattle.refusal.specs.declared.Refused.{Refused}
use Rattle.refusal.specs.declared.Refusal.TheVariants.{Lent, Malformed, Bound}
use Rattle.refusal.proofs.Results.{result_none}
use Rattle.lists.proofs.Laws.{parts, true_T, or_first, or_last}
use Rattle.grant_line.proofs.Lines.{unread_not}
use Rattle.syntax.specs.Grammar as G
use Rattle.syntax.specs.Grammar.{Bytes}
use Rattle.syntax.specs.Readers.{parse_as}
use Rattle.model.specs.Queries as M
use Rattle.conditions.specs.Seeing.{seen_of}
use Rattle.conditions.proofs.Capacity.{grant_room}
use Rattle.grant_line.specs.declared.GrantLine.{GrantLine}
use Rattle.grant.specs.declared.Grant.{Grant}
use Rattle.grant_line.specs.Lines.{grant_read, line_read, no_grant, unread_line, read_line, line_of, grant_line, LineRead}
use Rattle.grant_line.specs.Granting.{lent_sound, grant_table, grant_made, words_made, with_words, Grants}
use Rattle.grant_line.proofs.Bounds.{grant_size, flat_enough, seen_flat, over_is}
use Rattle.grant_line.proofs.Flags.{flags_of, flags, flags_said}

-- ---- a table with no refusal

not_false_is : (a : Bool) → not a ≡ false → a ≡ true
not_false_is true e = refl
not_false_is false e = sym e

-- no check up to the bounds fails
early : (c : Checks) → first (table c) ≡ none → (c.lent ≡ false) × (c.long ≡ false) × (c.malformed ≡ false) × (c.bound ≡ false)
unfolding first table refuse
early c e = go c.lent c.long c.malformed c.bound _ e
  where
    go : (x y z w : Bool) (o : Option Refusal) → cond x (some Lent) (cond y (some Bound) (cond z (some Malformed) (cond w (some Bound) o))) ≡ none → (x ≡ false) × (y ≡ false) × (z ≡ false) × (w ≡ false)
    go true y z w o e = absurd (let k : ◌≡◌ {A = ℕ} 0 1 = cc in omega arith)
    go false true z w o e = absurd (let k : ◌≡◌ {A = ℕ} 0 1 = cc in omega arith)
    go false false true w o e = absurd (let k : ◌≡◌ {A = ℕ} 0 1 = cc in omega arith)
    go false false false true o e = absurd (let k : ◌≡◌ {A = ℕ} 0 1 = cc in omega arith)
    go false false false false o e = (refl, refl, refl, refl)

-- ---- a line that was read

-- its conditions take as many words as are said where nothing is above its bound
words_are : (ns : List ℕ) (g : G.GrantLine) → grant_size ns g ≤ 95 → (read_line ns g).checks.bound ≡ false → (read_line ns g).grant.words ≡ grant_size ns g
unfolding read_line line_read grant_read seen_of
words_are ns g fits b = ap (λ c. c.count) (seen_flat ns g flat fits)
  where
    flat : flat_enough g ≡ true
    flat = not_false_is (flat_enough g) (or_first (not (flat_enough g)) _ (sym (over_is ns g fits) ∙ b))

module _ (ns : List ℕ) (bs : Bytes) {l : GrantLine} (e : l ≡ grant_line ns bs) (m : l.checks.malformed ≡ false) (b : l.checks.bound ≡ false) where
  read_cases : {X : Type 0} → ((g : G.GrantLine) → parse_as G.grant bs ≡ some g → l ≡ read_line ns g → l.grant.words ≡ grant_size ns g → grant_size ns g ≤ 95 → X) → X
  unfolding grant_line line_of
  read_cases {X} k = go (ltb 512 (length bs)) refl (parse_as G.grant bs) refl e
    where
      go : (x : Bool) → ltb 512 (length bs) ≡ x → (o : Option G.GrantLine) → parse_as G.grant bs ≡ o → l ≡ cond x (unread_line true) (line_of ns o) → X
      go true h o p d = absurd (unread_not true d m)
      go false h none p d = absurd (unread_not false d m)
      go false h (some g) p d =
          let fits = grant_room ns bs g p (ltb-false 512 (length bs) h) in
          k g p d (ap (λ y. y.grant.words) d ∙ words_are ns g fits (sym (ap (λ y. y.checks.bound) d) ∙ b)) fits

  pub few_words : l.grant.words ≤ 95
  few_words = read_cases (λ g p d w f. omega arith)

  made_is : l.grant ≡ grant_made ns (parse_as G.grant bs)
  unfolding grant_made
  made_is = read_cases (λ g p d w f. ap (λ y. y.grant) d ∙ sym (ap (grant_made ns) p))

  made_words : l.grant.words ≡ words_made ns (parse_as G.grant bs)
  unfolding words_made
  made_words = read_cases (λ g p d w f. w ∙ sym (ap (words_made ns) p))

-- ---- the returns

module _ (ns : List ℕ) (count : ℕ) (bs : Bytes) (ws : List ℕ) {l : GrantLine} {local : List ℕ} (read : LineRead ns bs (replicate 95 0) local l) {x a : Bool} (e : x ≡ lent_sound ns count (length ws)) (i : a ≡ (l.checks.bound || leb 24 count))
    {v : Said} (m : v ≡ result_of (first (table (flags_of (not x) a l)))) where
  flags_are : flags_of (not x) a l ≡ flags ns count (length ws) (grant_line ns bs)
  flags_are =
      ap (λ y. flags_of (not y) a l) e ∙ ap (λ y. flags_of (not (lent_sound ns count (length ws))) y l) i ∙ ap (flags ns count (length ws)) read.is

  result_is : (gs : List M.Grant) → length gs ≡ count → v ≡ result_of (first (grant_table ns gs ws bs))
  result_is gs h = m ∙ ap (λ y. result_of (first (table y))) flags_are ∙ ap result_of (flags_said ns count ws bs gs h)

  pub grant_refused : {f : Refusal} → v ≡ Err f → {g : Grant} → g ≡ no_grant → Grants ns count bs ws ws (Err (record { refusal = f; held = g }))
  unfolding giving said_by settled
  grant_refused {f} d z = record { said = λ gs h. sym d ∙ result_is gs h; given = ap (λ g. Err (record { refusal = f; held = g })) z; left = refl }

  module _ (d : v ≡ Ok tt) where
    clear : (not x ≡ false) × (l.checks.long ≡ false) × (l.checks.malformed ≡ false) × (a ≡ false)
    clear = early (flags_of (not x) a l) (result_none (first (table (flags_of (not x) a l))) (sym m ∙ d))

    unbound : l.checks.bound ≡ false
    unbound = or_first l.checks.bound (leb 24 count) (sym i ∙ clear.3)

    pub count_below : count < 24
    count_below = leb-false 24 count (or_last l.checks.bound (leb 24 count) (sym i ∙ clear.3))

    lent : T (lent_sound ns count (length ws))
    lent = true_T (lent_sound ns count (length ws)) (sym e ∙ not_false_is x clear.0)

    room : 2280 ≤ length ws
    unfolding lent_sound
    room = let t = lent in leb→le 2280 (length ws) (search parts)

    pub words_below : l.grant.words ≤ 95
    words_below = few_words ns bs read.is clear.2 unbound

    pub copy_room : count * 95 + l.grant.words ≤ length ws
    copy_room = let h = count_below in let k = words_below in let r = room in omega arith

    pub grant_accepted : {ws' : List ℕ} → ws' ≡ paste ws (count * 95) local l.grant.words → Grants ns count bs ws ws' (Ok l.grant)
    unfolding giving said_by settled with_words
    grant_accepted k =
        record {
          said = λ gs h. sym d ∙ result_is gs h;
          given = ap (λ g. Ok g) (made_is ns bs read.is clear.2 unbound);
          left = k ∙ ap₂ (λ us n. paste ws (count * 95) us n) (read.stored clear.2 unbound) (made_words ns bs read.is clear.2 unbound);
        }
