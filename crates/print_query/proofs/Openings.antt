-- What a form writes before the queries that it takes, kind by kind.
use mathlib.Core.Path.{◌≡◌, refl, sym, ap, ap₂, ◌∙◌}
use mathlib.Core.List.{List, [], ◌∷◌, ◌++◌, append_assoc, map}
use mathlib.Core.Bool.{Bool, true}
use Prim.Native.Nat.{ℕ, ◌+◌, ◌*◌, ◌-◌, ◌<◌, ◌≤◌, min}
use native.Mathlib.Decide.{dec_lt}
use native.Mathlib.Omega.{arith}
use lib.ListN.{length, take, drop, length-drop, drop_of_length-le}
use lib.Seq.{take_all}
use borrow.Author.Tests.{ne_eqb, le-ltb, lt-ltb}
use Rattle.syntax.specs.Grammar.{Bytes, bytes, Entry, op_word, fn_word, put_name, put_nat, put_int, put_ref, put_open, put_items, put_equality, numbered_fn}
use Rattle.model.specs.Queries.{Schema}
use Rattle.calls.specs.Names.{ref_of}
use Rattle.text.specs.Words.{bytes_from, name_of}
use Rattle.nodes.specs.Profiles.{profile_in}
use Rattle.grant.specs.Catalogues.{words_in}
use Rattle.query.specs.Forms.{Words, coded_col, cols_in, form_order, cond_at}
use Rattle.query.specs.declared.Form.{Form}
use Rattle.print.specs.Writing.{Put, byte_text}
use Rattle.print.specs.declared.Bounds.{Bounds}
use Rattle.print.specs.Texts as P
use Rattle.print.specs.Texts.{source_text, values, cond_text, col_text, columns_text, bounded, bounds_text}
use Rattle.print.proofs.Putting.{put_as, put_then}
use Rattle.print.proofs.Names.{columns_listed}
use Rattle.print.proofs.Conditions.{own_is}
use Rattle.print_query.specs.Texts.{words_lent, pick_opening, keep_opening, join_opening, fn_opening, span_text, aggregate_opening, form_bounds, under_opening, opening_text, bracketed}

-- the part of a list from one place to another, each at most its end
part_is : (xs : List ℕ) (at n : ℕ) {i k : ℕ} → i ≡ min at (length xs) → k ≡ min (at + n) (length xs) → take (k - i) (drop i xs) ≡ take n (drop at xs)
part_is xs at n {i} {k} e g = go (dec_lt at (length xs))
  where
    go : Dec (at < length xs) → take (k - i) (drop i xs) ≡ take n (drop at xs)
    go (no h) =
        let z : drop i xs ≡ [] = drop_of_length-le xs {i = i} (omega arith) in
        rw (z, drop_of_length-le xs {i = at} (omega arith)) (take_all (k - i) [] (omega arith) ∙ sym (take_all n [] (omega arith)))
    go (yes h) =
        let z : i ≡ at = omega arith in
        ap (λ (j : ℕ). take (k - i) (drop j xs)) z ∙ fits (dec_lt n (length xs - at))
      where
        fits : Dec (n < length xs - at) → take (k - i) (drop at xs) ≡ take n (drop at xs)
        fits (yes l) = let w : k - i ≡ n = omega arith in ap (λ (j : ℕ). take j (drop at xs)) w
        fits (no l) = take_all (k - i) (drop at xs) (omega (arith, length-drop at xs)) ∙ sym (take_all n (drop at xs) (omega (arith, length-drop at xs)))

-- ---- columns

same_col : (c : ℕ) → P.coded_col c ≡ coded_col c
unfolding P.coded_col coded_col
same_col c = refl

col_is : (d : Schema) (c : ℕ) (r : Bytes) → put_ref (ref_of d (coded_col c)) r ≡ col_text d c r
unfolding col_text
col_is d c r = ap (λ x. put_ref (ref_of d x) r) (sym (same_col c))

cols_are : (d : Schema) (order : ℕ) (r : Bytes) → put_items put_ref (map (ref_of d) (cols_in order)) r ≡ columns_text d order r
unfolding cols_in P.coded_col coded_col
cols_are d order r = sym (columns_listed d order r)

-- ---- kinds

pub span_end : (f : Form) {m₀ m₁ m₂ m₃ m₄ : Bytes} {p₀ p₁ p₂ p₃ p₄ : ℕ}
    → Put (put_nat f.third) m₀ p₀ m₁ p₁ → Put (byte_text 32) m₁ p₁ m₂ p₂ → Put (put_nat f.fourth) m₂ p₂ m₃ p₃ → Put (byte_text 32) m₃ p₃ m₄ p₄ → Put (span_text f) m₀ p₀ m₄ p₄
unfolding span_text byte_text put_int
span_end f x a y b = put_as (λ r. refl) (put_then x (put_then a (put_then y b)))

module _ (d : Schema) (f : Form) where
  pub pick_end : (own granted profile : List ℕ) (e : List Entry) {m₀ m₁ m₂ m₃ : Bytes} {p₀ p₁ p₂ p₃ : ℕ}
      → Put (put_name (name_of 44463269571360)) m₀ p₀ m₁ p₁ → Put (cond_text d (values true e) own f.first) m₁ p₁ m₂ p₂ → Put (byte_text 32) m₂ p₂ m₃ p₃
      → Put (pick_opening d (words_lent own granted profile) f) m₀ p₀ m₃ p₃
  unfolding pick_opening put_open put_name byte_text name_of bytes_from cond_at
  pick_end own granted profile e x y z = put_as (λ r. ap (λ t. bytes "(pick " ++ t) (sym (own_is d e own f.first (32 ∷ r)))) (put_then x (put_then y z))

  pub keep_end : {o : ℕ} {m₀ m₁ m₂ m₃ : Bytes} {p₀ p₁ p₂ p₃ : ℕ}
      → o ≡ form_order f → Put (put_name (name_of 173600499056)) m₀ p₀ m₁ p₁ → Put (columns_text d o) m₁ p₁ m₂ p₂ → Put (byte_text 32) m₂ p₂ m₃ p₃ → Put (keep_opening d f) m₀ p₀ m₃ p₃
  unfolding keep_opening put_open put_name byte_text name_of bytes_from
  keep_end e x y z = put_as (λ r. ap (λ t. bytes "(keep" ++ t) (cols_are d (form_order f) (32 ∷ r) ∙ ap (λ m. columns_text d m (32 ∷ r)) (sym e))) (put_then x (put_then y z))

  pub join_end : {m₀ m₁ m₂ m₃ m₄ m₅ m₆ : Bytes} {p₀ p₁ p₂ p₃ p₄ p₅ p₆ : ℕ}
      → Put (put_name (name_of 44437600824864)) m₀ p₀ m₁ p₁ → Put (put_name (name_of 2637088)) m₁ p₁ m₂ p₂ → Put (col_text d f.first) m₂ p₂ m₃ p₃ → Put (byte_text 32) m₃ p₃ m₄ p₄
      → Put (col_text d f.second) m₄ p₄ m₅ p₅ → Put (put_name (name_of 10528)) m₅ p₅ m₆ p₆ → Put (join_opening d f) m₀ p₀ m₆ p₆
  unfolding join_opening put_open put_equality op_word put_name byte_text name_of bytes_from
  join_end a b x c y e =
      put_as (λ r. ap (λ t. bytes "(join (= " ++ t) (col_is d f.first _ ∙ ap (λ t. col_text d f.first (32 ∷ t)) (col_is d f.second (41 ∷ (32 ∷ r)))))
      (put_then a (put_then b (put_then x (put_then c (put_then y e)))))

  pub aggregate_end : (w : ℕ) {m₀ m₁ m₂ m₃ m₄ : Bytes} {p₀ p₁ p₂ p₃ p₄ : ℕ} → name_of w ≡ fn_opening f.first
      → Put (put_name (name_of w)) m₀ p₀ m₁ p₁ → Put (col_text d f.second) m₁ p₁ m₂ p₂ → Put (byte_text 32) m₂ p₂ m₃ p₃ → Put (span_text f) m₃ p₃ m₄ p₄ → Put (aggregate_opening d f) m₀ p₀ m₄ p₄
  unfolding aggregate_opening fn_opening put_open put_name byte_text
  aggregate_end w o a x b y =
      put_as (λ r. head (put_ref (ref_of d (coded_col f.second)) (32 ∷ span_text f r)) ∙ ap (λ t. name_of w ++ t) (col_is d f.second (32 ∷ span_text f r))) (put_then a (put_then x (put_then b y)))
    where
      head : (t : Bytes) → 40 ∷ (fn_word (numbered_fn f.first) ++ (32 ∷ t)) ≡ name_of w ++ t
      head t = sym (ap (λ u. 40 ∷ u) (append_assoc (fn_word (numbered_fn f.first)) (32 ∷ []) t)) ∙ ap (λ u. u ++ t) (sym o)

  -- ---- the words of a grant

  module _ (own granted profile : List ℕ) {b : Bounds} {m₀ m₁ : Bytes} {p₀ p₁ : ℕ} (is : b ≡ form_bounds f) where
    pub under_end : {i k : ℕ} → i ≡ min (f.first * 95) (length granted) → k ≡ min (f.first * 95 + 95) (length granted) → Put (bounds_text d (profile_in profile) (take (k - i) (drop i granted)) b) m₀ p₀ m₁ p₁
        → Put (under_opening d (words_lent own granted profile) f) m₀ p₀ m₁ p₁
    unfolding under_opening words_in
    under_end {i} {k} e g x = put_as (λ r. ap₂ (λ vs c. bounds_text d (profile_in profile) vs c r) (sym (part_is granted (f.first * 95) 95 e g)) (sym is)) x

-- ---- any form

module _ (d : Schema) (w : Words) (f : Form) {m n : Bytes} {p q : ℕ} where
  pub opening_rows : f.kind ≡ 0 → Put (source_text d f.first) m p n q → Put (opening_text d w f) m p n q
  unfolding opening_text
  opening_rows e x = put_as (λ r. rw e) x

  pub opening_pick : f.kind ≡ 1 → Put (pick_opening d w f) m p n q → Put (opening_text d w f) m p n q
  unfolding opening_text
  opening_pick e x = put_as (λ r. rw e) x

  pub opening_keep : f.kind ≡ 2 → Put (keep_opening d f) m p n q → Put (opening_text d w f) m p n q
  unfolding opening_text
  opening_keep e x = put_as (λ r. rw e) x

  pub opening_join : f.kind ≡ 3 → Put (join_opening d f) m p n q → Put (opening_text d w f) m p n q
  unfolding opening_text
  opening_join e x = put_as (λ r. rw e) x

  pub opening_aggregate : f.kind ≡ 4 → Put (aggregate_opening d f) m p n q → Put (opening_text d w f) m p n q
  unfolding opening_text
  opening_aggregate e x = put_as (λ r. rw e) x

  pub opening_under : (f.kind ≡ 0 → ⊥) → (f.kind ≡ 1 → ⊥) → (f.kind ≡ 2 → ⊥) → (f.kind ≡ 3 → ⊥) → (f.kind ≡ 4 → ⊥) → Put (under_opening d w f) m p n q → Put (opening_text d w f) m p n q
  unfolding opening_text
  opening_under a b c e g x = put_as (λ r. rw (ne_eqb f.kind 0 a, ne_eqb f.kind 1 b, ne_eqb f.kind 2 c, ne_eqb f.kind 3 e, ne_eqb f.kind 4 g)) x

pub ruleset opening_ends = (opening_rows, opening_pick, opening_keep, opening_join, opening_aggregate, opening_under)

-- ---- words of aggregates

module _ (n : ℕ) where
  unfoldable fns_compute : Unit {0}
  unfolding name_of bytes_from fn_opening numbered_fn fn_word
  fns_compute = tt

  pub fn_1 : n ≡ 1 → name_of 173634317856 ≡ fn_opening n
  unfolding fns_compute
  fn_1 e = rw e

  pub fn_2 : n ≡ 2 → name_of 173633796128 ≡ fn_opening n
  unfolding fns_compute
  fn_2 e = rw e

  pub fn_3 : n ≡ 3 → name_of 11368329431118880 ≡ fn_opening n
  unfolding fns_compute
  fn_3 e = rw e

  pub fn_4 : n ≡ 4 → name_of 173433841440 ≡ fn_opening n
  unfolding fns_compute
  fn_4 e = rw e

  pub fn_5 : (n ≡ 1 → ⊥) → (n ≡ 2 → ⊥) → (n ≡ 3 → ⊥) → (n ≡ 4 → ⊥) → name_of 173735767328 ≡ fn_opening n
  unfolding fns_compute
  fn_5 a b c d = rw (ne_eqb n 1 a, ne_eqb n 2 b, ne_eqb n 3 c, ne_eqb n 4 d)

pub ruleset fn_ends = (fn_1, fn_2, fn_3, fn_4, fn_5)

-- ---- brackets

module _ (f : Form) where
  pub bracketed_low : f.kind ≤ 4 → true ≡ bracketed f
  unfolding bracketed
  bracketed_low h = rw (le-ltb 4 f.kind h)

  pub bracketed_under : {b : Bounds} {x : Bool} → 4 < f.kind → b ≡ form_bounds f → x ≡ bounded b → x ≡ bracketed f
  unfolding bracketed
  bracketed_under h e g = rw (lt-ltb 4 f.kind h) (g ∙ ap bounded e)

pub ruleset bracketed_ends = (bracketed_low, bracketed_under)
