-- A query's table: its forms with one more, how many they are, and the form at a place.
use mathlib.Core.Path.{◌≡◌, refl, sym, ap, ◌∙◌}
use mathlib.Core.List.{List, [], ◌∷◌, ◌++◌, map}
use Prim.Native.Nat.{ℕ, ◌+◌, ◌≤◌, ◌<◌}
use native.Mathlib.Numerals.{add-one}
use native.Mathlib.Omega.{arith}
use lib.ListN.{length, take, set, get_or, replicate, length-take, length-map, get_or-eq_default}
use lib.Seq.{take-suc-set, take_all, get_or-take, length-take-le}
use borrow.Author.Tests.{lt-ltb, le-ltb}
use Rattle.syntax.specs.Limits.{max_forms}
use Rattle.query.specs.declared.Form.{Form}
use Rattle.query.specs.declared.Query.{Query}
use Rattle.query.specs.Tables.{blank, forms_with, query_forms, new_query, query_with, QueryWith}

-- ---- how many places a table has

pub length_told : {Y : Type 0} (g : Form → Y) (fs : List Form) (n : ℕ) → length (map g fs) ≡ n → length fs ≡ n
length_told g fs n e = sym (length-map fs g) ∙ e

-- `search told` finds it where a function begins
pub ruleset told = (length_told)

-- ---- the first of some places

-- where there is room
pub with_room : (n : ℕ) (fs : List Form) (f : Form) → length fs < n → forms_with n fs f ≡ fs ++ (f ∷ [])
unfolding forms_with
with_room n fs f h = rw (lt-ltb (length fs) n h)

pub with_none : (n : ℕ) (fs : List Form) (f : Form) → n ≤ length fs → forms_with n fs f ≡ fs
unfolding forms_with
with_none n fs f h = rw (le-ltb (length fs) n h)

module _ (n : ℕ) (fs : List Form) (l : length fs ≡ n) (k : ℕ) where
  all_many : n ≤ k → n ≡ length (take k fs)
  all_many h = sym (ap length (take_all k fs (omega arith)) ∙ l)

  first_many : k < n → k ≡ length (take k fs)
  first_many h = sym (length-take-le k fs (omega arith))

  all_with : (f : Form) → n ≤ k → take k fs ≡ forms_with n (take k fs) f
  all_with f h = let e = all_many h in sym (with_none n (take k fs) f (omega arith))

  first_with : (f : Form) → k < n → take (k + 1) (set fs k f) ≡ forms_with n (take k fs) f
  first_with f h =
      let e = first_many h in
      rw (add-one k) (take-suc-set fs k f (omega arith)) ∙ sym (with_room n (take k fs) f (omega arith))

  many_most : length (take k fs) ≤ n
  many_most = let e = length-take k fs in omega arith

  place_below : (i m : ℕ) → m ≡ length (take k fs) → i < m → i < n
  place_below i m e h = let a = many_most in omega arith

  form_none : (i m : ℕ) {x : Form} → m ≡ length (take k fs) → x ≡ blank → m ≤ i → x ≡ get_or (take k fs) i blank
  form_none i m e f h = f ∙ sym (get_or-eq_default (take k fs) blank (omega arith))

  form_there : (i m : ℕ) → m ≡ length (take k fs) → i < m → get_or fs i blank ≡ get_or (take k fs) i blank
  form_there i m e h = let a = length-take k fs in sym (get_or-take k fs i blank (omega arith))

-- ---- a query's

pub query_most : (q : Query) → length q.forms ≡ 12 → length (query_forms q) ≤ max_forms
unfolding query_forms
query_most q l = many_most 12 q.forms l q.len

pub query_new : {f : Form} → f ≡ blank → record { forms = replicate max_forms f; len = 0 } ≡ new_query
unfolding new_query
query_new e = rw e

pub query_empty : query_forms new_query ≡ []
unfolding new_query query_forms
query_empty = refl

pub query_added : (q : Query) (f : Form) → length q.forms ≡ 12 → q.len < 12 → query_forms (query_with q f) ≡ query_forms q ++ (f ∷ [])
unfolding query_forms query_with
query_added q f l h =
    let e = first_many 12 q.forms l q.len h in
    rw (lt-ltb q.len 12 h) (first_with 12 q.forms l q.len f h ∙ with_room 12 (take q.len q.forms) f (omega arith))

module _ (q : Query) (l : length q.forms ≡ 12) where
  pub query_full : (f : Form) → 12 ≤ q.len → QueryWith q f q
  unfolding query_forms query_with
  query_full f h = record { table = rw (le-ltb q.len 12 h); forms = all_with 12 q.forms l q.len f h }

  pub query_more : (f : Form) → q.len < 12 → QueryWith q f (record { forms = set q.forms q.len f; len = q.len + 1 })
  unfolding query_forms query_with
  query_more f h = record { table = rw (lt-ltb q.len 12 h); forms = first_with 12 q.forms l q.len f h }

  pub query_all : 12 ≤ q.len → 12 ≡ length (query_forms q)
  unfolding query_forms
  query_all h = all_many 12 q.forms l q.len h

  pub query_first : q.len < 12 → q.len ≡ length (query_forms q)
  unfolding query_forms
  query_first h = first_many 12 q.forms l q.len h

  module _ (i m : ℕ) (e : m ≡ length (query_forms q)) where
    pub query_below : i < m → i < 12
    unfolding query_forms
    query_below h = place_below 12 q.forms l q.len i m e h

    pub query_past : {x : Form} → x ≡ blank → m ≤ i → x ≡ get_or (query_forms q) i blank
    unfolding query_forms
    query_past f h = form_none 12 q.forms l q.len i m e f h

    pub query_there : i < m → get_or q.forms i blank ≡ get_or (query_forms q) i blank
    unfolding query_forms
    query_there h = form_there 12 q.forms l q.len i m e h
