-- A rewritten query's table in words: one form more, how many there are, the form at a place, and what some forms leave.
use mathlib.Core.Path.{◌≡◌, refl, sym, ap, ap₂, ◌∙◌}
use mathlib.Core.List.{List, [], ◌∷◌, ◌++◌, map}
use Prim.Native.Nat.{ℕ, zero, suc, ◌+◌, ◌*◌, ◌≤◌, ◌<◌, min}
use native.Mathlib.Omega.{arith}
use lib.ListN.{length, get_or, set, drop, get_or-eq_default}
use lib.Seq.{sets, length-sets, sets-eq}
use borrow.Author.Tests.{lt-ltb, le-ltb, le-leb, lt-leb}
use Rattle.lists.specs.Lists.{gather, count_from}
use Rattle.lists.proofs.Counting.{map_shift, map_length}
use Rattle.syntax.specs.Limits.{max_rewritten}
use Rattle.query.specs.Forms.{keep_of, form_order}
use Rattle.query.specs.Tables.{blank, fields_of, table_words, form_at, forms_in, Rewritten, held, rewritten_forms, rewritten_with, rewritten_from, rewritten_table}
use Rattle.query.specs.declared.Form.{Form}

-- ---- a keep's order

pub keep_order : (m : ℕ) → form_order (keep_of m) ≡ m
unfolding form_order
keep_order m = omega arith

-- ---- one form more

module _ (ws : List ℕ) (n : ℕ) (f : Form) where
  pub put_full : 16 ≤ n → held ws n ≡ rewritten_with (held ws n) f
  unfolding rewritten_with
  put_full h = rw (le-ltb n 16 h)

  pub put_short : n < 16 → length ws < 80 → held ws n ≡ rewritten_with (held ws n) f
  unfolding rewritten_with
  put_short h k = rw (lt-ltb n 16 h, lt-leb 80 (length ws) k)

  with_room : n < 16 → 80 ≤ length ws → rewritten_with (held ws n) f ≡ held (sets ws (n * 5) (fields_of f)) (n + 1)
  unfolding rewritten_with
  with_room h k = rw (lt-ltb n 16 h, le-leb 80 (length ws) k)

  -- its words one by one
  words_set : (k : ℕ) → set (set (set (set (set ws k f.kind) (k + 1) f.first) (k + 2) f.second) (k + 3) f.third) (k + 4) f.fourth ≡ sets ws k (fields_of f)
  unfolding fields_of
  words_set k =
      let b : k + 1 ≡ suc k = omega arith in
      let c : k + 2 ≡ suc (suc k) = omega arith in
      let d : k + 3 ≡ suc (suc (suc k)) = omega arith in
      let e : k + 4 ≡ suc (suc (suc (suc k))) = omega arith in
      rw (b, c, d, e)

  pub put_more : n < 16 → 80 ≤ length ws
      → held (set (set (set (set (set ws (n * 5) f.kind) (n * 5 + 1) f.first) (n * 5 + 2) f.second) (n * 5 + 3) f.third) (n * 5 + 4) f.fourth) (n + 1) ≡ rewritten_with (held ws n) f
  put_more h k = ap (λ l. held l (n + 1)) (words_set (n * 5)) ∙ sym (with_room h k)

pub ruleset put_ends = (put_full, put_short, put_more)

-- ---- how many there are, and the form at a place

pub forms_many : (ws : List ℕ) (n : ℕ) → length (forms_in ws n) ≡ min n max_rewritten
unfolding forms_in
forms_many ws n = map_length (form_at ws) 0 (min n max_rewritten)

pub forms_most : (ws : List ℕ) (n : ℕ) → length (forms_in ws n) ≤ max_rewritten
forms_most ws n = let e = forms_many ws n in omega arith

counted : (ws : List ℕ) (a n i : ℕ) → i < n → get_or (map (form_at ws) (count_from a n)) i blank ≡ form_at ws (a + i)
unfolding count_from
counted ws a zero i h = absurd (omega arith)
counted ws a (suc n) zero h = let z : a ≡ a + 0 = omega arith in ap (form_at ws) z
counted ws a (suc n) (suc i) h = let z : suc a + i ≡ a + suc i = omega arith in counted ws (suc a) n i (omega arith) ∙ ap (form_at ws) z

module _ (ws : List ℕ) (n i : ℕ) {m : ℕ} (e : m ≡ min n max_rewritten) where
  pub form_past : {x : Form} → x ≡ blank → m ≤ i → x ≡ get_or (forms_in ws n) i blank
  form_past f h = let l = forms_many ws n in f ∙ sym (get_or-eq_default (forms_in ws n) blank (omega arith))

  pub form_there : {a b c d g : ℕ} → i < m → a ≡ get_or ws (i * 5) 0 → b ≡ get_or ws (i * 5 + 1) 0 → c ≡ get_or ws (i * 5 + 2) 0 → d ≡ get_or ws (i * 5 + 3) 0 → g ≡ get_or ws (i * 5 + 4) 0
      → ◌≡◌ {A = Form} (record { kind = a; first = b; second = c; third = d; fourth = g }) (get_or (forms_in ws n) i blank)
  unfolding forms_in form_at
  form_there h p q r s t = rw (p, q, r, s, t) (sym (counted ws 0 (min n max_rewritten) i (omega arith) ∙ ap (form_at ws) (omega arith)))

pub ruleset form_ends = (form_past, form_there)

-- ---- what some forms leave

pub from_append : (t : Rewritten) (fs gs : List Form) → rewritten_from t (fs ++ gs) ≡ rewritten_from (rewritten_from t fs) gs
unfolding rewritten_from
from_append t [] gs = refl
from_append t (f ∷ fs) gs = from_append (rewritten_with t f) fs gs

gathered : (fs : List Form) → length (gather fields_of fs) ≡ length fs * 5
unfolding gather fields_of
gathered [] = refl
gathered (f ∷ fs) = let e = gathered fs in omega arith

sets_form : (ws : List ℕ) (k : ℕ) (f : Form) (vs : List ℕ) → sets (sets ws k (fields_of f)) (k + 5) vs ≡ sets ws k (fields_of f ++ vs)
unfolding fields_of
sets_form ws k f vs = let e : k + 5 ≡ suc (suc (suc (suc (suc k)))) = omega arith in rw e

from_words : (ws : List ℕ) (n : ℕ) (fs : List Form) → table_words ≤ length ws → n + length fs ≤ max_rewritten → rewritten_from (held ws n) fs ≡ held (sets ws (n * 5) (gather fields_of fs)) (n + length fs)
unfolding rewritten_from gather
from_words ws n [] h k = let z : n ≡ n + 0 = omega arith in ap (held ws) z
from_words ws n (f ∷ fs) h k =
    let l = length-sets ws (n * 5) (fields_of f) in
    let a : (n + 1) * 5 ≡ n * 5 + 5 = omega arith in
    let b : n + 1 + length fs ≡ n + suc (length fs) = omega arith in
    ap (λ t. rewritten_from t fs) (with_room ws n f (omega arith) h)
    ∙ from_words (sets ws (n * 5) (fields_of f)) (n + 1) fs (omega arith) (omega arith)
    ∙ ap₂ held (ap (λ i. sets (sets ws (n * 5) (fields_of f)) i (gather fields_of fs)) a ∙ sets_form ws (n * 5) f (gather fields_of fs)) b

-- where the words are enough and the forms not too many: the forms' words from the first on, and all others as they were
pub table_stored : (ws : List ℕ) (fs : List Form) → table_words ≤ length ws → length fs ≤ max_rewritten → rewritten_table ws fs ≡ held (sets ws 0 (gather fields_of fs)) (length fs)
unfolding rewritten_table
table_stored ws fs h k = from_words ws 0 fs h (omega arith) ∙ ap (held (sets ws 0 (gather fields_of fs))) (omega arith)

next_form : (a b c d e : ℕ) (ws : List ℕ) (i : ℕ) → form_at (a ∷ b ∷ c ∷ d ∷ e ∷ ws) (suc i) ≡ form_at ws i
unfolding form_at
next_form a b c d e ws i =
    let p : suc i * 5 ≡ suc (suc (suc (suc (suc (i * 5))))) = omega arith in
    let q : suc i * 5 + 1 ≡ suc (suc (suc (suc (suc (i * 5 + 1))))) = omega arith in
    let r : suc i * 5 + 2 ≡ suc (suc (suc (suc (suc (i * 5 + 2))))) = omega arith in
    let s : suc i * 5 + 3 ≡ suc (suc (suc (suc (suc (i * 5 + 3))))) = omega arith in
    let t : suc i * 5 + 4 ≡ suc (suc (suc (suc (suc (i * 5 + 4))))) = omega arith in
    rw (q, r, s, t, p)

read_back : (fs : List Form) (ws : List ℕ) → map (form_at (gather fields_of fs ++ ws)) (count_from 0 (length fs)) ≡ fs
unfolding count_from gather fields_of form_at
read_back [] ws = refl
read_back (f ∷ fs) ws =
    let xs = gather fields_of fs ++ ws in
    ap (λ l. f ∷ l)
    (map_shift (form_at (f.kind ∷ f.first ∷ f.second ∷ f.third ∷ f.fourth ∷ xs)) 0 (length fs)
    ∙ simp (next_form f.kind f.first f.second f.third f.fourth xs) (read_back fs ws))

-- and the forms are those
pub table_forms : (ws : List ℕ) (fs : List Form) → table_words ≤ length ws → length fs ≤ max_rewritten → rewritten_forms (rewritten_table ws fs) ≡ fs
unfolding forms_in
table_forms ws fs h k =
    let m : min (length fs) max_rewritten ≡ length fs = omega arith in
    let g = gathered fs in
    ap rewritten_forms (table_stored ws fs h k)
    ∙ ap₂ (λ l n. map (form_at l) (count_from 0 n)) (sets-eq (gather fields_of fs) ws 0 (omega arith)) m
    ∙ read_back fs (drop (0 + length (gather fields_of fs)) ws)

pub stored_forms : (ws : List ℕ) (fs : List Form) {ws' : List ℕ} {n : ℕ} → table_words ≤ length ws → length fs ≤ max_rewritten → held ws' n ≡ rewritten_table ws fs → forms_in ws' n ≡ fs
stored_forms ws fs h k e = ap rewritten_forms e ∙ table_forms ws fs h k
