-- The loops over a query's forms: each return, and each turn.
use mathlib.Core.Path.{◌≡◌, refl, sym, ap, ◌∙◌}
use mathlib.Core.List.{List, [], ◌∷◌, ◌++◌, map}
use mathlib.Core.Bool.{Bool, true, false, cond}
use Prim.Native.Nat.{ℕ, ◌+◌, ◌*◌, ◌-◌, ◌≤◌, ◌<◌}
use native.Mathlib.Numerals.{add-one}
use native.Mathlib.Omega.{arith}
use lib.Bits.{bit_or}
use lib.Dec.{eqb}
use lib.ListN.{length, get_or, take, drop, drop_of_length-le, length-take, length-drop}
use lib.Seq.{drop-cons, drop-length, take_all}
use Rattle.std.proofs.lemmas.List.{take_min}
use borrow.Author.Tests.{eq-eqb, ne_eqb}
use Rattle.lists.specs.Lists.{select, gather, count_from}
use Rattle.lists.proofs.Laws.{append_nil}
use Rattle.lists.proofs.Counting.{count_left, count_done}
use Rattle.lists.proofs.Gathers.{select_append}
use Rattle.schema.specs.Schemas.{width_in}
use Rattle.schema.proofs.Soundness.{width_most}
use Rattle.schema.proofs.Tests.{width_none}
use Rattle.masks.specs.Masks.{bit?}
use Rattle.orders.specs.Orders.{codes_in, with_code, order_from, order_of, order_within}
use Rattle.orders.proofs.Codes.{codes_empty, within_of}
use Rattle.orders.proofs.Turns.{passed}
use Rattle.grant.specs.Grants.{column_codes}
use Rattle.query.specs.Forms.{rows_form, pick_form, keep_of, form_order}
use Rattle.query.specs.Tables.{blank, query_forms, Rewritten, held, rewritten_with, rewritten_from, rewritten_table}
use Rattle.query.proofs.Rewritten.{from_append}
use Rattle.query.specs.declared.Form.{Form}
use Rattle.query.specs.declared.Query.{Query}
use Rattle.rewrite.specs.declared.Restriction.{Restriction}
use Rattle.rewrite.specs.Rewrites.{under_of, cut_form, shown_order, seen_forms, cut_forms, side_forms, side_picks, side_stream, side_rest, side_order, pair_order, view_forms, joined_forms, pair_forms, sum_forms}
use Rattle.rewrite.proofs.Shown.{codes_few, codes_small}

-- ---- one form

module _ (f : Form) where
  pub cut_keep : (mask : ℕ) {o m : ℕ} {x : Form} → f.kind ≡ 2 → o ≡ form_order f → m ≡ order_within mask o → x ≡ keep_of m → x ≡ cut_form mask f
  unfolding cut_form
  cut_keep mask k o e h = h ∙ rw (eq-eqb f.kind 2 k, e, o)

  pub cut_other : (mask : ℕ) → (f.kind ≡ 2 → ⊥) → f ≡ cut_form mask f
  unfolding cut_form
  cut_other mask k = rw (ne_eqb f.kind 2 k)

  module _ {b : Bool} (e : b ≡ eqb f.kind rows_form) where
    pub after_rows : (g h : Restriction) → b ≡ true → h ≡ cond (eqb f.kind rows_form) h g
    after_rows g h t = rw (sym e ∙ t)

    pub after_other : (g h : Restriction) → b ≡ false → g ≡ cond (eqb f.kind rows_form) h g
    after_other g h t = rw (sym e ∙ t)

    pub side_rows : (r : Rewritten) (xs ys : List Form) {x : Rewritten} → b ≡ true → x ≡ rewritten_from r xs → x ≡ rewritten_from r (cond (eqb f.kind rows_form) xs ys)
    side_rows r xs ys t h = rw (sym e ∙ t) h

    pub side_other : (r : Rewritten) (xs : List Form) (y : Form) {x : Rewritten} {z : Form} → b ≡ false → z ≡ y → x ≡ rewritten_with r z → x ≡ rewritten_from r (cond (eqb f.kind rows_form) xs (y ∷ []))
    unfolding rewritten_from
    side_other r xs y t k h = rw (sym e ∙ t) (h ∙ ap (rewritten_with r) k)

  pub pick_one : (r : Rewritten) {x : Rewritten} → f.kind ≡ 1 → x ≡ rewritten_with r f → x ≡ rewritten_from r (cond (eqb f.kind pick_form) (f ∷ []) [])
  unfolding rewritten_from
  pick_one r k h = rw (eq-eqb f.kind 1 k) h

  pub pick_none : (r : Rewritten) → (f.kind ≡ 1 → ⊥) → r ≡ rewritten_from r (cond (eqb f.kind pick_form) (f ∷ []) [])
  unfolding rewritten_from
  pick_none r k = rw (ne_eqb f.kind 1 k)

pub ruleset cut_ends = (cut_keep, cut_other)

pub ruleset after_ends = (after_rows, after_other)

pub ruleset side_ends = (side_rows, side_other)

pub ruleset pick_ends = (pick_one, pick_none)

-- ---- the columns of a stream

abbrev pub codes_left : ℕ → ℕ → ℕ → List ℕ
codes_left s c n = map (λ c. s * 6 + c) (count_from c (n - c))

module _ (order : ℕ) (ns : List ℕ) (s mask : ℕ) where
  abbrev pub columns_shown : ℕ
  columns_shown = order_from order (select (bit? mask) (column_codes ns (s ∷ [])))

  pub columns_past : 4 ≤ s → order ≡ columns_shown
  unfolding column_codes gather count_from order_from select
  columns_past h = let z : width_in ns s ≡ 0 = sym (width_none ns s h) in rw z

  module _ (n : ℕ) (e : n ≡ width_in ns s) where
    pub columns_most : n ≤ 6
    columns_most = let h = width_most ns s in omega arith

    pub columns_start : columns_shown ≡ order_from order (select (bit? mask) (codes_left s 0 n))
    unfolding column_codes gather
    columns_start =
        let z : n - 0 ≡ width_in ns s = omega arith in
        rw z (ap (λ l. order_from order (select (bit? mask) l)) (append_nil (map (λ c. s * 6 + c) (count_from 0 (width_in ns s)))))

    module _ (m c : ℕ) (inv : columns_shown ≡ order_from m (select (bit? mask) (codes_left s c n))) where
      pub columns_on : {k : ℕ} → c < n → k ≡ cond (bit? mask (s * 6 + c)) (with_code m (s * 6 + c)) m → columns_shown ≡ order_from k (select (bit? mask) (codes_left s (c + 1) n))
      columns_on h w =
          inv ∙ ap (λ l. order_from m (select (bit? mask) (map (λ c. s * 6 + c) l))) (count_left c n h)
          ∙ passed (bit? mask) m (s * 6 + c) (codes_left s (c + 1) n) ∙ rw w

      pub columns_end : n ≤ c → m ≡ columns_shown
      unfolding order_from select
      columns_end h = sym (inv ∙ rw (count_done c n h))

pub ruleset columns_ends = (columns_past, columns_most, columns_start, columns_on, columns_end)

-- those of one or two streams as an order
shown_codes : (ns : List ℕ) (mask : ℕ) (ss : List ℕ) → length ss ≤ 2 → order_within mask (order_of (column_codes ns ss)) ≡ order_of (select (bit? mask) (column_codes ns ss))
shown_codes ns mask ss h = let l = codes_few ns ss in within_of mask (column_codes ns ss) (omega arith) (codes_small ns ss)

-- ---- the forms of a query

pub forms_counted : (q : Query) {n : ℕ} → n ≡ length (query_forms q) → n ≡ length (take n q.forms)
unfolding query_forms
forms_counted q {n} e = let l = length-take q.len q.forms in let m = length-take n q.forms in omega arith

pub forms_first : (q : Query) {n : ℕ} → n ≡ length (query_forms q) → take n q.forms ≡ query_forms q
unfolding query_forms
forms_first q e = rw (e, length-take q.len q.forms) (take_min q.len q.forms)

-- ---- the forms that are left

pub tail : (fs : List Form) (k : ℕ) → take (length fs - k) (drop k fs) ≡ drop k fs
tail fs k = take_all (length fs - k) (drop k fs) (let l = length-drop k fs in omega arith)

module _ (fs : List Form) (i : ℕ) where
  next : i < length fs → drop i fs ≡ get_or fs i blank ∷ drop (i + 1) fs
  next h = rw (add-one i) (drop-cons fs i blank h)

  over : length fs ≤ i → drop i fs ≡ []
  over h = drop_of_length-le fs {i = i} h

  abbrev here : Form
  here = get_or fs i blank

  -- ---- a side's stream
  module _ (s : side_stream fs ≡ side_stream (drop i fs)) (r : side_rest fs ≡ side_rest (drop i fs)) where
    module _ {b : Bool} (h : i < length fs) (l : b ≡ eqb here.kind rows_form) where
      pub stream_here : b ≡ true → here ≡ side_stream fs
      unfolding side_stream
      stream_here t = sym (s ∙ rw (next h, sym l ∙ t))

      pub rest_here : b ≡ true → take (length fs - (i + 1)) (drop (i + 1) fs) ≡ side_rest fs
      unfolding side_rest
      rest_here t = tail fs (i + 1) ∙ sym (r ∙ rw (next h, sym l ∙ t))

      pub stream_on : b ≡ false → side_stream fs ≡ side_stream (drop (i + 1) fs)
      unfolding side_stream
      stream_on t = s ∙ rw (next h, sym l ∙ t)

      pub rest_on : b ≡ false → side_rest fs ≡ side_rest (drop (i + 1) fs)
      unfolding side_rest
      rest_on t = r ∙ rw (next h, sym l ∙ t)

    pub stream_none : length fs ≤ i → blank ≡ side_stream fs
    unfolding side_stream
    stream_none h = sym (s ∙ rw (over h))

    pub rest_none : length fs ≤ i → take (length fs - length fs) (drop (length fs) fs) ≡ side_rest fs
    unfolding side_rest
    rest_none h = tail fs (length fs) ∙ drop-length fs ∙ sym (r ∙ rw (over h))

  -- ---- its columns
  module _ (ns : List ℕ) (mask : ℕ) (inv : side_order ns fs ≡ side_order ns (drop i fs)) where
    module _ {b : Bool} (h : i < length fs) (l : b ≡ eqb here.kind rows_form) where
      pub order_stream : {m : ℕ} → b ≡ true → m ≡ order_from 0 (select (bit? mask) (column_codes ns (here.first ∷ []))) → m ≡ order_within mask (side_order ns fs)
      unfolding side_order order_of
      order_stream t u = u ∙ sym (ap (order_within mask) (inv ∙ rw (next h, sym l ∙ t)) ∙ shown_codes ns mask (here.first ∷ []) (omega arith))

      pub order_keep : {o m : ℕ} → b ≡ false → here.kind ≡ 2 → o ≡ form_order here → m ≡ order_within mask o → m ≡ order_within mask (side_order ns fs)
      unfolding side_order
      order_keep t u v w = w ∙ ap (order_within mask) (v ∙ sym (inv ∙ rw (next h, sym l ∙ t, eq-eqb here.kind 2 u)))

      pub order_on : b ≡ false → (here.kind ≡ 2 → ⊥) → side_order ns fs ≡ side_order ns (drop (i + 1) fs)
      unfolding side_order
      order_on t u = inv ∙ rw (next h, sym l ∙ t, ne_eqb here.kind 2 u)

    pub order_none : length fs ≤ i → 0 ≡ order_within mask (side_order ns fs)
    unfolding side_order order_within order_of order_from select
    order_none h = sym (ap (order_within mask) (inv ∙ rw (over h)) ∙ ap (λ l. order_of (select (bit? mask) l)) codes_empty)

  -- ---- its picks
  module _ (r x : Rewritten) (inv : rewritten_from r (side_picks fs) ≡ rewritten_from x (side_picks (drop i fs))) where
    module _ {b : Bool} (h : i < length fs) (l : b ≡ eqb here.kind rows_form) where
      pub picks_stop : b ≡ true → x ≡ rewritten_from r (side_picks fs)
      unfolding side_picks rewritten_from
      picks_stop t = sym (inv ∙ rw (next h, sym l ∙ t))

      pub picks_on : {y : Rewritten} → b ≡ false → y ≡ rewritten_from x (cond (eqb here.kind pick_form) (here ∷ []) []) → rewritten_from r (side_picks fs) ≡ rewritten_from y (side_picks (drop (i + 1) fs))
      unfolding side_picks rewritten_from
      picks_on {y} t u = inv ∙ rw (next h, sym l ∙ t) (go (eqb here.kind pick_form) u)
        where
          go : (p : Bool) → y ≡ rewritten_from x (cond p (here ∷ []) []) → rewritten_from x (cond p (here ∷ side_picks (drop (i + 1) fs)) (side_picks (drop (i + 1) fs))) ≡ rewritten_from y (side_picks (drop (i + 1) fs))
          go true v = rw v
          go false v = rw v

    pub picks_end : length fs ≤ i → x ≡ rewritten_from r (side_picks fs)
    unfolding side_picks rewritten_from
    picks_end h = sym (inv ∙ rw (over h))

  -- ---- a grant for each stream
  module _ (ns : List ℕ) (mask : ℕ) (g second : Restriction) (r t : Rewritten) (inv : t ≡ rewritten_from r (cut_forms ns mask g second (drop i fs))) where
    pub sides_on : {x : Rewritten} {h : Restriction} → i < length fs
        → x ≡ rewritten_from r (cond (eqb here.kind rows_form) (seen_forms ns g here) (cut_form mask here ∷ [])) → h ≡ cond (eqb here.kind rows_form) second g
        → t ≡ rewritten_from x (cut_forms ns mask h second (drop (i + 1) fs))
    unfolding cut_forms
    sides_on {x} {h} l u v = inv ∙ rw (next l) (go (eqb here.kind rows_form) u v)
      where
        rest : Restriction → List Form
        rest y = cut_forms ns mask y second (drop (i + 1) fs)

        go : (b : Bool) → x ≡ rewritten_from r (cond b (seen_forms ns g here) (cut_form mask here ∷ [])) → h ≡ cond b second g
            → rewritten_from r (cond b (seen_forms ns g here ++ cut_forms ns mask second second (drop (i + 1) fs)) (cut_form mask here ∷ cut_forms ns mask g second (drop (i + 1) fs))) ≡ rewritten_from x (cut_forms ns mask h second (drop (i + 1) fs))
        go true u v = from_append r (seen_forms ns g here) (rest second) ∙ rw (u, v)
        go false u v = from_append r (cut_form mask here ∷ []) (rest g) ∙ rw (u, v)

    pub sides_end : length fs ≤ i → r ≡ t
    unfolding cut_forms rewritten_from
    sides_end h = sym (inv ∙ rw (over h))

  -- ---- a grant on the pair
  module _ (ns : List ℕ) (g : Restriction) (r t : Rewritten) (inv : t ≡ rewritten_from r (pair_forms ns g (drop i fs))) where
    module _ (h : i < length fs) where
      pub pair_joined : {x : Rewritten} → here.kind ≡ 3 → x ≡ rewritten_from r (joined_forms ns g here (take (length fs - (i + 1)) (drop (i + 1) fs))) → x ≡ t
      unfolding pair_forms
      pair_joined u v = v ∙ rw (tail fs (i + 1)) (sym (inv ∙ rw (next h, eq-eqb here.kind 3 u)))

      pub pair_on : {x : Rewritten} {z : Form} → (here.kind ≡ 3 → ⊥) → z ≡ cut_form g.shown here → x ≡ rewritten_with r z → t ≡ rewritten_from x (pair_forms ns g (drop (i + 1) fs))
      unfolding pair_forms rewritten_from
      pair_on u v w = inv ∙ rw (next h, ne_eqb here.kind 3 u) (rw (w, v))

    pub pair_end : length fs ≤ i → r ≡ t
    unfolding pair_forms rewritten_from
    pair_end h = sym (inv ∙ rw (over h))

  -- ---- an aggregate grant
  module _ (ns : List ℕ) (g : Restriction) (r t : Rewritten) (inv : t ≡ rewritten_from r (sum_forms ns g (drop i fs))) where
    module _ (h : i < length fs) {x : Rewritten} (w : x ≡ rewritten_with r here) where
      pub sum_seen : {y : Rewritten} {z : Form} → here.kind ≡ 4 → z ≡ side_stream (take (length fs - (i + 1)) (drop (i + 1) fs)) → y ≡ rewritten_from x (seen_forms ns g z) → y ≡ t
      unfolding sum_forms rewritten_from
      sum_seen u v l = l ∙ sym (inv ∙ rw (next h, eq-eqb here.kind 4 u) (rw (w, v, tail fs (i + 1))))

      pub sum_on : (here.kind ≡ 4 → ⊥) → t ≡ rewritten_from x (sum_forms ns g (drop (i + 1) fs))
      unfolding sum_forms rewritten_from
      sum_on u = inv ∙ rw (next h, ne_eqb here.kind 4 u) (rw w)

    pub sum_end : length fs ≤ i → r ≡ t
    unfolding sum_forms rewritten_from
    sum_end h = sym (inv ∙ rw (over h))

pub ruleset stream_ends = (stream_here, rest_here, stream_on, rest_on, stream_none, rest_none)

pub ruleset order_ends = (order_stream, order_keep, order_on, order_none)

pub ruleset picks_ends = (picks_stop, picks_on, picks_end)

pub sides_start : (ws ns : List ℕ) (g h : Restriction) (fs : List Form) {mask : ℕ} {all : List Form} → mask ≡ bit_or g.shown h.shown → all ≡ fs → rewritten_table ws (side_forms ns g h fs) ≡ rewritten_from (held ws 0) (cut_forms ns mask g h all)
unfolding rewritten_table side_forms
sides_start ws ns g h fs e d = rw (e, d)

pub pair_start : (ws ns : List ℕ) (g : Restriction) (fs : List Form) {all : List Form} → all ≡ fs → rewritten_table ws (pair_forms ns g fs) ≡ rewritten_from (held ws 0) (pair_forms ns g all)
unfolding rewritten_table
pair_start ws ns g fs d = rw d

pub sum_start : (ws ns : List ℕ) (g : Restriction) (fs : List Form) {all : List Form} → all ≡ fs → rewritten_table ws (sum_forms ns g fs) ≡ rewritten_from (held ws 0) (sum_forms ns g all)
unfolding rewritten_table
sum_start ws ns g fs d = rw d

pub ruleset sides_ends = (sides_start, sides_on, sides_end)

pub ruleset pair_ends = (pair_start, pair_joined, pair_on, pair_end)

pub ruleset sum_ends = (sum_start, sum_seen, sum_on, sum_end)

-- ---- views

pub seen_made : (r : Rewritten) (ns : List ℕ) (f : Form) (g : Restriction) {a : ℕ} {k u : Form} {x y z : Rewritten} → a ≡ order_from 0 (select (bit? g.shown) (column_codes ns (f.first ∷ [])))
    → k ≡ keep_of a → x ≡ rewritten_with r k → u ≡ under_of g → y ≡ rewritten_with x u → z ≡ rewritten_with y f → z ≡ rewritten_from r (seen_forms ns g f)
unfolding rewritten_from seen_forms shown_order order_of
seen_made r ns f g {a} d h i j k l =
    let e : a ≡ order_within g.shown (order_from 0 (column_codes ns (f.first ∷ []))) = d ∙ sym (shown_codes ns g.shown (f.first ∷ []) (omega arith)) in
    l ∙ rw (k, i, j, h, e)

from_both : (order : ℕ) (cs ds : List ℕ) → order_from order (cs ++ ds) ≡ order_from (order_from order cs) ds
unfolding order_from
from_both order [] ds = refl
from_both order (c ∷ cs) ds = from_both (with_code order c) cs ds

codes_both : (ns : List ℕ) (s t : ℕ) → column_codes ns (s ∷ t ∷ []) ≡ column_codes ns (s ∷ []) ++ column_codes ns (t ∷ [])
unfolding column_codes gather
codes_both ns s t = sym (ap (λ l. l ++ (map (λ c. t * 6 + c) (count_from 0 (width_in ns t)) ++ [])) (append_nil (map (λ c. s * 6 + c) (count_from 0 (width_in ns s)))))

-- those of two streams, one stream after the other
both_shown : (ns : List ℕ) (mask s t : ℕ) → order_within mask (order_of (column_codes ns (s ∷ t ∷ []))) ≡ order_from (order_from 0 (select (bit? mask) (column_codes ns (s ∷ [])))) (select (bit? mask) (column_codes ns (t ∷ [])))
unfolding order_of
both_shown ns mask s t =
    shown_codes ns mask (s ∷ t ∷ []) (omega arith)
    ∙ ap (λ l. order_from 0 l) (ap (select (bit? mask)) (codes_both ns s t) ∙ select_append (bit? mask) (column_codes ns (s ∷ [])) (column_codes ns (t ∷ [])))
    ∙ from_both 0 (select (bit? mask) (column_codes ns (s ∷ []))) (select (bit? mask) (column_codes ns (t ∷ [])))

pub view_made : (r : Rewritten) (ns : List ℕ) (g : Restriction) (j a b : Form) {l o : ℕ} {k u : Form} {v w x y z : Rewritten} → l ≡ order_from 0 (select (bit? g.shown) (column_codes ns (a.first ∷ [])))
    → o ≡ order_from l (select (bit? g.shown) (column_codes ns (b.first ∷ []))) → k ≡ keep_of o → v ≡ rewritten_with r k → u ≡ under_of g → w ≡ rewritten_with v u → x ≡ rewritten_with w j → y ≡ rewritten_with x a → z ≡ rewritten_with y b
    → z ≡ rewritten_from r (view_forms ns g j a b)
unfolding rewritten_from view_forms shown_order
view_made r ns g j a b {l} {o} d e i p q s t u v =
    let m : o ≡ order_within g.shown (order_of (column_codes ns (a.first ∷ b.first ∷ []))) = e ∙ ap (λ x. order_from x (select (bit? g.shown) (column_codes ns (b.first ∷ [])))) d ∙ sym (both_shown ns g.shown a.first b.first) in
    v ∙ rw (u, t, s, p, q, i, m)

pub joined_made : (r : Rewritten) (fs : List Form) (ns : List ℕ) (g : Restriction) (j : Form) {a b : Form} {right : List Form} {l m o : ℕ} {k : Form} {x y z t : Rewritten} → a ≡ side_stream fs → right ≡ side_rest fs → b ≡ side_stream right
    → l ≡ order_within g.shown (side_order ns fs) → m ≡ order_within g.shown (side_order ns right) → o ≡ order_from l (codes_in m) → k ≡ keep_of o → x ≡ rewritten_with r k
    → y ≡ rewritten_from x (side_picks right) → z ≡ rewritten_from y (side_picks fs) → t ≡ rewritten_from z (view_forms ns g j a b) → t ≡ rewritten_from r (joined_forms ns g j fs)
unfolding rewritten_from joined_forms pair_order
joined_made r fs ns g j {a} {b} {right} {l} {m} {o} {k} {x} {y} {z} {t} p q s el em e h i u v made-view =
    let first = side_picks right in
    let second = side_picks fs in
    let view = view_forms ns g j a b in
    let made : t ≡ rewritten_from x (first ++ (second ++ view)) =
    made-view ∙ ap (λ z. rewritten_from z view) (v ∙ ap (λ y. rewritten_from y second) u)
    ∙ sym (from_append x first (second ++ view) ∙ from_append (rewritten_from x first) second view) in
    made ∙ rw (i, h, e, el, em, s, p, q)
