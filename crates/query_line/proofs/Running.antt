-- The table of a query's forms, passed from the last to the first, is its parts passed so.
use mathlib.Core.Path.{◌≡◌, refl, ap, ◌∙◌}
use mathlib.Core.List.{List, [], ◌∷◌, ◌++◌, map}
use mathlib.Core.Bool.{Bool, true, false, cond}
use Prim.Native.Nat.{ℕ, zero, suc, ◌+◌, ◌-◌, ◌≤◌, ◌<◌, min}
use native.Mathlib.Omega.{arith}
use lib.Dec.{T, leb, ltb}
use lib.ListN.{length, get_or, set, length-set, length-replicate}
use lib.Seq.{get_or-set_same, get_or-set_other}
use borrow.Author.Tests.{lt-ltb}
use Rattle.lists.specs.Lists.{every}
use Rattle.lists.proofs.Laws.{and_l, and_r, T_true}
use Rattle.syntax.specs.Grammar.{Bytes, Form}
use Rattle.syntax.specs.Limits.{cond_depth}
use Rattle.model.specs.Conditions.{tests}
use Rattle.masks.specs.Masks.{mask_of}
use Rattle.terms.specs.Terms.{ref_code, left_code, right_code}
use Rattle.columns.specs.Columns.{stream_place}
use Rattle.conditions.specs.Seeing.{seen_of}
use Rattle.query.specs.declared.Form as Q
use Rattle.query.specs.Tables.{blank}
use Rattle.query_read.specs.Parts.{Part, rows, pick, keep, join, aggregate, Inner, parts}
use Rattle.query_read.specs.Seeing.{level, span_kept, span_of, rows_own, pick_own, keep_own, join_own, aggregate_own, picked, own_of, put_at, with_own, with_part, with_parts, no_form, no_reading, reading_ended, form_seen}
use Rattle.query_read.specs.declared.Reading.{Reading}
use Rattle.query_line.specs.declared.Placing.{Placing}
use Rattle.query_line.specs.Placing.{begun, with_rows, with_pick, with_keep, with_join, with_aggregate, with_form, placed_from}
use Rattle.query_line.specs.Asking.{placing_of}
use Rattle.query_line.proofs.Parts.{shallow_part}
use Rattle.query_line.proofs.Bounds.{part_fine}

-- ---- one part

unfoldable pub place_part : List ℕ → Part → Placing → Placing
place_part ns (rows s) p = with_rows ns p (stream_place ns s)
place_part ns (pick c) p = with_pick p (mask_of (map (left_code ns) (tests c))) (mask_of (map (right_code ns) (tests c)))
place_part ns (keep rs) p = with_keep p (mask_of (map (ref_code ns) rs))
place_part ns (join a b) p = with_join p (ref_code ns a) (ref_code ns b)
place_part ns (aggregate f c z w) p = with_aggregate p (ref_code ns c) (span_kept z) (span_kept w)

own_placed : (ns : List ℕ) (b n : ℕ) (x : Part) (next : ℕ) (p : Placing) → T (part_fine n x)
    → with_form ns p (own_of ns b n x next).form (own_of ns b n x next).lefts (own_of ns b n x next).rights ≡ place_part ns x p
unfolding with_form own_of rows_own pick_own keep_own join_own aggregate_own place_part span_of picked level part_fine shallow_part seen_of
own_placed ns b n (rows s) next p t = refl
own_placed ns b n (pick c) next p t = rw (T_true (leb (cond_depth c) (8 - suc n)) (and_l (leb (cond_depth c) (8 - suc n)) _ t))
own_placed ns b n (keep rs) next p t = refl
own_placed ns b n (join a c) next p t = refl
own_placed ns b n (aggregate f c z w) next p t = refl

-- ---- all parts, from the last to the first

unfoldable pub run_parts : List ℕ → List Inner → Placing → Placing
run_parts ns [] p = p
run_parts ns (i ∷ is) p = place_part ns i.part (run_parts ns is p)

pub run_append : (ns : List ℕ) (is js : List Inner) (p : Placing) → run_parts ns (is ++ js) p ≡ run_parts ns is (run_parts ns js p)
unfolding run_parts
run_append ns [] js p = refl
run_append ns (i ∷ is) js p = ap (place_part ns i.part) (run_append ns is js p)

-- ---- the table

put_other : {A : Type 0} (xs : List A) (c n : ℕ) (x e : A) → n < c → get_or (put_at xs c x) n e ≡ get_or xs n e
unfolding put_at
put_other xs c n x e h = go (ltb c 12)
  where
    go : (b : Bool) → get_or (cond b (set xs c x) xs) n e ≡ get_or xs n e
    go true = get_or-set_other xs c n x e (λ z. omega arith)
    go false = refl

put_same : {A : Type 0} (xs : List A) (c : ℕ) (x e : A) → c < 12 → c < length xs → get_or (put_at xs c x) c e ≡ x
unfolding put_at
put_same xs c x e h k = rw (lt-ltb c 12 h) (get_or-set_same xs c x e k)

put_length : {A : Type 0} (xs : List A) (c : ℕ) (x : A) → length (put_at xs c x) ≡ length xs
unfolding put_at
put_length xs c x = go (ltb c 12)
  where
    go : (b : Bool) → length (cond b (set xs c x) xs) ≡ length xs
    go true = length-set xs c x
    go false = refl

module _ (ns : List ℕ) where
  -- what stands above plays no part
  above : (fs : List Q.Form) (ls rs : List ℕ) (c : ℕ) (f : Q.Form) (l m : ℕ) (n : ℕ) (p : Placing) → n ≤ c → placed_from ns (put_at fs c f) (put_at ls c l) (put_at rs c m) n p ≡ placed_from ns fs ls rs n p
  unfolding placed_from
  above fs ls rs c f l m zero p h = refl
  above fs ls rs c f l m (suc n) p h =
      ap (placed_from ns (put_at fs c f) (put_at ls c l) (put_at rs c m) n) (rw (put_other fs c n f blank (omega arith), put_other ls c n l 0 (omega arith), put_other rs c n m 0 (omega arith)))
      ∙ above fs ls rs c f l m n (with_form ns p (get_or fs n blank) (get_or ls n 0) (get_or rs n 0)) (omega arith)

  abbrev table_of : Reading → ℕ → Placing → Placing
  table_of r n p = placed_from ns r.forms r.lefts r.rights n p

  pub record Full (r : Reading) : Type 0 where
    pub forms : length r.forms ≡ 12
    pub lefts : length r.lefts ≡ 12
    pub rights : length r.rights ≡ 12

  pub full_then : (r : Reading) (i : Inner) → Full r → Full (with_part ns r i)
  unfolding with_part with_own
  full_then r i f =
      record {
        forms = put_length r.forms r.count (own_of ns r.words i.around i.part 0).form ∙ f.forms;
        lefts = put_length r.lefts r.count (own_of ns r.words i.around i.part 0).lefts ∙ f.lefts;
        rights = put_length r.rights r.count (own_of ns r.words i.around i.part 0).rights ∙ f.rights;
      }

  one_then : (r : Reading) (i : Inner) (p : Placing) → r.count < 12 → Full r → T (part_fine i.around i.part) → table_of (with_part ns r i) (with_part ns r i).count p ≡ table_of r r.count (place_part ns i.part p)
  unfolding with_part with_own placed_from
  one_then r i p h f t =
      let o = own_of ns r.words i.around i.part 0 in
      let c : min (suc r.count) 12 ≡ suc r.count = omega arith in
      let x = f.forms in
      let y = f.lefts in
      let z = f.rights in
      ap (λ n. placed_from ns (put_at r.forms r.count o.form) (put_at r.lefts r.count o.lefts) (put_at r.rights r.count o.rights) n p) c
      ∙ ap (placed_from ns (put_at r.forms r.count o.form) (put_at r.lefts r.count o.lefts) (put_at r.rights r.count o.rights) r.count)
      (rw (put_same r.forms r.count o.form blank h (omega arith), put_same r.lefts r.count o.lefts 0 h (omega arith), put_same r.rights r.count o.rights 0 h (omega arith)) (own_placed ns r.words i.around i.part 0 p t))
      ∙ above r.forms r.lefts r.rights r.count o.form o.lefts o.rights r.count (place_part ns i.part p) (omega arith)

  pub count_then : (r : Reading) (i : Inner) → r.count < 12 → (with_part ns r i).count ≡ suc r.count
  unfolding with_part with_own
  count_then r i h = omega arith

  from_parts : (is : List Inner) (r : Reading) (p : Placing) → r.count + length is ≤ 12 → Full r → T (every (λ i. part_fine i.around i.part) is)
      → table_of (with_parts ns r is) (with_parts ns r is).count p ≡ table_of r r.count (run_parts ns is p)
  unfolding with_parts run_parts every
  from_parts [] r p h f t = refl
  from_parts (i ∷ is) r p h f t =
      let c = count_then r i (omega arith) in
      from_parts is (with_part ns r i) p (omega arith) (full_then r i f) (and_r (part_fine i.around i.part) _ t)
      ∙ one_then r i (run_parts ns is p) (omega arith) f (and_l (part_fine i.around i.part) _ t)

  pub nothing_full : Full no_reading
  unfolding no_reading
  nothing_full = record { forms = length-replicate 12 no_form; lefts = length-replicate {A = ℕ} 12 0; rights = length-replicate {A = ℕ} 12 0 }

  pub nothing_counted : no_reading.count ≡ 0
  unfolding no_reading
  nothing_counted = refl

  pub placing_is : (s left : Bytes) (q : Form) → length (parts 0 q) ≤ 12 → T (every (λ i. part_fine i.around i.part) (parts 0 q))
      → placing_of ns (form_seen ns s (record { what = q; left = left })) ≡ run_parts ns (parts 0 q) begun
  unfolding placing_of form_seen reading_ended placed_from
  placing_is s left q h t =
      let c = nothing_counted in
      from_parts (parts 0 q) no_reading begun (omega arith) nothing_full t
      ∙ ap (λ n. table_of no_reading n (run_parts ns (parts 0 q) begun)) c
