-- What it says that names may be lent, place by place; and that they stand for a valid schema.
use mathlib.Core.Path.{◌≡◌, sym, ap, ◌∙◌}
use mathlib.Core.List.{List, map}
use mathlib.Core.Bool.{Bool, true, false, ◌&&◌, not, cond}
use Prim.Native.Nat.{ℕ, ◌+◌, ◌-◌, ◌<◌, ◌≤◌}
use native.Mathlib.Decide.{dec_lt}
use native.Mathlib.Omega.{arith}
use lib.Dec.{T, eqb, leb, ltb, leb→le, le→leb, ltb→lt, lt→ltb, eqb→eq, T_not, not_T}
use lib.ListN.{length, get_or}
use borrow.Author.Tests.{eq-eqb, ne_eqb, lt-ltb, le-leb, lt-leb, eqb-true, eqb-false}
use Rattle.lists.specs.Lists.{every, distinct, count_from, same_list}
use Rattle.lists.proofs.Laws.{parts, and_l, and_r, and_both, true_T, T_true, T_false, same_list_refl}
use Rattle.lists.proofs.Counting.{every_at, every_made, every_map}
use Rattle.lists.proofs.Gathers.{every_of_map}
use Rattle.syntax.specs.Grammar.{Bytes}
use Rattle.calls.specs.Validity.{free_name}
use Rattle.text.specs.Words.{name_of}
use Rattle.schema.specs.Schemas.{code_end, column_place, filled, streams_in, width_in, code_free, zeros, stands, named_from, stream_sound, streams_sound, schema_sound}
use Rattle.schema.proofs.Counted.{none_made, none_at, distinct_made, distinct_at}
use Rattle.schema.proofs.FreeNames.{name_one}
use Rattle.schema.proofs.Places.{named_at, filled_most}
use Rattle.schema.proofs.Tests.{streams_most, width_none}

-- ---- numbers that may be names

pub free_below : (n : ℕ) → T (code_free n) → n < code_end
unfolding code_free
free_below n t = ltb→lt n code_end (and_l (ltb n code_end) (free_name (name_of n)) t)

pub free_named : (n : ℕ) → T (code_free n) → T (free_name (name_of n))
unfolding code_free
free_named n t = and_r (ltb n code_end) (free_name (name_of n)) t

pub free_made : (n : ℕ) → n < code_end → T (free_name (name_of n)) → T (code_free n)
unfolding code_free
free_made n h t = and_both (ltb n code_end) (free_name (name_of n)) (lt→ltb n code_end h) t

-- ---- a group of names

-- the name that stands at a place of a group
abbrev pub word : List ℕ → ℕ → ℕ → Bytes
word ns at i = name_of (get_or ns (at + i) 0)

module _ (ns : List ℕ) (at n : ℕ) where
  module _ (t : T (named_from ns at n)) where
    named_here : (i : ℕ) → i < n → T (named_at ns at i)
    unfolding named_from
    named_here i h = every_at (named_at ns at) 0 n t i (omega arith) (omega arith)

    pub named_free : (i : ℕ) → i < n → T (code_free (get_or ns (at + i) 0))
    named_free i h = and_l (code_free (get_or ns (at + i) 0)) (not (stands ns at i (get_or ns (at + i) 0))) (named_here i h)

    pub named_apart : (i j : ℕ) → i < j → j < n → get_or ns (at + i) 0 ≡ get_or ns (at + j) 0 → ⊥
    unfolding stands
    named_apart i j h k e =
        let u : T (not (stands ns at j (get_or ns (at + j) 0))) = and_r (code_free (get_or ns (at + j) 0)) (not (stands ns at j (get_or ns (at + j) 0))) (named_here j k) in
        let v : T (not (eqb (get_or ns (at + i) 0) (get_or ns (at + j) 0))) = none_at (λ m. eqb (get_or ns m 0) (get_or ns (at + j) 0)) at j u (at + i) (omega arith) (omega arith) in
        T_not (eqb (get_or ns (at + i) 0) (get_or ns (at + j) 0)) v (true_T (eqb (get_or ns (at + i) 0) (get_or ns (at + j) 0)) (eq-eqb (get_or ns (at + i) 0) (get_or ns (at + j) 0) e))

    pub words_free : T (every free_name (map (word ns at) (count_from 0 n)))
    words_free = every_map free_name (word ns at) 0 n (λ i l m. free_named (get_or ns (at + i) 0) (named_free i (omega arith)))

    pub words_once : T (distinct same_list (map (word ns at) (count_from 0 n)))
    words_once =
        distinct_made same_list (word ns at) 0 n
        (λ i j k l m.
        not_T (same_list (word ns at i) (word ns at j))
        (λ u.
        let e = name_one (get_or ns (at + i) 0) (get_or ns (at + j) 0) (free_below (get_or ns (at + i) 0) (named_free i (omega arith))) (free_below (get_or ns (at + j) 0) (named_free j (omega arith))) in
        named_apart i j l (omega arith) (eqb-true (get_or ns (at + i) 0) (get_or ns (at + j) 0) (sym e ∙ T_true (same_list (word ns at i) (word ns at j)) u))))

  pub named_made : ((i : ℕ) → i < n → T (code_free (get_or ns (at + i) 0))) → ((i j : ℕ) → i < j → j < n → get_or ns (at + i) 0 ≡ get_or ns (at + j) 0 → ⊥) → T (named_from ns at n)
  unfolding named_from stands
  named_made f g =
      every_made (named_at ns at) 0 n
      (λ j l m.
      and_both (code_free (get_or ns (at + j) 0)) (not (stands ns at j (get_or ns (at + j) 0))) (f j (omega arith))
      (none_made (λ k. eqb (get_or ns k 0) (get_or ns (at + j) 0)) at j
      (λ k h i.
      let e : at + (k - at) ≡ k = omega arith in
      not_T (eqb (get_or ns k 0) (get_or ns (at + j) 0)) (λ u. g (k - at) j (omega arith) (omega arith) (rw e (eqb→eq (get_or ns k 0) (get_or ns (at + j) 0) u))))))

  pub words_named : ((i : ℕ) → i < n → get_or ns (at + i) 0 < code_end) → T (every free_name (map (word ns at) (count_from 0 n))) → T (distinct same_list (map (word ns at) (count_from 0 n)))
      → T (named_from ns at n)
  words_named b t d =
      named_made
      (λ i h. free_made (get_or ns (at + i) 0) (b i h) (every_at (λ i. free_name (word ns at i)) 0 n (rw (every_of_map free_name (word ns at) (count_from 0 n)) at t) i (omega arith) (omega arith)))
      (λ i j h k e.
      T_not (same_list (word ns at i) (word ns at j)) (distinct_at same_list (word ns at) 0 n d i j (omega arith) h (omega arith))
      (rw (ap name_of e) (same_list_refl (word ns at j))))

  -- numbers from a place on are all 0
  pub zeros_at : T (zeros ns at n) → (i : ℕ) → at ≤ i → i < at + n → get_or ns i 0 ≡ 0
  unfolding zeros
  zeros_at t i h k = eqb→eq (get_or ns i 0) 0 (every_at (λ i. eqb (get_or ns i 0) 0) at n t i h k)

  pub zeros_made : ((i : ℕ) → at ≤ i → i < at + n → get_or ns i 0 ≡ 0) → T (zeros ns at n)
  unfolding zeros
  zeros_made f = every_made (λ i. eqb (get_or ns i 0) 0) at n (λ i h k. true_T (eqb (get_or ns i 0) 0) (eq-eqb (get_or ns i 0) 0 (f i h k)))

-- ---- names that may be lent, place by place

pub width_is : (ns : List ℕ) (s : ℕ) → s < 4 → width_in ns s ≡ filled ns (column_place s) 6
unfolding width_in
width_is ns s h = rw (lt-ltb s 4 h)

-- no place past those of four streams has a width
pub width_zero : (ns : List ℕ) (s : ℕ) → (s < 4 → width_in ns s ≡ 0) → width_in ns s ≡ 0
width_zero ns s f = go (dec_lt s 4)
  where
    go : Dec (s < 4) → width_in ns s ≡ 0
    go (yes k) = f k
    go (no k) = sym (width_none ns s (omega arith))

pub width_most : (ns : List ℕ) (s : ℕ) → width_in ns s ≤ 6
unfolding width_in
width_most ns s = go (ltb s 4) (filled_most ns (column_place s) 6)
  where
    go : (b : Bool) {w : ℕ} → w ≤ 6 → cond b w 0 ≤ 6
    go true h = h
    go false h = omega arith

pub record Sound (ns : List ℕ) : Type 0 where
  -- numbers enough
  pub long : 28 ≤ length ns
  -- the streams' names, and no number after the last
  pub names : T (named_from ns 0 (streams_in ns))
  pub after : (s : ℕ) → streams_in ns ≤ s → s < 4 → get_or ns s 0 ≡ 0
  -- a declared stream's columns, one or more
  pub columns : (s : ℕ) → s < streams_in ns → T (named_from ns (column_place s) (width_in ns s))
  pub some : (s : ℕ) → s < streams_in ns → 0 < width_in ns s
  -- no column of another stream, and no number after the last
  pub none : (s : ℕ) → streams_in ns ≤ s → width_in ns s ≡ 0
  pub columns_after : (s c : ℕ) → s < 4 → width_in ns s ≤ c → c < 6 → get_or ns (column_place s + c) 0 ≡ 0

module _ (ns : List ℕ) (s n : ℕ) where
  abbrev wide : ℕ
  wide = filled ns (column_place s) 6

  abbrev behind : Bool
  behind = zeros ns (column_place s + wide) (6 - wide)

  stream_declared : s < n → stream_sound ns s n ≡ (behind && (not (eqb wide 0) && named_from ns (column_place s) wide))
  unfolding stream_sound
  stream_declared h = rw (lt-leb n s h)

  stream_undeclared : n ≤ s → stream_sound ns s n ≡ (behind && eqb wide 0)
  unfolding stream_sound
  stream_undeclared h = rw (le-leb n s h)

  stream_behind : T (stream_sound ns s n) → T behind
  unfolding stream_sound
  stream_behind t = search parts

module _ (ns : List ℕ) (t : T (schema_sound ns)) where
  stream_fine : (s : ℕ) → s < 4 → T (stream_sound ns s (streams_in ns))
  unfolding schema_sound streams_sound
  stream_fine s h = every_at (λ s. stream_sound ns s (streams_in ns)) 0 4 (search parts) s (omega arith) (omega arith)

  declared_fine : (s : ℕ) → s < streams_in ns → s < 4 → T (not (eqb (wide ns s (streams_in ns)) 0) && named_from ns (column_place s) (wide ns s (streams_in ns)))
  declared_fine s h k = and_r (behind ns s (streams_in ns)) (not (eqb (wide ns s (streams_in ns)) 0) && named_from ns (column_place s) (wide ns s (streams_in ns))) (rw (stream_declared ns s (streams_in ns) h) at (stream_fine s k))

  pub sound_facts : Sound ns
  unfolding schema_sound
  sound_facts =
      let m = streams_most ns in
      let l : T (leb 28 (length ns)) = search parts in
      let z : T (zeros ns (streams_in ns) (4 - streams_in ns)) = search parts in
      record {
        long = leb→le 28 (length ns) l;
        names = search parts;
        after = λ s h k. zeros_at ns (streams_in ns) (4 - streams_in ns) z s h (omega arith);
        columns = λ s h.
            let k : s < 4 = omega arith in
            rw (width_is ns s k) (and_r (not (eqb (wide ns s (streams_in ns)) 0)) (named_from ns (column_place s) (wide ns s (streams_in ns))) (declared_fine s h k));
        some = λ s h.
            let k : s < 4 = omega arith in
            let e = width_is ns s k in
            let f = T_false (eqb (wide ns s (streams_in ns)) 0) (and_l (not (eqb (wide ns s (streams_in ns)) 0)) (named_from ns (column_place s) (wide ns s (streams_in ns))) (declared_fine s h k)) in
            let g = eqb-false (wide ns s (streams_in ns)) 0 f in
            omega arith;
        none = λ s h. width_zero ns s (none_of s h);
        columns_after = λ s c h k i.
            let e = width_is ns s h in
            let f = filled_most ns (column_place s) 6 in
            zeros_at ns (column_place s + wide ns s (streams_in ns)) (6 - wide ns s (streams_in ns)) (stream_behind ns s (streams_in ns) (stream_fine s h)) (column_place s + c) (omega arith) (omega arith);
      }
    where
      none_of : (s : ℕ) → streams_in ns ≤ s → s < 4 → width_in ns s ≡ 0
      none_of s h k = width_is ns s k ∙ eqb→eq (wide ns s (streams_in ns)) 0 (and_r (behind ns s (streams_in ns)) (eqb (wide ns s (streams_in ns)) 0) (rw (stream_undeclared ns s (streams_in ns) h) at (stream_fine s k)))

module _ (ns : List ℕ) (f : Sound ns) where
  stream_made : (s : ℕ) → s < 4 → T (stream_sound ns s (streams_in ns))
  stream_made s h =
      let e = width_is ns s h in
      let m = filled_most ns (column_place s) 6 in
      let b : T (behind ns s (streams_in ns)) =
      zeros_made ns (column_place s + wide ns s (streams_in ns)) (6 - wide ns s (streams_in ns))
      (λ i l k.
      let d : column_place s + (i - column_place s) ≡ i = omega arith in
      rw d at (f.columns_after s (i - column_place s) h (omega arith) (omega arith))) in
      go b (dec_lt s (streams_in ns))
    where
      go : T (behind ns s (streams_in ns)) → Dec (s < streams_in ns) → T (stream_sound ns s (streams_in ns))
      go b (yes k) =
          let e = width_is ns s h in
          let g = f.some s k in
          rw (stream_declared ns s (streams_in ns) k)
          (and_both (behind ns s (streams_in ns)) (not (eqb (wide ns s (streams_in ns)) 0) && named_from ns (column_place s) (wide ns s (streams_in ns))) b
          (and_both (not (eqb (wide ns s (streams_in ns)) 0)) (named_from ns (column_place s) (wide ns s (streams_in ns)))
          (rw (ne_eqb (wide ns s (streams_in ns)) 0 (λ z. omega arith)) tt) (rw e at (f.columns s k))))
      go b (no k) =
          let e = width_is ns s h in
          let g = f.none s (omega arith) in
          rw (stream_undeclared ns s (streams_in ns) (omega arith))
          (and_both (behind ns s (streams_in ns)) (eqb (wide ns s (streams_in ns)) 0) b (rw (eq-eqb (wide ns s (streams_in ns)) 0 (omega arith)) tt))

  pub facts_sound : T (schema_sound ns)
  unfolding schema_sound streams_sound
  facts_sound =
      let m = streams_most ns in
      and_both (leb 28 (length ns) && zeros ns (streams_in ns) (4 - streams_in ns) && named_from ns 0 (streams_in ns)) (every (λ s. stream_sound ns s (streams_in ns)) (count_from 0 4))
      (and_both (leb 28 (length ns) && zeros ns (streams_in ns) (4 - streams_in ns)) (named_from ns 0 (streams_in ns))
      (and_both (leb 28 (length ns)) (zeros ns (streams_in ns) (4 - streams_in ns))
      (le→leb 28 (length ns) f.long) (zeros_made ns (streams_in ns) (4 - streams_in ns) (λ i h k. f.after i h (omega arith))))
      f.names)
      (every_made (λ s. stream_sound ns s (streams_in ns)) 0 4 (λ s h k. stream_made s (omega arith)))
