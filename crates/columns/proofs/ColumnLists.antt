-- The columns at a place as the code reads them.
use mathlib.Core.Path.{◌≡◌, refl, sym, ap, ◌∙◌}
use mathlib.Core.List.{List, [], ◌∷◌, map}
use mathlib.Core.Bool.{Bool, true, false, ◌&&◌, ◌||◌, not, or-false}
use mathlib.Core.Option.{Option, none, some}
use Prim.Native.Nat.{ℕ, ◌-◌, ◌≤◌, ◌<◌, ◌^◌}
use native.Mathlib.Omega.{arith}
use lib.Bits.{bit_or, or_zero_l, or_zero_r}
use lib.Dec.{T, eqb, ltb, lt→ltb}
use lib.ListN.{length, take, drop}
use Rattle.lists.specs.Lists.{every, some?}
use Rattle.lists.proofs.Laws.{and_both}
use Rattle.syntax.specs.Grammar.{Bytes, Ref}
use Rattle.syntax.specs.Limits.{short_ref}
use Rattle.syntax.specs.Readers.{Read, bind, byte, read_ref}
use Rattle.syntax.proofs.Leaving.{ref_leaves}
use Rattle.text.specs.Words.{Found, Some, None, seen, left_at, read_end}
use Rattle.text.specs.Readings.{any_items}
use Rattle.text.proofs.Views.{Reading}
use Rattle.text.proofs.Fuel.{any_items_leaves}
use Rattle.items.proofs.Lists.{more}
use Rattle.masks.specs.Masks.{with_bit, mask_of}
use Rattle.masks.proofs.Lists.{or_assoc}
use Rattle.orders.specs.Orders.{with_code, order_from, order_of}
use Rattle.terms.specs.declared.Reference.{Reference}
use Rattle.terms.specs.Terms.{second_code, ref_seen, ref_at, code_in, ref_code}
use Rattle.terms.proofs.References.{ref_reading}
use Rattle.terms.proofs.Resolving.{code_range}
use Rattle.columns.specs.declared.Columns.{Columns}
use Rattle.columns.specs.Columns.{ends_by, again_in, kept_in, repeats, no_columns, columns_seen, columns_at, column_added, columns_ended}
use Rattle.columns.proofs.Closing.{ends_none}
use Rattle.columns.proofs.StreamLists.{with_small}
use Rattle.columns.proofs.Loops.{Walk, on, walk_falls, walk_over, walk_end, walk_other, walk_stuck, walk_more, end_place}

-- ---- tests

or_regroup : (a b c : Bool) → (a || (b || c)) ≡ ((a || b) || c)
or_regroup true b c = refl
or_regroup false b c = refl

not_all : (a b c : Bool) → (a || not (b && c)) ≡ ((a || not b) || not c)
not_all true b c = refl
not_all false true c = refl
not_all false false c = refl

-- ---- what is read so far, with the names of the profile entries

pub record Seen : Type 0 where
  pub read : Columns
  pub own : List ℕ

unfoldable pub columns_answer : List ℕ → Bytes → Seen → Option (Read (List Ref)) → Found Columns
columns_answer ns s r none = None
columns_answer ns s r (some x) =
    Some (record {
      next = length s - length x.left;
      over = r.read.over || not (every short_ref x.what);
      unknown = r.read.unknown || some? (λ c. eqb (ref_code ns c) 28) x.what;
      repeated = r.read.repeated || repeats ns r.read.mask r.own x.what;
      mask = bit_or r.read.mask (mask_of (map (ref_code ns) x.what));
      order = order_from r.read.order (map (ref_code ns) x.what);
    })

unfoldable pub column_step : List ℕ → Seen → Ref → Seen
column_step ns r c =
    record {
      read = column_added r.read (not (short_ref c)) (ref_code ns c) (again_in r.read.mask r.own (ref_code ns c) (second_code c));
      own = kept_in r.own (ref_code ns c) (second_code c);
    }

alike : {n m : ℕ} {o p u v r t : Bool} {c d : ℕ} → o ≡ p → u ≡ v → r ≡ t → c ≡ d
    → ◌≡◌ {A = Found Columns} (Some (record { next = n; over = o; unknown = u; repeated = r; mask = c; order = m })) (Some (record { next = n; over = p; unknown = v; repeated = t; mask = d; order = m }))
alike e f g h = rw (e, f, g, h)

code_joins : (ns : List ℕ) (m : ℕ) (c : Ref) (k : ℕ) → bit_or m (bit_or (2 ^ ref_code ns c) k) ≡ bit_or (with_bit m (ref_code ns c)) k
code_joins ns m c k =
    let h : ref_code ns c < 32 = omega (arith, (code_range ns c).0) in
    sym (or_assoc m (2 ^ ref_code ns c) k) ∙ ap (λ x. bit_or x k) (sym (with_small m (ref_code ns c) h))

pub column_more : (ns : List ℕ) (s : Bytes) (r : Seen) (c : Ref) (o : Option (Read (List Ref))) → columns_answer ns s r (more c o) ≡ columns_answer ns s (column_step ns r c) o
unfolding columns_answer column_step column_added repeats more bind every some? mask_of order_from
column_more ns s r c none = refl
column_more ns s r c (some xs) =
    alike (not_all r.read.over (short_ref c) (every short_ref xs.what))
    (or_regroup r.read.unknown (eqb (ref_code ns c) 28) (some? (λ c. eqb (ref_code ns c) 28) xs.what))
    (or_regroup r.read.repeated (again_in r.read.mask r.own (ref_code ns c) (second_code c)) _)
    (code_joins ns r.read.mask c (mask_of (map (ref_code ns) xs.what)))

unfoldable pub columns_walk : (ns : List ℕ) (form : Bool) (s : Bytes) → Walk Ref Reference Seen (Found Columns) s
columns_walk ns form s =
    record {
      ends = ends_by form;
      unended = ends_none form;
      reading = ref_reading s;
      answer = columns_answer ns s;
      step = column_step ns;
      stepped = column_more ns s;
    }

abbrev both : Columns → List ℕ → Seen
both r own = record { read = r; own = own }

-- what is read so far, joined to what is read on from a place
unfoldable pub columns_on : List ℕ → Bool → Bytes → Columns → List ℕ → ℕ → Found Columns
columns_on ns form s r own i = on (columns_walk ns form s) (both r own) i

-- at first nothing is read
pub columns_start : (ns : List ℕ) (form : Bool) (s : Bytes) (at : ℕ) (own : List ℕ) {r : Columns} → r ≡ no_columns → columns_at ns form s at ≡ columns_on ns form s r (take 0 own) at
unfolding columns_walk ref_reading columns_on on columns_at seen left_at columns_seen columns_answer no_columns order_of
columns_start ns form s at own e = rw e (go (any_items (ends_by form) read_ref (drop at s)))
  where
    go : (o : Option (Read (List Ref))) → seen (columns_seen ns s) o ≡ columns_answer ns s (both no_columns []) o
    go none = refl
    go (some x) = sym (rw (or_zero_l (mask_of (map (ref_code ns) x.what))))

-- ---- each end, and the way on

ended : (ns : List ℕ) (s : Bytes) (i : ℕ) (r : Columns) (own : List ℕ) → i < length s → columns_answer ns s (both r own) (some (record { what = []; left = drop i s })) ≡ Some (columns_ended r i)
unfolding columns_answer columns_ended repeats every some? mask_of order_from
ended ns s i r own h = rw (end_place s i h) (alike (or-false r.over) (or-false r.unknown) (or-false r.repeated) (or_zero_r r.mask))

pub columns_less : (s : Bytes) (i p : ℕ) {c : Reference} → i < length s → Some p ≡ read_end s (byte 32 (drop i s)) → Some c ≡ ref_at s p → length s - c.next < length s - i
unfolding columns_walk ref_reading ref_at
columns_less s i p h b q = walk_falls (columns_walk [] false s) i p h b q

module _ (ns : List ℕ) (form : Bool) (s : Bytes) (at i : ℕ) (r : Columns) (own : List ℕ) (inv : columns_at ns form s at ≡ columns_on ns form s r own i) where
  pub columns_over : length s ≤ i → None ≡ columns_at ns form s at
  unfolding columns_on columns_walk columns_answer
  columns_over h = sym (walk_over (columns_walk ns form s) (both r own) i inv h)

  module _ (h : i < length s) {t : Bool} (u : t ≡ ends_by form (drop i s)) where
    pub columns_close : {x : Columns} → t ≡ true → x ≡ columns_ended r i → Some x ≡ columns_at ns form s at
    unfolding columns_on columns_walk
    columns_close d e = ap Some e ∙ sym (walk_end (columns_walk ns form s) (both r own) i inv u d ∙ ended ns s i r own h)

    module _ (d : t ≡ false) where
      pub columns_other : {x : Found Columns} → None ≡ read_end s (byte 32 (drop i s)) → x ≡ None → x ≡ columns_at ns form s at
      unfolding columns_on columns_walk columns_answer
      columns_other f e = e ∙ sym (walk_other (columns_walk ns form s) (both r own) i inv u d f)

      module _ {p : ℕ} (b : Some p ≡ read_end s (byte 32 (drop i s))) where
        pub columns_stuck : {x : Found Columns} → None ≡ ref_at s p → x ≡ None → x ≡ columns_at ns form s at
        unfolding columns_on columns_walk columns_answer ref_reading ref_at
        columns_stuck q e = e ∙ sym (walk_stuck (columns_walk ns form s) (both r own) i inv u d b q)

        pub columns_more : {c : Reference} {x : Columns} {code : ℕ} {again : Bool} {kept : List ℕ} → Some c ≡ ref_at s p → code ≡ code_in ns c.first c.second → again ≡ again_in r.mask own code c.second
            → kept ≡ kept_in own code c.second → x ≡ column_added r c.over code again → columns_at ns form s at ≡ columns_on ns form s x kept c.next
        unfolding columns_on columns_walk ref_reading ref_at column_step ref_code ref_seen
        columns_more {c} {x} {code} {again} {kept} q a z k e = walk_more (columns_walk ns form s) (both r own) i inv u d b (both x kept) q (λ w v. step w v)
          where
            step : (w : Read Ref) → c ≡ ref_seen s w → both x kept ≡ column_step ns (both r own) w.what
            step w v = rw (e, k, z, a, v)

pub ruleset columns_ends = (columns_start, columns_over, columns_close, columns_other, columns_stuck, columns_less, columns_more)

-- ---- one column more

pub column_made : (r : Columns) (over again : Bool) (code : ℕ) {l u t : Bool} {m o : ℕ} → l ≡ (r.over || over) → u ≡ (r.unknown || eqb code 28) → t ≡ (r.repeated || again) → m ≡ with_bit r.mask code → o ≡ with_code r.order code
    → record { next = r.next; over = l; unknown = u; repeated = t; mask = m; order = o } ≡ column_added r over code again
unfolding column_added
column_made r over again code e f g h i = rw (e, f, g, h, i)

-- ---- the whole list, for a reader of lines

unfoldable pub columns_reading : (ns : List ℕ) (form : Bool) (s : Bytes) → Reading (List Ref) Columns s
unfolding columns_seen
columns_reading ns form s =
    record {
      item = any_items (ends_by form) read_ref;
      leaves = any_items_leaves (ends_by form) (ends_none form) read_ref ref_leaves;
      made = columns_seen ns s;
      next = λ r. r.next;
      next_made = λ a. refl;
    }

-- every code is a bit of the mask
pub codes_small : (ns : List ℕ) (rs : List Ref) → T (every (λ i. ltb i 32) (map (ref_code ns) rs))
unfolding every
codes_small ns [] = tt
codes_small ns (r ∷ rs) =
    and_both (ltb (ref_code ns r) 32) (every (λ i. ltb i 32) (map (ref_code ns) rs))
    (lt→ltb (ref_code ns r) 32 (omega (arith, (code_range ns r).0))) (codes_small ns rs)
