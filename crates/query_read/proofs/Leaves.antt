-- The ends of the functions that make what is read of one form and of all, and of those that keep numbers.
use mathlib.Core.Path.{◌≡◌, refl, ◌∙◌}
use mathlib.Core.Bool.{Bool, true, false, ◌||◌, not, cond, or-false}
use Prim.Native.Nat.{ℕ, suc, ◌+◌, ◌-◌, ◌≤◌, ◌<◌, min}
use native.Mathlib.Omega.{arith}
use lib.IntN.{ℤ, pos, negsuc, nat_abs}
use lib.Signed.{lt_z, non_neg}
use lib.Dec.{T, eqb, leb→le}
use lib.ListN.{set, replicate}
use mir.Syntax.{w32, w64}
use mir.Val.{Fits, SFits, to_z, of_z}
use mir.ValLaws.{to_z-of_z}
use borrow.Author.Rules.{sfits_of}
use borrow.Author.Tests.{le-leb, lt-leb, le-ltb, lt-ltb, ltb-true, ltb-false}
use Rattle.lists.proofs.Laws.{true_T}
use Rattle.syntax.specs.Limits.{not_above, natural}
use Rattle.text.specs.Words.{far, clamp}
use Rattle.text.specs.declared.Time.{Time}
use Rattle.text.proofs.Clamps.{clamp_above}
use Rattle.conditions.specs.declared.Seen.{Seen}
use Rattle.columns.specs.declared.Columns.{Columns}
use Rattle.query.specs.Forms.{keep_of}
use Rattle.query.specs.declared.Form.{Form}
use Rattle.query_read.specs.declared.Own.{Own}
use Rattle.query_read.specs.declared.Reading.{Reading}
use Rattle.query_read.specs.Seeing.{deep, level, span_kept, span_of, no_form, no_reading, rows_own, pick_own, keep_own, join_own, aggregate_own, put_at, with_own}

-- ---- depth

pub level_none : (n : ℕ) → 8 ≤ n → 0 ≡ level n
unfolding level
level_none n h = omega arith

pub level_some : (n : ℕ) → n < 8 → 7 - n ≡ level n
unfolding level
level_some n h = omega arith

pub ruleset level_ends = (level_none, level_some)

-- ---- SIZE and OFFSET

span_low : (z : ℤ) → lt_z z (pos 0) ≡ true → (not_above z ≡ true) × (natural z ≡ 0)
unfolding not_above natural
span_low (pos n) e = absurd (let h = ltb-true n 0 e in omega arith)
span_low (negsuc n) e = (refl, refl)

span_high : (z : ℤ) → lt_z (pos 2147483647) z ≡ true → not_above z ≡ false
unfolding not_above
span_high (pos n) e = lt-leb n 2147483647 (ltb-true 2147483647 n e)
span_high (negsuc n) e = absurd (let k : ◌≡◌ {A = ℕ} 0 1 = cc in omega arith)

span_near : (z : ℤ) → lt_z z (pos 0) ≡ false → lt_z (pos 2147483647) z ≡ false → (not_above z ≡ true) × (nat_abs z ≡ natural z) × (nat_abs z < 4294967296) × T (non_neg z)
unfolding not_above natural
span_near (pos n) e f = let h = ltb-false 2147483647 n f in (le-leb n 2147483647 h, refl, omega arith, tt)
span_near (negsuc n) e f = absurd (let k : ◌≡◌ {A = ℕ} 0 1 = cc in omega arith)

module _ (z : ℤ) (fits : SFits w64 z) where
  back : to_z w64 (of_z w64 z) ≡ z
  back = to_z-of_z w64 z fits

  pub span_below : lt_z (to_z w64 (of_z w64 z)) (pos 0) ≡ true → record { beyond = false; value = 0 } ≡ span_of z
  unfolding span_of span_kept
  span_below e = let h = span_low z (rw back at e) in rw (h.0, h.1)

  pub span_above : lt_z (pos 2147483647) (to_z w64 (of_z w64 z)) ≡ true → record { beyond = true; value = 0 } ≡ span_of z
  unfolding span_of span_kept
  span_above e = rw (span_high z (rw back at e))

  module _ (e : lt_z (to_z w64 (of_z w64 z)) (pos 0) ≡ false) (f : lt_z (pos 2147483647) (to_z w64 (of_z w64 z)) ≡ false) where
    pub span_natural : T (non_neg (to_z w64 (of_z w64 z)))
    span_natural = (span_near (to_z w64 (of_z w64 z)) e f).3

    pub span_fits : Fits w32 (nat_abs (to_z w64 (of_z w64 z)))
    span_fits = let h = (span_near (to_z w64 (of_z w64 z)) e f).2 in record { fits = omega arith }

    pub span_here : record { beyond = false; value = nat_abs (to_z w64 (of_z w64 z)) } ≡ span_of z
    unfolding span_of span_kept
    span_here = let h = span_near z (rw back at e) (rw back at f) in rw (back, h.0, h.1)

pub ruleset span_ends = (span_below, span_above, span_natural, span_fits, span_here, sfits_of)

natural_clamp : (z : ℤ) → T (not_above z) → natural (clamp z) ≡ natural z
unfolding clamp far natural not_above
natural_clamp (pos n) t = let h = leb→le n 2147483647 t in omega arith
natural_clamp (negsuc n) t = let e : min (suc n) 4294967296 ≡ suc (min n 4294967295) = omega arith in rw e

-- what is kept of a SIZE as it was read is what is kept of the number
pub span_is : (z : ℤ) {t : Time} {x : ℤ} → t ≡ span_of x → x ≡ clamp z → t ≡ span_of z
unfolding span_of span_kept
span_is z {t} e d = e ∙ rw (d, clamp_above z) (go (not_above z) refl)
  where
    go : (b : Bool) → not_above z ≡ b → ◌≡◌ {A = Time} (record { beyond = not b; value = cond b (natural (clamp z)) 0 }) (record { beyond = not b; value = cond b (natural z) 0 })
    go true f = rw (natural_clamp z (true_T (not_above z) f))
    go false f = refl

-- ---- one form

pub rows_made : (b n place next : ℕ) (long : Bool) {d o : Bool} → d ≡ deep n → o ≡ (d || long)
    → ◌≡◌ {A = Own} (record { next = next; over = o; unknown = eqb place 4; repeated = false; words = b; lefts = 0; rights = 0; form = record { kind = 0; first = place; second = 0; third = 0; fourth = 0 } })
    (rows_own b n long place next)
unfolding rows_own
rows_made b n place next long e f = rw (f, e)

pub pick_made : (i : Seen) (next : ℕ) {o : Bool} → o ≡ (i.deep || i.over)
    → ◌≡◌ {A = Own} (record { next = next; over = o; unknown = i.unknown; repeated = false; words = i.count; lefts = i.lefts; rights = i.rights; form = record { kind = 1; first = i.count; second = 0; third = 0; fourth = 0 } })
    (pick_own i next)
unfolding pick_own
pick_made i next f = rw f

pub keep_made : (b n next : ℕ) (c : Columns) {d o : Bool} {f : Form} → d ≡ deep n → o ≡ (d || c.over) → f ≡ keep_of c.order
    → ◌≡◌ {A = Own} (record { next = next; over = o; unknown = c.unknown; repeated = c.repeated; words = b; lefts = c.mask; rights = 0; form = f })
    (keep_own b n c.over c.unknown c.repeated c.mask c.order next)
unfolding keep_own
keep_made b n next c e f g = rw (f, e, g)

pub join_made : (b n left right next : ℕ) (over : Bool) {d o u : Bool} → d ≡ deep n → o ≡ (d || over) → u ≡ (eqb left 28 || eqb right 28)
    → ◌≡◌ {A = Own} (record { next = next; over = o; unknown = u; repeated = false; words = b; lefts = 0; rights = 0; form = record { kind = 3; first = left; second = right; third = 0; fourth = 0 } })
    (join_own b n over left right next)
unfolding join_own
join_made b n left right next over e f g = rw (f, e, g)

pub aggregate_made : (b n fn code next : ℕ) (size offset : Time) (over : Bool) {d o v w : Bool} → v ≡ (size.beyond || offset.beyond) → d ≡ deep n → w ≡ (over || v) → o ≡ (d || w)
    → ◌≡◌ {A = Own} (record { next = next; over = o; unknown = eqb code 28; repeated = false; words = b; lefts = 0; rights = 0; form = record { kind = 4; first = fn; second = code; third = size.value; fourth = offset.value } })
    (aggregate_own b n over fn code size offset next)
unfolding aggregate_own
aggregate_made b n fn code next size offset over e f g h = rw (h, f, g, e)

-- ---- all forms

over_all : (a b : Bool) → (a || (b || true)) ≡ true
over_all true b = refl
over_all false true = refl
over_all false false = refl

module _ (r : Reading) (o : Own) {u t : Bool} (f : u ≡ (r.unknown || o.unknown)) (g : t ≡ (r.repeated || o.repeated)) where
  pub own_full : 12 ≤ r.count → r.count ≤ 12
      → record { next = r.next; over = true; unknown = u; repeated = t; words = o.words; count = r.count; forms = r.forms; lefts = r.lefts; rights = r.rights } ≡ with_own r o
  unfolding with_own put_at
  own_full h k =
      let z : min (suc r.count) 12 ≡ r.count = omega arith in
      rw (f, g, z, le-leb 12 r.count h, over_all r.over o.over, le-ltb r.count 12 h)

  pub own_room : {v : Bool} → v ≡ (r.over || o.over) → r.count < 12
      → record { next = r.next; over = v; unknown = u; repeated = t; words = o.words; count = r.count + 1; forms = set r.forms r.count o.form; lefts = set r.lefts r.count o.lefts; rights = set r.rights r.count o.rights } ≡ with_own r o
  unfolding with_own put_at
  own_room e h =
      let z : min (suc r.count) 12 ≡ r.count + 1 = omega arith in
      rw (e, f, g, z, lt-leb 12 r.count h, or-false o.over, lt-ltb r.count 12 h)

pub ruleset with_ends = (own_full, own_room)

-- ---- nothing

pub reading_nothing : {f : Form} → f ≡ no_form
    → ◌≡◌ {A = Reading} (record { next = 0; over = false; unknown = false; repeated = false; words = 0; count = 0; forms = replicate 12 f; lefts = replicate 12 0; rights = replicate 12 0 }) no_reading
unfolding no_reading
reading_nothing e = rw e
