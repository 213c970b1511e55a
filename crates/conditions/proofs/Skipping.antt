-- Where a condition ends however deep its brackets nest: what is still to be read, inside those that are open.
use mathlib.Core.Path.{◌≡◌, refl, sym, ap, ◌∙◌}
use mathlib.Core.List.{List, [], ◌∷◌}
use mathlib.Core.Bool.{Bool, true, false, ◌&&◌, not, cond}
use mathlib.Core.Option.{Option, none, some}
use Prim.Native.Nat.{ℕ, zero, suc, ◌+◌, ◌*◌, ◌-◌, ◌≤◌, ◌<◌}
use native.Mathlib.Numerals.{add-one}
use native.Mathlib.Omega.{arith}
use lib.Dec.{eqb}
use lib.ListN.{length, drop, get_or, set, replicate, length-drop, length-set, length-replicate, drop_of_length-le}
use lib.Seq.{get_or-set_same, get_or-set_other}
use borrow.Author.Tests.{eq-eqb, ne_eqb, eqb-true, eqb-false}
use Rattle.lists.proofs.Laws.{never}
use Rattle.syntax.specs.Grammar.{Bytes, Op, Test, Cond, all, any, neg, Conds, last, more}
use Rattle.syntax.specs.Readers as R
use Rattle.syntax.specs.Readers.{Read, Reader, bind, ensure, ◌>>◌, ◌>>=◌, give, byte, read_test, read_headed, read_more, compare, and, or, not_of, head_word}
use Rattle.syntax.proofs.Steps.{bind_bind}
use Rattle.text.specs.Words.{Found, Some, None, seen, left_at, read_end}
use Rattle.text.specs.Keywords.{head_number}
use Rattle.text.specs.Readings.{any_cond, any_conds}
use Rattle.text.proofs.Runs.{inside, first_byte}
use Rattle.text.proofs.Places.{byte_here, space_is, space_not}
use Rattle.text.proofs.Fuel.{bind_same, conds_step}
use Rattle.terms.specs.declared.Comparison.{Comparison}
use Rattle.terms.specs.Terms.{comparison_at}
use Rattle.terms.proofs.Sides.{comparison_none, comparison_some}
use Rattle.conditions.specs.declared.Headed.{Headed}
use Rattle.conditions.specs.declared.Skip.{Skip}
use Rattle.conditions.specs.declared.Skip.TheVariants.{Ended, Next}
use Rattle.conditions.specs.declared.Seen.{Seen}
use Rattle.conditions.specs.Seeing.{head_at, deep_seen}
use Rattle.conditions.specs.Steps.{after_cond, skipped_seen}
use Rattle.conditions.proofs.Heads.{op_small, unheaded, headed}

-- ---- what is still to be read

-- those that are open, the innermost first: whether each holds just one condition
unfoldable pub stack : List Bool → ℕ → List Bool
stack single zero = []
stack single (suc n) = get_or single n false ∷ stack single n

-- after a condition inside those that are open
unfoldable pub rest : List Bool → Reader (Unit {0})
rest [] bs = some (record { what = tt; left = bs })
rest (single ∷ st) [] = none
rest (single ∷ st) (x ∷ xs) =
    cond (eqb 41 x) (rest st xs) (cond (eqb 32 x && not single) (bind (any_conds (x ∷ xs)) (λ cs. bind (byte 41 cs.left) (λ u. rest st u.left))) none)

-- from a condition inside those that are open
unfoldable pub within : List Bool → Reader (Unit {0})
within st bs = bind (any_cond bs) (λ c. rest st c.left)

-- from a list inside those that are open, up to its bracket
listed : List Bool → Reader (Unit {0})
listed st bs = bind (any_conds bs) (λ cs. bind (byte 41 cs.left) (λ u. rest st u.left))

-- ---- a closing bracket, and a list that goes on

closes_one : (st : List Bool) (l : Bytes) → bind (byte 41 l) (λ u. rest st u.left) ≡ rest (true ∷ st) l
unfolding rest byte ensure bind
closes_one st [] = refl
closes_one st (x ∷ xs) = go (eqb 41 x) (eqb 32 x)
  where
    go : (a b : Bool) → bind (ensure {A = Read (Unit {0})} a (record { what = tt; left = xs })) (λ u. rest st u.left) ≡ cond a (rest st xs) (cond (b && false) (bind (any_conds (x ∷ xs)) (λ cs. bind (byte 41 cs.left) (λ u. rest st u.left))) none)
    go true b = refl
    go false true = refl
    go false false = refl

more_rest : (st : List Bool) (c : Cond Test) (l : Bytes) → bind (read_more any_conds c l) (λ cs. bind (byte 41 cs.left) (λ u. rest st u.left)) ≡ rest (false ∷ st) l
unfolding rest read_more byte ensure bind
more_rest st c [] = refl
more_rest st c (x ∷ xs) = go (eqb 32 x) refl (eqb 41 x) refl
  where
    k : Read (Conds Test) → Option (Read (Unit {0}))
    k cs = bind (byte 41 cs.left) (λ u. rest st u.left)

    go : (a : Bool) → eqb 32 x ≡ a → (b : Bool) → eqb 41 x ≡ b
        → bind (cond a (bind (any_conds (x ∷ xs)) (λ cs. some (record { what = more c cs.what; left = cs.left }))) (some (record { what = last c; left = x ∷ xs }))) k
        ≡ cond b (rest st xs) (cond (a && true) (bind (any_conds (x ∷ xs)) k) none)
    go true e true f = absurd (let p = eqb-true 32 x e in let q = eqb-true 41 x f in omega arith)
    go true e false f = bind_bind (any_conds (x ∷ xs)) _ k
    go false e true f = rw f
    go false e false f = rw f

-- a list after its space
listed_on : (st : List Bool) (bs : Bytes) {u : Unit {0}} {l : Bytes} → byte 32 bs ≡ some (record { what = u; left = l }) → listed st bs ≡ within (false ∷ st) l
unfolding listed within bind
listed_on st bs {u} {l} e =
    let q : any_conds bs ≡ bind (any_cond l) (λ c. read_more any_conds c.what c.left) = conds_step bs ∙ rw e in
    ap (λ o. bind o (λ cs. bind (byte 41 cs.left) (λ u. rest st u.left))) q
    ∙ bind_bind (any_cond l) (λ c. read_more any_conds c.what c.left) (λ cs. bind (byte 41 cs.left) (λ u. rest st u.left))
    ∙ bind_same (any_cond l) _ _ (λ c f. more_rest st c.what c.left)

listed_none : (st : List Bool) (bs : Bytes) → byte 32 bs ≡ none → listed st bs ≡ none
unfolding listed bind
listed_none st bs e =
    let q : any_conds bs ≡ none = conds_step bs ∙ rw e in
    rw q

-- what follows a head, inside those that are open
closing_of : {A : Type 0} (st : List Bool) (f : A → Cond Test) (o : Option (Read A))
    → bind {A = Read (Cond Test)} (bind o (λ a. bind (byte 41 a.left) (λ u. some (record { what = f a.what; left = u.left })))) (λ c. rest st c.left) ≡ bind o (λ a. bind (byte 41 a.left) (λ u. rest st u.left))
unfolding bind
closing_of st f none = refl
closing_of st f (some a) = go (byte 41 a.left)
  where
    go : (v : Option (Read (Unit {0}))) → bind {A = Read (Cond Test)} (bind v (λ u. some (record { what = f a.what; left = u.left }))) (λ c. rest st c.left) ≡ bind v (λ u. rest st u.left)
    go none = refl
    go (some u) = refl

module _ (st : List Bool) (bs : Bytes) where
  abbrev follows : R.Head → Option (Read (Unit {0}))
  follows g = bind (read_headed any_cond any_conds g bs) (λ c. rest st c.left)

  after_and : follows and ≡ listed st bs
  unfolding read_headed ◌>>=◌ ◌>>◌ give listed
  after_and = closing_of st all (any_conds bs)

  after_or : follows or ≡ listed st bs
  unfolding read_headed ◌>>=◌ ◌>>◌ give listed
  after_or = closing_of st any (any_conds bs)

  after_not : {u : Unit {0}} {l : Bytes} → byte 32 bs ≡ some (record { what = u; left = l }) → follows not_of ≡ within (true ∷ st) l
  unfolding read_headed ◌>>=◌ ◌>>◌ give within bind
  after_not {u} {l} e = rw e (closing_of st neg (any_cond l) ∙ bind_same (any_cond l) _ _ (λ c f. closes_one st c.left))

  after_not_none : byte 32 bs ≡ none → follows not_of ≡ none
  unfolding read_headed ◌>>=◌ ◌>>◌ give bind
  after_not_none e = rw e

-- a condition of conditions by its head
headed_none : (st : List Bool) (bs l : Bytes) (g : R.Head) → 7 ≤ head_number g → any_cond bs ≡ read_headed any_cond any_conds g l → byte 32 l ≡ none → within st bs ≡ none
unfolding within head_number
headed_none st bs l (compare o) k y e = absurd (let w = op_small o in omega arith)
headed_none st bs l and k y e = ap (λ w. bind w (λ c. rest st c.left)) y ∙ after_and st l ∙ listed_none st l e
headed_none st bs l or k y e = ap (λ w. bind w (λ c. rest st c.left)) y ∙ after_or st l ∙ listed_none st l e
headed_none st bs l not_of k y e = ap (λ w. bind w (λ c. rest st c.left)) y ∙ after_not_none st l e

headed_first : (st : List Bool) (bs l : Bytes) {l' : Bytes} (g : R.Head) → 7 ≤ head_number g → any_cond bs ≡ read_headed any_cond any_conds g l → byte 32 l ≡ some (record { what = tt; left = l' })
    → within st bs ≡ within (eqb (head_number g) 9 ∷ st) l'
unfolding within head_number
headed_first st bs l (compare o) k y e = absurd (let w = op_small o in omega arith)
headed_first st bs l and k y e = ap (λ w. bind w (λ c. rest st c.left)) y ∙ after_and st l ∙ listed_on st l e
headed_first st bs l or k y e = ap (λ w. bind w (λ c. rest st c.left)) y ∙ after_or st l ∙ listed_on st l e
headed_first st bs l not_of k y e = ap (λ w. bind w (λ c. rest st c.left)) y ∙ after_not st l e

head_long : (g : R.Head) → 7 ≤ head_number g → 2 ≤ length (head_word g)
unfolding head_number head_word
head_long (compare o) k = absurd (let w = op_small o in omega arith)
head_long and k = omega arith
head_long or k = omega arith
head_long not_of k = omega arith

-- ---- the stack in its array

stack_set : (single : List Bool) (i n : ℕ) (v : Bool) → n ≤ i → stack (set single i v) n ≡ stack single n
unfolding stack
stack_set single i zero v h = refl
stack_set single i (suc n) v h = rw (get_or-set_other single i n v false (λ e. omega arith), stack_set single i n v (omega arith))

pub stack_push : (single : List Bool) (n : ℕ) (v : Bool) → n < length single → stack (set single n v) (n + 1) ≡ v ∷ stack single n
unfolding stack
stack_push single n v h = rw (add-one n, get_or-set_same single n v false h, stack_set single n n v (omega arith))

-- ---- the brackets that close after a condition

pub record Goes (s : Bytes) (single : List Bool) (p n q m : ℕ) : Type 0 where
  pub left : read_end s (rest (stack single n) (drop p s)) ≡ read_end s (within (stack single m) (drop q s))
  pub fewer : m ≤ n
  pub further : p < q

unfoldable pub After : Bytes → List Bool → ℕ → ℕ → Found Skip → Type 0
After s single p n None = read_end s (rest (stack single n) (drop p s)) ≡ None
After s single p n (Some (Ended q)) = read_end s (rest (stack single n) (drop p s)) ≡ Some q
After s single p n (Some (Next q m)) = Goes s single p n q m

no_space : (v : Bool) (x y : ℕ) → x ≡ y → (eqb y 32 && not v) ≡ false → (eqb 32 x && not v) ≡ false
no_space v x y e f = go (eqb y 32) refl f
  where
    go : (b : Bool) → eqb y 32 ≡ b → (b && not v) ≡ false → (eqb 32 x && not v) ≡ false
    go true d f = rw (eq-eqb 32 x (sym (e ∙ eqb-true y 32 d))) f
    go false d f = rw (ne_eqb 32 x (λ q. eqb-false y 32 d (sym e ∙ sym q)))

module _ (s : Bytes) (single : List Bool) where
  -- no bracket is left open
  after_end : (p : ℕ) → p ≤ length s → After s single p 0 (Some (Ended p))
  unfolding After stack rest read_end left_at seen
  after_end p h = ap Some (omega (arith, length-drop p s))

  after_close : (p n : ℕ) (k : Found Skip) → get_or s p 0 ≡ 41 → After s single (p + 1) n k → After s single p (suc n) k
  unfolding After stack rest
  after_close p n k z a = go k a
    where
      d : drop p s ≡ 41 ∷ drop (p + 1) s
      d = byte_here s p (inside s p (omega arith)) z

      go : (k : Found Skip) → After s single (p + 1) n k → After s single p (suc n) k
      go None a = rw d a
      go (Some (Ended q)) a = rw d a
      go (Some (Next q m)) a = let f = a.fewer in let g = a.further in record { left = rw d a.left; fewer = omega arith; further = omega arith }

  after_space : (p n : ℕ) → get_or s p 0 ≡ 32 → get_or single n false ≡ false → After s single p (suc n) (Some (Next (p + 1) (suc n)))
  unfolding After stack rest listed byte ensure
  after_space p n z f =
      let l = inside s p (omega arith) in
      let d = byte_here s p l z in
      record { left = rw (f, d) (ap (read_end s) (listed_on (stack single n) (32 ∷ drop (p + 1) s) {u = tt} {l = drop (p + 1) s} refl)); fewer = omega arith; further = omega arith }

  after_stuck : (p n : ℕ) → (get_or s p 0 ≡ 41 → ⊥) → (eqb (get_or s p 0) 32 && not (get_or single n false)) ≡ false → After s single p (suc n) None
  unfolding After stack rest read_end seen
  after_stuck p n z f = ap (read_end s) (go (drop p s) refl)
    where
      go : (bs : Bytes) → drop p s ≡ bs → rest (get_or single n false ∷ stack single n) bs ≡ none
      go [] e = refl
      go (x ∷ xs) e =
          let y : x ≡ get_or s p 0 = sym (ap (λ l. get_or l 0 0) e) ∙ first_byte s p in
          rw (ne_eqb 41 x (λ q. z (sym y ∙ sym q)), no_space (get_or single n false) x (get_or s p 0) y f)

  pub after_law : (n p : ℕ) → p ≤ length s → After s single p n (after_cond s single p n)
  unfolding after_cond
  after_law zero p h = after_end p h
  after_law (suc n) p h = go (eqb (get_or s p 0) 41) refl (λ z. after_law n (p + 1) (let l = inside s p (omega arith) in omega arith))
    where
      other : (get_or s p 0 ≡ 41 → ⊥) → (b : Bool) → (eqb (get_or s p 0) 32 && not (get_or single n false)) ≡ b → After s single p (suc n) (cond b (Some (Next (p + 1) (suc n))) None)
      other z true f = spaced (eqb (get_or s p 0) 32) refl (get_or single n false) refl f
        where
          spaced : (a : Bool) → eqb (get_or s p 0) 32 ≡ a → (v : Bool) → get_or single n false ≡ v → (a && not v) ≡ true → After s single p (suc n) (Some (Next (p + 1) (suc n)))
          spaced true d false v e = after_space p n (eqb-true (get_or s p 0) 32 d) v
          spaced true d true v e = never (sym e)
          spaced false d w v e = never (sym e)
      other z false f = after_stuck p n z f

      go : (b : Bool) → eqb (get_or s p 0) 41 ≡ b → (get_or s p 0 ≡ 41 → After s single (p + 1) n (after_cond s single (p + 1) n))
          → After s single p (suc n) (cond b (after_cond s single (p + 1) n) (cond (eqb (get_or s p 0) 32 && not (get_or single n false)) (Some (Next (p + 1) (suc n))) None))
      go true e r = let z = eqb-true (get_or s p 0) 41 e in after_close p n (after_cond s single (p + 1) n) z (r z)
      go false e r = other (eqb-false (get_or s p 0) 41 e) (eqb (get_or s p 0) 32 && not (get_or single n false)) refl

-- the ends of `after`

module _ (s : Bytes) (single : List Bool) (at nest p n : ℕ) (inv : after_cond s single at nest ≡ after_cond s single p n) where
  pub after_done : n ≤ 0 → Some (Ended p) ≡ after_cond s single at nest
  unfolding after_cond
  after_done h = let z : n ≡ 0 = omega arith in sym (inv ∙ rw z)

  module _ (h : 0 < n) {b : ℕ} (e : b ≡ get_or s p 0) where
    step : after_cond s single p n ≡ cond (eqb b 41) (after_cond s single (p + 1) (n - 1)) (cond (eqb b 32 && not (get_or single (n - 1) false)) (Some (Next (p + 1) n)) None)
    unfolding after_cond
    step = let z : n ≡ suc (n - 1) = omega arith in ap (λ m. after_cond s single p m) z ∙ rw (← e, ← z)

    pub after_again : b ≡ 41 → after_cond s single at nest ≡ after_cond s single (p + 1) (n - 1)
    after_again z = inv ∙ step ∙ rw (eq-eqb b 41 z)

    module _ (z : b ≡ 41 → ⊥) where
      pub after_other : (b ≡ 32 → ⊥) → None ≡ after_cond s single at nest
      after_other f = sym (inv ∙ step ∙ rw (ne_eqb b 41 z, ne_eqb b 32 f))

      module _ (f : b ≡ 32) where
        pub after_single : {v : Bool} → v ≡ get_or single (n - 1) false → v ≡ true → None ≡ after_cond s single at nest
        after_single w t = sym (inv ∙ step ∙ rw (ne_eqb b 41 z, eq-eqb b 32 f, sym w ∙ t))

        pub after_next : {v : Bool} → v ≡ get_or single (n - 1) false → v ≡ false → Some (Next (p + 1) n) ≡ after_cond s single at nest
        after_next w t = sym (inv ∙ step ∙ rw (ne_eqb b 41 z, eq-eqb b 32 f, sym w ∙ t))

pub ruleset after_ends = (after_done, after_again, after_other, after_single, after_next)

-- ---- the skip

pub record Skips (s : Bytes) (at : ℕ) (single : List Bool) (nest p : ℕ) : Type 0 where
  pub left : read_end s (any_cond (drop at s)) ≡ read_end s (within (stack single nest) (drop p s))
  pub nested : 4 * nest ≤ p
  pub long : length single ≡ 128

within_none : (s : Bytes) (st : List Bool) (p : ℕ) → any_cond (drop p s) ≡ none → read_end s (within st (drop p s)) ≡ None
unfolding within bind read_end seen
within_none s st p e = rw e

pub skip_start : (s : Bytes) (at : ℕ) → Skips s at (replicate 128 false) 0 at
unfolding stack within rest bind read_end left_at seen
skip_start s at = record { left = go (any_cond (drop at s)); nested = omega arith; long = length-replicate 128 false }
  where
    go : (o : Option (Read (Cond Test))) → read_end s o ≡ read_end {A = Unit {0}} s (bind o (λ c. some (record { what = tt; left = c.left })))
    go none = refl
    go (some c) = refl

module _ (s : Bytes) (at : ℕ) (single : List Bool) (nest p : ℕ) (inv : Skips s at single nest p) where
  pub skip_over : length s ≤ p → None ≡ read_end s (any_cond (drop at s))
  unfolding any_cond R.read_cond
  skip_over h = sym (inv.left ∙ within_none s (stack single nest) p (rw (drop_of_length-le s h)))

  pub skip_unheaded : {x : Found ℕ} → None ≡ head_at s p → x ≡ None → x ≡ read_end s (any_cond (drop at s))
  skip_unheaded e d = d ∙ sym (inv.left ∙ within_none s (stack single nest) p (unheaded s p e))

  module _ {h : Headed} (e : Some h ≡ head_at s p) where
    -- a comparison
    module _ (l : h.head < 7) (ks : List ℕ) where
      tested : {X : Type 0} → ((o : Op) → any_cond (drop p s) ≡ read_test o (drop h.next s) → p < h.next → X) → X
      unfolding read_headed head_number
      tested {X} f = headed s p e (λ g k y i j. go g k y (omega arith))
        where
          go : (g : R.Head) → head_number g ≡ h.head → any_cond (drop p s) ≡ read_headed any_cond any_conds g (drop h.next s) → p < h.next → X
          go (compare o) k y i = f o y i
          go and k y i = absurd (omega arith)
          go or k y i = absurd (omega arith)
          go not_of k y i = absurd (omega arith)

      pub skip_untested : {x : Found ℕ} → None ≡ comparison_at ks s h.next → x ≡ None → x ≡ read_end s (any_cond (drop at s))
      skip_untested q d = d ∙ tested (λ o y i. sym (inv.left ∙ within_none s (stack single nest) p (y ∙ comparison_none ks s h.next q o)))

      module _ {x : Comparison} (q : Some x ≡ comparison_at ks s h.next) where
        -- after it
        tail : {X : Type 0} → (read_end s (any_cond (drop at s)) ≡ read_end s (rest (stack single nest) (drop x.next s)) → p < x.next → x.next ≤ length s → X) → X
        unfolding within bind
        tail f =
            tested (λ o y i. comparison_some ks s h.next q (λ a b u v r d j k.
            f (inv.left ∙ ap (λ w. read_end s (bind w (λ c. rest (stack single nest) c.left))) (y ∙ r o)) (omega arith) k))

        pub skip_stuck : {y : Found ℕ} → None ≡ after_cond s single x.next nest → y ≡ None → y ≡ read_end s (any_cond (drop at s))
        unfolding After
        skip_stuck a d = tail (λ u v w. d ∙ sym (u ∙ rw (← a) at (after_law s single nest x.next w)))

        module _ {k : Skip} (a : Some k ≡ after_cond s single x.next nest) where
          afterwards : {j : Skip} → k ≡ j → x.next ≤ length s → After s single x.next nest (Some j)
          afterwards i b = rw (← (ap Some (sym i) ∙ a)) at (after_law s single nest x.next b)

          pub skip_done : {j : ℕ} → k ≡ Ended j → Some j ≡ read_end s (any_cond (drop at s))
          unfolding After
          skip_done i = tail (λ u v w. sym (u ∙ afterwards i w))

          module _ {j m : ℕ} (i : k ≡ Next j m) where
            pub skip_again : Skips s at single m j
            unfolding After
            skip_again = tail (λ u v w. let b = afterwards i w in let c = b.fewer in let d = b.further in let f = inv.nested in record { left = u ∙ b.left; nested = omega arith; long = inv.long })

            pub skip_less : p < length s → length s - j < length s - p
            unfolding After
            skip_less o = tail (λ u v w. let d = (afterwards i w).further in omega arith)

    -- a condition of conditions
    module _ (l : 7 ≤ h.head) {b : ℕ} (q : b ≡ get_or s h.next 0) where
      pub skip_unspaced : (b ≡ 32 → ⊥) → None ≡ read_end s (any_cond (drop at s))
      unfolding read_end seen
      skip_unspaced z =
          sym (inv.left ∙ ap (read_end s) (headed s p e (λ g k y i j. headed_none (stack single nest) (drop p s) (drop h.next s) g (omega arith) y (space_not s h.next q z))))

      module _ (z : b ≡ 32) where
        -- its first condition
        first : {X : Type 0} → (within (stack single nest) (drop p s) ≡ within (eqb h.head 9 ∷ stack single nest) (drop (h.next + 1) s) → p + 3 ≤ h.next → X) → X
        first f =
            headed s p e (λ g k y i j.
            let w = head_long g (omega arith) in
            f (rw (← k) (headed_first (stack single nest) (drop p s) (drop h.next s) g (omega arith) y (space_is s h.next q z))) (omega arith))

        pub skip_deeper : p < length s → length s ≤ 512 → Skips s at (set single nest (eqb h.head 9)) (nest + 1) (h.next + 1)
        skip_deeper v r =
            first (λ w u.
            let f = inv.nested in
            let g = inv.long in
            record {
              left = inv.left ∙ ap (read_end s) w ∙ ap (λ st. read_end s (within st (drop (h.next + 1) s))) (sym (stack_push single nest (eqb h.head 9) (omega arith)));
              nested = omega arith;
              long = length-set single nest (eqb h.head 9) ∙ inv.long;
            })

        pub skip_falls : p < length s → length s - (h.next + 1) < length s - p
        skip_falls v = first (λ w u. omega arith)

pub ruleset skip_ends = (skip_start, skip_over, skip_unheaded, skip_untested, skip_stuck, skip_done, skip_again, skip_unspaced, skip_deeper, skip_less, skip_falls)

-- what is told of a condition that is skipped

pub skipped_none : (s : Bytes) (at : ℕ) {x : Found Seen} → None ≡ read_end s (any_cond (drop at s)) → x ≡ None → x ≡ skipped_seen s at
unfolding skipped_seen
skipped_none s at q d = d ∙ rw (← q)

pub skipped_some : (s : Bytes) (at : ℕ) {e : ℕ} {r : Seen} → Some e ≡ read_end s (any_cond (drop at s)) → r ≡ deep_seen e → Some r ≡ skipped_seen s at
unfolding skipped_seen
skipped_some s at q d = ap Some d ∙ rw (← q)

pub ruleset skipped_ends = (skipped_none, skipped_some)
