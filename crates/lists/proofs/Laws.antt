-- Laws of the list functions and of tests.
use mathlib.Core.Path.{◌≡◌, refl, sym, ap, ap₂, ◌∙◌, subst}
use mathlib.Core.List.{List, [], ◌∷◌, ◌++◌, map, append_assoc, Memᴰ}
use mathlib.Core.Bool.{Bool, true, false, ◌&&◌, ◌||◌, not, cond}
use Prim.Native.Nat.{ℕ, zero, suc, ◌<◌}
use native.Mathlib.Omega.{arith}
use lib.Dec.{T, eqb, eqb→eq, eqb_refl}
use lib.ListN.{length}
pub use Rattle.lists.specs.Lists.{All, all_nil, all_cons}
use Rattle.lists.specs.Lists.{select, every, some?, empty?, nth, gather, same_list, position, distinct}

-- ---- tests

pub and_true : (b : Bool) → (b && true) ≡ b
and_true true = refl
and_true false = refl

pub and_false : (b : Bool) → (b && false) ≡ false
and_false true = refl
and_false false = refl

pub and_l : (a b : Bool) → T (a && b) → T a
and_l true b t = tt
and_l false b t = absurd t

pub and_r : (a b : Bool) → T (a && b) → T b
and_r true b t = t
and_r false b t = absurd t

pub and_both : (a b : Bool) → T a → T b → T (a && b)
and_both true b s t = t
and_both false b s t = absurd s

pub or_l : (a b : Bool) → T a → T (a || b)
or_l true b t = tt
or_l false b t = absurd t

pub or_r : (a b : Bool) → T b → T (a || b)
or_r true b t = tt
or_r false b t = t

pub or_cases {ℓ} : {X : Type ℓ} (a b : Bool) → T (a || b) → (T a → X) → (T b → X) → X
or_cases true b t f g = f tt
or_cases false b t f g = g t

pub true_T : (b : Bool) → b ≡ true → T b
true_T b e = subst T (sym e) tt

pub T_true : (b : Bool) → T b → b ≡ true
T_true true t = refl
T_true false t = absurd t

pub T_false : (b : Bool) → T (not b) → b ≡ false
T_false true t = absurd t
T_false false t = refl

pub not_not : (b : Bool) → T (not (not b)) → T b
not_not true t = tt
not_not false t = absurd t

pub not_or_l : (a b : Bool) → T (not (a || b)) → T (not a)
not_or_l true b t = absurd t
not_or_l false b t = tt

pub not_or_r : (a b : Bool) → T (not (a || b)) → T (not b)
not_or_r true b t = absurd t
not_or_r false b t = t

-- neither of two holds
pub or_first : (a b : Bool) → (a || b) ≡ false → a ≡ false
or_first true b e = e
or_first false b e = refl

pub or_last : (a b : Bool) → (a || b) ≡ false → b ≡ false
or_last true b e = absurd (subst T e tt)
or_last false b e = e

pub not_both : (a b : Bool) → (not a || not b) ≡ not (a && b)
not_both true b = refl
not_both false b = refl

-- two tests that pass alike are one
pub same_truth : (a b : Bool) → (T a → T b) → (T b → T a) → a ≡ b
same_truth true true f g = refl
same_truth true false f g = absurd (f tt)
same_truth false true f g = absurd (g tt)
same_truth false false f g = refl

-- what a test gives, by its two cases
pub cond_cases : {A X : Type 0} (b : Bool) (x y : A) {z : A} → cond b x y ≡ z → (T b → x ≡ z → X) → (T (not b) → y ≡ z → X) → X
cond_cases true x y e f g = f tt e
cond_cases false x y e f g = g tt e

-- by the two values of a test
pub by_test : {X : Type 0} (t : Bool) → (t ≡ true → X) → (t ≡ false → X) → X
by_test true f g = f refl
by_test false f g = g refl

pub never : {X : Type 0} → ◌≡◌ {A = Bool} true false → X
never e = absurd (subst T e tt)

-- `search parts` finds a part of a conjunction in reach
pub ruleset parts = (and_l, and_r)

-- ---- lists

module _ {A : Type 0} where
  pub all_select : {P Q : A → Type 0} {xs : List A} (p : A → Bool) → ((x : A) → T (p x) → P x → Q x) → All P xs → All Q (select p xs)
  unfolding select
  all_select p f all_nil = all_nil
  all_select {Q} p f (all_cons {x} {xs} h hs) = go (p x) (λ t. f x t h) (all_select p f hs)
    where
      go : (b : Bool) → (T b → Q x) → All Q (select p xs) → All Q (cond b (x ∷ select p xs) (select p xs))
      go true q r = all_cons (q tt) r
      go false q r = r

  pub all_weaken : {P Q : A → Type 0} {xs : List A} → ((x : A) → P x → Q x) → All P xs → All Q xs
  all_weaken f all_nil = all_nil
  all_weaken f (all_cons {x} h hs) = all_cons (f x h) (all_weaken f hs)

  pub all_head : {P : A → Type 0} {x : A} {xs : List A} → All P (x ∷ xs) → P x
  all_head (all_cons h hs) = h

  pub all_tail : {P : A → Type 0} {x : A} {xs : List A} → All P (x ∷ xs) → All P xs
  all_tail (all_cons h hs) = hs

  pub all_any : (xs : List A) → All (λ x. Unit {0}) xs
  all_any [] = all_nil
  all_any (x ∷ xs) = all_cons tt (all_any xs)

  pub all_both : {P Q : A → Type 0} {xs : List A} → All P xs → All Q xs → All (λ x. P x × Q x) xs
  all_both all_nil k = all_nil
  all_both (all_cons h hs) k = all_cons (h, all_head k) (all_both hs (all_tail k))

  pub all_append : {P : A → Type 0} {xs ys : List A} → All P xs → All P ys → All P (xs ++ ys)
  all_append all_nil k = k
  all_append (all_cons h hs) k = all_cons h (all_append hs k)

  -- a first test that the second asks anyway
  pub select_select : (p q : A → Bool) → ((x : A) → T (q x) → T (p x)) → (xs : List A) → select q (select p xs) ≡ select q xs
  unfolding select
  select_select p q f [] = refl
  select_select p q f (x ∷ xs) = go (p x) (q x) refl (f x) (select_select p q f xs)
    where
      go : (a b : Bool) → q x ≡ b → (T (q x) → T a) → select q (select p xs) ≡ select q xs → select q (cond a (x ∷ select p xs) (select p xs)) ≡ cond b (x ∷ select q xs) (select q xs)
      go true true e g i = rw (e, i)
      go true false e g i = rw (e, i)
      go false true e g i = absurd (g (rw e tt))
      go false false e g i = i

module _ {A B : Type 0} where
  pub all_map : {P : A → Type 0} {Q : B → Type 0} {xs : List A} (f : A → B) → ((x : A) → P x → Q (f x)) → All P xs → All Q (map f xs)
  all_map f g all_nil = all_nil
  all_map f g (all_cons {x} h hs) = all_cons (g x h) (all_map f g hs)

  pub all_gather : {P : A → Type 0} {Q : B → Type 0} {f : A → List B} {xs : List A} → ((x : A) → P x → All Q (f x)) → All P xs → All Q (gather f xs)
  unfolding gather
  all_gather g all_nil = all_nil
  all_gather g (all_cons {x} h hs) = all_append (g x h) (all_gather g hs)

  pub gather_same : {f g : A → List B} {xs : List A} → All (λ x. f x ≡ g x) xs → gather f xs ≡ gather g xs
  unfolding gather
  gather_same all_nil = refl
  gather_same (all_cons h hs) = ap₂ ◌++◌ h (gather_same hs)

  pub select_map : (p : B → Bool) (f : A → B) (xs : List A) → select p (map f xs) ≡ map f (select (λ x. p (f x)) xs)
  unfolding select
  select_map p f [] = refl
  select_map p f (x ∷ xs) = go (p (f x)) (select_map p f xs)
    where
      go : (b : Bool) → select p (map f xs) ≡ map f (select (λ x. p (f x)) xs) → cond b (f x ∷ select p (map f xs)) (select p (map f xs)) ≡ map f (cond b (x ∷ select (λ x. p (f x)) xs) (select (λ x. p (f x)) xs))
      go true e = ap (λ l. f x ∷ l) e
      go false e = e

  pub gather_append : (f : A → List B) (xs ys : List A) → gather f (xs ++ ys) ≡ gather f xs ++ gather f ys
  unfolding gather
  gather_append f [] ys = refl
  gather_append f (x ∷ xs) ys = ap (λ l. f x ++ l) (gather_append f xs ys) ∙ sym (append_assoc (f x) (gather f xs) (gather f ys))

-- ---- tests of every item

module _ {A : Type 0} where
  pub every_append : (p : A → Bool) (xs ys : List A) → T (every p xs) → T (every p ys) → T (every p (xs ++ ys))
  unfolding every
  every_append p [] ys h k = k
  every_append p (x ∷ xs) ys h k = and_both (p x) (every p (xs ++ ys)) (search parts) (every_append p xs ys (search parts) k)

  pub every_append_l : (p : A → Bool) (xs ys : List A) → T (every p (xs ++ ys)) → T (every p xs)
  unfolding every
  every_append_l p [] ys t = tt
  every_append_l p (x ∷ xs) ys t = and_both (p x) (every p xs) (search parts) (every_append_l p xs ys (search parts))

  pub every_append_r : (p : A → Bool) (xs ys : List A) → T (every p (xs ++ ys)) → T (every p ys)
  unfolding every
  every_append_r p [] ys t = t
  every_append_r p (x ∷ xs) ys t = every_append_r p xs ys (search parts)

  pub every_map : {B : Type 0} (p : A → Bool) (q : B → Bool) (f : A → B) → ((x : A) → T (p x) → T (q (f x))) → (xs : List A) → T (every p xs) → T (every q (map f xs))
  unfolding every
  every_map p q f i [] h = tt
  every_map p q f i (x ∷ xs) h = and_both (q (f x)) (every q (map f xs)) (i x (search parts)) (every_map p q f i xs (search parts))

  pub every_both : (p q r : A → Bool) → ((a : A) → T (p a) → T (q a) → T (r a)) → (xs : List A) → T (every p xs) → T (every q xs) → T (every r xs)
  unfolding every
  every_both p q r h [] t u = tt
  every_both p q r h (x ∷ xs) t u = and_both (r x) (every r xs) (h x (search parts) (search parts)) (every_both p q r h xs (search parts) (search parts))

  pub every_member : (p : A → Bool) (x : A) (xs : List A) → Memᴰ x xs → T (every p xs) → T (p x)
  unfolding every
  every_member p x xs (Memᴰ.head {x = y} {xs = ys} e) t = let h : T (p y) = search parts in rw e h
  every_member p x xs (Memᴰ.tail {x = y} {xs = ys} m) t = every_member p x ys m (search parts)

  -- a list that a test gives whole
  pub select_every : (p : A → Bool) (xs : List A) → T (every p xs) → select p xs ≡ xs
  unfolding select every
  select_every p [] h = refl
  select_every p (x ∷ xs) h = go (p x) (search parts) (select_every p xs (search parts))
    where
      go : (b : Bool) → T b → select p xs ≡ xs → cond b (x ∷ select p xs) (select p xs) ≡ x ∷ xs
      go true t e = ap (λ l. x ∷ l) e
      go false t e = absurd t

  every_always : (p : A → Bool) → ((x : A) → T (p x)) → (xs : List A) → T (every p xs)
  unfolding every
  every_always p f [] = tt
  every_always p f (x ∷ xs) = and_both (p x) (every p xs) (f x) (every_always p f xs)

  pub select_all : (p : A → Bool) → ((x : A) → T (p x)) → (xs : List A) → select p xs ≡ xs
  select_all p f xs = select_every p xs (every_always p f xs)

  pub every_all : (p : A → Bool) (xs : List A) → T (every p xs) → All (λ x. T (p x)) xs
  unfolding every
  every_all p [] h = all_nil
  every_all p (x ∷ xs) h = all_cons {x = x} (search parts) (every_all p xs (search parts))

  pub all_every : (p : A → Bool) {xs : List A} → All (λ x. T (p x)) xs → T (every p xs)
  unfolding every
  all_every p all_nil = tt
  all_every p (all_cons {x} {xs} h hs) = and_both (p x) (every p xs) h (all_every p hs)

  pub all_left : {P : A → Type 0} (xs ys : List A) → All P (xs ++ ys) → All P xs
  all_left [] ys h = all_nil
  all_left (x ∷ xs) ys h = all_cons (all_head h) (all_left xs ys (all_tail h))

  pub all_right : {P : A → Type 0} (xs ys : List A) → All P (xs ++ ys) → All P ys
  all_right [] ys h = h
  all_right (x ∷ xs) ys h = all_right xs ys (all_tail h)

  pub all_nth : {P : A → Type 0} (d : A) {xs : List A} (n : ℕ) → All P xs → n < length xs → P (nth d xs n)
  unfolding nth
  all_nth d n all_nil l = absurd (omega arith)
  all_nth d zero (all_cons h hs) l = h
  all_nth d (suc n) (all_cons h hs) l = all_nth d n hs (omega arith)

pub every_gathered : {A B : Type 0} (p : B → Bool) (f : A → List B) (xs : List A) → T (every (λ x. every p (f x)) xs) → T (every p (gather f xs))
unfolding every gather
every_gathered p f [] t = tt
every_gathered p f (x ∷ xs) t = every_append p (f x) (gather f xs) (search parts) (every_gathered p f xs (search parts))

-- no item passes a test
pub some_none : {A : Type 0} (p good : A → Bool) → ((x : A) → T (good x) → p x ≡ false) → (xs : List A) → T (every good xs) → some? p xs ≡ false
unfolding some? every
some_none p good f [] t = refl
some_none p good f (x ∷ xs) t = rw (f x (search parts)) (some_none p good f xs (search parts))

-- four tests, the inner two exchanged
pub and_four : (a b c d : Bool) → ((a && b) && (c && d)) ≡ ((a && c) && (b && d))
and_four true true c d = refl
and_four true false true d = refl
and_four true false false d = refl
and_four false b c d = refl

pub every_gather : {A B : Type 0} (p : B → Bool) (f : A → List B) (xs : List A) → T (every p (gather f xs)) → T (every (λ x. every p (f x)) xs)
unfolding every gather
every_gather p f [] t = tt
every_gather p f (x ∷ xs) t = and_both (every p (f x)) (every (λ x. every p (f x)) xs) (every_append_l p (f x) (gather f xs) t) (every_gather p f xs (every_append_r p (f x) (gather f xs) t))

module _ {A : Type 0} where
  pub nth_before : (e : A) (xs ys : List A) (n : ℕ) → n < length xs → nth e (xs ++ ys) n ≡ nth e xs n
  unfolding nth
  nth_before e [] ys n l = absurd (omega arith)
  nth_before e (x ∷ xs) ys zero l = refl
  nth_before e (x ∷ xs) ys (suc n) l = nth_before e xs ys n (omega arith)

  pub some_before : (p : A → Bool) (xs ys : List A) → T (some? p xs) → T (some? p (xs ++ ys))
  unfolding some?
  some_before p [] ys t = absurd t
  some_before p (x ∷ xs) ys t = or_cases (p x) (some? p xs) t (λ u. or_l (p x) _ u) (λ u. or_r (p x) _ (some_before p xs ys u))

  pub map_same : {B : Type 0} (f g : A → B) {xs : List A} → All (λ x. f x ≡ g x) xs → map f xs ≡ map g xs
  map_same f g all_nil = refl
  map_same f g (all_cons h hs) = ap₂ ◌∷◌ h (map_same f g hs)

  pub every_weaken : (p q : A → Bool) → ((x : A) → T (p x) → T (q x)) → (xs : List A) → T (every p xs) → T (every q xs)
  every_weaken p q f xs t = every_both p p q (λ x a b. f x a) xs t t

pub append_nil : {A : Type 0} (xs : List A) → xs ++ [] ≡ xs
append_nil [] = refl
append_nil (x ∷ xs) = ap (λ l. x ∷ l) (append_nil xs)

-- ---- lists of numbers

pub same_list→eq : (xs ys : List ℕ) → T (same_list xs ys) → xs ≡ ys
unfolding same_list
same_list→eq [] [] h = refl
same_list→eq [] (y ∷ ys) h = absurd h
same_list→eq (x ∷ xs) [] h = absurd h
same_list→eq (x ∷ xs) (y ∷ ys) h = ap₂ ◌∷◌ (eqb→eq x y (search parts)) (same_list→eq xs ys (search parts))

pub same_list_refl : (xs : List ℕ) → T (same_list xs xs)
unfolding same_list
same_list_refl [] = tt
same_list_refl (x ∷ xs) = and_both (eqb x x) (same_list xs xs) (eqb_refl x) (same_list_refl xs)

-- what stands among lists stands at its position
pub position_nth : (n : List ℕ) (ns : List (List ℕ)) → T (some? (same_list n) ns) → nth [] ns (position n ns) ≡ n
unfolding some? nth position
position_nth n [] t = absurd t
position_nth n (m ∷ ns) t = go (same_list n m) refl t (position_nth n ns)
  where
    go : (b : Bool) → same_list n m ≡ b → T (b || some? (same_list n) ns) → (T (some? (same_list n) ns) → nth [] ns (position n ns) ≡ n)
        → nth [] (m ∷ ns) (cond b 0 (suc (position n ns))) ≡ n
    go true e t f = sym (same_list→eq n m (rw e tt))
    go false e t f = f t

pub position_below : (n : List ℕ) (ns : List (List ℕ)) → T (some? (same_list n) ns) → position n ns < length ns
unfolding some? position
position_below n [] t = absurd t
position_below n (m ∷ ns) t = go (same_list n m) t (position_below n ns)
  where
    go : (b : Bool) → T (b || some? (same_list n) ns) → (T (some? (same_list n) ns) → position n ns < length ns) → cond b 0 (suc (position n ns)) < suc (length ns)
    go true t f = omega arith
    go false t f = let h = f t in omega arith

pub among_nth : (ns : List (List ℕ)) (i : ℕ) → i < length ns → T (some? (same_list (nth [] ns i)) ns)
unfolding some? nth
among_nth [] i h = absurd (omega arith)
among_nth (m ∷ ns) zero h = or_l (same_list m m) _ (same_list_refl m)
among_nth (m ∷ ns) (suc i) h = or_r (same_list (nth [] ns i) m) _ (among_nth ns i (omega arith))

-- where no list stands twice, each stands at its own place
pub nth_position : (ns : List (List ℕ)) (i : ℕ) → T (distinct same_list ns) → i < length ns → position (nth [] ns i) ns ≡ i
unfolding some? nth position distinct
nth_position [] i d h = absurd (omega arith)
nth_position (m ∷ ns) zero d h = rw (T_true (same_list m m) (same_list_refl m))
nth_position (m ∷ ns) (suc i) d h = go (same_list (nth [] ns i) m) refl (nth_position ns i (search parts) (omega arith))
  where
    go : (b : Bool) → same_list (nth [] ns i) m ≡ b → position (nth [] ns i) ns ≡ i → cond b 0 (suc (position (nth [] ns i) ns)) ≡ suc i
    go true e p = absurd (rw (T_true (some? (same_list m) ns) (rw (same_list→eq (nth [] ns i) m (rw e tt)) at (among_nth ns i (omega arith)))) at (and_l (not (some? (same_list m) ns)) _ d))
    go false e p = ap suc p

pub position_before : (n : List ℕ) (ns ms : List (List ℕ)) → T (some? (same_list n) ns) → position n (ns ++ ms) ≡ position n ns
unfolding some? position
position_before n [] ms t = absurd t
position_before n (m ∷ ns) ms t = go (same_list n m) t (position_before n ns ms)
  where
    go : (b : Bool) → T (b || some? (same_list n) ns) → (T (some? (same_list n) ns) → position n (ns ++ ms) ≡ position n ns) → cond b 0 (suc (position n (ns ++ ms))) ≡ cond b 0 (suc (position n ns))
    go true t f = refl
    go false t f = ap suc (f t)

-- ---- what a function makes of each item

module _ {A B : Type 0} (f : A → B) where
  pub nth_of_map : (d : A) (xs : List A) (n : ℕ) → nth (f d) (map f xs) n ≡ f (nth d xs n)
  unfolding nth
  nth_of_map d [] n = refl
  nth_of_map d (x ∷ xs) zero = refl
  nth_of_map d (x ∷ xs) (suc n) = nth_of_map d xs n

  pub map_back : (g : B → A) {xs : List A} → All (λ x. g (f x) ≡ x) xs → map g (map f xs) ≡ xs
  map_back g all_nil = refl
  map_back g (all_cons h hs) = ap₂ ◌∷◌ h (map_back g hs)

  pub empty_map : (xs : List A) → empty? (map f xs) ≡ empty? xs
  unfolding empty?
  empty_map [] = refl
  empty_map (x ∷ xs) = refl

  -- what stands once stays so under a function that keeps apart what occurs
  module _ (p : A → A → Bool) (q : B → B → Bool) where
    pub absent_map : {P : A → Type 0} (x : A) {xs : List A} → ((y : A) → P y → T (q (f x) (f y)) → T (p x y)) → All P xs → T (not (some? (p x) xs)) → T (not (some? (q (f x)) (map f xs)))
    unfolding some?
    absent_map x k all_nil h = tt
    absent_map x k (all_cons {x = y} {xs = ys} l ls) h = go (p x y) (q (f x) (f y)) (k y l) h (absent_map x k ls)
      where
        go : (a b : Bool) → (T b → T a) → T (not (a || some? (p x) ys)) → (T (not (some? (p x) ys)) → T (not (some? (q (f x)) (map f ys)))) → T (not (b || some? (q (f x)) (map f ys)))
        go true b i h r = absurd h
        go false true i h r = absurd (i tt)
        go false false i h r = r h

    pub distinct_map : {P : A → Type 0} {xs : List A} → ((x y : A) → P x → P y → T (q (f x) (f y)) → T (p x y)) → All P xs → T (distinct p xs) → T (distinct q (map f xs))
    unfolding distinct
    distinct_map k all_nil h = tt
    distinct_map k (all_cons {x} {xs} l ls) h = and_both (not (some? (q (f x)) (map f xs))) _ (absent_map x (λ y. k x y l) ls (search parts)) (distinct_map k ls (search parts))

    absent_unmap : (x : A) (xs : List A) → ((y : A) → T (p x y) → T (q (f x) (f y))) → T (not (some? (q (f x)) (map f xs))) → T (not (some? (p x) xs))
    unfolding some?
    absent_unmap x [] k h = tt
    absent_unmap x (y ∷ ys) k h = go (p x y) (q (f x) (f y)) (k y) h (absent_unmap x ys k)
      where
        go : (a b : Bool) → (T a → T b) → T (not (b || some? (q (f x)) (map f ys))) → (T (not (some? (q (f x)) (map f ys))) → T (not (some? (p x) ys))) → T (not (a || some? (p x) ys))
        go a true i h r = absurd h
        go true false i h r = absurd (i tt)
        go false false i h r = r h

    pub distinct_unmap : ((x y : A) → T (p x y) → T (q (f x) (f y))) → (xs : List A) → T (distinct q (map f xs)) → T (distinct p xs)
    unfolding distinct
    distinct_unmap k [] h = tt
    distinct_unmap k (x ∷ xs) h = and_both (not (some? (p x) xs)) _ (absent_unmap x xs (k x) (search parts)) (distinct_unmap k xs (search parts))
