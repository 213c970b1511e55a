-- The steps of readers, both ways: what a step gives on what was printed, and what it says of a text that it took.
use mathlib.Core.Path.{◌≡◌, refl, sym, ap, ap₂, ◌∙◌, subst}
use mathlib.Core.List.{List, [], ◌∷◌, ◌++◌}
use mathlib.Core.Bool.{Bool, true, false, cond}
use mathlib.Core.Option.{Option, none, some, some-injective, none-ne-some}
use Prim.Native.Nat.{ℕ}
use lib.Dec.{T, eqb, eqb→eq, eqb_refl}
use Rattle.lists.specs.Lists.{every, same_list}
use Rattle.lists.proofs.Laws.{and_r, parts, T_true, cond_cases, same_list→eq, same_list_refl}
use Rattle.syntax.specs.Grammar.{Bytes, put_open}
use Rattle.syntax.specs.Readers.{Read, Reader, bind, ensure, ◌>>=◌, ◌>>◌, give, byte, run, past, plain, among, read_word, read_head, itself, read_open}

-- what was read is well formed, and the text was printed from it
abbrev pub Printed : {A : Type 0} → (A → Bool) → (A → Bytes → Bytes) → Bytes → Read A → Type 0
Printed good put bs r = T (good r.what) × (bs ≡ put r.what r.left)

-- what a reader takes was printed, together with what was taken before it
pub record Takes {A : Type 0} (good : A → Bool) (put : A → Bytes → Bytes) (before : Bytes → Bytes) (m : Reader A) : Type 0 where
  pub taken : (bs : Bytes) (r : Read A) → m bs ≡ some r → Printed good put (before bs) r

-- what a reader takes was printed
abbrev pub Reads : {A : Type 0} → (A → Bool) → (A → Bytes → Bytes) → Reader A → Type 0
Reads good put m = Takes good put (λ l. l) m

-- a space or a closing bracket is next: what follows each word, name and number
pub data Follows : Bytes → Type 0 where
  space : {r : Bytes} → Follows (32 ∷ r)
  close : {r : Bytes} → Follows (41 ∷ r)

-- ---- what was taken, step by step

pub from : {A B X : Type 0} (m : Option A) (f : A → Option B) {y : B} → bind m f ≡ some y → ((x : A) → m ≡ some x → f x ≡ some y → X) → X
unfolding bind
from none f {y} e k = absurd (none-ne-some y e)
from (some a) f e k = k a refl e

pub ensured : {A X : Type 0} (b : Bool) {a y : A} → ensure b a ≡ some y → (T b → a ≡ y → X) → X
unfolding ensure
ensured true {a} {y} e k = k tt (some-injective a y e)
ensured false {y} e k = absurd (none-ne-some y e)

-- a reader that has come to its end
pub done : {A : Type 0} (P : A → Type 0) {a b : A} → ◌≡◌ {A = Option A} (some a) (some b) → P a → P b
done P {a} {b} e p = subst P (some-injective a b e) p

pub byte_read : (b : ℕ) (bs : Bytes) (r : Read (Unit {0})) → byte b bs ≡ some r → bs ≡ b ∷ r.left
unfolding byte
byte_read b [] r e = absurd (none-ne-some r e)
byte_read b (x ∷ xs) r e = ensured (eqb b x) e (λ t d. ap₂ ◌∷◌ (sym (eqb→eq b x t)) (ap (λ s. s.left) d))

pub bind_bind : {A B C : Type 0} (m : Option A) (f : A → Option B) (g : B → Option C) → bind (bind m f) g ≡ bind m (λ a. bind (f a) g)
unfolding bind
bind_bind none f g = refl
bind_bind (some a) f g = refl

module _ {B : Type 0} {good : B → Bool} {put : B → Bytes → Bytes} {before : Bytes → Bytes} where
  pub byte_step : (b : ℕ) (n : Reader B) → Takes good put (λ l. before (b ∷ l)) n → Takes good put before (byte b >> n)
  unfolding ◌>>◌
  byte_step b n t =
      record { taken = λ bs r e. from _ _ e (λ s p q. subst (λ l. Printed good put (before l) r) (sym (byte_read b bs s p)) (t.taken s.left r q)) }

  pub item_step : {A : Type 0} {g : A → Bool} {w : A → Bytes → Bytes} {m : Reader A} (f : A → Reader B) → Reads g w m
      → ((a : A) → T (g a) → Takes good put (λ l. before (w a l)) (f a)) → Takes good put before (m >>= f)
  unfolding ◌>>=◌
  item_step f s t =
      record { taken = λ bs r e. from _ _ e (λ a p q. let h = s.taken bs a p in subst (λ l. Printed good put (before l) r) (sym h.1) ((t a.what h.0).taken a.left r q)) }

  -- a step that takes what was taken before together with its own
  pub within_step : {A : Type 0} {g : A → Bool} {w : A → Bytes → Bytes} {m : Reader A} (f : A → Reader B) → Takes g w before m
      → ((a : A) → T (g a) → Takes good put (w a) (f a)) → Takes good put before (m >>= f)
  unfolding ◌>>=◌
  within_step f s t =
      record { taken = λ bs r e. from _ _ e (λ a p q. let h = s.taken bs a p in subst (λ l. Printed good put l r) (sym h.1) ((t a.what h.0).taken a.left r q)) }

  pub give_step : (b : B) → T (good b) → ((l : Bytes) → before l ≡ put b l) → Takes good put before (give b)
  unfolding give
  give_step b t h = record { taken = λ bs r e. done (λ x. Printed good put (before bs) x) e (t, h bs) }

  -- a step made of two
  pub nest_step : {A C : Type 0} (m : Reader A) (f : A → Reader C) (g : C → Reader B) → Takes good put before (m >>= λ a. f a >>= g) → Takes good put before ((m >>= f) >>= g)
  unfolding ◌>>=◌
  nest_step m f g t = record { taken = λ bs r e. t.taken bs r (sym (bind_bind (m bs) (λ a. f a.what a.left) (λ c. g c.what c.left)) ∙ e) }

  pub given_step : {A : Type 0} (a : A) (g : A → Reader B) → Takes good put before (g a) → Takes good put before (give a >>= g)
  unfolding ◌>>=◌ give bind
  given_step a g t = record { taken = λ bs r e. t.taken bs r e }

-- the same text by another name
pub reads_as : {A : Type 0} {good better : A → Bool} {put print : A → Bytes → Bytes} {m : Reader A} → Reads good put m
    → ((a : A) → T (good a) → T (better a) × ((l : Bytes) → put a l ≡ print a l)) → Reads better print m
reads_as s f = record { taken = λ bs r e. let h = s.taken bs r e in let i = f r.what h.0 in (i.0, h.1 ∙ i.1 r.left) }

-- ---- what is printed is taken, step by step

pub bind_put : {A B : Type 0} (m : Option A) (f : A → Option B) {a : A} {y : Option B} → m ≡ some a → f a ≡ y → bind m f ≡ y
unfolding bind
bind_put m f e d = rw e d

pub byte_put : {B : Type 0} (b : ℕ) (n : Reader B) {rest : Bytes} {y : Option (Read B)} → n rest ≡ y → (byte b >> n) (b ∷ rest) ≡ y
unfolding ◌>>◌ bind byte ensure
byte_put b n e = rw (T_true (eqb b b) (eqb_refl b)) e

pub item_put : {A B : Type 0} (m : Reader A) (f : A → Reader B) {bs : Bytes} {a : A} {rest : Bytes} {y : Option (Read B)}
    → m bs ≡ some (record { what = a; left = rest }) → f a rest ≡ y → (m >>= f) bs ≡ y
unfolding ◌>>=◌ bind
item_put m f e d = rw e d

-- ---- runs

-- what follows does not go on with the run
abbrev pub Stops : (ℕ → Bool) → Bytes → Type 0
Stops p [] = Unit {0}
Stops p (b ∷ bs) = p b ≡ false

pub run_past : (p : ℕ → Bool) (bs : Bytes) → run p bs ++ past p bs ≡ bs
unfolding run past
run_past p [] = refl
run_past p (b ∷ bs) = go (p b) (run_past p bs)
  where
    go : (t : Bool) → run p bs ++ past p bs ≡ bs → cond t (b ∷ run p bs) [] ++ cond t (past p bs) (b ∷ bs) ≡ b ∷ bs
    go true e = ap (λ l. b ∷ l) e
    go false e = refl

pub run_every : (p : ℕ → Bool) (bs : Bytes) → T (every p (run p bs))
unfolding run every
run_every p [] = tt
run_every p (b ∷ bs) = go (p b) refl (run_every p bs)
  where
    go : (t : Bool) → p b ≡ t → T (every p (run p bs)) → T (every p (cond t (b ∷ run p bs) []))
    go true e h = rw e h
    go false e h = tt

pub run_put : (p : ℕ → Bool) (w rest : Bytes) → T (every p w) → Stops p rest → run p (w ++ rest) ≡ w
unfolding run every
run_put p [] [] h s = refl
run_put p [] (b ∷ bs) h s = rw s
run_put p (b ∷ w) rest h s = rw (T_true (p b) (search parts), run_put p w rest (and_r (p b) (every p w) h) s)

pub past_put : (p : ℕ → Bool) (w rest : Bytes) → T (every p w) → Stops p rest → past p (w ++ rest) ≡ rest
unfolding past every
past_put p [] [] h s = refl
past_put p [] (b ∷ bs) h s = rw s
past_put p (b ∷ w) rest h s = rw (T_true (p b) (search parts)) (past_put p w rest (and_r (p b) (every p w) h) s)

-- ---- words

pub stops_plain : {rest : Bytes} → Follows rest → Stops plain rest
unfolding plain
stops_plain space = refl
stops_plain close = refl

module _ {H : Type 0} (word : H → Bytes) (hs : List H) where
  -- a word of the table, that the table does not take for another
  abbrev pub Known : H → Type 0
  Known h = (among word hs (word h) ≡ some h) × T (every plain (word h))

  pub word_put : (h : H) {rest : Bytes} → Known h → Follows rest → read_word word hs (word h ++ rest) ≡ some (record { what = h; left = rest })
  unfolding read_word bind
  word_put h {rest} k f = rw (run_put plain (word h) rest k.1 (stops_plain f), past_put plain (word h) rest k.1 (stops_plain f), k.0)

  pub head_put : (h : H) {rest : Bytes} → Known h → Follows rest → read_head word hs (put_open (word h) rest) ≡ some (record { what = h; left = rest })
  unfolding read_head put_open
  head_put h k f = byte_put 40 _ (word_put h k f)

module _ {H : Type 0} (word : H → Bytes) where
  among_read : (hs : List H) (w : Bytes) (h : H) → among word hs w ≡ some h → word h ≡ w
  unfolding among
  among_read [] w h e = absurd (none-ne-some h e)
  among_read (g ∷ hs) w h e =
      cond_cases (same_list (word g) w) (some g) (among word hs w) e
      (λ t d. done (λ x. word x ≡ w) d (same_list→eq (word g) w t)) (λ t d. among_read hs w h d)

  pub word_read : (hs : List H) → Reads (λ h. true) (λ h rest. word h ++ rest) (read_word word hs)
  unfolding read_word
  word_read hs =
      record {
        taken = λ bs r e. from _ _ e (λ h p q.
            done (λ x. Printed (λ h. true) (λ h rest. word h ++ rest) bs x) q (tt, sym (run_past plain bs) ∙ ap (λ w. w ++ past plain bs) (sym (among_read hs (run plain bs) h p))));
      }

  pub head_read : (hs : List H) → Reads (λ h. true) (λ h rest. put_open (word h) rest) (read_head word hs)
  unfolding read_head put_open
  head_read hs = byte_step 40 _ (record { taken = λ bs r e. (tt, ap (λ l. 40 ∷ l) ((word_read hs).taken bs r e).1) })

pub open_put : (w : Bytes) {rest : Bytes} → T (every plain w) → Follows rest → read_open w (put_open w rest) ≡ some (record { what = w; left = rest })
unfolding read_open itself among
open_put w p f = head_put itself (w ∷ []) w (rw (T_true (same_list w w) (same_list_refl w)), p) f

-- a table of one word
pub lone_word : (w : Bytes) → Reads (λ o. true) (λ o rest. w ++ rest) (read_word itself (w ∷ []))
unfolding read_word among itself
lone_word w =
    record {
      taken = λ bs r e. from _ _ e (λ h p q.
          cond_cases (same_list w (run plain bs)) (some w) none p
          (λ t c. done (λ x. Printed (λ o. true) (λ o l. w ++ l) bs x) q (tt, sym (run_past plain bs) ∙ ap (λ v. v ++ past plain bs) (sym (same_list→eq w (run plain bs) t))))
          (λ t c. absurd (none-ne-some h c)));
    }

pub open_read : (w : Bytes) → Reads (λ o. true) (λ o rest. put_open w rest) (read_open w)
unfolding read_open read_head put_open
open_read w = byte_step 40 _ (record { taken = λ bs r e. (tt, ap (λ l. 40 ∷ l) ((lone_word w).taken bs r e).1) })
