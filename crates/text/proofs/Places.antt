-- What readers read at a place of a text, by what the code finds there.
use mathlib.Core.Path.{◌≡◌, refl, sym, ap, ◌∙◌}
use mathlib.Core.List.{[], ◌∷◌}
use mathlib.Core.Bool.{Bool, true, false, ◌&&◌, not, cond}
use mathlib.Core.Option.{none, some, none-ne-some}
use Prim.Native.Nat.{ℕ, ◌+◌, ◌^◌, ◌<◌}
use native.Mathlib.Omega.{arith}
use native.Mathlib.Numerals.{add-one}
use lib.Dec.{T, eqb, ltb, ltb→lt, leb}
use lib.ListN.{length, drop, get_or, drop_of_length-le}
use lib.Seq.{drop-cons}
use mir.Syntax.{w64}
use mir.Val.{Fits}
use borrow.Author.Tests.{eq-eqb, ne_eqb, ltb-true, ltb-false, le-leb, lt-leb}
use Rattle.lists.specs.Lists.{empty?, same_list}
use Rattle.lists.proofs.Laws.{cond_cases}
use Rattle.syntax.specs.Grammar.{Bytes, bytes, eq, stream, grant, clock, row, clear, caller, ask, line, op_word, verb_word}
use Rattle.syntax.specs.Readers.{Read, bind, ensure, ◌>>◌, byte, run, past, plain, among, read_word, read_head, itself, read_open, word_opens}
use Rattle.syntax.proofs.Steps.{from, done}
use Rattle.text.specs.Words.{code_of, name_of}
use Rattle.text.specs.Keywords.{keyword?, closes_at, keywords_compute}
use Rattle.text.specs.Readings.{whole, closed}
use Rattle.text.proofs.Codes.{word_above, word_back}
use Rattle.text.proofs.Runs.{inside}

-- ---- bytes

pub byte_here : (s : Bytes) (i : ℕ) {b : ℕ} → i < length s → get_or s i 0 ≡ b → drop i s ≡ b ∷ drop (i + 1) s
byte_here s i {b} h e = drop-cons s i 0 h ∙ rw (e, add-one i)

module _ (s : Bytes) (p : ℕ) {b : ℕ} (e : b ≡ get_or s p 0) where
  pub byte_inside : {k : ℕ} → b ≡ k → 0 < k → p < length s
  byte_inside d h = inside s p (omega arith)

  -- there is a place after it
  pub next_fits : {k : ℕ} → b ≡ k → T (ltb 0 k) → length s < 2 ^ 64 → Fits w64 (p + 1)
  next_fits {k} d t h = let l = ltb→lt 0 k t in let i = byte_inside d l in record { fits = omega arith }

  pub byte_is : (k : ℕ) → b ≡ k → 0 < k → byte k (drop p s) ≡ some (record { what = tt; left = drop (p + 1) s })
  unfolding byte ensure
  byte_is k d h = rw (byte_here s p (byte_inside d h) (sym e ∙ d), eq-eqb k k refl)

  pub byte_not : (k : ℕ) → (b ≡ k → ⊥) → byte k (drop p s) ≡ none
  unfolding byte ensure
  byte_not k f = go (ltb p (length s)) refl
    where
      go : (t : Bool) → ltb p (length s) ≡ t → byte k (drop p s) ≡ none
      go true t = rw (byte_here s p (ltb-true p (length s) t) refl, ne_eqb k (get_or s p 0) (λ d. f (e ∙ sym d)))
      go false t = rw (drop_of_length-le s (ltb-false p (length s) t))

  -- a space, and a closing bracket
  pub space_is : b ≡ 32 → byte 32 (drop p s) ≡ some (record { what = tt; left = drop (p + 1) s })
  space_is d = byte_is 32 d (omega arith)

  pub space_not : (b ≡ 32 → ⊥) → byte 32 (drop p s) ≡ none
  space_not f = byte_not 32 f

  pub close_is : b ≡ 41 → byte 41 (drop p s) ≡ some (record { what = tt; left = drop (p + 1) s })
  close_is d = byte_is 41 d (omega arith)

-- ---- keywords

-- a number is the code of a keyword
pub record Spells (c : ℕ) (w : Bytes) : Type 0 where
  pub keyword : T (keyword? w)
  pub code : c ≡ code_of w

pub spelt_name : {c : ℕ} {w : Bytes} → Spells c w → name_of c ≡ w
spelt_name {w} k = ap name_of k.code ∙ word_back w k.keyword

pub spelt_above : {c : ℕ} {w : Bytes} → Spells c w → 0 < c
spelt_above {w} k = let h = word_above w k.keyword in let e = k.code in omega arith

-- an opening bracket and a keyword, as readers see them
pub open_what : (w bs : Bytes) (r : Read Bytes) → read_open w bs ≡ some r → r.what ≡ w
unfolding read_open read_head read_word ◌>>◌ among itself
open_what w bs r e =
    from _ _ e (λ b p q. from _ _ q (λ h u v. cond_cases (same_list w (run plain b.left)) (some w) none u
    (λ t d. done (λ x. x.what ≡ w) v (done (λ x. x ≡ w) d refl)) (λ t d. absurd (none-ne-some h d))))

pub opens_not : (w bs : Bytes) → read_open w bs ≡ none → word_opens w bs ≡ false
unfolding word_opens read_open read_head read_word ◌>>◌ byte ensure bind among itself
opens_not w [] e = refl
opens_not w (b ∷ bs) e = go (eqb 40 b) (same_list w (run plain bs)) refl e
  where
    go : (x y : Bool) → same_list w (run plain bs) ≡ y
        → bind {B = Read Bytes} (ensure {A = Read (Unit {0})} x (record { what = tt; left = bs })) (λ a. bind (cond (same_list w (run plain a.left)) (some w) none) (λ h. some (record { what = h; left = past plain a.left }))) ≡ none
        → (x && y) ≡ false
    go true true f e = absurd (none-ne-some _ (sym (rw f at e)))
    go true false f e = refl
    go false y f e = refl

pub opens_is : (w bs : Bytes) (r : Read Bytes) → read_open w bs ≡ some r → word_opens w bs ≡ true
unfolding word_opens read_open read_head read_word ◌>>◌ byte ensure bind among itself
opens_is w [] r e = absurd (none-ne-some r e)
opens_is w (b ∷ bs) r e = go (eqb 40 b) (same_list w (run plain bs)) refl e
  where
    go : (x y : Bool) → same_list w (run plain bs) ≡ y → bind (ensure {A = Read (Unit {0})} x (record { what = tt; left = bs })) (λ a. bind (cond (same_list w (run plain a.left)) (some w) none) (λ h. some (record { what = h; left = past plain a.left }))) ≡ some r → (x && y) ≡ true
    go true true f e = refl
    go true false f e = absurd (none-ne-some r (rw f at e))
    go false y f e = absurd (none-ne-some r e)

-- ---- the end of a text

module _ (s : Bytes) (e : ℕ) where
  ended : empty? (drop e s) ≡ leb (length s) e
  unfolding empty?
  ended = go (ltb e (length s)) refl
    where
      go : (b : Bool) → ltb e (length s) ≡ b → empty? (drop e s) ≡ leb (length s) e
      go true t = let l = ltb-true e (length s) t in rw (byte_here s e l refl, lt-leb (length s) e l)
      go false t = let l = ltb-false e (length s) t in rw (drop_of_length-le s l, le-leb (length s) e l)

  pub whole_some : {A : Type 0} (a : A) → whole (some (record { what = a; left = drop e s })) ≡ cond (leb (length s) e) (some a) none
  unfolding whole bind ensure
  whole_some a = rw ended (go (leb (length s) e))
    where
      go : (b : Bool) → ensure b a ≡ cond b (some a) none
      go true = refl
      go false = refl

  pub closed_some : {A : Type 0} (b : A) → closed (some (record { what = b; left = drop e s })) ≡ cond (closes_at s e) (some b) none
  unfolding closed bind closes_at byte ensure empty? same_list
  closed_some b = go (drop e s)
    where
      go : (l : Bytes) → bind (byte 41 l) (λ c. ensure (empty? c.left) b) ≡ cond (same_list (41 ∷ []) l) (some b) none
      go [] = refl
      go (x ∷ xs) = first (eqb 41 x) xs
        where
          first : (y : Bool) (xs : Bytes) → bind (ensure {A = Read (Unit {0})} y (record { what = tt; left = xs })) (λ c. ensure (empty? c.left) b) ≡ cond (y && same_list [] xs) (some b) none
          first true [] = refl
          first true (x ∷ xs) = refl
          first false xs = refl

  -- by what the code says of the end
  pub closed_is : {A : Type 0} {c : Bool} (b : A) → c ≡ closes_at s e → not c ≡ false → closed (some (record { what = b; left = drop e s })) ≡ some b
  closed_is {c} b d h = closed_some b ∙ rw (sym d) (go c h)
    where
      go : (x : Bool) → not x ≡ false → cond x (some b) none ≡ some b
      go true h = refl
      go false h = absurd (let k : ◌≡◌ {A = ℕ} 0 1 = cc in omega arith)

  pub closed_not : {A : Type 0} {c : Bool} (b : A) → c ≡ closes_at s e → not c ≡ true → closed (some (record { what = b; left = drop e s })) ≡ none
  closed_not {c} b d h = closed_some b ∙ rw (sym d) (go c h)
    where
      go : (x : Bool) → not x ≡ true → cond x (some b) none ≡ none
      go true h = absurd (let k : ◌≡◌ {A = ℕ} 0 1 = cc in omega arith)
      go false h = refl

pub whole_none : {A : Type 0} → whole {A = A} none ≡ none
unfolding whole bind
whole_none = refl

pub closed_none : {A : Type 0} → closed {A = A} none ≡ none
unfolding closed bind
closed_none = refl

-- ---- the keywords of lines and of their parts

pub stream_word : Spells 0x73747265616d (verb_word stream)
unfolding keywords_compute
stream_word = record { keyword = tt; code = refl }

pub grant_word : Spells 0x6772616e74 (verb_word grant)
unfolding keywords_compute
grant_word = record { keyword = tt; code = refl }

pub clock_word : Spells 0x636c6f636b (verb_word clock)
unfolding keywords_compute
clock_word = record { keyword = tt; code = refl }

pub row_word : Spells 0x726f77 (verb_word row)
unfolding keywords_compute
row_word = record { keyword = tt; code = refl }

pub clear_word : Spells 0x636c656172 (verb_word clear)
unfolding keywords_compute
clear_word = record { keyword = tt; code = refl }

pub caller_word : Spells 0x63616c6c6572 (verb_word caller)
unfolding keywords_compute
caller_word = record { keyword = tt; code = refl }

pub ask_word : Spells 0x61736b (verb_word ask)
unfolding keywords_compute
ask_word = record { keyword = tt; code = refl }

pub line_word : Spells 0x6c696e65 (verb_word line)
unfolding keywords_compute
line_word = record { keyword = tt; code = refl }

pub equal_word : Spells 0x3d (op_word eq)
unfolding keywords_compute
equal_word = record { keyword = tt; code = refl }

pub of_word : Spells 0x6f66 (bytes "of")
unfolding keywords_compute
of_word = record { keyword = tt; code = refl }

pub show_word : Spells 0x73686f77 (bytes "show")
unfolding keywords_compute
show_word = record { keyword = tt; code = refl }

pub when_word : Spells 0x7768656e (bytes "when")
unfolding keywords_compute
when_word = record { keyword = tt; code = refl }

pub from_word : Spells 0x66726f6d (bytes "from")
unfolding keywords_compute
from_word = record { keyword = tt; code = refl }

pub to_word : Spells 0x746f (bytes "to")
unfolding keywords_compute
to_word = record { keyword = tt; code = refl }

pub window_word : Spells 0x77696e646f77 (bytes "window")
unfolding keywords_compute
window_word = record { keyword = tt; code = refl }

pub roles_word : Spells 0x726f6c6573 (bytes "roles")
unfolding keywords_compute
roles_word = record { keyword = tt; code = refl }

pub self_word : Spells 0x73656c66 (bytes "self")
unfolding keywords_compute
self_word = record { keyword = tt; code = refl }

pub ruleset spelt = (stream_word, grant_word, clock_word, row_word, clear_word, caller_word, of_word, show_word, when_word, from_word, to_word, window_word, roles_word, self_word, ask_word, line_word, equal_word)
