-- Keywords: a word's code is a keyword's exactly where their letters are the same.
use mathlib.Core.Path.{◌≡◌, refl, sym, ap, ◌∙◌, subst}
use mathlib.Core.List.{List, [], ◌∷◌}
use mathlib.Core.Bool.{Bool, true, false, ◌&&◌, not, cond}
use mathlib.Core.Option.{none, some}
use Prim.Native.Nat.{ℕ, suc, ◌+◌, ◌-◌, ◌≤◌, ◌<◌}
use native.Mathlib.Omega.{arith}
use lib.Dec.{T, eqb, ltb, lt→ltb}
use lib.ListN.{length, take, drop, get_or, drop_of_length-le}
use lib.Seq.{get_or-drop, drop-cons}
use mir.Syntax.{w64}
use mir.Val.{Fits}
use borrow.Author.Tests.{eq-eqb, ne_eqb, le-leb, lt-ltb, le-ltb, eqb-true, eqb-false, ltb-true, ltb-false}
use Rattle.lists.specs.Lists.{All, all_nil, all_cons, every, same_list}
use Rattle.lists.proofs.Laws.{parts, all_head, all_tail, all_weaken, all_every, same_list→eq, T_true}
use Rattle.syntax.specs.Grammar.{Bytes, right_word, right_number}
use Rattle.syntax.specs.Readers.{bind, ◌>>◌, byte, run, plain, among, read_word, read_head, itself, read_open, head_word, heads, rights, kind_word, kinds}
use Rattle.syntax.specs.Limits.{short}
use Rattle.text.specs.declared.Class.TheVariants.{Plain}
use Rattle.text.specs.declared.Word.{Word}
use Rattle.text.specs.declared.Unread.{Unread}
use Rattle.text.specs.declared.Unread.TheVariants.{TooLong, Malformed}
use Rattle.text.specs.Words.{Found, Some, None, seen, left_at, read_end, class_of, run_end, code_of, name_of}
use Rattle.text.specs.Keywords.{Result, Err, ok_or, word_code, octet, keyword?, word_found, coded, head_number, head_given, right_given, kind_number, form_given, opening_end, part_end, closes_at, line_after, keywords_compute}
use Rattle.text.proofs.Codes.{T_never, Octets, word_length, word_above, words_same, code_back, code_keyword}
use Rattle.text.proofs.Runs.{first_byte, inside, run_head, run_from, run_length, run_word, run_within, run_left, place_left}
use Rattle.text.proofs.Views.{no_some, skip_none, skip_is}

-- ---- the code of a word

-- a word is a keyword, or its code is 0
pub code_cases : {X : Type 0} (w : Bytes) → T (every octet w) → (T (keyword? w) → word_code w ≡ code_of w → X) → (keyword? w ≡ false → word_code w ≡ 0 → X) → X
unfolding word_code keyword?
code_cases [] o f g = g refl refl
code_cases {X} (b ∷ w) o f g = go (eqb b 0) (short (b ∷ w)) (every octet (b ∷ w)) o f g
  where
    go : (x y z : Bool) → T z → (T (not x && y && z) → cond x 0 (cond y (code_of (b ∷ w)) 0) ≡ code_of (b ∷ w) → X) → ((not x && y && z) ≡ false → cond x 0 (cond y (code_of (b ∷ w)) 0) ≡ 0 → X) → X
    go true y z o f g = g refl refl
    go false true true o f g = f tt refl
    go false true false o f g = absurd o
    go false false z o f g = g refl refl

pub same_word : (v w : Bytes) → T (keyword? v) → T (every octet w) → same_list v w ≡ eqb (code_of v) (word_code w)
same_word v w k o =
    code_cases w o (λ l e. rw e (words_same v w k l))
    (λ l e.
    let a = word_above v k in
    rw (e, ne_eqb (code_of v) 0 (λ z. omega arith))
    (T_never (same_list v w) (λ t. let q : T (keyword? w) = subst (λ u. T (keyword? u)) (same_list→eq v w t) k in let z = rw l at q in z)))

-- tables of keywords by codes
pub among_coded : {H : Type 0} (word : H → Bytes) (hs : List H) (w : Bytes) → T (every (λ h. keyword? (word h)) hs) → T (every octet w) → among word hs w ≡ coded word hs (word_code w)
unfolding every among coded
among_coded word [] w k o = refl
among_coded word (h ∷ hs) w k o = rw (same_word (word h) w (search parts) o, among_coded word hs w (search parts) o)

-- a number's bytes are a word where the number is the word's code
pub named_word : (c : ℕ) (w : Bytes) → 0 < c → c < 18446744073709551616 → T (every octet w) → same_list (name_of c) w ≡ eqb c (word_code w)
named_word c w p h o = same_word (name_of c) w (code_keyword c p h) o ∙ ap (λ n. eqb n (word_code w)) (code_back c h)

-- ---- numbers of heads, rights and forms, by the arms of a `match`

-- x is none of the numbers: what the last arm knows
abbrev NoneFrom : Type 0 → List ℕ → ℕ → Type 0
NoneFrom A [] x = A
NoneFrom A (y ∷ ys) x = NoneFrom (A × (x ≡ y → ⊥)) ys x

none_before : (A : Type 0) (ys : List ℕ) (x : ℕ) → NoneFrom A ys x → A
none_before A [] x h = h
none_before A (y ∷ ys) x h = (none_before (A × (x ≡ y → ⊥)) ys x h).0

none_each : (A : Type 0) (ys : List ℕ) (x : ℕ) → NoneFrom A ys x → All (λ y. x ≡ y → ⊥) ys
none_each A [] x h = all_nil
none_each A (y ∷ ys) x h = all_cons (none_before (A × (x ≡ y → ⊥)) ys x h).1 (none_each (A × (x ≡ y → ⊥)) ys x h)

unfoldable codes : {H : Type 0} → (H → Bytes) → List H → List ℕ
codes word [] = []
codes word (h ∷ hs) = code_of (word h) ∷ codes word hs

none_coded : {H : Type 0} (word : H → Bytes) (hs : List H) (x : ℕ) → All (λ y. x ≡ y → ⊥) (codes word hs) → coded word hs x ≡ none
unfolding codes coded
none_coded word [] x h = refl
none_coded word (k ∷ hs) x h = rw (ne_eqb (code_of (word k)) x (λ e. all_head h (sym e)), none_coded word hs x (all_tail h))

pub head_arm : {x y : ℕ} {n : Found ℕ} → x ≡ y → n ≡ head_given y → n ≡ head_given x
head_arm e f = rw e f

pub head_none : (x : ℕ) → NoneFrom (Unit {0}) (0x3d ∷ 0x2f3d ∷ 0x3c ∷ 0x3c3d ∷ 0x3e ∷ 0x3e3d ∷ 0x616e64 ∷ 0x6f72 ∷ 0x6e6f74 ∷ []) x → None ≡ head_given x
unfolding keywords_compute codes
head_none x h = sym (ap (seen head_number) (none_coded head_word heads x (none_each (Unit {0}) (codes head_word heads) x h)))

pub right_arm : {x y : ℕ} {n : Found ℕ} → x ≡ y → n ≡ right_given y → n ≡ right_given x
right_arm e f = rw e f

pub right_none : (x : ℕ) → NoneFrom (Unit {0}) (0x72656164 ∷ 0x6d696e ∷ 0x6d6178 ∷ 0x636f756e74 ∷ 0x617667 ∷ 0x73756d ∷ []) x → None ≡ right_given x
unfolding keywords_compute codes
right_none x h = sym (ap (seen right_number) (none_coded right_word rights x (none_each (Unit {0}) (codes right_word rights) x h)))

pub form_arm : {x y : ℕ} {n : Found ℕ} → x ≡ y → n ≡ form_given y → n ≡ form_given x
form_arm e f = rw e f

pub form_none : (x : ℕ) → NoneFrom (Unit {0}) (0x696e ∷ 0x7069636b ∷ 0x6b656570 ∷ 0x6a6f696e ∷ 0x6d696e ∷ 0x6d6178 ∷ 0x636f756e74 ∷ 0x617667 ∷ 0x73756d ∷ []) x → None ≡ form_given x
unfolding keywords_compute codes
form_none x h = sym (ap (seen kind_number) (none_coded kind_word kinds x (none_each (Unit {0}) (codes kind_word kinds) x h)))

-- ---- the word at a place, as the code finds it

octets_list : (bs : Bytes) → ((i : ℕ) → get_or bs i 0 < 256) → Octets bs
octets_list [] f = all_nil
octets_list (b ∷ bs) f = all_cons (f 0) (octets_list bs (λ i. f (suc i)))

octets_run : (p : ℕ → Bool) {bs : Bytes} → Octets bs → Octets (run p bs)
unfolding run
octets_run p all_nil = all_nil
octets_run p (all_cons {x} {xs} h hs) = go (p x) (octets_run p hs)
  where
    go : (b : Bool) → Octets (run p xs) → Octets (cond b (x ∷ run p xs) [])
    go true i = all_cons h i
    go false i = all_nil

pub narrow_at : (s : Bytes) (at : ℕ) → ((i : ℕ) → get_or s i 0 < 256) → T (every octet (run plain (drop at s)))
unfolding octet
narrow_at s at o = all_every octet (all_weaken (λ b h. lt→ltb b 256 h) (octets_run plain (octets_list (drop at s) (λ i. rw (get_or-drop at s i 0) (o (at + i))))))

-- a word that is empty, begins with a byte 0 or has more than eight bytes is no keyword
keyword_none : keyword? [] ≡ false
unfolding keyword?
keyword_none = refl

keyword_zero : (w : Bytes) → ((b : ℕ) (bs : Bytes) → w ≡ b ∷ bs → b ≡ 0) → keyword? w ≡ false
unfolding keyword?
keyword_zero [] f = refl
keyword_zero (b ∷ bs) f = rw (f b bs refl)

keyword_long : (w : Bytes) → 8 < length w → keyword? w ≡ false
keyword_long w h = T_never (keyword? w) (λ t. let l = word_length w t in omega arith)

keyword_here : (w : Bytes) → T (every octet w) → ((b : ℕ) (bs : Bytes) → w ≡ b ∷ bs → b ≡ 0 → ⊥) → length w ≤ 8 → 0 < length w → keyword? w ≡ true
unfolding keyword? short
keyword_here [] o f h p = absurd (omega arith)
keyword_here (b ∷ bs) o f h p = rw (ne_eqb b 0 (f b bs refl), le-leb (length (b ∷ bs)) 8 h, T_true (every octet (b ∷ bs)) o)

module _ (s : Bytes) (at : ℕ) where
  word_not : keyword? (run plain (drop at s)) ≡ false → None ≡ word_found s at
  unfolding word_found
  word_not e = rw e

  word_yes : {r : Word} → r ≡ record { code = code_of (run plain (drop at s)); next = run_end Plain s at } → keyword? (run plain (drop at s)) ≡ true → Some r ≡ word_found s at
  unfolding word_found
  word_yes d e = rw (e, d)

  -- what a word that was found is, or that there is none
  pub word_cases : {X : Type 0} (o : Found Word) → o ≡ word_found s at → (o ≡ None → keyword? (run plain (drop at s)) ≡ false → X)
      → (o ≡ Some (record { code = code_of (run plain (drop at s)); next = run_end Plain s at }) → T (keyword? (run plain (drop at s))) → X) → X
  unfolding word_found
  word_cases {X} o e f g = go (keyword? (run plain (drop at s))) refl e
    where
      go : (b : Bool) → keyword? (run plain (drop at s)) ≡ b → o ≡ cond b (Some (record { code = code_of (run plain (drop at s)); next = run_end Plain s at })) None → X
      go true t d = g d (rw t tt)
      go false t d = f d t

  module _ {b : ℕ} (p : b ≡ get_or s at 0) where
    first : (x : ℕ) (xs : Bytes) → run plain (drop at s) ≡ x ∷ xs → x ≡ b
    first x xs f = run_head plain (drop at s) f ∙ first_byte s at ∙ sym p

    pub word_zero : b ≡ 0 → None ≡ word_found s at
    word_zero z = word_not (keyword_zero (run plain (drop at s)) (λ x xs f. first x xs f ∙ z))

    module _ {e : ℕ} (q : e ≡ run_end Plain s at) where
      pub word_from : at ≤ e
      word_from = run_from Plain s at q

      pub word_within : (b ≡ 0 → ⊥) → e ≤ length s
      word_within n = let h = inside s at (omega arith) in run_within Plain s at q (omega arith)

      size : e - at ≡ length (run plain (drop at s))
      unfolding class_of
      size = run_length Plain s at q

      pub word_empty : e ≡ at → None ≡ word_found s at
      word_empty z = let l = size in word_not (go (run plain (drop at s)) (omega arith))
        where
          go : (w : Bytes) → length w ≡ 0 → keyword? w ≡ false
          go [] h = keyword_none
          go (x ∷ w) h = absurd (omega arith)

      pub word_long : 8 < e - at → None ≡ word_found s at
      word_long h = let l = size in word_not (keyword_long (run plain (drop at s)) (omega arith))

      pub word_short : ((i : ℕ) → get_or s i 0 < 256) → {c : ℕ} → (b ≡ 0 → ⊥) → (e ≡ at → ⊥) → e - at ≤ 8 → c ≡ code_of (take (e - at) (drop at s)) → Some (record { code = c; next = e }) ≡ word_found s at
      unfolding class_of
      word_short o n m h f =
          let l = size in
          let k = word_from in
          word_yes (rw (f, run_word Plain s at q, q)) (keyword_here (run plain (drop at s)) (narrow_at s at o) (λ x xs g z. n (sym (first x xs g) ∙ z)) (omega arith) (omega arith))

pub ruleset word_ends = (word_zero, word_from, word_within, word_empty, word_long)

-- ---- what the code has of a word tells what readers of words read

-- a table's word by a code
module _ {H : Type 0} (word : H → Bytes) where
  among_none : (hs : List H) (w : Bytes) → T (every (λ h. keyword? (word h)) hs) → keyword? w ≡ false → among word hs w ≡ none
  unfolding every among
  among_none [] w k e = refl
  among_none (h ∷ hs) w k e =
      let q : T (keyword? (word h)) = search parts in
      rw (T_never (same_list (word h) w) (λ t. let z : T false = subst T e (subst (λ u. T (keyword? u)) (same_list→eq (word h) w t) q) in z), among_none hs w (search parts) e)

  among_some : (hs : List H) (w : Bytes) → T (every (λ h. keyword? (word h)) hs) → T (keyword? w) → among word hs w ≡ coded word hs (code_of w)
  unfolding every among coded
  among_some [] w k t = refl
  among_some (h ∷ hs) w k t = rw (words_same (word h) w (search parts) t, among_some hs w (search parts) t)

  module _ (hs : List H) (k : T (every (λ h. keyword? (word h)) hs)) (s : Bytes) (p : ℕ) where
    pub table_none : None ≡ word_found s p → read_word word hs (drop p s) ≡ none
    unfolding read_word bind
    table_none e = word_cases s p None e (λ d t. rw (among_none hs (run plain (drop p s)) k t)) (λ d t. absurd (no_some d))

    pub table_some : {w : Word} → Some w ≡ word_found s p → read_word word hs (drop p s) ≡ bind (coded word hs w.code) (λ h. some (record { what = h; left = drop w.next s }))
    unfolding read_word class_of
    table_some {w} e =
        word_cases s p (Some w) e (λ d t. absurd (no_some (sym d)))
        (λ d t.
        let q : w ≡ record { code = code_of (run plain (drop p s)); next = run_end Plain s p } = cc in
        rw (q, among_some hs (run plain (drop p s)) k t, run_left Plain s p refl))

-- a word that was found is not empty, and ends in the text
pub found_within : (s : Bytes) (p : ℕ) {w : Word} → Some w ≡ word_found s p → w.next ≤ length s
unfolding run keyword?
found_within s p {w} e =
    word_cases s p (Some w) e (λ d t. absurd (no_some (sym d)))
    (λ d t.
    let q : w ≡ record { code = code_of (run plain (drop p s)); next = run_end Plain s p } = cc in
    rw q (go (ltb p (length s)) refl t))
  where
    go : (b : Bool) → ltb p (length s) ≡ b → T (keyword? (run plain (drop p s))) → run_end Plain s p ≤ length s
    go true l t = let h = ltb-true p (length s) l in run_within Plain s p refl (omega arith)
    go false l t = absurd (subst (λ bs. T (keyword? (run plain bs))) (drop_of_length-le s (ltb-false p (length s) l)) t)

-- and its code is not 0
found_above : (s : Bytes) (p : ℕ) {w : Word} → Some w ≡ word_found s p → 0 < w.code
found_above s p {w} e =
    word_cases s p (Some w) e (λ d t. absurd (no_some (sym d)))
    (λ d t. let q : w ≡ record { code = code_of (run plain (drop p s)); next = run_end Plain s p } = cc in rw q (word_above (run plain (drop p s)) t))

-- ---- an opening bracket and a word

module _ (s : Bytes) (at c : ℕ) where
  open_some : (c ≡ 0 → ⊥) → opening_end s at c ≡ read_end s (read_open (name_of c) (drop at s))
  unfolding opening_end
  open_some n = rw (ne_eqb c 0 n)

  open_none : (read_open (name_of c) (drop at s) ≡ none) → None ≡ opening_end s at c
  unfolding opening_end read_end seen
  open_none e = rw e (go (eqb c 0))
    where
      go : (b : Bool) → ◌≡◌ {A = Found ℕ} None (cond b None None)
      go true = refl
      go false = refl

  pub open_unopened : None ≡ read_end s (byte 40 (drop at s)) → None ≡ opening_end s at c
  unfolding read_open read_head ◌>>◌ bind
  open_unopened e = open_none (rw (skip_none s at 40 e))

  module _ {p : ℕ} (q : Some p ≡ read_end s (byte 40 (drop at s))) where
    open_after : read_open (name_of c) (drop at s) ≡ read_word itself (name_of c ∷ []) (drop p s)
    unfolding read_open read_head ◌>>◌ bind
    open_after = rw (skip_is s at 40 q)

    module _ (f : Fits w64 c) where
      known : (c ≡ 0 → ⊥) → T (every (λ h. keyword? (itself h)) (name_of c ∷ []))
      unfolding every itself
      known n = let h = f.fits in rw (T_true (keyword? (name_of c)) (code_keyword c (omega arith) (omega arith))) tt

      pub open_wordless : None ≡ word_found s p → None ≡ opening_end s at c
      unfolding opening_end
      open_wordless e = go (eqb c 0) refl
        where
          go : (b : Bool) → eqb c 0 ≡ b → None ≡ opening_end s at c
          go true z = rw z
          go false z = open_none (open_after ∙ table_none itself (name_of c ∷ []) (known (eqb-false c 0 z)) s p e)

      module _ {w : Word} (e : Some w ≡ word_found s p) where
        open_is : (c ≡ 0 → ⊥) → opening_end s at c ≡ cond (eqb c w.code) (Some w.next) None
        unfolding coded itself read_end seen left_at bind
        open_is n = open_some n ∙ rw (open_after, table_some itself (name_of c ∷ []) (known n) s p e, code_back c (let h = f.fits in omega arith)) (go (eqb c w.code))
          where
            go : (b : Bool) → read_end s (bind (cond b (some (name_of c)) none) (λ h. some (record { what = h; left = drop w.next s }))) ≡ cond b (Some w.next) None
            go true = let h = found_within s p e in ap Some (place_left s w.next h)
            go false = refl

        pub open_unlike : (w.code ≡ c → ⊥) → None ≡ opening_end s at c
        unfolding opening_end
        open_unlike n = go (eqb c 0) refl
          where
            go : (b : Bool) → eqb c 0 ≡ b → None ≡ opening_end s at c
            go true z = rw z
            go false z = sym (open_is (eqb-false c 0 z) ∙ rw (ne_eqb c w.code (λ e. n (sym e))))

        pub open_here : w.code ≡ c → Some w.next ≡ opening_end s at c
        open_here d = let h = found_above s p e in sym (open_is (λ z. omega arith) ∙ rw (eq-eqb c w.code (sym d)))

pub ruleset open_ends = (open_unopened, open_wordless, open_unlike, open_here)

-- ---- the same after a space

module _ (s : Bytes) (at c : ℕ) where
  pub part_unspaced : None ≡ read_end s (byte 32 (drop at s)) → None ≡ part_end s at c
  unfolding part_end
  part_unspaced e = rw (sym e)

  pub part_here : {p : ℕ} {r : Found ℕ} → Some p ≡ read_end s (byte 32 (drop at s)) → r ≡ opening_end s p c → r ≡ part_end s at c
  unfolding part_end
  part_here e d = rw (sym e) d

pub ruleset part_ends = (part_unspaced, part_here)

-- ---- a closing bracket at the end

module _ (s : Bytes) (at : ℕ) where
  pub close_over : length s ≤ at → false ≡ closes_at s at
  unfolding closes_at same_list
  close_over h = rw (drop_of_length-le s h)

  module _ (h : at < length s) where
    pub close_other : (get_or s at 0 ≡ 41 → ⊥) → false ≡ closes_at s at
    unfolding closes_at same_list
    close_other n = rw (drop-cons s at 0 h, ne_eqb 41 (get_or s at 0) (λ e. n (sym e)))

    pub close_here : get_or s at 0 ≡ 41 → eqb (at + 1) (length s) ≡ closes_at s at
    unfolding closes_at same_list
    close_here e = rw (drop-cons s at 0 h, e) (go (eqb (at + 1) (length s)) refl)
      where
        go : (b : Bool) → eqb (at + 1) (length s) ≡ b → b ≡ same_list [] (drop (suc at) s)
        go true f = let l = eqb-true (at + 1) (length s) f in let h : length s ≤ suc at = omega arith in rw (drop_of_length-le s h)
        go false f = let n = eqb-false (at + 1) (length s) f in rw (drop-cons s (suc at) 0 (omega arith))

pub ruleset close_ends = (close_over, close_other, close_here)

-- ---- a line

module _ (s : Bytes) (verb : ℕ) where
  pub line_long : 512 < length s → Err TooLong ≡ line_after s verb
  unfolding line_after
  line_long h = rw (lt-ltb 512 (length s) h)

  pub line_short : {r : Found ℕ} {o : Result ℕ Unread} → length s ≤ 512 → r ≡ opening_end s 0 verb → o ≡ ok_or r Malformed → o ≡ line_after s verb
  unfolding line_after
  line_short h e d = rw (le-ltb 512 (length s) h, sym e, d)

pub ruleset line_ends = (line_long, line_short)
