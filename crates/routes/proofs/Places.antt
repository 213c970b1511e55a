-- Opened grants by their places: which bits are set, and what stands there.
use mathlib.Core.Path.{◌≡◌, refl, sym, ap, ap₂, ◌∙◌, subst}
use mathlib.Core.List.{List, [], ◌∷◌, map}
use mathlib.Core.Bool.{Bool, true, false, ◌&&◌, ◌||◌, cond}
use Prim.Native.Nat.{ℕ, zero, suc, ◌+◌, ◌-◌, ◌≤◌, ◌<◌}
use native.Mathlib.Omega.{arith}
use lib.Dec.{T, eqb}
use lib.ListN.{length, get_or, set, length-set}
use lib.Seq.{get_or-set_same, get_or-set_other}
use borrow.Author.Tests.{eq-eqb, ne_eqb, lt-ltb}
use Rattle.lists.specs.Lists.{select, some?, count_from}
use Rattle.lists.proofs.Laws.{All, all_nil, all_cons, all_any, all_both, all_weaken, and_l, and_r}
use Rattle.lists.proofs.Counting.{count_left}
use Rattle.model.specs.Routes.{numbered}
use Rattle.model.proofs.OneRow.{select_same}
use Rattle.masks.specs.Masks.{bit?, with_bit}
use Rattle.masks.proofs.Lists.{bit_none}
use Rattle.rows.specs.Masks.{bits_from}
use Rattle.grant.specs.Grants.{grant_of, grant_sound}
use Rattle.grant.specs.Catalogues.{words_in, grants_from, sound_from}
use Rattle.grant.specs.declared.Grant.{Grant}
use Rattle.needs.specs.declared.Needs.{Needs}
use Rattle.routes.specs.declared.Open.{Open}
use Rattle.routes.specs.Opening.{belongs_in, side_opened, right_opened, pair_opened, figures_opened, opened_bits}
use Rattle.routes.specs.Listing.{none_open, bit_also, with_opened, caller_bits, open_from, open_all, places_in}
use Rattle.routes.proofs.Listed.{bit_with}

-- ---- grants with their places

pub record Slot : Type 0 where
  pub place : ℕ
  pub grant : Grant
  pub words : List ℕ

-- the numbers in a place of opened grants are those of a grant
pub record Held (o : Open) (i : ℕ) (g : Grant) : Type 0 where
  pub shown : get_or o.shown i 0 ≡ g.shown
  pub words : get_or o.words i 0 ≡ g.words
  pub from : get_or o.from i 0 ≡ g.from
  pub to : get_or o.to i 0 ≡ g.to

unfoldable pub slots : List ℕ → ℕ → List Grant → List Slot
slots ws i [] = []
slots ws i (g ∷ gs) = record { place = i; grant = g; words = words_in ws i } ∷ slots ws (suc i) gs

pub numbered_slots : (ns ws : List ℕ) (i : ℕ) (gs : List Grant) → numbered (suc i) (grants_from ns ws i gs) ≡ map (λ (s : Slot). record { no = suc s.place; grant = grant_of ns s.grant s.words }) (slots ws i gs)
unfolding numbered grants_from slots
numbered_slots ns ws i [] = refl
numbered_slots ns ws i (g ∷ gs) = ap (λ l. record { no = suc i; grant = grant_of ns g (words_in ws i) } ∷ l) (numbered_slots ns ws (suc i) gs)

pub sound_slots : (ns ws : List ℕ) (i : ℕ) (gs : List Grant) → T (sound_from ns ws i gs) → All (λ (s : Slot). T (grant_sound ns s.grant s.words)) (slots ws i gs)
unfolding sound_from slots
sound_slots ns ws i [] t = all_nil
sound_slots ns ws i (g ∷ gs) t =
    all_cons {x = record { place = i; grant = g; words = words_in ws i }} (and_l (grant_sound ns g (words_in ws i)) _ t) (sound_slots ns ws (suc i) gs (and_r (grant_sound ns g (words_in ws i)) _ t))

slots_from : (ws : List ℕ) (j i : ℕ) (gs : List Grant) → j ≤ i → All (λ (s : Slot). j ≤ s.place) (slots ws i gs)
unfolding slots
slots_from ws j i [] h = all_nil
slots_from ws j i (g ∷ gs) h = all_cons {x = record { place = i; grant = g; words = words_in ws i }} h (slots_from ws j (suc i) gs (omega arith))

-- places are those of grants
pub slots_below : (ws : List ℕ) (i : ℕ) (gs : List Grant) → All (λ (s : Slot). s.place < i + length gs) (slots ws i gs)
unfolding slots
slots_below ws i [] = all_nil
slots_below ws i (g ∷ gs) = all_cons {x = record { place = i; grant = g; words = words_in ws i }} (omega arith) (all_weaken (λ s h. omega arith) (slots_below ws (suc i) gs))

-- a place's grant and words
pub slots_at : (ws : List ℕ) (z : Grant) (i : ℕ) (gs : List Grant) → All (λ (s : Slot). (s.grant ≡ get_or gs (s.place - i) z) × (s.words ≡ words_in ws s.place)) (slots ws i gs)
unfolding slots
slots_at ws z i [] = all_nil
slots_at ws z i (g ∷ gs) =
    let e : i - i ≡ 0 = omega arith in
    all_cons {x = record { place = i; grant = g; words = words_in ws i }} (sym (ap (λ k. get_or (g ∷ gs) k z) e), refl)
    (all_weaken (λ s h. (h.0.0 ∙ next s h.1, h.0.1)) (all_both (slots_at ws z (suc i) gs) (slots_from ws (suc i) (suc i) gs (omega arith))))
  where
    next : (s : Slot) → suc i ≤ s.place → get_or gs (s.place - suc i) z ≡ get_or (g ∷ gs) (s.place - i) z
    next s h = let e : s.place - i ≡ suc (s.place - suc i) = omega arith in sym (ap (λ k. get_or (g ∷ gs) k z) e)

-- ---- bits

also_bit : (bits k mask p j : ℕ) → p < 24 → bit? (bit_also bits k mask p) j ≡ (bit? mask j || (bit? bits k && eqb p j))
unfolding bit_also
also_bit bits k mask p j h = go (bit? bits k)
  where
    or_false : (b : Bool) → b ≡ (b || false)
    or_false true = refl
    or_false false = refl

    go : (b : Bool) → bit? (cond b (with_bit mask p) mask) j ≡ (bit? mask j || (b && eqb p j))
    go true = bit_with mask p j (omega arith)
    go false = or_false (bit? mask j)

or_assoc : (a b c : Bool) → ((a || b) || c) ≡ (a || (b || c))
or_assoc true b c = refl
or_assoc false b c = refl

module _ (n : Needs) (ws roles profile : List ℕ) where
  abbrev pub bits_at : Slot → ℕ
  bits_at s = caller_bits n s.grant s.words roles profile

  -- one of the masks, and the bit by which a grant goes into it
  module _ (field : Open → ℕ) (k : ℕ) (law : (o : Open) (p bits : ℕ) (g : Grant) → p < 24 → field (with_opened o p bits g) ≡ bit_also bits k (field o) p)
      (test : Slot → Bool) (is : (s : Slot) → bit? (bits_at s) k ≡ test s) where
    -- a place is that of one of the grants that pass the test
    abbrev stands : ℕ → List Grant → ℕ → Bool
    stands i gs j = some? (λ (s : Slot). test s && eqb s.place j) (slots ws i gs)

    open_bit : (i : ℕ) (gs : List Grant) (o : Open) (j : ℕ) → i + length gs ≤ 24 → bit? (field (open_from n ws roles profile i gs o)) j ≡ (bit? (field o) j || stands i gs j)
    unfolding open_from slots some?
    open_bit i [] o j h = none (bit? (field o) j)
      where
        none : (b : Bool) → b ≡ (b || false)
        none true = refl
        none false = refl
    open_bit i (g ∷ gs) o j h =
        open_bit (suc i) gs (with_opened o i (caller_bits n g (words_in ws i) roles profile) g) j (omega arith)
        ∙ ap (λ b. b || stands (suc i) gs j)
        (ap (λ (m : ℕ). bit? m j) (law o i (caller_bits n g (words_in ws i) roles profile) g (omega arith)) ∙ also_bit (caller_bits n g (words_in ws i) roles profile) k (field o) i j (omega arith)
        ∙ ap (λ b. bit? (field o) j || (b && eqb i j)) (is (record { place = i; grant = g; words = words_in ws i })))
        ∙ or_assoc (bit? (field o) j) (test (record { place = i; grant = g; words = words_in ws i }) && eqb i j) (stands (suc i) gs j)

    -- places past a place are not it
    none_before : (j i : ℕ) (gs : List Grant) → j < i → stands i gs j ≡ false
    none_before j i gs h = go (slots_from ws i i gs (omega arith))
      where
        and_none : (b : Bool) → (b && false) ≡ false
        and_none true = refl
        and_none false = refl

        go : {ss : List Slot} → All (λ (s : Slot). i ≤ s.place) ss → some? (λ (s : Slot). test s && eqb s.place j) ss ≡ false
        go all_nil = unfold some? in refl
        go (all_cons {x} {xs} e es) = more x xs e (go es)
          where
            more : (x : Slot) (xs : List Slot) → i ≤ x.place → some? (λ (s : Slot). test s && eqb s.place j) xs ≡ false → some? (λ (s : Slot). test s && eqb s.place j) (x ∷ xs) ≡ false
            more x xs e r = unfold some? in ap₂ ◌||◌ (ap (λ b. test x && b) (ne_eqb x.place j (λ f. omega arith)) ∙ and_none (test x)) r

    counted_past : (i m : ℕ) → All (λ j. i < j) (count_from (suc i) m)
    counted_past i m = go i (suc i) m (omega arith)
      where
        go : (i a m : ℕ) → i < a → All (λ j. i < j) (count_from a m)
        go i a zero h = unfold count_from in all_nil
        go i a (suc m) h = step i a m h (go i (suc a) m (omega arith))
          where
            step : (i a m : ℕ) → i < a → All (λ j. i < j) (count_from (suc a) m) → All (λ j. i < j) (count_from a (suc m))
            step i a m h r = unfold count_from in all_cons h r

    -- the places of the grants that pass the test, in their order
    places_are : (i m : ℕ) (gs : List Grant) → i + length gs ≤ m → select (stands i gs) (count_from i (m - i)) ≡ map (λ (s : Slot). s.place) (select test (slots ws i gs))
    unfolding slots select some?
    places_are i m [] h = none (count_from i (m - i))
      where
        none : (js : List ℕ) → select (λ j. false) js ≡ []
        none [] = refl
        none (j ∷ js) = none js
    places_are i m (g ∷ gs) h =
        ap (select (stands i (g ∷ gs))) (count_left i m (omega arith))
        ∙ go (test s₀) refl (rest ∙ ap (λ k. select (stands (suc i) gs) (count_from k (m - k))) e ∙ places_are (suc i) m gs (omega arith))
      where
        s₀ : Slot
        s₀ = record { place = i; grant = g; words = words_in ws i }

        e : i + 1 ≡ suc i
        e = omega arith

        rest : select (stands i (g ∷ gs)) (count_from (i + 1) (m - (i + 1))) ≡ select (stands (suc i) gs) (count_from (i + 1) (m - (i + 1)))
        rest =
            select_same (stands i (g ∷ gs)) (stands (suc i) gs)
            (subst (λ k. All (λ j. stands i (g ∷ gs) j ≡ stands (suc i) gs j) (count_from k (m - (i + 1)))) (sym e)
            (all_weaken (λ j l. ap (λ b. b || stands (suc i) gs j) (ap (λ b. test s₀ && b) (ne_eqb i j (λ f. omega arith)) ∙ and_none (test s₀))) (counted_past i (m - (i + 1)))))
          where
            and_none : (b : Bool) → (b && false) ≡ false
            and_none true = refl
            and_none false = refl

        here : stands i (g ∷ gs) i ≡ test s₀
        here = ap₂ ◌||◌ (ap (λ b. test s₀ && b) (eq-eqb i i refl)) (none_before i (suc i) gs (omega arith)) ∙ lone (test s₀)
          where
            lone : (b : Bool) → ((b && true) || false) ≡ b
            lone true = refl
            lone false = refl

        go : (b : Bool) → test s₀ ≡ b → select (stands i (g ∷ gs)) (count_from (i + 1) (m - (i + 1))) ≡ map (λ (s : Slot). s.place) (select test (slots ws (suc i) gs))
            → select (stands i (g ∷ gs)) (i ∷ count_from (i + 1) (m - (i + 1))) ≡ map (λ (s : Slot). s.place) (cond (test s₀) (s₀ ∷ select test (slots ws (suc i) gs)) (select test (slots ws (suc i) gs)))
        go true f r = rw (here ∙ f, f) (ap (λ l. i ∷ l) r)
        go false f r = rw (here ∙ f, f) r

    pub bits_placed : (gs : List Grant) (o : Open) → length gs ≤ 24 → field o ≡ 0 → places_in (field (open_from n ws roles profile 0 gs o)) ≡ map (λ (s : Slot). s.place) (select test (slots ws 0 gs))
    unfolding bits_from
    bits_placed gs o h e =
        select_same _ _ (all_weaken (λ j u. open_bit 0 gs o j (omega arith) ∙ ap (λ b. b || stands 0 gs j) (ap (λ (m : ℕ). bit? m j) e ∙ bit_none j)) (all_any (count_from 0 32)))
        ∙ places_are 0 32 gs (omega arith)

  -- ---- the four masks

  bit_of : (a b c d : Bool) → (bit? (cond a 1 0 + cond b 2 0 + cond c 4 0 + cond d 8 0) 0 ≡ a) × (bit? (cond a 1 0 + cond b 2 0 + cond c 4 0 + cond d 8 0) 1 ≡ b)
      × (bit? (cond a 1 0 + cond b 2 0 + cond c 4 0 + cond d 8 0) 2 ≡ c) × (bit? (cond a 1 0 + cond b 2 0 + cond c 4 0 + cond d 8 0) 3 ≡ d)
  bit_of true true true true = (refl, refl, refl, refl)
  bit_of true true true false = (refl, refl, refl, refl)
  bit_of true true false true = (refl, refl, refl, refl)
  bit_of true true false false = (refl, refl, refl, refl)
  bit_of true false true true = (refl, refl, refl, refl)
  bit_of true false true false = (refl, refl, refl, refl)
  bit_of true false false true = (refl, refl, refl, refl)
  bit_of true false false false = (refl, refl, refl, refl)
  bit_of false true true true = (refl, refl, refl, refl)
  bit_of false true true false = (refl, refl, refl, refl)
  bit_of false true false true = (refl, refl, refl, refl)
  bit_of false true false false = (refl, refl, refl, refl)
  bit_of false false true true = (refl, refl, refl, refl)
  bit_of false false true false = (refl, refl, refl, refl)
  bit_of false false false true = (refl, refl, refl, refl)
  bit_of false false false false = (refl, refl, refl, refl)

  abbrev pub mine : Slot → Bool
  mine s = belongs_in s.grant s.words roles profile

  caller_bit : (s : Slot) (k : ℕ) (x : Bool) → bit? (opened_bits n s.grant s.words) k ≡ x → bit? (bits_at s) k ≡ (mine s && x)
  unfolding caller_bits
  caller_bit s k x e = go (mine s)
    where
      go : (b : Bool) → bit? (cond b (opened_bits n s.grant s.words) 0) k ≡ (b && x)
      go true = e
      go false = bit_none k

  four : (s : Slot) → (bit? (opened_bits n s.grant s.words) 0 ≡ side_opened n s.grant n.left) × (bit? (opened_bits n s.grant s.words) 1 ≡ right_opened n s.grant)
      × (bit? (opened_bits n s.grant s.words) 2 ≡ pair_opened n s.grant s.words) × (bit? (opened_bits n s.grant s.words) 3 ≡ figures_opened n s.grant s.words)
  unfolding opened_bits
  four s = bit_of (side_opened n s.grant n.left) (right_opened n s.grant) (pair_opened n s.grant s.words) (figures_opened n s.grant s.words)

  module _ (o : Open) (p bits : ℕ) (g : Grant) (h : p < 24) where
    left_law : (with_opened o p bits g).left ≡ bit_also bits 0 o.left p
    unfolding with_opened
    left_law = rw (lt-ltb p 24 h)

    right_law : (with_opened o p bits g).right ≡ bit_also bits 1 o.right p
    unfolding with_opened
    right_law = rw (lt-ltb p 24 h)

    pair_law : (with_opened o p bits g).pair ≡ bit_also bits 2 o.pair p
    unfolding with_opened
    pair_law = rw (lt-ltb p 24 h)

    figures_law : (with_opened o p bits g).figures ≡ bit_also bits 3 o.figures p
    unfolding with_opened
    figures_law = rw (lt-ltb p 24 h)

    shown_law : (with_opened o p bits g).shown ≡ set o.shown p g.shown
    unfolding with_opened
    shown_law = rw (lt-ltb p 24 h)

    words_law : (with_opened o p bits g).words ≡ set o.words p g.words
    unfolding with_opened
    words_law = rw (lt-ltb p 24 h)

    from_law : (with_opened o p bits g).from ≡ set o.from p g.from
    unfolding with_opened
    from_law = rw (lt-ltb p 24 h)

    to_law : (with_opened o p bits g).to ≡ set o.to p g.to
    unfolding with_opened
    to_law = rw (lt-ltb p 24 h)

  module _ (gs : List Grant) (h : length gs ≤ 24) where
    pub left_places : places_in (open_all n ws roles profile gs).left ≡ map (λ (s : Slot). s.place) (select (λ (s : Slot). mine s && side_opened n s.grant n.left) (slots ws 0 gs))
    unfolding open_all
    left_places = bits_placed (λ (o : Open). o.left) 0 left_law (λ (s : Slot). mine s && side_opened n s.grant n.left) (λ s. caller_bit s 0 _ (four s).0) gs none_open h (unfold none_open in refl)

    pub right_places : places_in (open_all n ws roles profile gs).right ≡ map (λ (s : Slot). s.place) (select (λ (s : Slot). mine s && right_opened n s.grant) (slots ws 0 gs))
    unfolding open_all
    right_places = bits_placed (λ (o : Open). o.right) 1 right_law (λ (s : Slot). mine s && right_opened n s.grant) (λ s. caller_bit s 1 _ (four s).1) gs none_open h (unfold none_open in refl)

    pub pair_places : places_in (open_all n ws roles profile gs).pair ≡ map (λ (s : Slot). s.place) (select (λ (s : Slot). mine s && pair_opened n s.grant s.words) (slots ws 0 gs))
    unfolding open_all
    pair_places = bits_placed (λ (o : Open). o.pair) 2 pair_law (λ (s : Slot). mine s && pair_opened n s.grant s.words) (λ s. caller_bit s 2 _ (four s).2) gs none_open h (unfold none_open in refl)

    pub figures_places : places_in (open_all n ws roles profile gs).figures ≡ map (λ (s : Slot). s.place) (select (λ (s : Slot). mine s && figures_opened n s.grant s.words) (slots ws 0 gs))
    unfolding open_all
    figures_places = bits_placed (λ (o : Open). o.figures) 3 figures_law (λ (s : Slot). mine s && figures_opened n s.grant s.words) (λ s. caller_bit s 3 _ (four s).3) gs none_open h (unfold none_open in refl)

  -- ---- what stands in a place

  -- one of the lists of numbers, and the number of a grant that goes into it
  module _ (field : Open → List ℕ) (value : Grant → ℕ) (law : (o : Open) (p bits : ℕ) (g : Grant) → p < 24 → field (with_opened o p bits g) ≡ set (field o) p (value g)) where
    number_kept : (i : ℕ) (gs : List Grant) (o : Open) (j : ℕ) → i + length gs ≤ 24 → j < i → get_or (field (open_from n ws roles profile i gs o)) j 0 ≡ get_or (field o) j 0
    unfolding open_from
    number_kept i [] o j h l = refl
    number_kept i (g ∷ gs) o j h l =
        number_kept (suc i) gs (with_opened o i (caller_bits n g (words_in ws i) roles profile) g) j (omega arith) (omega arith)
        ∙ ap (λ (xs : List ℕ). get_or xs j 0) (law o i (caller_bits n g (words_in ws i) roles profile) g (omega arith)) ∙ get_or-set_other (field o) i j (value g) 0 (λ e. omega arith)

    numbers_placed : (i : ℕ) (gs : List Grant) (o : Open) → i + length gs ≤ 24 → length (field o) ≡ 24 → All (λ (s : Slot). get_or (field (open_from n ws roles profile i gs o)) s.place 0 ≡ value s.grant) (slots ws i gs)
    unfolding open_from slots
    numbers_placed i [] o h l = all_nil
    numbers_placed i (g ∷ gs) o h l =
        let p = with_opened o i (caller_bits n g (words_in ws i) roles profile) g in
        let e : field p ≡ set (field o) i (value g) = law o i (caller_bits n g (words_in ws i) roles profile) g (omega arith) in
        all_cons {x = record { place = i; grant = g; words = words_in ws i }}
        (number_kept (suc i) gs p i (omega arith) (omega arith) ∙ ap (λ (xs : List ℕ). get_or xs i 0) e ∙ get_or-set_same (field o) i (value g) 0 (omega arith))
        (numbers_placed (suc i) gs p (omega arith) (ap length e ∙ length-set (field o) i (value g) ∙ l))

  pub all_held : (gs : List Grant) → length gs ≤ 24 → All (λ (s : Slot). Held (open_all n ws roles profile gs) s.place s.grant) (slots ws 0 gs)
  unfolding open_all
  all_held gs h =
      all_weaken (λ s k. record { shown = k.0.0; words = k.0.1; from = k.1.0; to = k.1.1 })
      (all_both (all_both (of (λ (o : Open). o.shown) (λ (g : Grant). g.shown) shown_law none_shown) (of (λ (o : Open). o.words) (λ (g : Grant). g.words) words_law none_words))
      (all_both (of (λ (o : Open). o.from) (λ (g : Grant). g.from) from_law none_from) (of (λ (o : Open). o.to) (λ (g : Grant). g.to) to_law none_to)))
    where
      of : (field : Open → List ℕ) (value : Grant → ℕ) → ((o : Open) (p bits : ℕ) (g : Grant) → p < 24 → field (with_opened o p bits g) ≡ set (field o) p (value g)) → length (field none_open) ≡ 24
          → All (λ (s : Slot). get_or (field (open_from n ws roles profile 0 gs none_open)) s.place 0 ≡ value s.grant) (slots ws 0 gs)
      of field value law l = numbers_placed field value law 0 gs none_open (omega arith) l

      none_shown : length none_open.shown ≡ 24
      none_shown = unfold none_open in refl

      none_words : length none_open.words ≡ 24
      none_words = unfold none_open in refl

      none_from : length none_open.from ≡ 24
      none_from = unfold none_open in refl

      none_to : length none_open.to ≡ 24
      none_to = unfold none_open in refl
