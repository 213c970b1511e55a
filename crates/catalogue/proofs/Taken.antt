-- What is left once a grant was taken, return by return; and the grants taken one after the other, which are those of the catalogue.
use mathlib.Core.Path.{◌≡◌, refl, sym, ap, ap₂, ◌∙◌}
use mathlib.Core.List.{List, [], ◌∷◌}
use mathlib.Core.Bool.{Bool, true, false, ◌&&◌, not, and_assoc}
use Prim.Native.Nat.{ℕ, zero, suc, ◌+◌, ◌*◌, ◌-◌, ◌≤◌, ◌<◌, min}
use native.Mathlib.Omega.{arith}
use native.Mathlib.Decide.{dec_lt}
use lib.Dec.{leb}
use lib.ListN.{length, get_or, take, drop, length-drop, drop_of_length-le}
use native.Mathlib.Numerals.{add-one}
use lib.Seq.{take_all, drop-cons}
use borrow.Author.Tests.{lt-leb, le-leb, le-ltb, not-true, not-false}
use Rattle.lists.proofs.Laws.{and_true}
use Rattle.syntax.specs.Limits.{max_grants}
use Rattle.grant.specs.Grants.{grant_words, grant_sound}
use Rattle.grant.specs.Catalogues.{catalogue_words, words_in, sound_from, catalogue_sound}
use Rattle.grant.specs.declared.Grant.{Grant}
use Rattle.needs.specs.declared.Needs.{Needs}
use Rattle.routes.specs.declared.Open.{Open}
use Rattle.routes.specs.Opening.{belongs_in, opened_bits}
use Rattle.routes.specs.Listing.{none_open, with_opened, caller_bits, open_from, open_all}
use Rattle.catalogue.specs.declared.Opened.{Opened}
use Rattle.catalogue.specs.Opened.{blank, opened_in, none_opened, with_bits, opened_with}

-- ---- one grant

module _ (n : Needs) (g : Grant) (ws roles profile : List ℕ) {x : Bool} (e : x ≡ belongs_in g ws roles profile) where
  pub bits_none : not x ≡ true → 0 ≡ caller_bits n g ws roles profile
  unfolding caller_bits
  bits_none t = rw (sym e ∙ not-true x t)

  pub bits_some : not x ≡ false → {b : ℕ} → b ≡ opened_bits n g ws → b ≡ caller_bits n g ws roles profile
  unfolding caller_bits
  bits_some t f = rw (sym e ∙ not-false x t) f

pub ruleset bits_ends = (bits_none, bits_some)

module _ (s y : Bool) where
  pub also_not : not s ≡ true → false ≡ (s && y)
  also_not t = rw (not-true s t)

  pub also_last : not s ≡ false → {x : Bool} → x ≡ y → x ≡ (s && y)
  also_last t e = rw (not-false s t) e

pub ruleset also_ends = (also_not, also_last)

module _ (count words : ℕ) {o : Open} (e : o ≡ none_open) where
  pub none_many : max_grants < count → ◌≡◌ {A = Opened} (record { opens = o; sound = false }) (none_opened count words)
  unfolding none_opened
  none_many h = rw (e, lt-leb count max_grants h)

  pub none_few : count ≤ max_grants → ◌≡◌ {A = Opened} (record { opens = o; sound = leb catalogue_words words }) (none_opened count words)
  unfolding none_opened
  none_few h = rw (e, le-leb count max_grants h)

pub ruleset none_ends = (none_many, none_few)

-- ---- the words of a place are a part of all, cut to what is there

module _ (ws : List ℕ) (i : ℕ) {a b : ℕ} (e : a ≡ min (i * grant_words) (length ws)) (f : b ≡ min (a + grant_words) (length ws)) where
  starts : drop a ws ≡ drop (i * grant_words) ws
  starts = go (dec_lt (i * grant_words) (length ws))
    where
      go : Dec (i * grant_words < length ws) → drop a ws ≡ drop (i * grant_words) ws
      go (yes h) = let z : a ≡ i * grant_words = omega arith in ap (λ (k : ℕ). drop k ws) z
      go (no h) = drop_of_length-le ws {i = a} (omega arith) ∙ sym (drop_of_length-le ws {i = i * grant_words} (omega arith))

  pub words_cut : take (b - a) (drop a ws) ≡ words_in ws i
  unfolding words_in
  words_cut = let z = length-drop a ws in go (dec_lt (a + grant_words) (length ws)) z ∙ ap (take grant_words) starts
    where
      go : Dec (a + grant_words < length ws) → length (drop a ws) ≡ length ws - a → take (b - a) (drop a ws) ≡ take grant_words (drop a ws)
      go (yes h) z = let y : b - a ≡ grant_words = omega arith in ap (λ (k : ℕ). take k (drop a ws)) y
      go (no h) z = take_all (b - a) (drop a ws) (omega arith) ∙ sym (take_all grant_words (drop a ws) (omega arith))

-- ---- one after the other

module _ (n : Needs) (ns : List ℕ) (gs : List Grant) (ws roles profile : List ℕ) where
  -- the first of the catalogue
  unfoldable pub taken : ℕ → Opened
  taken zero = none_opened (length gs) (length ws)
  taken (suc k) = opened_with (taken k) n k (get_or gs k blank) ns ws roles profile

  -- the others after them
  abbrev and_then : Opened → ℕ → List Grant → Opened
  and_then o i hs = record { opens = open_from n ws roles profile i hs o.opens; sound = o.sound && sound_from ns ws i hs }

  pub taken_none : {o : Opened} → o ≡ none_opened (length gs) (length ws) → o ≡ taken 0
  unfolding taken
  taken_none e = e

  pub taken_more : (i : ℕ) {g : Grant} {o p : Opened} → o ≡ taken i → g ≡ get_or gs i blank → p ≡ opened_with o n i g ns ws roles profile → p ≡ taken (i + 1)
  unfolding taken
  taken_more i e h f = f ∙ rw (add-one i) (ap₂ (λ o g. opened_with o n i g ns ws roles profile) e h)

  and_next : (o : Opened) (i : ℕ) (g : Grant) (hs : List Grant) → and_then (opened_with o n i g ns ws roles profile) (suc i) hs ≡ and_then o i (g ∷ hs)
  unfolding opened_with with_bits open_from sound_from
  and_next o i g hs =
      ap (λ (b : Bool). record { opens = open_from n ws roles profile (suc i) hs (with_opened o.opens i (caller_bits n g (words_in ws i) roles profile) g); sound = b })
      (and_assoc o.sound (grant_sound ns g (words_in ws i)) (sound_from ns ws (suc i) hs))

  all_taken : (k : ℕ) → k ≤ length gs → and_then (taken k) k (drop k gs) ≡ opened_in n ns gs ws roles profile
  unfolding taken opened_in none_opened open_all catalogue_sound
  all_taken zero h = refl
  all_taken (suc k) h =
      and_next (taken k) k (get_or gs k blank) (drop (suc k) gs) ∙ ap (and_then (taken k) k) (sym (drop-cons gs k blank (omega arith))) ∙ all_taken k (omega arith)

  -- past the last place nothing is opened
  none_past : (i : ℕ) (hs : List Grant) (o : Open) → max_grants ≤ i → open_from n ws roles profile i hs o ≡ o
  unfolding open_from with_opened
  none_past i [] o h = refl
  none_past i (g ∷ hs) o h = rw (le-ltb i max_grants h) (none_past (suc i) hs o (omega arith))

  -- too many are not sound, however many of them were taken
  too_many : (k : ℕ) → max_grants < length gs → (taken k).sound ≡ false
  unfolding taken none_opened opened_with with_bits
  too_many zero h = rw (lt-leb (length gs) max_grants h)
  too_many (suc k) h = rw (too_many k h)

  none_after : (o : Opened) (i : ℕ) → o ≡ and_then o i []
  unfolding open_from sound_from
  none_after o i = ap (λ (s : Bool). record { opens = o.opens; sound = s }) (sym (and_true o.sound))

  all_placed : (k : ℕ) → k ≡ min (length gs) max_grants → taken k ≡ opened_in n ns gs ws roles profile
  all_placed k e = go (dec_lt max_grants (length gs)) ∙ all_taken k (omega arith)
    where
      go : Dec (max_grants < length gs) → taken k ≡ and_then (taken k) k (drop k gs)
      go (yes h) =
          ap₂ (λ (p : Open) (s : Bool). record { opens = p; sound = s }) (sym (none_past k (drop k gs) (taken k).opens (omega arith)))
          (too_many k h ∙ ap (λ (s : Bool). s && sound_from ns ws k (drop k gs)) (sym (too_many k h)))
      go (no h) = none_after (taken k) k ∙ ap (and_then (taken k) k) (sym (drop_of_length-le gs {i = k} (omega arith)))

  pub taken_all : (k i : ℕ) {o : Opened} → k ≡ min (length gs) max_grants → i ≤ k → k ≤ i → o ≡ taken i → o ≡ opened_in n ns gs ws roles profile
  taken_all k i h a b e = e ∙ all_placed i (omega arith)

pub ruleset taken_ends = (taken_none, taken_more, taken_all)
