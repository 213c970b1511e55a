-- Words copied into a place: what each place then holds.
use mathlib.Core.Path.{◌≡◌, sym, ap, ◌∙◌}
use mathlib.Core.List.{List}
use Prim.Native.Nat.{ℕ, ◌+◌, ◌*◌, ◌-◌, ◌≤◌, ◌<◌, min}
use native.Mathlib.Omega.{arith}
use lib.ListN.{length, get_or, take, drop, length-take, length-drop}
use lib.Seq.{paste, length-paste, get_or-take, get_or-drop, ext_get_or}
use Rattle.lists.proofs.Pasting.{paste_in, paste_out}
use Rattle.grant.specs.Catalogues.{words_in}

-- n words in the place of a number
module _ (ws : List ℕ) (count : ℕ) (us : List ℕ) (n : ℕ) (few : n ≤ 95) (room : count * 95 + 95 ≤ length ws) (long : n ≤ length us) where
  abbrev copied : List ℕ
  copied = paste ws (count * 95) us n

  pub copied_length : length (paste ws (count * 95) us n) ≡ length ws
  copied_length = length-paste ws (count * 95) us n (omega arith) long

  -- each word of the place that was copied
  pub copied_word : (i : ℕ) → i < n → get_or (words_in (paste ws (count * 95) us n) count) i 0 ≡ get_or us i 0
  unfolding words_in
  copied_word i h = get_or-take 95 (drop (count * 95) copied) i 0 (omega arith) ∙ get_or-drop (count * 95) copied i 0 ∙ paste_in ws us (count * 95) n 0 (omega arith) long i h

  -- every other word
  pub copied_other : (i : ℕ) → ((j : ℕ) → j < n → i ≡ count * 95 + j → ⊥) → get_or (paste ws (count * 95) us n) i 0 ≡ get_or ws i 0
  copied_other i f = paste_out ws us (count * 95) n 0 (omega arith) long i f

  pub copied_full : length (words_in (paste ws (count * 95) us n) count) ≡ 95
  unfolding words_in
  copied_full =
      let a = length-take 95 (drop (count * 95) copied) in
      let b = length-drop (count * 95) copied in
      let c = copied_length in
      omega arith

  -- the words of all other places
  pub copied_place : (k : ℕ) → (k ≡ count → ⊥) → words_in (paste ws (count * 95) us n) k ≡ words_in ws k
  unfolding words_in
  copied_place k ne = ext_get_or 0 (take 95 (drop (k * 95) copied)) (take 95 (drop (k * 95) ws)) same_length same_words
    where
      size : (vs : List ℕ) → length (take 95 (drop (k * 95) vs)) ≡ min 95 (length vs - k * 95)
      size vs = let a = length-take 95 (drop (k * 95) vs) in let b = length-drop (k * 95) vs in omega arith

      same_length : length (take 95 (drop (k * 95) copied)) ≡ length (take 95 (drop (k * 95) ws))
      same_length = size copied ∙ ap (λ m. min 95 (m - k * 95)) copied_length ∙ sym (size ws)

      apart : (i j : ℕ) → i < 95 → j < n → k * 95 + i ≡ count * 95 + j → ⊥
      apart i j h l e = ne (omega arith)

      same_words : (i : ℕ) → i < length (take 95 (drop (k * 95) copied)) → get_or (take 95 (drop (k * 95) copied)) i 0 ≡ get_or (take 95 (drop (k * 95) ws)) i 0
      same_words i h =
          let l : i < 95 = let a = size copied in omega arith in
          get_or-take 95 (drop (k * 95) copied) i 0 l ∙ get_or-drop (k * 95) copied i 0 ∙ copied_other (k * 95 + i) (λ j m e. apart i j l m e)
          ∙ sym (get_or-take 95 (drop (k * 95) ws) i 0 l ∙ get_or-drop (k * 95) ws i 0)
