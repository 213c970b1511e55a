-- What it is to write a text: over the bytes from a place on, where there are places.
use Rattle.std.specs.Prelude.{◌≡◌, [], ◌∷◌, ℕ, suc, ◌*◌, ◌-◌, ◌^◌, ◌≤◌, ◌<◌, min, length, set}
use Rattle.syntax.specs.Grammar.{Bytes, put_nat}
use Rattle.text.specs.Words.{name_of}

-- ---- a byte goes to its place where there is one, and the place goes on, up to the furthest

abbrev pub furthest : ℕ
furthest = 4294967295

unfoldable pub next : ℕ → ℕ
next p = min (suc p) furthest

-- bytes over those from a place on
unfoldable pub over : Bytes → ℕ → Bytes → Bytes
over m p [] = m
over m p (b ∷ bs) = over (set m p b) (next p) bs

-- the place after
unfoldable pub after : ℕ → Bytes → ℕ
after p [] = p
after p (b ∷ bs) = after (next p) bs

-- A text, given in front of what follows, is written from place p on: whatever follows is still to be written over what is there now, from the place that is left.
-- Over no bytes the same writing only counts.
pub record Put (t : Bytes → Bytes) (m : Bytes) (p : ℕ) (m' : Bytes) (p' : ℕ) : Type 0 where
  pub bytes : (rest : Bytes) → over m p (t rest) ≡ over m' p' rest
  pub place : (rest : Bytes) → after p (t rest) ≡ after p' rest

unfoldable pub byte_text : ℕ → Bytes → Bytes
byte_text b rest = b ∷ rest

-- ---- how long words and numbers are

-- how many bytes the word of a number has
pub record Long (code n : ℕ) : Type 0 where
  pub bytes : n ≡ length (name_of code)
  pub under : code < 2 ^ (8 * n)
  pub above : 0 < n → 2 ^ (8 * (n - 1)) ≤ code
  pub few : n ≤ 8

-- how many digits a number has
unfoldable pub digits_in : ℕ → ℕ
digits_in n = length (put_nat n [])
