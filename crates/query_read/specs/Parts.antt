-- A form as its own part and the forms inside it: a query is the list of such parts, a form before the forms inside it.
use Rattle.std.specs.Prelude.{List, [], ◌∷◌, ◌++◌, ℕ, suc, ℤ}
use Rattle.syntax.specs.Grammar as G
use Rattle.syntax.specs.Grammar.{Bytes, Fn, Ref, Test, Cond, Form, eq, op_word}
use Rattle.syntax.specs.Readers.{Reader, bind, ◌>>=◌, ◌>>◌, give, byte, read_head, read_open, read_name, read_int, read_ref, form_next, Kind, k_in, k_pick, k_keep, k_join, k_fn, kind_word, kinds}
use Rattle.text.specs.Readings.{any_cond, any_some}

-- what a form says by itself
pub data Part : Type 0 where
  rows : Bytes → Part
  pick : Cond Test → Part
  keep : List Ref → Part
  join : Ref → Ref → Part
  aggregate : Fn → Ref → ℤ → ℤ → Part

-- a part, and how many forms are open around it
pub record Inner : Type 0 where
  pub around : ℕ
  pub part : Part

unfoldable pub inner : ℕ → Part → Inner
inner n p = record { around = n; part = p }

-- the parts of a form inside n others
unfoldable pub parts : ℕ → Form → List Inner
parts n (G.rows s) = inner n (rows s) ∷ []
parts n (G.pick c q) = inner n (pick c) ∷ parts (suc n) q
parts n (G.keep rs q) = inner n (keep rs) ∷ parts (suc n) q
parts n (G.join a b q r) = inner n (join a b) ∷ (parts (suc n) q ++ parts (suc n) r)
parts n (G.aggregate f c size offset q) = inner n (aggregate f c size offset) ∷ parts (suc n) q

-- ---- the text of a part: up to its closing bracket, or up to the space before the first form inside it

-- what follows a form's first word
unfoldable pub read_part : Kind → Reader Part
read_part k_in = do
  byte 32
  s ← read_name
  byte 41
  give (rows s)
read_part k_pick = do
  byte 32
  c ← any_cond
  byte 32
  give (pick c)
read_part k_keep = do
  rs ← any_some form_next read_ref
  byte 32
  give (keep rs)
read_part k_join = do
  byte 32
  o ← read_open (op_word eq)
  byte 32
  a ← read_ref
  byte 32
  b ← read_ref
  byte 41
  byte 32
  give (join a b)
read_part (k_fn f) = do
  byte 32
  c ← read_ref
  byte 32
  size ← read_int
  byte 32
  offset ← read_int
  byte 32
  give (aggregate f c size offset)

unfoldable pub read_own : Reader Part
read_own bs = bind (read_head kind_word kinds bs) (λ h. read_part h.what h.left)
