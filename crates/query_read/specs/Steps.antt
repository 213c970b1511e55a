-- The steps by which the forms of a query are read: one form's own part, and the brackets that close after a stream's rows.
use Rattle.std.specs.Prelude.{◌≡◌, List, Bool, false, cond, ℕ, zero, suc, ◌+◌, eqb, length, drop, get_or}
use Rattle.syntax.specs.Grammar.{Bytes}
use Rattle.syntax.specs.Readers.{Kind}
use Rattle.text.specs.Words.{Found, Some, None, seen}
use Rattle.query_read.specs.Parts.{read_part, read_own}
use Rattle.query_read.specs.Seeing.{own_seen, own_at, own_stored}
use Rattle.query_read.specs.declared.Own.{Own}
use Rattle.query_read.specs.declared.Next.{Next}
use Rattle.query_read.specs.declared.Next.TheVariants.{Ended, Inside}

-- what is read of a part after its first word
unfoldable pub part_at : List ℕ → Bytes → ℕ → ℕ → Kind → ℕ → Found Own
part_at ns s b n k at = seen (own_seen ns s b n) (read_part k (drop at s))

-- the same with the words of its condition
pub record PartRead (ns : List ℕ) (s : Bytes) (b n : ℕ) (k : Kind) (at : ℕ) (ws ws' : List ℕ) (r : Found Own) : Type 0 where
  pub is : r ≡ part_at ns s b n k at
  pub stored : (o : Own) → r ≡ Some o → o.over ≡ false → ws' ≡ own_stored ns b (read_part k (drop at s)) ws
  pub kept : length ws' ≡ length ws

pub record OwnRead (ns : List ℕ) (s : Bytes) (b n at : ℕ) (ws ws' : List ℕ) (r : Found Own) : Type 0 where
  pub is : r ≡ own_at ns s b n at
  pub stored : (o : Own) → r ≡ Some o → o.over ≡ false → ws' ≡ own_stored ns b (read_own (drop at s)) ws
  pub kept : length ws' ≡ length ws

-- how many forms can be open in a line: each takes five bytes or more
abbrev pub max_open : ℕ
max_open = 128

-- after a form that ended at a place, inside some that are open, the innermost last; `second` tells which of these wait for a second form
unfoldable pub after_form : Bytes → List Bool → ℕ → ℕ → Found Next
after_form s second p zero = Some (Ended p)
after_form s second p (suc n) =
    cond (get_or second n false) (cond (eqb (get_or s p 0) 32) (Some (Inside (p + 1) (suc n))) None)
    (cond (eqb (get_or s p 0) 41) (after_form s second (p + 1) n) None)
