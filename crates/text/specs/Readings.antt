-- Readers with no bound of their own, and what is read of a whole text.
use Rattle.std.specs.Prelude.{List, Bool, length}
use Rattle.std.proofs.Math.Option.{Option}
use Rattle.lists.specs.Lists.{empty?}
use Rattle.syntax.specs.Grammar.{Bytes, Test, Cond, Conds, Form, Show, GrantLine}
use Rattle.syntax.specs.Readers.{Read, Reader, bind, ensure, byte, read_items, read_some, read_cond, read_conds, read_form, read_show, read_when, read_grant}

-- ---- readers bounded by what they are given: no bound beyond that changes what they read

module _ {A : Type 0} (ends : Bytes → Bool) (item : Reader A) where
  unfoldable pub any_items : Reader (List A)
  any_items bs = read_items ends item (length bs) bs

  unfoldable pub any_some : Reader (List A)
  any_some bs = read_some ends item (length bs) bs

unfoldable pub any_cond : Reader (Cond Test)
any_cond bs = read_cond (length bs) bs

unfoldable pub any_conds : Reader (Conds Test)
any_conds bs = read_conds (length bs) bs

unfoldable pub any_form : Reader Form
any_form bs = read_form (length bs) bs

unfoldable pub any_show : Reader Show
any_show bs = read_show (length bs) bs

unfoldable pub any_when : Reader (List (Cond Test))
any_when bs = read_when (length bs) bs

unfoldable pub any_grant : Reader GrantLine
any_grant bs = read_grant (length bs) bs

-- ---- whole texts

-- what was read, where nothing follows
unfoldable pub whole : {A : Type 0} → Option (Read A) → Option A
whole o = bind o (λ a. ensure (empty? a.left) a.what)

-- what was read, where a closing bracket follows and nothing else
unfoldable pub closed : {A : Type 0} → Option (Read A) → Option A
closed o = bind o (λ b. bind (byte 41 b.left) (λ c. ensure (empty? c.left) b.what))
