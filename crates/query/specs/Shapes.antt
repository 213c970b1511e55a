-- Whether forms are those of one query: every form has the queries that it takes after it, and no more are left.
use Rattle.std.specs.Prelude.{List, [], ◌∷◌, Bool, true, ◌&&◌, ◌||◌, not, cond, ℕ, suc, ◌-◌, ltb, leb, eqb}
use Rattle.lists.specs.Lists.{every}
use Rattle.nodes.specs.Nodes.{linked_from}
use Rattle.query.specs.Forms.{rows_form, pick_form, join_form, aggregate_form, under_form}
use Rattle.query.specs.declared.Form.{Form}

-- how many queries they are
unfoldable pub depth : List Form → ℕ
depth [] = 0
depth (f ∷ fs) = cond (eqb f.kind rows_form) (suc (depth fs)) (cond (eqb f.kind join_form) (depth fs - 1) (depth fs))

-- how many a form takes
unfoldable pub taken : Form → ℕ
taken f = cond (eqb f.kind rows_form) 0 (cond (eqb f.kind join_form) 2 1)

-- no form is a grant's
unfoldable pub formed : List Form → Bool
formed [] = true
formed (f ∷ fs) = ltb f.kind under_form && (leb (taken f) (depth fs) && formed fs)

unfoldable pub one_query : List Form → Bool
one_query fs = formed fs && eqb (depth fs) 1

-- ---- what forms refer to

-- a form of a query: the words of a pick's condition are laid out as those of a stored one
unfoldable pub laid_form : List ℕ → Form → Bool
laid_form ws f = ltb f.kind under_form && (not (eqb f.kind pick_form) || ltb 0 f.first && linked_from (suc f.first) ws f.first)

unfoldable pub laid_forms : List ℕ → List Form → Bool
laid_forms ws fs = every (laid_form ws) fs

-- a form that is an aggregate has its number
unfoldable pub has_number : Form → Bool
has_number f = cond (eqb f.kind aggregate_form) (not (eqb f.first 0)) true
