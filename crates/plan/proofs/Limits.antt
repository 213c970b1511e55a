-- Lists of conditions that limit a table alike.
use mathlib.Core.Path.{◌≡◌, refl, sym, ap, ◌∙◌}
use mathlib.Core.List.{List, [], ◌∷◌, ◌++◌}
use mathlib.Core.Bool.{and_comm}
use Rattle.lists.specs.Lists.{every}
use Rattle.lists.proofs.Laws.{append_nil}
use Rattle.lists.proofs.Gathers.{select_alike, every_append_same}
use Rattle.syntax.specs.Grammar.{Cond}
use Rattle.model.specs.Queries.{Compare, Table}
use Rattle.model.specs.Meaning.{holds, picked}
use Rattle.model.specs.Grants.{limited}
use Rattle.model.proofs.Tables.{limited_limited, limited_more}

abbrev pub Same : List (Cond Compare) → List (Cond Compare) → Type 0
Same cs ds = (t : Table) → limited cs t ≡ limited ds t

pub same_swap : (cs ds : List (Cond Compare)) → Same (cs ++ ds) (ds ++ cs)
unfolding limited
same_swap cs ds t =
    ap (λ rs. record { cols = t.cols; rows = rs })
    (select_alike (λ r. every (holds t.cols r) (cs ++ ds)) (λ r. every (holds t.cols r) (ds ++ cs))
    (λ r. every_append_same (holds t.cols r) cs ds ∙ and_comm (every (holds t.cols r) cs) (every (holds t.cols r) ds) ∙ sym (every_append_same (holds t.cols r) ds cs)) t.rows)

append_assoc : {A : Type 0} (xs ys zs : List A) → (xs ++ ys) ++ zs ≡ xs ++ (ys ++ zs)
append_assoc [] ys zs = refl
append_assoc (x ∷ xs) ys zs = ap (λ l. x ∷ l) (append_assoc xs ys zs)

-- a condition more, at the end of the first of two lists
pub picked_last : (c : Cond Compare) (ps vs : List (Cond Compare)) (t : Table) → picked c (limited (ps ++ vs) t) ≡ limited ((ps ++ (c ∷ [])) ++ vs) t
picked_last c ps vs t =
    limited_more c (ps ++ vs) t
    ∙ (sym (limited_limited (c ∷ ps) vs t) ∙ (same_swap (c ∷ []) ps (limited vs t) ∙ limited_limited (ps ++ (c ∷ [])) vs t))

-- some conditions more, where the second list has none
pub limited_last : (cs ps : List (Cond Compare)) (t : Table) → limited cs (limited (ps ++ []) t) ≡ limited (ps ++ cs) t
limited_last cs ps t = ap (λ l. limited cs (limited l t)) (append_nil ps) ∙ (limited_limited cs ps t ∙ same_swap cs ps t)

-- the same before a last condition
pub picked_before : (c e : Cond Compare) (ps vs : List (Cond Compare)) (t : Table) → picked c (limited ((ps ++ vs) ++ (e ∷ [])) t) ≡ limited (((ps ++ (c ∷ [])) ++ vs) ++ (e ∷ [])) t
picked_before c e ps vs t =
    ap (picked c) (sym (limited_limited (ps ++ vs) (e ∷ []) t)) ∙ (picked_last c ps vs (limited (e ∷ []) t) ∙ limited_limited ((ps ++ (c ∷ [])) ++ vs) (e ∷ []) t)

pub limited_before : (cs ps : List (Cond Compare)) (e : Cond Compare) (t : Table) → limited cs (limited ((ps ++ []) ++ (e ∷ [])) t) ≡ limited ((ps ++ cs) ++ (e ∷ [])) t
limited_before cs ps e t =
    ap (limited cs) (sym (limited_limited (ps ++ []) (e ∷ []) t)) ∙ (limited_last cs ps (limited (e ∷ []) t) ∙ limited_limited (ps ++ cs) (e ∷ []) t)
