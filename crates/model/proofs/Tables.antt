-- Laws of tables: conditions, cuts and pairs, moved past one another.
use mathlib.Core.Path.{◌≡◌, sym, ap, ◌∙◌, fun_ext}
use mathlib.Core.List.{List, [], ◌∷◌, ◌++◌, map, map-map, map-id}
use mathlib.Core.Bool.{true}
use lib.Dec.{T}
use Rattle.lists.specs.Lists.{select, every, distinct}
use Rattle.lists.proofs.Laws.{all_select, all_weaken, map_same}
use Rattle.lists.proofs.Gathers.{every_append_same}
use Rattle.syntax.specs.Grammar.{Cond, all}
use Rattle.model.specs.Conditions.{true_of, conds_of}
use Rattle.model.specs.Queries.{Col, same_col, Compare, Row, Table}
use Rattle.model.specs.Meaning.{holds, picked, kept_row, kept, pairs}
use Rattle.model.specs.Grants.{limited}
use Rattle.model.specs.Checks.{has, within, cond_cols}
use Rattle.model.proofs.Cuts.{kept_kept, kept_self}
use Rattle.model.proofs.Rewriting.{limited_all}
use Rattle.model.proofs.Widths.{Wide}
use Rattle.model.proofs.OneRow.{select_both, cut_pick, cut_join}

-- ---- conditions together

pub limited_limited : (cs ds : List (Cond Compare)) (t : Table) → limited cs (limited ds t) ≡ limited (cs ++ ds) t
unfolding limited
limited_limited cs ds t = λ i. record {
  cols = t.cols;
  rows = (select_both (λ r. every (holds t.cols r) cs) (λ r. every (holds t.cols r) ds) t.rows
      ∙ ap (λ p. select p t.rows) (fun_ext (λ (r : Row). sym (every_append_same (holds t.cols r) cs ds)))) i;
}

pub limited_one : (c : Cond Compare) (t : Table) → picked c t ≡ limited (c ∷ []) t
unfolding conds_of picked holds true_of
limited_one c t = limited_all c [] t

pub limited_more : (c : Cond Compare) (cs : List (Cond Compare)) (t : Table) → picked c (limited cs t) ≡ limited (c ∷ cs) t
limited_more c cs t = limited_one c (limited cs t) ∙ limited_limited (c ∷ []) cs t

-- a list of conditions that stands as one, innermost
pub limited_inner : (ps : List (Cond Compare)) (c : Cond Compare) (cs : List (Cond Compare)) (t : Table)
    → limited (ps ++ (all (conds_of c cs) ∷ [])) t ≡ limited (ps ++ (c ∷ cs)) t
limited_inner ps c cs t =
    sym (limited_limited ps (all (conds_of c cs) ∷ []) t)
    ∙ ap (limited ps) (sym (limited_one (all (conds_of c cs)) t) ∙ limited_all c cs t)
    ∙ limited_limited ps (c ∷ cs) t

-- ---- cuts

pub kept_again : (es cs : List Col) (t : Table) → T (within es cs) → kept es (kept cs t) ≡ kept es t
unfolding kept
kept_again es cs t h = λ i. record {
  cols = es;
  rows = (map-map (kept_row cs es) (kept_row t.cols cs) t.rows ∙ ap (λ f. map f t.rows) (fun_ext (λ (r : Row). kept_kept t.cols cs es r h))) i;
}

-- a condition on columns that are kept
pub picked_kept : (c : Cond Compare) (cs : List Col) (t : Table) → T (within (cond_cols c) cs) → picked c (kept cs t) ≡ kept cs (picked c t)
unfolding picked kept
picked_kept c cs t h = λ i. record { cols = cs; rows = cut_pick t.cols cs c h true t.rows i }

-- all columns
pub kept_own : (t : Table) → T (distinct same_col t.cols) → Wide t → kept t.cols t ≡ t
unfolding kept
kept_own t d w = λ i. record {
  cols = t.cols;
  rows = (map_same (kept_row t.cols t.cols) (λ r. r) (all_weaken (λ (r : Row) h. kept_self t.cols r d h) w) ∙ map-id t.rows) i;
}

pub limited_wide : (cs : List (Cond Compare)) (t : Table) → Wide t → Wide (limited cs t)
unfolding limited
limited_wide cs t w = all_select _ (λ r h p. p) w

-- two tables that have no column in common, cut before they are joined
pub joined_kept : (e : Cond Compare) (ls ms : List Col) (t u : Table) → ((c : Col) → T (has t.cols c) → T (has u.cols c) → ⊥)
    → T (within ls t.cols) → T (within ms u.cols) → T (within (cond_cols e) (ls ++ ms)) → Wide t
    → picked e (pairs (kept ls t) (kept ms u)) ≡ kept (ls ++ ms) (picked e (pairs t u))
unfolding picked pairs kept
joined_kept e ls ms t u apart h k n w = λ i. record {
  cols = ls ++ ms;
  rows = cut_join t.cols u.cols ls ms apart h k e n t.rows u.rows w true true i;
}
