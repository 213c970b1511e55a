-- The grant of a line that passes its checks is the one that the line says.
use mathlib.Core.Path.{◌≡◌, refl, sym, ap, ap₂, ◌∙◌, subst}
use mathlib.Core.List.{List, [], ◌∷◌, ◌++◌, map, map-append}
use mathlib.Core.Bool.{Bool, true, false, ◌&&◌, ◌||◌, not, cond}
use mathlib.Core.Option.{Option, none, some}
use Prim.Native.Nat.{ℕ, ◌+◌, ◌*◌, ◌<◌}
use native.Mathlib.Omega.{arith}
use native.Mathlib.Decide.{dec_lt}
use lib.IntN.{ℤ}
use lib.Dec.{T, ltb, ltb→lt}
use borrow.Author.Tests.{ne_eqb, le-leb, lt-ltb}
use Rattle.lists.specs.Lists.{every, select, gather}
use Rattle.lists.proofs.Laws.{and_l, and_r, parts, T_true, not_not, every_append_l, every_append_r, every_all, all_weaken, select_every}
use Rattle.lists.proofs.Gathers.{every_of_map, every_good}
use Rattle.syntax.specs.Grammar as G
use Rattle.syntax.specs.Grammar.{Bytes, Op, Right, Ref, Operand, Test, Cond, Conds, Show, Span, name?, ref?, test?, numbered_right, right_number}
use Rattle.syntax.specs.Limits.{short, short_ref, is_value, is_time, natural}
use Rattle.model.specs.Conditions.{tests, map_cond, map_conds}
use Rattle.model.specs.Queries as M
use Rattle.model.specs.Queries.{Col, col, figure, columns_of, number, Compare}
use Rattle.model.specs.Checks.{has, within}
use Rattle.model.proofs.Columns.{within_by}
use Rattle.model.proofs.Conditions.{tests_map, cond_same}
use Rattle.calls.specs.Bounds.{is_limit, is_span}
use Rattle.calls.specs.Names as C
use Rattle.calls.specs.Names.{is_self, column_of, operand_of, shown_columns, map_option, show_refs, size_of, offset_of}
use Rattle.text.specs.Words.{name_of}
use Rattle.text.specs.Keywords.{op_number}
use Rattle.text.proofs.Codes.{name_back}
use Rattle.items.specs.Items.{code_short}
use Rattle.schema.specs.Schemas.{streams_in, schema_of, schema_sound}
use Rattle.schema.proofs.Tests.{streams_most}
use Rattle.masks.specs.Masks.{bit?, mask_of, inside}
use Rattle.masks.proofs.Lists.{bits_inside}
use Rattle.terms.specs.Terms.{ref_code, operand_over, test_over, operand_code, operand_value, left_code, right_code, test_value}
use Rattle.terms.proofs.Resolving.{code_alone, code_self, code_low, code_column, fine}
use Rattle.terms.proofs.Numbers.{biased_back}
use Rattle.nodes.specs.declared.Node.{Node}
use Rattle.nodes.specs.Nodes.{unbiased, coded_term, numbered_op, node_compare, in_mask, column_in, terms_sound}
use Rattle.columns.specs.Columns.{columns_seen}
use Rattle.columns.proofs.ColumnBits.{operand_fine, listed_bit, bit_above, refs_inside}
use Rattle.conditions.specs.Seeing.{test_node, nodes_of}
use Rattle.grant.specs.Grants.{column_codes, streams_mask}
use Rattle.grant.specs.Grants as S
use Rattle.grant.proofs.Masked.{low, cols_low, column_theirs}
use Rattle.grant.proofs.Compared.{compare_fit, terms_are, cond_fit, conditions_are}
use Rattle.grant_line.specs.Parts.{shown_all, shown_listed, show_of, limit_kept, window_of}
use Rattle.grant_line.proofs.Folds.{every_gathered}
use Rattle.grant_line.proofs.Bounds.{test_bounded}
use Rattle.grant_line.proofs.Known.{good_test, test_declared, test_fine}
use Rattle.grant_line.proofs.Placing.{kept_time}

-- ---- its role, its right and its numbers

pub role_back : (w : Bytes) → T (name? w) → T (short w) → name_of (code_short w) ≡ w
unfolding code_short
role_back w t u = rw (T_true (short w) u) (name_back w t u)

pub limit_back : (o : Option ℤ) → T (is_limit o) → S.limit_of (limit_kept o) ≡ map_option natural o
unfolding S.limit_of limit_kept map_option is_limit
limit_back none t = refl
limit_back (some n) t = let h = kept_time n t in rw (h.0, le-leb (natural n) 2147483647 h.1)

pub limit_tidy : (o : Option ℤ) → T (is_limit o) → T (S.limit_sound (limit_kept o))
unfolding S.limit_sound limit_kept is_limit
limit_tidy none t = tt
limit_tidy (some n) t = let h = kept_time n t in rw (h.0, le-leb (natural n) 2147483647 h.1) tt

pub window_back : (w : Option Span) → T (is_span w) → ((window_of w 0).size ≡ size_of w) × ((window_of w 0).offset ≡ offset_of w)
unfolding window_of is_span size_of offset_of
window_back none t = (refl, refl)
window_back (some w) t = ((kept_time w.size (and_l (is_time w.size) (is_time w.offset) t)).0, (kept_time w.offset (and_r (is_time w.size) (is_time w.offset) t)).0)

-- ---- what it shows

module _ {A : Type 0} where
  select_good : (p q good : A → Bool) → ((x : A) → T (good x) → p x ≡ q x) → (xs : List A) → T (every good xs) → select p xs ≡ select q xs
  unfolding select every
  select_good p q good f [] t = refl
  select_good p q good f (x ∷ xs) t =
      ap₂ (λ b l. cond b (x ∷ l) l) (f x (and_l (good x) (every good xs) t)) (select_good p q good f xs (and_r (good x) (every good xs) t))

module _ (ns : List ℕ) (sound : T (schema_sound ns)) (ss : List ℕ) (b : T (every (λ s. ltb s (streams_in ns)) ss)) where
  abbrev d : M.Schema
  d = schema_of ns

  abbrev theirs : List Col
  theirs = gather (columns_of d) ss

  abbrev mask : ℕ
  mask = streams_mask ns ss

  all_shown : select (column_in mask) theirs ≡ theirs
  unfolding within
  all_shown =
      select_good (column_in mask) (has theirs) (low (streams_in ns)) (λ c t. column_theirs ns ss b c) theirs (cols_low ns ss b) ∙ select_every (has theirs) theirs (within_by theirs theirs (λ c t. t))

  listed_shown : (rs : List Ref) → T (every (fine ns) rs) → (x : Col) → T (low (streams_in ns) x) → column_in (mask_of (map (ref_code ns) rs)) x ≡ has (map (column_of d) rs) x
  unfolding low column_in in_mask
  listed_shown rs t (col s c) g =
      let h = ltb→lt s (streams_in ns) (and_l (ltb s (streams_in ns)) (ltb c 6) g) in
      let l = ltb→lt c 6 (and_r (ltb s (streams_in ns)) (ltb c 6) g) in
      let m = streams_most ns in
      rw (lt-ltb c 6 l, lt-ltb (s * 6 + c) 24 (omega arith)) (listed_bit ns sound s c h l rs t)
  listed_shown rs t figure g = absurd g

  pub shown_back : (x : Show) → T (every (fine ns) (show_refs x)) → select (column_in (cond (show_of ns [] x 0).all mask (show_of ns [] x 0).mask)) theirs ≡ shown_columns d ss x
  unfolding show_of shown_all shown_listed columns_seen show_refs shown_columns
  shown_back G.everything t = all_shown
  shown_back (G.listed rs) t = select_good (column_in (mask_of (map (ref_code ns) rs))) (λ c. has (map (column_of d) rs) c) (low (streams_in ns)) (listed_shown rs t) theirs (cols_low ns ss b)

  -- ---- comparisons

  pub ops_back : (o : Op) → numbered_op (op_number o) ≡ o
  unfolding numbered_op op_number
  ops_back G.eq = refl
  ops_back G.ne = refl
  ops_back G.lt = refl
  ops_back G.le = refl
  ops_back G.gt = refl
  ops_back G.ge = refl

  -- a column by its code
  pub column_back : (r : Ref) (v : ℕ) → T (fine ns r) → ref_code ns r < 24 → coded_term (ref_code ns r) v ≡ C.term_of d r
  unfolding coded_term fine
  column_back r v t l = let s = code_column ns sound r (search parts) (search parts) l in rw (lt-ltb (ref_code ns r) 24 l) (sym s.term)

  -- what stands on the left is a column of theirs
  left_back : (r : Ref) (v : ℕ) → T (fine ns r) → T (bit? mask (ref_code ns r)) → coded_term (ref_code ns r) v ≡ C.term_of d r
  unfolding streams_mask column_codes
  left_back r v t h = go (dec_lt (ref_code ns r) 24)
    where
      go : Dec (ref_code ns r < 24) → coded_term (ref_code ns r) v ≡ C.term_of d r
      go (yes l) = column_back r v t l
      go (no l) = absurd (rw (bit_above ns ss b (ref_code ns r) (omega arith)) at h)

  -- a profile entry by its name
  own_back : (n m : Bytes) → T (fine ns (G.dotted n m)) → is_self n ≡ true → coded_term (ref_code ns (G.dotted n m)) (operand_value ns (G.ref (G.dotted n m))) ≡ C.term_of d (G.dotted n m)
  unfolding coded_term operand_value C.term_of fine ref? short_ref
  own_back n m t e =
      let c = code_self ns n m (search parts depth 6) (search parts depth 6) e in
      rw (c.0, e, c.1)

  number_back : (z : ℤ) → T (is_value z) → coded_term 26 (operand_value ns (G.number z)) ≡ number z
  unfolding coded_term operand_value unbiased
  number_back z t = ap number (biased_back z t).1

  dotted_low : (n m : Bytes) → T (fine ns (G.dotted n m)) → is_self n ≡ false → ref_code ns (G.dotted n m) < 24
  unfolding fine ref? short_ref
  dotted_low n m t e = code_low ns sound n m (search parts depth 6) (search parts depth 6) (search parts depth 6) (search parts depth 6) e (search parts)

  pub operand_back : (o : Operand) → T (operand_fine ns o) → T (not (operand_over o)) → coded_term (operand_code ns o) (operand_value ns o) ≡ operand_of d o
  unfolding operand_fine operand_over operand_code operand_of
  operand_back (G.ref (G.dotted n m)) t u = go (is_self n) refl
    where
      go : (x : Bool) → is_self n ≡ x → coded_term (ref_code ns (G.dotted n m)) (operand_value ns (G.ref (G.dotted n m))) ≡ C.term_of d (G.dotted n m)
      go true e = own_back n m t e
      go false e = column_back (G.dotted n m) (operand_value ns (G.ref (G.dotted n m))) t (dotted_low n m t e)
  operand_back (G.ref G.time) t u = ap (λ c. coded_term c (operand_value ns (G.ref G.time))) (code_alone ns).0 ∙ unfold coded_term C.term_of in refl
  operand_back (G.ref G.figure) t u = ap (λ c. coded_term c (operand_value ns (G.ref G.figure))) (code_alone ns).1 ∙ unfold coded_term C.term_of in refl
  operand_back (G.number z) t u = number_back z (not_not (is_value z) u)

  -- a comparison whose terms stand where they may
  abbrev pub standing : Test → Bool
  standing t = (good_test t && test_declared ns t) && bit? mask (left_code ns t)

  pub bounded_right : (t : Test) → T (good_test t) → T (not (operand_over t.right))
  unfolding good_test test_bounded test_over
  bounded_right t h = go (not (short_ref t.left)) (operand_over t.right) (and_r (test? t) (not (not (short_ref t.left) || operand_over t.right)) h)
    where
      go : (a b : Bool) → T (not (a || b)) → T (not b)
      go true b u = absurd u
      go false b u = u

  compare_back : (t : Test) → T (standing t) → node_compare (test_node ns t) ≡ C.compare_of d t
  unfolding node_compare C.compare_of test_node left_code right_code test_value
  compare_back t h =
      let x = test_fine ns sound t (and_l (good_test t && test_declared ns t) _ h) in
      let l = and_r (good_test t && test_declared ns t) _ h in
      rw (ops_back t.op, left_back t.left (operand_value ns t.right) x.0 l, operand_back t.right x.1 (bounded_right t (and_l (good_test t) (test_declared ns t) (and_l (good_test t && test_declared ns t) _ h))))

  -- ---- whole conditions

  mutual
    unfolding map_cond

    pub fused : (f : Test → Node) (g : Node → Compare) (c : Cond Test) → map_cond g (map_cond f c) ≡ map_cond (λ t. g (f t)) c
    fused f g (G.test t) = refl
    fused f g (G.all cs) = ap G.all (fused_all f g cs)
    fused f g (G.any cs) = ap G.any (fused_all f g cs)
    fused f g (G.neg c) = ap G.neg (fused f g c)

    fused_all : (f : Test → Node) (g : Node → Compare) (cs : Conds Test) → map_conds g (map_conds f cs) ≡ map_conds (λ t. g (f t)) cs
    fused_all f g (G.last c) = ap G.last (fused f g c)
    fused_all f g (G.more c cs) = ap₂ G.more (fused f g c) (fused_all f g cs)

  pub conds_back : (cs : List (Cond Test)) → T (every standing (gather tests cs)) → map (map_cond node_compare) (map (nodes_of ns) cs) ≡ map (map_cond (C.compare_of d)) cs
  unfolding gather nodes_of
  conds_back [] h = refl
  conds_back (c ∷ cs) h =
      ap₂ ◌∷◌
      (fused (test_node ns) node_compare c
      ∙ cond_same (λ t. node_compare (test_node ns t)) (C.compare_of d) c (all_weaken compare_back (every_all standing (tests c) (every_append_l standing (tests c) (gather tests cs) h))))
      (conds_back cs (every_append_r standing (tests c) (gather tests cs) h))

  -- ---- they may be lent

  value_zero : (o : Operand) → (operand_code ns o ≡ 26 → ⊥) → (operand_code ns o ≡ 27 → ⊥) → operand_value ns o ≡ 0
  unfolding operand_code operand_value
  value_zero (G.ref r) f g = rw (ne_eqb (ref_code ns r) 27 g)
  value_zero (G.number z) f g = absurd (f refl)

  terms_back : (t : Test) → T (standing t) → terms_sound mask (test_node ns t) ≡ compare_fit mask (C.compare_of d t)
  terms_back t h = terms_are mask (test_node ns t) (zero_value t) ∙ ap (compare_fit mask) (compare_back t h)
    where
      zero_value : (t : Test) → ((test_node ns t).right ≡ 26 → ⊥) → ((test_node ns t).right ≡ 27 → ⊥) → (test_node ns t).value ≡ 0
      zero_value t = unfold test_node right_code test_value in value_zero t.right

  gathered : (cs : List (Cond Test)) → gather tests (map (map_cond (C.compare_of d)) cs) ≡ map (C.compare_of d) (gather tests cs)
  unfolding gather
  gathered [] = refl
  gathered (c ∷ cs) = ap₂ ◌++◌ (tests_map (C.compare_of d) c) (gathered cs) ∙ sym (map-append (C.compare_of d) (tests c) (gather tests cs))

  nodes_every : (p : Node → Bool) (cs : List (Cond Test)) → every (λ c. every p (tests c)) (map (nodes_of ns) cs) ≡ every (λ t. p (test_node ns t)) (gather tests cs)
  unfolding nodes_of
  nodes_every p cs =
      every_of_map (λ c. every p (tests c)) (nodes_of ns) cs
      ∙ every_gathered (λ t. p (test_node ns t)) (λ c. every p (tests (nodes_of ns c))) tests (λ c. ap (every p) (tests_map (test_node ns) c) ∙ every_of_map p (test_node ns) (tests c)) cs

  -- the nodes of conditions that a grant may have
  pub nodes_back : (cs : List (Cond Test)) → T (every standing (gather tests cs)) → T (every (cond_fit mask) (map (map_cond (C.compare_of d)) cs)) → T (every (λ c. every (terms_sound mask) (tests c)) (map (nodes_of ns) cs))
  nodes_back cs h t =
      subst T (sym (nodes_every (terms_sound mask) cs ∙ every_good (λ t. terms_sound mask (test_node ns t)) (λ t. compare_fit mask (C.compare_of d t)) standing terms_back (gather tests cs) h
      ∙ sym (conditions_are mask (map (map_cond (C.compare_of d)) cs) ∙ ap (every (compare_fit mask)) (gathered cs) ∙ every_of_map (compare_fit mask) (C.compare_of d) (gather tests cs)))) t

  self_inside : (m : ℕ) → T (inside m m)
  self_inside m = bits_inside m m (λ i. same (bit? m i))
    where
      same : (a : Bool) → (a && a) ≡ a
      same true = refl
      same false = refl

  pub shown_inside : (x : Show) → T (every (fine ns) (show_refs x)) → T (within (map (column_of d) (show_refs x)) theirs) → T (inside (cond (show_of ns [] x 0).all mask (show_of ns [] x 0).mask) mask)
  unfolding show_of shown_all shown_listed columns_seen show_refs streams_mask column_codes
  shown_inside G.everything t u = self_inside mask
  shown_inside (G.listed rs) t u = subst T (sym (refs_inside ns ss b sound rs t)) u
