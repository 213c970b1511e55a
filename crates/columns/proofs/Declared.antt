-- The streams and the columns of a list by the definitions: which are declared, and which streams stand twice.
use mathlib.Core.Path.{◌≡◌, refl, sym, ap, ap₂, ◌∙◌}
use mathlib.Core.List.{List, [], ◌∷◌, map}
use mathlib.Core.Bool.{Bool, true, false, ◌&&◌, ◌||◌, not, cond}
use Prim.Native.Nat.{ℕ}
use native.Mathlib.Omega.{arith}
use lib.Dec.{T, eqb, eqb→eq, eqb_refl}
use borrow.Author.Tests.{ne_eqb}
use Rattle.lists.specs.Lists.{every, some?, distinct, nth, same_list}
use Rattle.lists.proofs.Laws.{and_l, and_r, and_both, or_cases, parts, true_T, T_true, all_weaken, every_all, every_map, every_both, map_same, position_nth, same_list→eq, same_list_refl, same_truth}
use Rattle.lists.proofs.Gathers.{some_of_map}
use Rattle.syntax.specs.Grammar.{Bytes, name?, Ref, ref?, Stream}
use Rattle.syntax.specs.Limits.{max_streams, short, short_ref}
use Rattle.model.specs.Queries.{Schema}
use Rattle.calls.specs.Names.{stream_names, stream_number}
use Rattle.calls.specs.Validity.{valid_name, free_name, valid_stream, valid_schema}
use Rattle.calls.specs.Tables.{declared, ref_declared}
use Rattle.schema.specs.Schemas.{schema_of, schema_sound}
use Rattle.schema.proofs.Tests.{streams_most}
use Rattle.schema.proofs.Valid.{sound_valid}
use Rattle.terms.specs.Terms.{unknown_code, ref_code}
use Rattle.terms.proofs.Resolving.{stream_found_is, stream_below, code_declared, fine}
use Rattle.columns.specs.Columns.{stream_place}

-- ---- lists

-- a test that each item passes where it fails another
some_not : {A : Type 0} (p q good : A → Bool) → ((x : A) → T (good x) → not (p x) ≡ q x) → (xs : List A) → T (every good xs) → some? p xs ≡ not (every q xs)
unfolding some? every
some_not p q good f [] t = refl
some_not p q good f (x ∷ xs) t = rw (sym (f x (search parts)), some_not p q good f xs (search parts)) (go (p x) (every q xs))
  where
    go : (a b : Bool) → (a || not b) ≡ not (not a && b)
    go true b = refl
    go false b = refl

-- a test of two items that agrees with another on the items of a list
pub some_same : {A : Type 0} (r s good : A → Bool) → ((a : A) → T (good a) → r a ≡ s a) → (xs : List A) → T (every good xs) → some? r xs ≡ some? s xs
unfolding every some?
some_same r s good f [] t = refl
some_same r s good f (x ∷ xs) t = ap₂ ◌||◌ (f x (search parts)) (some_same r s good f xs (search parts))

distinct_same : {A : Type 0} (r s : A → A → Bool) (good : A → Bool) → ((a b : A) → T (good a) → T (good b) → r a b ≡ s a b) → (xs : List A) → T (every good xs) → distinct r xs ≡ distinct s xs
unfolding every distinct
distinct_same r s good f [] t = refl
distinct_same r s good f (x ∷ xs) t = ap₂ (λ a b. not a && b) (some_same (r x) (s x) good (λ a u. f x a (search parts) u) xs (search parts)) (distinct_same r s good f xs (search parts))

distinct_of_map : {A B : Type 0} (r : B → B → Bool) (f : A → B) (xs : List A) → distinct r (map f xs) ≡ distinct (λ a b. r (f a) (f b)) xs
unfolding distinct
distinct_of_map r f [] = refl
distinct_of_map r f (x ∷ xs) = ap₂ (λ a b. not a && b) (some_of_map (r (f x)) f xs) (distinct_of_map r f xs)

some_every : (p : Bytes → Bool) (n : Bytes) (ws : List Bytes) → T (some? (same_list n) ws) → T (every p ws) → T (p n)
unfolding some? every
some_every p n [] t u = absurd t
some_every p n (m ∷ ws) t u =
    or_cases (same_list n m) (some? (same_list n) ws) t
    (λ e. rw (same_list→eq n m e) (and_l (p m) (every p ws) u))
    (λ e. some_every p n ws e (and_r (p m) (every p ws) u))

module _ (ns : List ℕ) (sound : T (schema_sound ns)) where
  abbrev d : Schema
  d = schema_of ns

  -- ---- streams

  pub place_declared : (n : Bytes) → T (name? n) → T (short n) → not (eqb (stream_place ns n) max_streams) ≡ declared d n
  unfolding stream_place
  place_declared n t u = rw (stream_found_is ns sound n t u) (go (declared d n) refl)
    where
      go : (b : Bool) → declared d n ≡ b → not (eqb (cond b (stream_number d n) max_streams) max_streams) ≡ b
      go true e =
          let l = stream_below ns sound n (true_T (declared d n) e) in
          let m = streams_most ns in
          rw (ne_eqb (stream_number d n) max_streams (λ z. omega arith))
      go false e = refl

  pub streams_unknown : (ws : List Bytes) → T (every name? ws) → T (every short ws) → some? (λ n. eqb (stream_place ns n) max_streams) ws ≡ not (every (declared d) ws)
  streams_unknown ws t u =
      some_not (λ n. eqb (stream_place ns n) max_streams) (declared d) (λ n. name? n && short n) (λ n v. place_declared n (search parts) (search parts)) ws
      (every_both name? short (λ n. name? n && short n) (λ n a b. and_both (name? n) (short n) a b) ws t u)

  -- what is declared is a name that is not too long
  names_valid : T (every valid_name (stream_names d))
  unfolding valid_schema stream_names
  names_valid =
      let v : T (valid_schema d) = sound_valid ns sound in
      every_map valid_stream valid_name (λ s. s.name) name_valid d (search parts)
    where
      name_valid : (s : Stream) → T (valid_stream s) → T (valid_name s.name)
      name_valid s t = unfold valid_stream free_name in search parts depth 8

  declared_named : (n : Bytes) → T (declared d n) → T (name? n) × T (short n)
  unfolding declared valid_name
  declared_named n t = let v : T (valid_name n) = some_every valid_name n (stream_names d) t names_valid in (search parts, search parts)

  pub place_number : (n : Bytes) → T (declared d n) → stream_place ns n ≡ stream_number d n
  unfolding stream_place
  place_number n t = let v = declared_named n t in stream_found_is ns sound n v.0 v.1 ∙ rw (T_true (declared d n) t)

  pub places_numbers : (ws : List Bytes) → T (every (declared d) ws) → map (stream_place ns) ws ≡ map (stream_number d) ws
  places_numbers ws t = map_same (stream_place ns) (stream_number d) (all_weaken place_number (every_all (declared d) ws t))

  place_same : (a b : Bytes) → T (declared d a) → T (declared d b) → eqb (stream_place ns a) (stream_place ns b) ≡ same_list a b
  unfolding declared stream_number
  place_same a b t u =
      rw (place_number a t, place_number b u)
      (same_truth (eqb (stream_number d a) (stream_number d b)) (same_list a b)
      (λ v. let e : a ≡ b = sym (position_nth a (stream_names d) t) ∙ ap (nth [] (stream_names d)) (eqb→eq (stream_number d a) (stream_number d b) v) ∙ position_nth b (stream_names d) u in rw e (same_list_refl b))
      (λ v. rw (same_list→eq a b v) (eqb_refl (stream_number d b))))

  -- places tell streams apart
  pub places_once : (ws : List Bytes) → T (every (declared d) ws) → distinct eqb (map (stream_place ns) ws) ≡ distinct same_list ws
  places_once ws t = distinct_of_map eqb (stream_place ns) ws ∙ distinct_same (λ a b. eqb (stream_place ns a) (stream_place ns b)) same_list (declared d) place_same ws t

  -- ---- columns

  pub columns_unknown : (rs : List Ref) → T (every ref? rs) → T (every short_ref rs) → some? (λ c. eqb (ref_code ns c) unknown_code) rs ≡ not (every (ref_declared d) rs)
  columns_unknown rs t u =
      some_not (λ c. eqb (ref_code ns c) unknown_code) (ref_declared d) (λ r. ref? r && short_ref r) (λ r v. code_declared ns sound r (search parts) (search parts)) rs
      (every_both ref? short_ref (λ r. ref? r && short_ref r) (λ r a b. and_both (ref? r) (short_ref r) a b) rs t u)

  pub columns_fine : (rs : List Ref) → T (every ref? rs) → T (every short_ref rs) → T (every (ref_declared d) rs) → T (every (fine ns) rs)
  unfolding fine
  columns_fine rs t u v =
      every_both ref? (λ r. short_ref r && ref_declared d r) (fine ns) (λ r a b. and_both (ref? r) (short_ref r && ref_declared d r) a b) rs t
      (every_both short_ref (ref_declared d) (λ r. short_ref r && ref_declared d r) (λ r a b. and_both (short_ref r) (ref_declared d r) a b) rs u v)
