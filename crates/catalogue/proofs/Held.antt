-- A caller's roles and profile as numbers: as the code cuts them, and what they stand for.
use mathlib.Core.Path.{◌≡◌, refl, sym, ap, ap₂, ◌∙◌, subst}
use mathlib.Core.List.{List, [], ◌∷◌, map, map-map}
use mathlib.Core.Bool.{true, ◌&&◌}
use Prim.Native.Nat.{ℕ, zero, suc, ◌*◌, ◌-◌, ◌%◌, ◌≤◌, ◌<◌, min}
use native.Mathlib.Omega.{arith}
use lib.Dec.{T}
use lib.IntN.{ℤ, pos}
use lib.ListN.{length, get_or, take, length-take}
use lib.Seq.{get_or-take}
use Rattle.lists.specs.Lists.{every, gather, count_from}
use Rattle.lists.proofs.Laws.{parts, and_r, T_true}
use Rattle.lists.proofs.Counting.{map_places, map_alike, every_at}
use Rattle.lists.proofs.Gathers.{every_of_map}
use Rattle.syntax.specs.Grammar.{Bytes, Entry}
use Rattle.syntax.specs.Limits.{is_value}
use Rattle.calls.specs.Validity.{valid_name, valid_caller}
use Rattle.text.specs.Words.{name_of, value_kept}
use Rattle.terms.specs.Terms.{biased}
use Rattle.terms.proofs.Numbers.{biased_back}
use Rattle.caller.specs.declared.Caller.{Caller}
use Rattle.caller.specs.Callers.{roles_in, entries_in, role_in, entry_in, caller_of, caller_sound}
use Rattle.caller.proofs.Identifying.{sound_valid}
use Rattle.nodes.specs.Nodes.{unbiased}
use Rattle.nodes.specs.Profiles.{entry_at, profile_in}
use Rattle.grant.specs.Catalogues.{words_in}
use Rattle.grant.specs.declared.Grant.{Grant}
use Rattle.needs.specs.declared.Needs.{Needs}
use Rattle.routes.specs.Opening.{caller_in}
use Rattle.routes.specs.Listing.{caller_bits}
use Rattle.catalogue.specs.declared.Opened.{Opened}
use Rattle.catalogue.specs.Callers.{roles_of, entry_numbers, numbers_of, profile_of}
use Rattle.catalogue.specs.Opened.{with_bits, opened_with}

-- the first of some numbers, place by place
first_places : (xs : List ℕ) (k : ℕ) → k ≤ length xs → take k xs ≡ map (λ i. get_or xs i 0) (count_from 0 k)
first_places xs k h =
    let e : length (take k xs) ≡ k = length-take k xs ∙ omega arith in
    sym (map_places 0 (take k xs)) ∙ ap (λ (n : ℕ). map (λ i. get_or (take k xs) i 0) (count_from 0 n)) e
    ∙ map_alike (λ i. get_or (take k xs) i 0) (λ i. get_or xs i 0) 0 k (λ i a b. get_or-take k xs i 0 (omega arith))

module _ (w : Caller) where
  pub numbers_all : {a b c d : ℕ} → a ≡ biased (get_or w.value 0 (pos 0)) → b ≡ biased (get_or w.value 1 (pos 0)) → c ≡ biased (get_or w.value 2 (pos 0)) → d ≡ biased (get_or w.value 3 (pos 0))
      → get_or w.name 0 0 ∷ a ∷ get_or w.name 1 0 ∷ b ∷ get_or w.name 2 0 ∷ c ∷ get_or w.name 3 0 ∷ d ∷ [] ≡ numbers_of w 4
  unfolding numbers_of entry_numbers gather count_from
  numbers_all e f g h = rw (e, f, g, h)

  numbers_first : (k : ℕ) → k ≤ 4 → take (k * 2) (numbers_of w 4) ≡ numbers_of w k
  unfolding numbers_of entry_numbers gather count_from
  numbers_first zero h = refl
  numbers_first (suc zero) h = refl
  numbers_first (suc (suc zero)) h = refl
  numbers_first (suc (suc (suc zero))) h = refl
  numbers_first (suc (suc (suc (suc zero)))) h = refl
  numbers_first (suc (suc (suc (suc (suc k))))) h = absurd (omega arith)

  -- the entries that count
  pub profile_first : {e : ℕ} {ps : List ℕ} → ps ≡ numbers_of w 4 → e ≡ min w.entries 4 → take (e * 2 - 0) ps ≡ profile_of w
  unfolding profile_of entries_in
  profile_first {e} j l =
      let b : e * 2 - 0 ≡ e * 2 = omega arith in
      ap₂ take b j ∙ numbers_first e (omega arith) ∙ ap (numbers_of w) l

  module _ (o : Opened) (n : Needs) (place : ℕ) (g : Grant) (ns ws : List ℕ) (four : length w.role ≡ 4) where
    pub caller_end : {k e b : ℕ} {ps : List ℕ} {r : Opened} → k ≡ min w.roles 4 → ps ≡ numbers_of w 4 → e ≡ min w.entries 4 → b ≡ caller_bits n g (words_in ws place) (take (k - 0) w.role) (take (e * 2 - 0) ps)
        → r ≡ with_bits o place g b ns ws → r ≡ opened_with o n place g ns ws (roles_of w) (profile_of w)
    unfolding roles_of roles_in opened_with
    caller_end {k} {e} i j l f h =
        let a : k - 0 ≡ k = omega arith in
        h
        ∙ ap (λ (x : ℕ). with_bits o place g x ns ws)
        (f
        ∙ ap₂ (caller_bits n g (words_in ws place)) (ap (λ (m : ℕ). take m w.role) a ∙ first_places w.role k (omega arith) ∙ ap (λ (m : ℕ). map (λ x. get_or w.role x 0) (count_from 0 m)) i)
        (profile_first j l))

-- ---- the numbers stand for the caller

module _ (w : Caller) where
  abbrev value_at : ℕ → ℤ
  value_at i = get_or w.value i (pos 0)

  profile_kept : (k : ℕ) → k ≤ 4 → ((i : ℕ) → i < k → unbiased (biased (value_at i) % 4294967296) ≡ value_at i) → profile_in (numbers_of w k) ≡ map (entry_in w) (count_from 0 k)
  unfolding profile_in entry_at numbers_of entry_numbers entry_in gather count_from
  profile_kept zero h f = refl
  profile_kept (suc zero) h f = rw (f 0 (omega arith))
  profile_kept (suc (suc zero)) h f = rw (f 0 (omega arith), f 1 (omega arith))
  profile_kept (suc (suc (suc zero))) h f = rw (f 0 (omega arith), f 1 (omega arith), f 2 (omega arith))
  profile_kept (suc (suc (suc (suc zero)))) h f = rw (f 0 (omega arith), f 1 (omega arith), f 2 (omega arith), f 3 (omega arith))
  profile_kept (suc (suc (suc (suc (suc k))))) h f = absurd (omega arith)

  values_sound : caller_sound w ≡ true → (i : ℕ) → i < entries_in w → T (is_value (value_at i))
  unfolding valid_caller caller_of entry_in
  values_sound s i h =
      let t = sound_valid w s in
      let v : T (every (λ (e : Entry). valid_name e.name && is_value e.value) (map (entry_in w) (count_from 0 (entries_in w)))) = search parts in
      let u = subst T (every_of_map (λ (e : Entry). valid_name e.name && is_value e.value) (entry_in w) (count_from 0 (entries_in w))) v in
      and_r (valid_name (entry_in w i).name) (is_value (value_at i))
      (every_at (λ (j : ℕ). valid_name (entry_in w j).name && is_value (value_at j)) 0 (entries_in w) u i (omega arith) (omega arith))

  -- a caller who may be lent has values of 32 bits, which are kept
  values_kept : caller_sound w ≡ true → (i : ℕ) → i < entries_in w → unbiased (biased (value_at i) % 4294967296) ≡ value_at i
  unfolding unbiased value_kept
  values_kept s i h =
      let t = values_sound s i h in
      let k : value_kept (value_at i) ≡ value_at i = rw (T_true (is_value (value_at i)) t) in
      let l = rw k at (biased_back (value_at i) t) in
      let e : biased (value_at i) % 4294967296 ≡ biased (value_at i) = omega (arith, l.0) in
      rw e l.1

  few : entries_in w ≤ 4
  unfolding entries_in
  few = omega arith

  pub caller_held : caller_sound w ≡ true → caller_in (roles_of w) (profile_of w) ≡ caller_of w
  unfolding caller_in caller_of roles_of profile_of role_in
  caller_held s =
      ap₂ (λ (rs : List Bytes) (es : List Entry). record { roles = rs; profile = es }) (map-map name_of (λ (i : ℕ). get_or w.role i 0) (count_from 0 (roles_in w)))
      (profile_kept (entries_in w) few (values_kept s))
