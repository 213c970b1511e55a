-- Refusal 12 of a caller, test by test.
use mathlib.Core.Path.{◌≡◌, refl, sym, ap, ap₂, ◌∙◌}
use mathlib.Core.List.{List, [], ◌∷◌, map, map-map}
use mathlib.Core.Bool.{Bool, true, false, ◌&&◌, not, and-true}
use Prim.Native.Nat.{◌≤◌, ◌<◌, min}
use native.Mathlib.Omega.{arith}
use lib.IntN.{pos}
use lib.Dec.{T, leb}
use lib.ListN.{length, take, get_or}
use borrow.Author.Tests.{le-leb, lt-leb, not-true, not-false}
use Rattle.lists.specs.Lists.{every, distinct, same_list, count_from}
use Rattle.lists.proofs.Laws.{T_true}
use Rattle.lists.proofs.Counting.{map_length}
use Rattle.lists.proofs.Gathers.{every_of_map}
use Rattle.syntax.specs.Grammar.{Entry}
use Rattle.syntax.specs.Limits.{is_value}
use Rattle.calls.specs.Validity.{valid_name, entry_names, valid_caller}
use Rattle.text.specs.Words.{name_of}
use Rattle.text.proofs.Values.{value_at}
use Rattle.caller.specs.declared.Caller.{Caller}
use Rattle.caller.specs.Callers.{roles_in, entries_in, role_in, entry_in, caller_of, caller_sound, code_valid, names_of, names_sound}
use Rattle.caller.proofs.Slots.{by_places}

-- ---- what it stands for

pub names_of_entries : (es : List Entry) → entry_names es ≡ map (λ e. e.name) es
unfolding entry_names
names_of_entries [] = refl
names_of_entries (e ∷ es) = ap (λ l. e.name ∷ l) (names_of_entries es)

-- an item's test by its parts, of which one always holds
every_first : {A : Type 0} (p q : A → Bool) → ((x : A) → T (q x)) → (xs : List A) → every (λ x. p x && q x) xs ≡ every p xs
unfolding every
every_first p q h [] = refl
every_first p q h (x ∷ xs) = ap₂ ◌&&◌ (ap (λ t. p x && t) (T_true (q x) (h x)) ∙ and-true (p x)) (every_first p q h xs)

module _ (w : Caller) where
  module _ (h : w.roles ≤ 4) (l : length w.role ≡ 4) where
    roles_are : (caller_of w).roles ≡ names_of w.role w.roles
    unfolding caller_of roles_in role_in names_of
    roles_are =
        let e : min w.roles 4 ≡ w.roles = omega arith in
        rw e (by_places 0 name_of w.role w.roles (omega arith))

    roles_valid : every valid_name (caller_of w).roles ≡ every code_valid (take w.roles w.role)
    unfolding names_of code_valid
    roles_valid = ap (every valid_name) roles_are ∙ every_of_map valid_name name_of (take w.roles w.role)

  module _ (h : w.entries ≤ 4) (l : length w.name ≡ 4) where
    entries_are : entry_names (caller_of w).profile ≡ names_of w.name w.entries
    unfolding caller_of entries_in entry_in names_of
    entries_are =
        let e : min w.entries 4 ≡ w.entries = omega arith in
        names_of_entries (caller_of w).profile
        ∙ rw e (map-map (λ e. e.name) (entry_in w) (count_from 0 w.entries) ∙ by_places 0 name_of w.name w.entries (omega arith))

    entries_valid : T (every is_value w.value) → every (λ e. valid_name e.name && is_value e.value) (caller_of w).profile ≡ every code_valid (take w.entries w.name)
    unfolding caller_of entries_in entry_in names_of code_valid
    entries_valid v =
        every_of_map (λ e. valid_name e.name && is_value e.value) (entry_in w) (count_from 0 (entries_in w))
        ∙ every_first (λ i. valid_name (name_of (get_or w.name i 0))) (λ i. is_value (get_or w.value i (pos 0))) (λ i. value_at w.value i v) (count_from 0 (entries_in w))
        ∙ sym (every_of_map valid_name (λ i. name_of (get_or w.name i 0)) (count_from 0 (entries_in w)))
        ∙ ap (every valid_name) (sym (map-map (λ e. e.name) (entry_in w) (count_from 0 (entries_in w))) ∙ sym (names_of_entries (caller_of w).profile) ∙ entries_are)
        ∙ every_of_map valid_name name_of (take w.entries w.name)

  few_roles : leb (length (caller_of w).roles) 4 ≡ true
  unfolding caller_of roles_in
  few_roles = let e = map_length (role_in w) 0 (roles_in w) in le-leb (length (caller_of w).roles) 4 (omega arith)

  few_entries : leb (length (caller_of w).profile) 4 ≡ true
  unfolding caller_of entries_in
  few_entries = let e = map_length (entry_in w) 0 (entries_in w) in le-leb (length (caller_of w).profile) 4 (omega arith)

  -- ---- each return

  pub sound_roles : 4 < w.roles → false ≡ caller_sound w
  unfolding caller_sound
  sound_roles h = rw (lt-leb w.roles 4 h)

  module _ (h : w.roles ≤ 4) where
    pub sound_entries : 4 < w.entries → false ≡ caller_sound w
    unfolding caller_sound
    sound_entries g = rw (le-leb w.roles 4 h, lt-leb w.entries 4 g)

    module _ (g : w.entries ≤ 4) (v : T (every is_value w.value)) (l : length w.role ≡ 4) (m : length w.name ≡ 4) where
      six : (a b c d : Bool) → (((((true && a) && b) && true) && c) && d) ≡ ((a && b) && (c && d))
      six true true c d = refl
      six true false c d = refl
      six false b c d = refl

      both : caller_sound w ≡ (names_sound w.role w.roles && names_sound w.name w.entries)
      unfolding caller_sound valid_caller names_sound
      both =
          rw (le-leb w.roles 4 h, le-leb w.entries 4 g, few_roles, few_entries, roles_valid h l, entries_valid g m v, roles_are h l, entries_are g m)
          (six (every code_valid (take w.roles w.role)) (distinct same_list (names_of w.role w.roles)) (every code_valid (take w.entries w.name)) (distinct same_list (names_of w.name w.entries)))

      module _ {x : Bool} (e : x ≡ names_sound w.role w.roles) where
        pub sound_role : not x ≡ true → false ≡ caller_sound w
        sound_role k = rw (both, sym e ∙ not-true x k)

        pub sound_name : {y : Bool} → not x ≡ false → y ≡ names_sound w.name w.entries → y ≡ caller_sound w
        sound_name k f = f ∙ rw (both, sym e ∙ not-false x k)

pub ruleset sounds = (sound_roles, sound_entries, sound_role, sound_name)
