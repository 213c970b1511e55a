-- The struct of a line's caller: what it stands for, and which of its numbers stand twice.
use mathlib.Core.Path.{◌≡◌, sym, ap, ap₂, ◌∙◌, subst}
use mathlib.Core.List.{List, [], map, map-map}
use mathlib.Core.Bool.{true, ◌&&◌}
use Prim.Native.Nat.{ℕ, ◌≤◌, min}
use native.Mathlib.Omega.{arith}
use lib.IntN.{ℤ, pos}
use lib.Dec.{T, eqb, leb→le}
use lib.ListN.{length, take, length-map}
use borrow.Author.Tests.{le-leb}
use Rattle.refusal.specs.Checks.{passes}
use Rattle.refusal.proofs.Passing.{pass_test}
use Rattle.lists.specs.Lists.{All, distinct, same_list}
use Rattle.lists.proofs.Laws.{parts, T_true, all_both, all_weaken, all_map, every_all, map_same}
use Rattle.syntax.specs.Grammar as G
use Rattle.syntax.specs.Grammar.{Bytes, Entry, name?, entry?, body?}
use Rattle.syntax.specs.Limits.{short, is_value}
use Rattle.calls.specs.Bounds.{caller_bounded}
use Rattle.calls.specs.Validity.{entry_names, valid_caller}
use Rattle.calls.specs.Tables.{caller_checks}
use Rattle.calls.proofs.Stored.{caller_stored}
use Rattle.text.specs.Words.{code_of, name_of, value_kept}
use Rattle.text.proofs.Codes.{name_back}
use Rattle.items.specs.Items.{code_short, first_of, once}
use Rattle.items.proofs.NameCodes.{Named, code_named, distinct_codes, first_taken}
use Rattle.caller.specs.Callers.{roles_in, entries_in, role_in, entry_in, caller_of, caller_sound}
use Rattle.caller.specs.Lines.{caller_made}
use Rattle.caller.proofs.Slots.{read_back, kept_at}
use Rattle.caller.proofs.Sound.{names_of_entries}

-- ---- names and values as they are kept

name_kept : (w : Bytes) → Named w → name_of (code_short w) ≡ w
name_kept w g = ap name_of (code_named w g) ∙ name_back w g.0 g.1

value_same : (z : ℤ) → T (is_value z) → value_kept z ≡ z
unfolding value_kept
value_same z g = rw (T_true (is_value z) g)

-- names that are few and not too long stand once where their numbers do
once_codes : {n : ℕ} (ws : List Bytes) → All Named ws → length ws ≤ 4 → n ≡ length ws → once (first_of 4 0 (map code_short ws)) n ≡ distinct same_list ws
unfolding once
once_codes {n} ws g h e =
    let l = length-map ws code_short in
    let c : n ≡ length (map code_short ws) = omega arith in
    ap (λ k. distinct eqb (take k (first_of 4 0 (map code_short ws)))) c
    ∙ ap (distinct eqb) (first_taken 4 0 (map code_short ws) (omega arith) ∙ map_same code_short code_of (all_weaken code_named g)) ∙ distinct_codes g

-- an entry whose name is not too long and whose value is within 32 bits
abbrev Fine : Entry → Type 0
Fine e = Named e.name × T (is_value e.value)

fine_entry : (e : Entry) → T (entry? e) × T (short e.name && is_value e.value) → Fine e
unfolding entry?
fine_entry e (n, b) = ((n, search parts), search parts)

codes_named : (es : List Entry) → map (λ e. code_short e.name) es ≡ map code_short (entry_names es)
codes_named es = sym (map-map code_short (λ e. e.name) es) ∙ ap (map code_short) (sym (names_of_entries es))

-- what is had again of an entry
again : Entry → Entry
again e = record { name = name_of (code_short e.name); value = value_kept e.value }

again_same : (e : Entry) → Fine e → again e ≡ e
unfolding again
again_same e g = ap₂ (λ n v. record { name = n; value = v }) (name_kept e.name g.0) (value_same e.value g.1)

no_entry : Entry
no_entry = record { name = []; value = pos 0 }

module _ (m : G.Caller) (t : T (body? G.caller m)) where
  module _ (b : T (caller_bounded m)) where
    few_roles : length m.roles ≤ 4
    unfolding caller_bounded
    few_roles = leb→le (length m.roles) 4 (search parts)

    few_entries : length m.profile ≤ 4
    unfolding caller_bounded
    few_entries = leb→le (length m.profile) 4 (search parts)

    named_roles : All Named m.roles
    unfolding caller_bounded body?
    named_roles = all_both (every_all name? m.roles (search parts)) (every_all short m.roles (search parts))

    fine_entries : All Fine m.profile
    unfolding caller_bounded body?
    fine_entries = all_weaken fine_entry (all_both (every_all entry? m.profile (search parts)) (every_all (λ e. short e.name && is_value e.value) m.profile (search parts)))

    named_entries : All Named (entry_names m.profile)
    named_entries = subst (λ ws. All Named ws) (sym (names_of_entries m.profile)) (all_map (λ e. e.name) (λ e g. g.0) fine_entries)

    -- no number stands twice where no name does
    pub once_same : (once (caller_made m).role (caller_made m).roles && once (caller_made m).name (caller_made m).entries) ≡ (distinct same_list m.roles && distinct same_list (entry_names m.profile))
    unfolding caller_made
    once_same =
        let a = few_roles in
        let c = few_entries in
        let l = ap length (names_of_entries m.profile) ∙ length-map m.profile (λ e. e.name) in
        ap₂ ◌&&◌ (once_codes m.roles named_roles a (omega arith))
        (ap (λ xs. once (first_of 4 0 xs) (min (length m.profile) 5)) (codes_named m.profile) ∙ once_codes (entry_names m.profile) named_entries (omega arith) (omega arith))

    roles_back : (caller_of (caller_made m)).roles ≡ m.roles
    unfolding caller_of roles_in role_in caller_made
    roles_back =
        let a = few_roles in
        let x : min (min (length m.roles) 7) 4 ≡ length m.roles = omega arith in
        rw x (read_back [] (role_in (caller_made m)) (λ w. name_of (code_short w)) m.roles (λ i h. ap name_of (kept_at code_short [] 0 4 m.roles a i h)) (all_weaken name_kept named_roles))

    profile_back : (caller_of (caller_made m)).profile ≡ m.profile
    unfolding caller_of entries_in entry_in caller_made again
    profile_back =
        let a = few_entries in
        let x : min (min (length m.profile) 5) 4 ≡ length m.profile = omega arith in
        rw x (read_back no_entry (entry_in (caller_made m)) again m.profile
        (λ i h. ap₂ (λ n v. record { name = n; value = v }) (ap name_of (kept_at (λ e. code_short e.name) no_entry 0 4 m.profile a i h)) (kept_at (λ e. value_kept e.value) no_entry (pos 0) 4 m.profile a i h))
        (all_weaken again_same fine_entries))

  module _ (p : T (passes (caller_checks m))) where
    bounded : T (caller_bounded m)
    unfolding caller_checks
    bounded = pass_test _ (caller_bounded m) _ p

    -- the struct of a line that passes stands for the caller that the line says
    pub made_back : caller_of (caller_made m) ≡ m
    made_back = ap₂ (λ rs es. record { roles = rs; profile = es }) (roles_back bounded) (profile_back bounded)

    pub made_sound : caller_sound (caller_made m) ≡ true
    unfolding caller_sound caller_made
    made_sound =
        let a = few_roles bounded in
        let c = few_entries bounded in
        rw (le-leb (min (length m.roles) 7) 4 (omega arith), le-leb (min (length m.profile) 5) 4 (omega arith)) (ap valid_caller made_back ∙ T_true (valid_caller m) (caller_stored m t p))
