-- The caller call: each return, and what its definition means.
use mathlib.Core.Path.{◌≡◌, refl, sym, ap, ◌∙◌}
use mathlib.Core.Bool.{true, false, cond}
use mathlib.Core.Option.{some}
use lib.Dec.{T, ltb}
use lib.ListN.{length}
use borrow.Author.Tests.{le-ltb}
use Rattle.std.specs.Prelude.{Result, Ok, Err}
use Rattle.refusal.specs.Results.{Said, result_of, giving, said_by, held_after}
use Rattle.refusal.specs.Checks.{first, passes, table}
use Rattle.refusal.specs.declared.Refusal.{Refusal}
use Rattle.refusal.specs.declared.Refused.{Refused}
use Rattle.refusal.proofs.Passing.{passes_first}
use Rattle.refusal.proofs.Results.{Told, accepted, refused, told, result_none, given_refused, given_accepted, said_giving, held_giving, settled_old, settled_new}
use Rattle.lists.specs.Lists.{count_from}
use Rattle.lists.proofs.Laws.{parts, true_T, T_true}
use Rattle.syntax.specs.Grammar as G
use Rattle.syntax.specs.Grammar.{Bytes}
use Rattle.syntax.specs.Limits.{max_line}
use Rattle.syntax.specs.Readers.{parse_as}
use Rattle.syntax.proofs.Lines.{parsed_printed}
use Rattle.calls.specs.Validity.{valid_caller}
use Rattle.calls.specs.Tables.{caller_checks}
use Rattle.calls.specs.Calls as C
use Rattle.calls.specs.Calls.{caller_table, nobody}
use Rattle.calls.proofs.Written.{written_passes, written_short}
use Rattle.caller.specs.declared.Caller.{Caller}
use Rattle.caller.specs.declared.CallerLine.{CallerLine}
use Rattle.caller.specs.Callers.{roles_in, entries_in, caller_of, caller_sound, no_caller}
use Rattle.caller.specs.Lines.{caller_made, line_given, line_of, caller_line, with_caller, identified}
use Rattle.caller.proofs.Made.{made_back, made_sound}
use Rattle.caller.proofs.LineChecks.{line_first}

-- ---- the caller of a line that passes

module _ (bs : Bytes) (t : T (passes (caller_table bs))) where
  given : {X : Type 0} → ((m : G.Caller) → parse_as G.caller bs ≡ some m → T (passes (caller_checks m)) → X) → X
  unfolding caller_table
  given k = written_passes 0 bs (parse_as G.caller bs) caller_checks t k

  short_line : ltb max_line (length bs) ≡ false
  unfolding caller_table
  short_line = le-ltb max_line (length bs) (written_short 0 bs (parse_as G.caller bs) caller_checks t)

  read_caller : (w : Caller) → (caller_line bs).caller ≡ with_caller w (parse_as G.caller bs)
  unfolding caller_line line_of line_given with_caller
  read_caller w = given (λ m e p. rw (short_line, e))

-- ---- each return

module _ (w : Caller) (bs : Bytes) {l : CallerLine} {v : Said} (e : l ≡ caller_line bs) (u : v ≡ result_of (first (table l.checks))) where
  said : v ≡ result_of (first (caller_table bs))
  said = u ∙ ap (λ l. result_of (first (table l.checks))) e ∙ ap result_of (line_first bs)

  pub line_refused : {f : Refusal} → v ≡ Err f → ◌≡◌ {A = Result Caller (Refused Caller)} (Err (record { refusal = f; held = w })) (identified w bs)
  unfolding identified
  line_refused g = given_refused _ _ _ (sym said ∙ g) refl

  pub line_accepted : v ≡ Ok tt → ◌≡◌ {A = Result Caller (Refused Caller)} (Ok l.caller) (identified w bs)
  unfolding identified
  line_accepted g =
      let h = passes_first (caller_table bs) (result_none (first (caller_table bs)) (sym said ∙ g)) in
      given_accepted _ _ _ (sym said ∙ g) (ap Ok (ap (λ l. l.caller) e ∙ read_caller bs h w))

-- ---- what the definition means

module _ (w : Caller) (bs : Bytes) where
  abbrev left : Caller
  left = held_after (identified w bs)

  pub identified_said : said_by (identified w bs) ≡ result_of (first (caller_table bs))
  unfolding identified
  identified_said = said_giving (result_of (first (caller_table bs))) (with_caller w (parse_as G.caller bs)) w

  -- a refusal changes nothing
  pub refused_same : (said_by (identified w bs) ≡ Ok tt → ⊥) → left ≡ w
  unfolding identified
  refused_same n = held_giving (result_of (first (caller_table bs))) (with_caller w (parse_as G.caller bs)) w ∙ settled_old _ _ _ (λ a. n (identified_said ∙ a))

  module _ (a : said_by (identified w bs) ≡ Ok tt) where
    accepted_said : result_of (first (caller_table bs)) ≡ Ok tt
    accepted_said = sym identified_said ∙ a

    accepted_passes : T (passes (caller_table bs))
    accepted_passes = passes_first (caller_table bs) (result_none (first (caller_table bs)) accepted_said)

    left_made : {X : Type 0} → ((m : G.Caller) → parse_as G.caller bs ≡ some m → T (passes (caller_checks m)) → left ≡ caller_made m → X) → X
    unfolding identified with_caller
    left_made k =
        given bs accepted_passes (λ m e p. k m e p (held_giving (result_of (first (caller_table bs))) (with_caller w (parse_as G.caller bs)) w ∙ settled_new _ _ _ accepted_said ∙ ap (with_caller w) e))

    -- what is left stands for the caller that the line says
    pub accepted_caller : caller_of left ≡ C.with_caller (caller_of w) (parse_as G.caller bs)
    unfolding C.with_caller
    accepted_caller = left_made (λ m e p d. ap caller_of d ∙ made_back m (parsed_printed G.caller bs m e).0 p ∙ sym (ap (C.with_caller (caller_of w)) e))

    pub accepted_sound : caller_sound left ≡ true
    accepted_sound = left_made (λ m e p d. ap caller_sound d ∙ made_sound m (parsed_printed G.caller bs m e).0 p)

  -- both at once
  pub left_means : caller_of left ≡ cond (passes (caller_table bs)) (C.with_caller (caller_of w) (parse_as G.caller bs)) (caller_of w)
  left_means = go (told (said_by (identified w bs)) (caller_table bs) identified_said)
    where
      go : Told (said_by (identified w bs)) (caller_table bs) → caller_of left ≡ cond (passes (caller_table bs)) (C.with_caller (caller_of w) (parse_as G.caller bs)) (caller_of w)
      go (accepted a t) = accepted_caller a ∙ sym (rw (T_true (passes (caller_table bs)) t))
      go (refused n f) = ap caller_of (refused_same n) ∙ sym (rw f)

  -- what may be lent stays so
  pub left_sound : caller_sound w ≡ true → caller_sound left ≡ true
  left_sound s = go (told (said_by (identified w bs)) (caller_table bs) identified_said)
    where
      go : Told (said_by (identified w bs)) (caller_table bs) → caller_sound left ≡ true
      go (accepted a t) = accepted_sound a
      go (refused n f) = ap caller_sound (refused_same n) ∙ s

-- no role and no entry is nobody
pub new_nobody : caller_of no_caller ≡ nobody
unfolding caller_of roles_in entries_in no_caller nobody count_from
new_nobody = refl

-- what may be lent stands for a valid caller
pub sound_valid : (w : Caller) → caller_sound w ≡ true → T (valid_caller (caller_of w))
unfolding caller_sound
sound_valid w e = let t = true_T (caller_sound w) e in search parts
