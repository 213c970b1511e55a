-- `all_valid`: the numbers passed are names.
use mathlib.Core.Path.{◌≡◌, sym, ap, ◌∙◌}
use mathlib.Core.List.{List}
use mathlib.Core.Bool.{Bool}
use Prim.Native.Nat.{ℕ, ◌-◌}
use native.Mathlib.Omega.{arith}
use lib.ListN.{length, get_or, take}
use borrow.Author.Rules.{rules}
use Rattle.lists.specs.Lists.{every, count_from}
use Rattle.lists.proofs.Counting.{every_places, every_past, every_fails, every_done}
use Rattle.caller.specs.Callers.{code_valid}
use Rattle.items.proofs.Sameness.{first_few}
use Rattle.caller.proofs.all_valid.Goals as goal
use Rattle.caller.proofs.all_valid.Goals.{Start}

four : (c : Start) → length c.args.codes ≡ 4
four c = search rules

abbrev valid_at : List ℕ → ℕ → Bool
valid_at xs i = code_valid (get_or xs i 0)

pub loop-code-init : goal.loop-code-init
loop-code-init c =
    let xs = take c.min.result c.args.codes in
    let e : length xs ≡ length xs - 0 = omega arith in
    every_places code_valid 0 xs ∙ ap (λ n. every (valid_at xs) (count_from 0 n)) e

pub returns-then-not-valid_name : goal.returns-then-not-valid_name
unfolding code_valid
returns-then-not-valid_name c =
    let l = c.loop-code in
    let xs = take c.min.result c.args.codes in
    sym (ap (every code_valid) (sym (first_few c.args.codes c.args.n (four (goal.at.returns-then-not-valid_name c).Start) c.min.ensures)) ∙ l.invariant
    ∙ every_fails (valid_at xs) l.code-index (length xs) (omega arith) (sym c.valid_name.ensures ∙ c.if-not-valid_name.true))

pub loop-code-preserved : goal.loop-code-preserved
unfolding code_valid
loop-code-preserved c =
    let l = c.loop-code in
    let xs = take c.min.result c.args.codes in
    l.invariant ∙ every_past (valid_at xs) l.code-index (length xs) (omega arith) (sym c.valid_name.ensures ∙ c.if-not-valid_name.false)

pub returns : goal.returns
returns c =
    let l = c.loop-code in
    let xs = take c.min.result c.args.codes in
    sym (ap (every code_valid) (sym (first_few c.args.codes c.args.n (four (goal.at.returns c).Start) c.min.ensures)) ∙ l.invariant ∙ every_done (valid_at xs) l.code-index (length xs) (omega arith))
