-- `all_free`: the names passed are free.
use mathlib.Core.Path.{◌≡◌, sym, ap, ◌∙◌}
use mathlib.Core.List.{List}
use mathlib.Core.Bool.{Bool}
use Prim.Native.Nat.{ℕ, ◌-◌}
use native.Mathlib.Omega.{arith}
use lib.ListN.{length, get_or, take}
use borrow.Author.Rules.{rules}
use Rattle.lists.specs.Lists.{every, count_from}
use Rattle.lists.proofs.Counting.{every_places, every_past, every_fails, every_done}
use Rattle.schema.specs.Schemas.{code_free}
use Rattle.items.proofs.Sameness.{first_few}
use Rattle.stream_line.proofs.all_free.Goals as goal
use Rattle.stream_line.proofs.all_free.Goals.{Start}

six : (c : Start) → length c.args.codes ≡ 6
six c = search rules

abbrev free_at : List ℕ → ℕ → Bool
free_at xs i = code_free (get_or xs i 0)

pub loop-code-init : goal.loop-code-init
loop-code-init c =
    let xs = take c.min.result c.args.codes in
    let e : length xs ≡ length xs - 0 = omega arith in
    every_places code_free 0 xs ∙ ap (λ n. every (free_at xs) (count_from 0 n)) e

pub returns-then-not-free_name : goal.returns-then-not-free_name
returns-then-not-free_name c =
    let l = c.loop-code in
    let xs = take c.min.result c.args.codes in
    sym (ap (every code_free) (sym (first_few c.args.codes c.args.n (six (goal.at.returns-then-not-free_name c).Start) c.min.ensures)) ∙ l.invariant
    ∙ every_fails (free_at xs) l.code-index (length xs) (omega arith) (sym c.free_name.ensures ∙ c.if-not-free_name.true))

pub loop-code-preserved : goal.loop-code-preserved
loop-code-preserved c =
    let l = c.loop-code in
    let xs = take c.min.result c.args.codes in
    l.invariant ∙ every_past (free_at xs) l.code-index (length xs) (omega arith) (sym c.free_name.ensures ∙ c.if-not-free_name.false)

pub returns : goal.returns
returns c =
    let l = c.loop-code in
    let xs = take c.min.result c.args.codes in
    sym (ap (every code_free) (sym (first_few c.args.codes c.args.n (six (goal.at.returns c).Start) c.min.ensures)) ∙ l.invariant ∙ every_done (free_at xs) l.code-index (length xs) (omega arith))
