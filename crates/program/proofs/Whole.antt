-- All of the input, round by round.
use mathlib.Core.Path.{◌≡◌, refl, sym, ap, ap₂, ◌∙◌, subst}
use mathlib.Core.List.{List, [], ◌∷◌, ◌++◌, map, append_assoc}
use mathlib.Core.Bool.{Bool, true, false, true≢false}
use Prim.Native.Nat.{ℕ, zero, suc, ◌+◌, ◌-◌, ◌^◌, ◌≤◌}
use native.Mathlib.Omega.{arith}
use lib.IntN.{ℤ, pos}
use lib.Dec.{lit≤}
use lib.ListN.{length, take, replicate, length-append, length-replicate}
use lib.Seq.{take-nil}
use Rattle.lists.specs.Lists.{every}
use Rattle.lists.proofs.Laws.{append_nil}
use Rattle.syntax.specs.Grammar.{Bytes}
use Rattle.calls.specs.Scripts.{Outcome, script}
use Rattle.history.specs.States as M
use Rattle.console.specs.declared.Reading.{Reading}
use Rattle.console.specs.declared.Reading.TheVariants.{Open, Ended}
use Rattle.console.specs.Lines.{lines_of, ended, begun, closing, closer, is_over}
use Rattle.console.specs.Output.{Writes}
use Rattle.console.proofs.Lines.{lines_whole}
use Rattle.script.specs.declared.State.{State}
use Rattle.script.specs.Runs as S
use Rattle.script.specs.Runs.{store}
use Rattle.script.specs.States.{new_state}
use Rattle.script.proofs.Running.{script_runs, new_fresh}
use Rattle.lines.specs.declared.Run.{Run}
use Rattle.lines.specs.Runs.{Point, point, Runs, stop, then, texts, Advances, refused_after, Known}
use Rattle.program.specs.Rounds.{Round, joined, Closed, Lent, Blocks, Prints, All}
use Rattle.lines.proofs.Advancing.{advances_then, advances_none}
use Rattle.program.proofs.Cut.{script_cut}

joined_append : (bs cs : List Bytes) → joined (bs ++ cs) ≡ joined bs ++ joined cs
unfolding joined
joined_append [] cs = refl
joined_append (b ∷ bs) cs = ap (λ (v : Bytes). b ++ v) (joined_append bs cs) ∙ sym (append_assoc b (joined bs) (joined cs))

joined_one : (bs : List Bytes) (b : Bytes) → joined (bs ++ (b ∷ [])) ≡ joined bs ++ b
unfolding joined
joined_one bs b = joined_append bs (b ∷ []) ∙ ap (λ (v : Bytes). joined bs ++ v) (append_nil b)

-- what is kept of a line is nothing where nothing is there of it
closer_same : (k : ℕ) (l v : Bytes) → 1 ≤ length l → take k l ≡ take (length l) v → closer k ≡ closing v
closer_same zero (b ∷ l) [] h e = refl
closer_same zero (b ∷ l) (c ∷ v) h e = absurd (let f = ap length e in omega arith)
closer_same (suc k) (b ∷ l) [] h e = absurd (let f = ap length e in omega arith)
closer_same (suc k) (b ∷ l) (c ∷ v) h e = refl
closer_same k [] v h e = absurd (omega arith)

pub wide : {a b : ℕ} → 1 ≤ a → b ≡ a → 1 ≤ b
wide h e = omega arith

pub wide_line : {a b : ℕ} → a ≡ 513 → b ≡ a → 1 ≤ b
wide_line h e = omega arith

-- after t rounds
pub record Rounds (run r : Run) (p q : Point) (l l' m m' : Bytes) (t : ℕ) : Type 0 where
  pub done : Blocks run r p q l l' m m'
  pub count : length done.blocks ≡ t

pub rounds_start : (run : Run) {p : Point} {l m : Bytes} → run.reading ≡ Open → Rounds run run p p l l m m 0
rounds_start run {p} {l} {m} e =
    record {
      done = record { blocks = []; advances = λ w k. unfold joined in advances_none run w k; written = λ u. u; closed = λ x. absurd (cc) };
      count = refl;
    }

module _ {run r r' : Run} {p q u : Point} {l l₁ l₂ m m₁ m₂ s : Bytes} (x : Blocks run r p q l l₁ m m₁) (y : Round s r r' q u l₁ l₂ m₁ m₂) (i : 1 ≤ length s) (j : 1 ≤ length l₁) where
  abbrev read : Bytes
  read = take y.got.count s

  known : (w : Bytes) → Known w run l → Known (begun w (joined x.blocks)) r l₁
  known w k = let a = x.advances w k in a.rest ∙ ap (λ (n : ℕ). take n (begun w (joined x.blocks))) (sym a.sized.line)

  -- one block more
  blocks_more : Blocks run r' p u l l₂ m m₂
  blocks_more =
      record {
        blocks = x.blocks ++ (read ∷ []);
        advances = λ w k. subst (λ (v : Bytes). Advances w v run r' p u l l₂ m m₂) (sym (joined_one x.blocks read)) (advances_then (x.advances w k) (y.advances (begun w (joined x.blocks)) (known w k)));
        written = λ v. y.written;
        closed = λ e f w k. record {
          input = joined x.blocks;
          same = joined_one x.blocks read ∙ ap (λ (v : Bytes). joined x.blocks ++ v) (y.reads.end (sym y.reading ∙ e) i ∙ closer_same r.kept l₁ (begun w (joined x.blocks)) j (known w k));
        };
      }

pub rounds_more : {run r r' : Run} {p q u : Point} {l l₁ l₂ m m₁ m₂ s : Bytes} {t : ℕ} → Rounds run r p q l l₁ m m₁ t → Round s r r' q u l₁ l₂ m₁ m₂ → 1 ≤ length s → 1 ≤ length l₁ → Rounds run r' p u l l₂ m m₂ (t + 1)
unfolding blocks_more
rounds_more {s = s} x y i j = record { done = blocks_more x.done y i j; count = let n = length-append x.done.blocks (take y.got.count s ∷ []) in let c = x.count in omega arith }

-- ---- what a run prints

as_script : {p q : Point} {ls : List Bytes} {os : List Outcome} → Runs p ls os q → S.Runs p.held p.cells p.bytes ls os
as_script stop = S.stop
as_script (then d x) = S.then d (as_script x)

module _ {run r : Run} {p q : Point} {b l l' m m' : Bytes} (lent : Lent run p b l m) (x : Blocks run r p q l l' m m') where
  known_none : Known [] run l
  known_none = ap (λ (n : ℕ). take n l) lent.kept ∙ sym (take-nil (length l))

  a : Advances [] (joined x.blocks) run r p q l l' m m'
  a = x.advances [] known_none

  -- A run that ends with its input prints what the script of the input's lines prints.
  pub run_prints : r.reading ≡ Ended → r.output.lost ≡ false → Prints (joined x.blocks) p.cells p.bytes r.refused
  run_prints e g =
      record {
        input = c.input;
        read = c.same;
        written = subst (λ (os : List Outcome). Writes (texts os) []) outcomes output;
        any = a.counts.refused ∙ ap₂ refused_after lent.none outcomes;
      }
    where
      c : Closed [] (joined x.blocks)
      c = x.closed e g [] known_none

      cut : map (take (length l)) (ended [] (joined x.blocks)) ≡ map (take 513) (lines_of c.input)
      cut = ap₂ (λ (n : ℕ) (ls : List Bytes). map (take n) ls) lent.line (ap (ended []) c.same ∙ sym (lines_whole c.input))

      outcomes : a.outcomes ≡ script p.cells p.bytes (lines_of c.input)
      outcomes = script_runs lent.fresh (as_script a.runs) ∙ ap (script p.cells p.bytes) cut ∙ script_cut p.cells p.bytes (lines_of c.input)

      output : Writes (texts a.outcomes) []
      output = let w = a.output lent.texts lent.out in record { written = w.written; all = ap (λ (n : ℕ). w.written ++ take n m') (sym (x.written lent.used)) ∙ w.all ∙ ap (λ (n : ℕ). take n m ++ texts a.outcomes) lent.used }

-- every round was done
pub rounds_end : {run r : Run} {p q : Point} {b l l' m m' : Bytes} {t : ℕ} → Lent run p b l m → Rounds run r p q l l' m m' t → t ≡ 2 ^ 64 - 1 → All run r p q l l' m m'
rounds_end k x h = record { done = x.done; over = λ e f. x.count ∙ h; prints = run_prints k x.done }

-- or the run is over before
pub rounds_over : {run r : Run} {p q : Point} {b l l' m m' : Bytes} {t : ℕ} → Lent run p b l m → Rounds run r p q l l' m m' t → {z : Bool} → z ≡ is_over r.reading r.output.lost → z ≡ true → All run r p q l l' m m'
rounds_over {r = r} k x e f = record { done = x.done; over = λ g h. absurd (true≢false (sym f ∙ e ∙ ap (λ (o : Reading). is_over o r.output.lost) g ∙ h)); prints = run_prints k x.done }

-- ---- the program

-- names, times and values of zeros, with a new ledger, are fresh
new_memory : {s : State} → s ≡ new_state → M.Fresh (store (record { state = s; names = replicate 28 0; times = replicate 512 0; values = replicate 3072 (pos 0); words = replicate 2280 0 })).memory
unfolding every new_state
new_memory e = record { begins = ap (λ (s : State). s.ledger) e; zero = tt; long = lit≤ tt; places = lit≤ tt; room = lit≤ tt }

-- what the program lends is what a run must be lent
pub lent_main : {run : Run} {s : State} {b : Bytes} → s ≡ new_state → 65536 ≡ length b → run.kept ≡ 0 → run.output.used ≡ 0 → run.refused ≡ false → run.reading ≡ Open
    → Lent run (point s (replicate 28 0) (replicate 512 0) (replicate 3072 (pos 0)) (replicate 2280 0) (replicate 4096 (pos 0)) (replicate 4096 0)) b (replicate 513 0) (replicate 262144 0)
lent_main {s = s} n e k u o f =
    record {
      fresh = new_fresh (record { state = s; names = replicate 28 0; times = replicate 512 0; values = replicate 3072 (pos 0); words = replicate 2280 0 }) n (new_memory n) (lit≤ tt);
      kept = k;
      used = u;
      none = o;
      block = omega (arith, e);
      line = length-replicate {A = ℕ} 513 0;
      texts = let a = length-replicate {A = ℤ} 4096 (pos 0) in let c = length-replicate {A = ℕ} 4096 0 in omega arith;
      out = let a = length-replicate {A = ℕ} 262144 0 in omega arith;
      goes = f;
    }
