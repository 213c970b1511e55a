-- What is read at once, and how many times.
use mathlib.Core.Path.{◌≡◌, refl, ap, ◌∙◌, subst}
use mathlib.Core.List.{◌++◌}
use mathlib.Core.Bool.{false, true≢false}
use Prim.Native.Nat.{ℕ, ◌-◌}
use native.Mathlib.Omega.{arith}
use lib.ListN.{take, drop}
use Rattle.lists.proofs.Laws.{append_nil}
use Rattle.syntax.specs.Grammar.{Bytes}
use Rattle.console.specs.declared.Got.{Got}
use Rattle.console.specs.declared.Reading.{Reading}
use Rattle.console.specs.declared.Reading.TheVariants.{Open, Ended, Failed}
use Rattle.console.specs.Lines.{Reads, is_over}
use Rattle.console.specs.Output.{Lasts}
use Rattle.lines.specs.declared.Run.{Run}
use Rattle.lines.specs.Runs.{Point, Advances, Block}
use Rattle.program.specs.Rounds.{Goes, Round}

-- ---- a part of the input that is read

pub round_done : (s : Bytes) (run b r : Run) (got : Got) {p q : Point} {l l' m m' : Bytes} → Reads run.kept s got → Block (take (got.count - 0) (drop 0 s)) run b p q l l' m m' → r.kept ≡ b.kept → r.lines ≡ b.lines
    → r.refused ≡ b.refused → r.explains ≡ b.explains → (r.output.used ≡ 0) × Lasts b.output.lost r.output.lost → r.reading ≡ got.reading → Round s run r p q l l' m m'
round_done s run b r got {p} {q} {l} {l'} {m} {m'} x y kept lines refused explains used reading =
    record {
      got = got;
      reads = x;
      reading = reading;
      written = used.0;
      advances = λ w k. subst (λ (v : Bytes). Advances w v run r p q l l' m m') (ap (λ (n : ℕ). take n s) (all_of got.count)) (flushed w (y.advances w k));
    }
  where
    all_of : (n : ℕ) → n - 0 ≡ n
    all_of n = omega arith

    flushed : (w : Bytes) {v : Bytes} → Advances w v run b p q l l' m m' → Advances w v run r p q l l' m m'
    flushed w a =
        record {
          outcomes = a.outcomes;
          runs = a.runs;
          rest = ap (λ (n : ℕ). take n l') kept ∙ a.rest;
          output = λ i j. let z = a.output i j in record { written = z.written ++ take b.output.used m'; all = ap (λ (n : ℕ). (z.written ++ take b.output.used m') ++ take n m') used.0 ∙ append_nil (z.written ++ take b.output.used m') ∙ z.all };
          counts = record { lines = lines ∙ a.counts.lines; refused = refused ∙ a.counts.refused; explains = explains ∙ a.counts.explains; lost = λ h. used.1 (a.counts.lost h) };
          sized = a.sized;
        }

-- ---- where a round is begun: where the input went on and no output was lost, and nowhere else

pub goes_open : (run : Run) → Goes run → (run.reading ≡ Open) × (run.output.lost ≡ false)
goes_open run g = go run.reading refl g
  where
    go : (o : Reading) → run.reading ≡ o → is_over o run.output.lost ≡ false → (run.reading ≡ Open) × (run.output.lost ≡ false)
    go Open e h = (e, h)
    go Ended e h = absurd (true≢false h)
    go Failed e h = absurd (true≢false h)

pub open_goes : (run : Run) → run.reading ≡ Open → run.output.lost ≡ false → Goes run
open_goes run e h = ap (λ (o : Reading). is_over o run.output.lost) e ∙ h
