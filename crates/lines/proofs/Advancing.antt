-- Parts of the input, one behind the other.
use Rattle.std.proofs.Common.{◌≡◌, ℕ, zero, suc, ◌+◌, ◌-◌, ◌%◌, ◌^◌, ◌<◌, ◌≤◌, min, Bool, true, cond, List, [], ◌∷◌, ◌++◌, map, length, take, drop, ℤ, sym, refl, ap, ◌∙◌, subst, ap₂, append_assoc, arith, length-drop, take_all, take-add}
use mathlib.Core.List.{map-append}
use lib.Seq.{take-nil}
use Rattle.lists.proofs.Laws.{append_nil}
use Rattle.syntax.specs.Grammar.{Bytes}
use Rattle.syntax.specs.Readers.{verb_of}
use Rattle.calls.specs.Scripts.{Outcome}
use Rattle.report.specs.declared.Message.{Message}
use Rattle.report.specs.declared.Message.TheVariants.{Quiet, Refusal, Cells, Text}
use Rattle.report.specs.Outcomes.{outcome_of, outcome_text}
use Rattle.report.proofs.Printed.{take_min}
use Rattle.history.specs.Fixtures.{Store}
use Rattle.console.specs.Lines.{line_end, Ends, Keeps, ended, begun}
use Rattle.console.specs.Output.{Writes, refuses}
use Rattle.console.proofs.Lines.{ended_append, begun_append, ended_line, begun_line, ended_none, begun_none}
use Rattle.script.specs.Steps.{Does}
use Rattle.lines.specs.declared.Run.{Run}
use Rattle.lines.specs.Runs.{Point, outcome_at, Runs, stop, then, texts, Done, lines_after, is_refusal, refused_after, Advances, Known, Part}

-- ---- runs, texts and counts of two parts

runs_append : {p q t : Point} {ls ms : List Bytes} {os us : List Outcome} → Runs p ls os q → Runs q ms us t → Runs p (ls ++ ms) (os ++ us) t
runs_append stop y = y
runs_append (then d x) y = then d (runs_append x y)

texts_append : (os us : List Outcome) → texts (os ++ us) ≡ texts os ++ texts us
unfolding texts
texts_append [] us = refl
texts_append (o ∷ os) us = ap (λ (t : Bytes). outcome_text o ++ t) (texts_append os us) ∙ sym (append_assoc (outcome_text o) (texts os) (texts us))

lines_append : (n : ℕ) (os us : List Outcome) → lines_after n (os ++ us) ≡ lines_after (lines_after n os) us
unfolding lines_after
lines_append n [] us = refl
lines_append n (o ∷ os) us = lines_append ((n + 1) % 2 ^ 64) os us

refused_append : (b : Bool) (os us : List Outcome) → refused_after b (os ++ us) ≡ refused_after (refused_after b os) us
unfolding refused_after
refused_append b [] us = refl
refused_append b (o ∷ os) us = refused_append (cond b true (is_refusal o)) os us

writes_then : (o a o₁ b o₂ : Bytes) → Writes (o ++ a) o₁ → Writes (o₁ ++ b) o₂ → Writes (o ++ (a ++ b)) o₂
writes_then o a o₁ b o₂ x y =
    record {
      written = x.written ++ y.written;
      all = append_assoc x.written y.written o₂ ∙ ap (λ (t : Bytes). x.written ++ t) y.all ∙ sym (append_assoc x.written o₁ b) ∙ ap (λ (t : Bytes). t ++ b) x.all ∙ append_assoc o a b;
    }

pub advances_then : {w a b : Bytes} {run r s : Run} {p q t : Point} {l l₁ l₂ m m₁ m₂ : Bytes} → Advances w a run r p q l l₁ m m₁ → Advances (begun w a) b r s q t l₁ l₂ m₁ m₂ → Advances w (a ++ b) run s p t l l₂ m m₂
advances_then {w} {a} {b} {run} {r} {s} {p} {q} {t} {l} {l₁} {l₂} {m} {m₁} {m₂} x y =
    record {
      outcomes = x.outcomes ++ y.outcomes;
      runs = subst (λ (ls : List Bytes). Runs p ls (x.outcomes ++ y.outcomes) t) (sym cut) (runs_append x.runs (subst (λ (n : ℕ). Runs q (map (take n) (ended (begun w a) b)) y.outcomes t) x.sized.line y.runs));
      rest = y.rest ∙ ap₂ (λ (n : ℕ) (v : Bytes). take n v) x.sized.line (sym (begun_append w a b));
      output = λ h i. subst (λ (v : Bytes). Writes (take run.output.used m ++ v) (take s.output.used m₂)) (sym (texts_append x.outcomes y.outcomes))
          (writes_then (take run.output.used m) (texts x.outcomes) (take r.output.used m₁) (texts y.outcomes) (take s.output.used m₂) (x.output h i)
          (y.output (let c = x.sized.cells in let d = x.sized.bytes in omega arith) (let e = x.sized.out in omega arith)));
      counts = record {
        lines = y.counts.lines ∙ ap (λ (n : ℕ). lines_after n y.outcomes) x.counts.lines ∙ sym (lines_append run.lines x.outcomes y.outcomes);
        refused = y.counts.refused ∙ ap (λ (z : Bool). refused_after z y.outcomes) x.counts.refused ∙ sym (refused_append run.refused x.outcomes y.outcomes);
        explains = y.counts.explains ∙ x.counts.explains;
        lost = λ h. y.counts.lost (x.counts.lost h);
      };
      sized = record { cells = y.sized.cells ∙ x.sized.cells; bytes = y.sized.bytes ∙ x.sized.bytes; line = y.sized.line ∙ x.sized.line; out = y.sized.out ∙ x.sized.out };
    }
  where
    cut : map (take (length l)) (ended w (a ++ b)) ≡ map (take (length l)) (ended w a) ++ map (take (length l)) (ended (begun w a) b)
    cut = ap (map (take (length l))) (ended_append w a b) ∙ map-append (take (length l)) (ended w a) (ended (begun w a) b)

-- ---- a line

-- a step by the kept part of a line
pub step_kept : {zs zs' : List ℤ} {ys ys' : Bytes} {s t : Store} {y : Message} (l : Bytes) (kept n : ℕ) → n ≡ min kept (length l) → Does (take (n - 0) l) zs ys (verb_of (take (n - 0) l)) s t zs' ys' y
    → Does (take kept l) zs ys (verb_of (take kept l)) s t zs' ys' y
step_kept {zs} {zs'} {ys} {ys'} {s} {t} {y} l kept n e d = let g : n - 0 ≡ n = omega arith in subst (λ (w : Bytes). Does w zs ys (verb_of w) s t zs' ys' y) (ap (λ (j : ℕ). take j l) (g ∙ e) ∙ take_min l kept) d

-- ---- up to the next line feed

take_front : (n : ℕ) (a b : Bytes) → take n (take n a ++ b) ≡ take n (a ++ b)
take_front zero a b = refl
take_front (suc n) [] b = refl
take_front (suc n) (x ∷ a) b = ap (λ (v : Bytes). x ∷ v) (take_front n a b)

one_text : (o : Outcome) → outcome_text o ≡ texts (o ∷ [])
unfolding texts
one_text o = sym (append_nil (outcome_text o))

same_refusal : (y : Message) (q : Point) → refuses y ≡ is_refusal (outcome_of y q.cells q.bytes)
unfolding outcome_of is_refusal
same_refusal Quiet q = refl
same_refusal (Refusal n) q = refl
same_refusal (Cells n) q = refl
same_refusal (Text n) q = refl

module _ (s : Bytes) (run mid : Run) {e : ℕ} {l l' : Bytes} (x : Ends s run.at e) (y : Keeps l run.kept (take (e - run.at) (drop run.at s)) l' mid.kept) (wide : length l' ≡ length l) where
  abbrev d : Bytes
  d = drop run.at s

  long : length d ≡ length s - run.at
  long = length-drop run.at s

  -- what is kept then
  kept_then : (w : Bytes) → Known w run l → take mid.kept l' ≡ take (length l) (w ++ take (line_end d) d)
  kept_then w k =
      let f : e - run.at ≡ line_end d = let a = x.place in omega arith in
      y.bytes ∙ ap (λ (v : Bytes). take (length l) (v ++ take (e - run.at) d)) k ∙ take_front (length l) w (take (e - run.at) d) ∙ ap (λ (n : ℕ). take (length l) (w ++ take n d)) f

  module _ (at : mid.at ≡ min (e + 1) (length s)) (lines : mid.lines ≡ run.lines) (refused : mid.refused ≡ run.refused) (explains : mid.explains ≡ run.explains) (used : mid.output.used ≡ run.output.used)
      (lost : mid.output.lost ≡ run.output.lost) (reading : mid.reading ≡ run.reading) where
    -- no line ends
    pub part_kept : {p : Point} {m : Bytes} → length s ≤ e → Part s run mid p p l l' m m
    part_kept {p} {m} h =
        record {
          more = λ k. omega arith;
          inside = omega arith;
          reading = reading;
          advances = λ w k. record {
            outcomes = [];
            runs = subst (λ (v : List Bytes). Runs p (map (take (length l)) v) [] p) (sym (ap (ended w) whole ∙ ended_none w d far)) stop;
            rest = kept_then w k ∙ ap (λ (v : Bytes). take (length l) (w ++ v)) (take_all (line_end d) d far) ∙ sym (ap (λ (v : Bytes). take (length l) v) (ap (begun w) whole ∙ begun_none w d far));
            output = λ i j. record { written = []; all = ap (λ (n : ℕ). take n m) used ∙ sym (append_nil (take run.output.used m)) ∙ ap (λ (v : Bytes). take run.output.used m ++ v) (unfold texts in refl) };
            counts = record { lines = lines ∙ (unfold lines_after in refl); refused = refused ∙ (unfold refused_after in refl); explains = explains; lost = λ h. lost ∙ h };
            sized = record { cells = refl; bytes = refl; line = wide; out = refl };
          };
        }
      where
        far : length d ≤ line_end d
        far = let a = x.place in let b = long in omega arith

        whole : take (mid.at - run.at) d ≡ d
        whole = take_all (mid.at - run.at) d (let a = x.place in let b = long in omega arith)

    -- a line ends, and is done
    pub part_done : {r : Run} {p q : Point} {m m' : Bytes} → e < length s → Done (take mid.kept l') mid r p q m m' → length q.cells ≡ length p.cells → length q.bytes ≡ length p.bytes → length m' ≡ length m
        → Part s run r p q l l' m m'
    part_done {r} {p} {q} {m} {m'} h z cs bs os =
        let u = z.follows.at in
        record {
          more = λ k. let a = x.place in omega arith;
          inside = omega arith;
          reading = z.follows.reading ∙ reading;
          advances = λ w k. record {
            outcomes = outcome_at q z.said ∷ [];
            runs = subst (λ (v : List Bytes). Runs p (map (take (length l)) v) (outcome_at q z.said ∷ []) q) (sym (ap (ended w) piece ∙ ended_line w d near))
                (subst (λ (v : Bytes). Runs p (v ∷ []) (outcome_at q z.said ∷ []) q) (kept_then w k) (then z.does stop));
            rest = ap (λ (n : ℕ). take n l') z.follows.kept ∙ sym (take-nil (length l)) ∙ ap (λ (v : Bytes). take (length l) v) (sym (ap (begun w) piece ∙ begun_line w d near));
            output = λ i j. subst (λ (n : ℕ). Writes (take n m ++ texts (outcome_at q z.said ∷ [])) (take r.output.used m')) used
                (subst (λ (v : Bytes). Writes (take mid.output.used m ++ v) (take r.output.used m')) (one_text (outcome_at q z.said)) (z.adds.rest (omega arith) (omega arith)));
            counts = record { lines = z.follows.lines ∙ ap (λ (n : ℕ). (n + 1) % 2 ^ 64) lines ∙ (unfold lines_after in refl); refused = z.follows.refused ∙ ap₂ (λ (a b : Bool). cond a true b) refused (same_refusal z.said q) ∙ (unfold refused_after in refl); explains = z.follows.explains ∙ explains; lost = λ h. z.follows.lost (lost ∙ h) };
            sized = record { cells = cs; bytes = bs; line = wide; out = os };
          };
        }
      where
        near : line_end d < length d
        near = let a = x.place in let b = long in omega arith

        step : r.at - run.at ≡ line_end d + 1
        step = let a = x.place in let u = z.follows.at in omega arith

        piece : take (r.at - run.at) d ≡ take (line_end d + 1) d
        piece = ap (λ (n : ℕ). take n d) step

-- ---- a block

module _ (s : Bytes) (start : Run) {r t : Run} {p q u : Point} {l l₁ l₂ m m₁ m₂ : Bytes} where
  -- up to a place, and from there on
  pub block_more : ((w : Bytes) → Known w start l → Advances w (take r.at s) start r p q l l₁ m m₁) → Part s r t q u l₁ l₂ m₁ m₂ → r.at < length s → (w : Bytes) → Known w start l → Advances w (take t.at s) start t p u l l₂ m m₂
  block_more x y h w k =
      let a = x w k in
      let f : r.at + (t.at - r.at) ≡ t.at = let b = y.more h in omega arith in
      subst (λ (v : Bytes). Advances w v start t p u l l₂ m m₂) (sym (take-add r.at (t.at - r.at) s) ∙ ap (λ (n : ℕ). take n s) f)
      (advances_then a (y.advances (begun w (take r.at s)) (a.rest ∙ ap (λ (n : ℕ). take n (begun w (take r.at s))) (sym a.sized.line))))

-- nothing of it
pub advances_none : (start : Run) {p : Point} {l m : Bytes} (w : Bytes) → Known w start l → Advances w [] start start p p l l m m
advances_none start {p} {l} {m} w k =
    record {
      outcomes = [];
      runs = subst (λ (v : List Bytes). Runs p (map (take (length l)) v) [] p) (sym (ended_none w [] (omega arith))) stop;
      rest = k ∙ ap (λ (v : Bytes). take (length l) v) (sym (begun_none w [] (omega arith) ∙ append_nil w));
      output = λ i j. record { written = []; all = sym (append_nil (take start.output.used m)) ∙ ap (λ (v : Bytes). take start.output.used m ++ v) (unfold texts in refl) };
      counts = record { lines = unfold lines_after in refl; refused = unfold refused_after in refl; explains = refl; lost = λ h. h };
      sized = record { cells = refl; bytes = refl; line = refl; out = refl };
    }

pub block_start : (s : Bytes) (start : Run) {p : Point} {l m : Bytes} → start.at ≡ 0 → (w : Bytes) → Known w start l → Advances w (take start.at s) start start p p l l m m
block_start s start {p} {l} {m} e w k = subst (λ (v : Bytes). Advances w v start start p p l l m m) (sym (ap (λ (n : ℕ). take n s) e)) (advances_none start w k)

-- all of it; a run starts a block from its first byte
pub block_end : (s : Bytes) (start run : Run) {r : Run} {p q : Point} {l l₁ m m₁ : Bytes} → start.kept ≡ run.kept → start.lines ≡ run.lines → start.refused ≡ run.refused → start.explains ≡ run.explains
    → start.output.used ≡ run.output.used → start.output.lost ≡ run.output.lost → ((w : Bytes) → Known w start l → Advances w (take r.at s) start r p q l l₁ m m₁) → length s ≤ r.at → (w : Bytes) → Known w run l → Advances w s run r p q l l₁ m m₁
block_end s start run {r} {p} {q} {l} {l₁} {m} {m₁} kept lines refused explains used lost x h w k =
    let a = x w (ap (λ (n : ℕ). take n l) kept ∙ k) in
    record {
      outcomes = a.outcomes;
      runs = subst (λ (v : Bytes). Runs p (map (take (length l)) (ended w v)) a.outcomes q) (take_all r.at s h) a.runs;
      rest = a.rest ∙ ap (λ (v : Bytes). take (length l) (begun w v)) (take_all r.at s h);
      output = λ i j. subst (λ (n : ℕ). Writes (take n m ++ texts a.outcomes) (take r.output.used m₁)) used (a.output i j);
      counts = record {
        lines = a.counts.lines ∙ ap (λ (n : ℕ). lines_after n a.outcomes) lines;
        refused = a.counts.refused ∙ ap (λ (b : Bool). refused_after b a.outcomes) refused;
        explains = a.counts.explains ∙ explains;
        lost = λ h. a.counts.lost (lost ∙ h);
      };
      sized = a.sized;
    }
