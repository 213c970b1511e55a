-- What calls on the record leave of the names: every stream stands as it stood.
use mathlib.Core.Path.{◌≡◌, refl, sym, ap, ◌∙◌, subst}
use mathlib.Core.List.{List}
use mathlib.Core.Option.{Option, none, some}
use Prim.Native.Nat.{ℕ}
use Rattle.std.specs.Prelude.{Ok, Err}
use Rattle.refusal.specs.Results.{Said, settled}
use Rattle.refusal.proofs.Results.{not_ok}
use Rattle.syntax.specs.Grammar as G
use Rattle.syntax.specs.Grammar.{Bytes, RowLine}
use Rattle.syntax.specs.Readers.{parse_as}
use Rattle.calls.specs.Calls.{Call}
use Rattle.schema.proofs.Later.{Later, same_later}
use Rattle.stream_line.specs.Declaring.{Declares}
use Rattle.stream_line.proofs.Declared.{refused_kept, accepted_read, accepted_later}
use Rattle.ledger.specs.Records.{Memory}
use Rattle.ledger.specs.Calls.{with_row}
use Rattle.record_lines.specs.Calls.{with_row_line}
use Rattle.history.specs.States.{State, Promise, declared, clocked, rowed, cleared, clock_lined, row_lined, clear_lined}

declared_later : (ns : List ℕ) (bs : Bytes) (ns' : List ℕ) (v : Said) → Declares ns bs ns' v → Later ns ns'
declared_later ns bs ns' v d = go v refl
  where
    go : (u : Said) → v ≡ u → Later ns ns'
    go (Ok u) e = accepted_read ns bs ns' v d e (λ s p. accepted_later ns bs ns' v d e s p)
    go (Err f) e = subst (Later ns) (sym (refused_kept ns bs ns' v d (λ a. not_ok f (sym e ∙ a)))) (same_later ns)

after_names : (v : Said) (s t : Memory) → t.names ≡ s.names → (settled v s t).names ≡ s.names
unfolding settled
after_names (Ok u) s t e = e
after_names (Err f) s t e = refl

row_names : (s : Memory) (o : Option RowLine) → (with_row_line s o).names ≡ s.names
unfolding with_row_line with_row
row_names s none = refl
row_names s (some w) = refl

pub names_later : {c : Call} {s t : State} → Promise c s t → Later s.names t.names
names_later (declared {s} {bs} {ns} {v} d) = declared_later s.names bs ns v d
names_later (clocked {s} e) = same_later s.names
names_later (rowed {s} {t} {n} {vs} {v} d) = subst (Later s.names) (sym (ap (λ m. m.names) d.left ∙ after_names v s (with_row s n vs) (unfold with_row in refl))) (same_later s.names)
names_later (cleared {s} e) = same_later s.names
names_later (clock_lined {s} e) = same_later s.names
names_later (row_lined {s} {t} {bs} {v} d) =
    subst (Later s.names) (sym (ap (λ m. m.names) d.left ∙ after_names v s (with_row_line s (parse_as G.row bs)) (row_names s (parse_as G.row bs)))) (same_later s.names)
names_later (clear_lined {s} e) = same_later s.names
