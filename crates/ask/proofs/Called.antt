-- What the functions of a call return, one law for each return.
use mathlib.Core.Path.{◌≡◌, refl, sym, ◌∙◌, subst}
use mathlib.Core.List.{List}
use mathlib.Core.Bool.{Bool, true, false, ◌&&◌, not}
use Prim.Native.Nat.{ℕ}
use lib.IntN.{ℤ}
use lib.Dec.{T}
use mir.Syntax.{w64}
use mir.Val.{SFits, to_z, of_z}
use mir.ValLaws.{to_z-of_z}
use borrow.Author.Tests.{not-true, not-false}
use Rattle.std.specs.Prelude.{Ok, Err}
use Rattle.refusal.specs.Results.{Said, result_of}
use Rattle.refusal.specs.Checks.{first, table}
use Rattle.refusal.specs.declared.Refusal.{Refusal}
use Rattle.lists.specs.Lists.{every}
use Rattle.syntax.specs.Grammar.{Bytes}
use Rattle.syntax.specs.Limits.{is_value}
use Rattle.ledger.specs.Records.{Memory, memory_sound}
use Rattle.caller.specs.declared.Caller.{Caller}
use Rattle.caller.specs.Callers.{caller_sound}
use Rattle.query.specs.Tables.{query_forms}
use Rattle.catalogue.specs.Callers.{profile_of}
use Rattle.catalogue.specs.declared.Opened.{Opened}
use Rattle.ask.specs.declared.Reply.{Reply}
use Rattle.query_text.specs.declared.Told.{Told}
use Rattle.ask.specs.Replies.{refused_with, Replies}
use Rattle.ask.specs.Cells.{run_reply, Ready}
use Rattle.ask.specs.Lines.{print_reply, Printable}
use Rattle.ask.specs.Asking.{Prepared, Answers, Lines, RouteLines}
use Rattle.ask.proofs.Passed.{with_lent}
use Rattle.ask.proofs.Replied.{text_refused, text_ready, text_answered, line_refused, line_ready, line_answered, line_numbered}

-- ---- what may be lent

module _ (a b c : Bool) where
  pub lent_catalogue : not b ≡ true → false ≡ (a && b && c)
  lent_catalogue h = rw (not-true b h) (go a)
    where
      go : (a : Bool) → false ≡ (a && false && c)
      go true = refl
      go false = refl

  pub lent_caller : {d : Bool} → d ≡ c → not d ≡ true → false ≡ (a && b && c)
  lent_caller {d} e h = rw (sym e ∙ not-true d h) (go a b)
    where
      go : (a b : Bool) → false ≡ (a && b && false)
      go true true = refl
      go true false = refl
      go false b = refl

  pub lent_record : not b ≡ false → {d : Bool} → d ≡ c → not d ≡ false → {r : Bool} → r ≡ a → r ≡ (a && b && c)
  lent_record h {d} e k f = rw (f, not-false b h, sym e ∙ not-false d k) (go a)
    where
      go : (a : Bool) → a ≡ (a && true && true)
      go true = refl
      go false = refl

-- ---- a query of which the text and the catalogue were read

module _ (m : Memory) (ws : List ℕ) (who : Caller) (t : Told) (x : Opened) {b : Bool} (may : b ≡ (memory_sound m && x.sound && caller_sound who)) {v : Said} (told : v ≡ result_of (first (table (with_lent (not b) t.checks)))) where
  pub answers_refused : (cells : List ℤ) {f : Refusal} → v ≡ Err f → {r : Reply} → r ≡ refused_with f → Answers m ws who t x cells cells r
  answers_refused cells e g = record { shown = λ spare bs form gs text opened. text_refused m ws who t spare bs form gs text opened may told cells e g }

  pub answers_ready : (cells : List ℤ) → Prepared m.names ws who t x → v ≡ Ok tt → {ps : List ℕ} → ps ≡ profile_of who
      → Ready (record { memory = m; own = t.words; granted = ws; profile = ps; forms = query_forms t.query }) x.opens t.needs
  answers_ready cells p e {ps} g =
      subst (λ l. Ready (record { memory = m; own = t.words; granted = ws; profile = l; forms = query_forms t.query }) x.opens t.needs) (sym g)
      (text_ready m ws who t p.spare p.bytes p.form p.grants p.text p.opened may told cells e)

  pub answers_given : (cells : List ℤ) → v ≡ Ok tt → {ps : List ℕ} → ps ≡ profile_of who → {cells' : List ℤ} {r : Reply}
      → Replies (run_reply (record { memory = m; own = t.words; granted = ws; profile = ps; forms = query_forms t.query }) x.opens t.needs cells) cells cells' r
      → Answers m ws who t x cells cells' r
  answers_given cells e g {cells'} {r} h =
      record {
        shown = λ spare bs form gs text opened. text_answered m ws who t spare bs form gs text opened may told cells e
            (subst (λ l. Replies (run_reply (record { memory = m; own = t.words; granted = ws; profile = l; forms = query_forms t.query }) x.opens t.needs cells) cells cells' r) g h);
      }

  -- ---- and the number of a route

  module _ (number : ℤ) (out : Bytes) where
    pub lines_refused : T (every is_value m.values) → {f : Refusal} → v ≡ Err f → {r : Reply} → r ≡ refused_with f → Lines m ws who t x number out out r
    lines_refused i e g = record { shown = λ spare bs form gs text opened. record { said = line_refused m ws who t spare bs form gs text opened may told number out e g; ranges = i } }

    pub lines_ready : Prepared m.names ws who t x → v ≡ Ok tt → {ps : List ℕ} → ps ≡ profile_of who
        → Printable (record { names = m.names; own = t.words; granted = ws; profile = ps; forms = query_forms t.query }) x.opens t.needs
    lines_ready p e {ps} g =
        subst (λ l. Printable (record { names = m.names; own = t.words; granted = ws; profile = l; forms = query_forms t.query }) x.opens t.needs) (sym g)
        (line_ready m ws who t p.spare p.bytes p.form p.grants p.text p.opened may told number out e)

    -- the number was handed on
    pub lines_given : T (every is_value m.values) → v ≡ Ok tt → SFits w64 number → {ps : List ℕ} → ps ≡ profile_of who → {out' : Bytes} {r : Reply}
        → Replies (print_reply (record { names = m.names; own = t.words; granted = ws; profile = ps; forms = query_forms t.query }) x.opens t.needs (to_z w64 (of_z w64 number)) out) out out' r
        → Lines m ws who t x number out out' r
    lines_given i e f g {out'} {r} h =
        record {
          shown = λ spare bs form gs text opened. record {
            said = line_answered m ws who t spare bs form gs text opened may told number out e
                (subst (λ l. Replies (print_reply (record { names = m.names; own = t.words; granted = ws; profile = l; forms = query_forms t.query }) x.opens t.needs number out) out out' r) g (rw (to_z-of_z w64 number f) at h));
            ranges = i;
          };
        }

-- ---- and the number that the text has

pub lines_numbered : (m : Memory) (ws : List ℕ) (who : Caller) (t : Told) (x : Opened) (out : Bytes) → SFits w64 t.number → {out' : Bytes} {r : Reply} → Lines m ws who t x (to_z w64 (of_z w64 t.number)) out out' r
    → RouteLines m ws who t x out out' r
lines_numbered m ws who t x out f {out'} {r} h =
    record {
      shown = λ spare bs o gs read opened.
          let l = (subst (λ (n : ℤ). Lines m ws who t x n out out' r) (to_z-of_z w64 t.number f) h).shown spare bs _ gs read.text opened in
          record { said = subst (λ y. Replies y out out' r) (line_numbered m ws who t spare bs gs opened out o read) l.said; ranges = l.ranges };
    }
