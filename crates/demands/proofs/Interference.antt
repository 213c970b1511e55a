-- Demand 3, of the contracts of all calls: two whole lists of calls on the record from fresh memory, and then one query.
use mathlib.Core.Path.{◌≡◌, refl, sym, ap, ap₂, ◌∙◌, subst}
use mathlib.Core.List.{List}
use mathlib.Core.Bool.{Bool, true, false, ◌&&◌}
use mathlib.Core.Option.{Option}
use Prim.Native.Nat.{ℕ}
use lib.IntN.{ℤ}
use lib.Dec.{T}
use Rattle.lists.proofs.Laws.{T_true, true_T}
use Rattle.syntax.specs.Grammar.{Bytes, Form, RouteLine}
use Rattle.model.specs.Queries as M
use Rattle.model.specs.Alike.{Alike}
use Rattle.calls.specs.Asking as A
use Rattle.calls.specs.Calls.{Call, after}
use Rattle.calls.specs.Replies as D
use Rattle.calls.specs.Replies.{lent_after}
use Rattle.calls.specs.Validity.{valid_record}
use Rattle.calls.proofs.Interference.{same_asked, same_lined}
use Rattle.schema.specs.Schemas.{schema_of}
use Rattle.ledger.specs.Records.{Memory, record_of, memory_sound}
use Rattle.caller.specs.declared.Caller.{Caller}
use Rattle.caller.specs.Callers.{caller_of, caller_sound}
use Rattle.grant.specs.declared.Grant.{Grant}
use Rattle.grant.specs.Catalogues.{catalogue_of, catalogue_sound}
use Rattle.history.specs.States.{Sound, Fresh}
use Rattle.ask.specs.declared.Reply.{Reply}
use Rattle.ask.specs.Replies.{reply_of, Replies}
use Rattle.ask.specs.Asking.{Lending, lent_sound, asked, lined}
use Rattle.demands.specs.Recording.{Recorded}
use Rattle.demands.specs.Lending.{lending, SameLent}
use Rattle.demands.proofs.Catalogues.{catalogue_both, sound_both}
use Rattle.demands.proofs.Left.{left_after}
use Rattle.demands.proofs.Defined.{asked_is, asked_lent, lined_is, lined_lent}

-- the same reply leaves the same
left_same : {A : Type 0} (y z : D.Reply A) → y ≡ z → {lent p q : List A} {i j : Reply} → Replies y lent p i → Replies z lent q j → (i ≡ j) × (p ≡ q)
left_same y z e {lent} h l = (h.said ∙ ap reply_of e ∙ sym l.said, h.left ∙ ap (λ x. lent_after x lent) e ∙ sym l.left)

-- Two lists of calls, each from fresh memory, refused calls included.
module _ {m n u v : Memory} {cs ds : List Call} (f : Fresh m) (r : Recorded m cs u) (g : Fresh n) (k : Recorded n ds v) where
  sound_u : Sound u
  sound_u = (left_after f r).1

  sound_v : Sound v
  sound_v = (left_after g k).1

  -- what the lists left stands for what the definitions make of them
  kept_u : record_of u ≡ after cs
  kept_u = (left_after f r).0

  kept_v : record_of v ≡ after ds
  kept_v = (left_after g k).0

  valid_u : T (valid_record (record_of u))
  valid_u = sound_u.valid

  valid_v : T (valid_record (record_of v))
  valid_v = sound_v.valid

  -- The same grants, words and caller lent after both lists, whatever they hold, are the same by the definitions where the streams are.
  module _ (same : (after cs).schema ≡ (after ds).schema) (grants : List Grant) (words : List ℕ) (caller : Caller) where
    same_schema : schema_of u.names ≡ schema_of v.names
    unfolding record_of
    same_schema = ap (λ x. x.schema) kept_u ∙ same ∙ sym (ap (λ x. x.schema) kept_v)

    lent_in : (o : Memory) → Sound o → (b : Bool) → catalogue_sound o.names grants words ≡ b → lent_sound (lending o grants words caller) ≡ (b && caller_sound caller)
    unfolding lent_sound
    lent_in o k b e = rw (T_true (memory_sound o) k.lent, e) refl

    pub same_structs : SameLent (lending u grants words caller) (lending v grants words caller)
    same_structs = record {
      lent =
          lent_in u sound_u (catalogue_sound u.names grants words) refl
          ∙ sym (lent_in v sound_v (catalogue_sound u.names grants words) (sym (sound_both u.names v.names same_schema grants words)));
      catalogue = catalogue_both u.names v.names same_schema grants words;
      caller = refl;
    }

  -- After them grants, words and a caller are lent, by the definitions the same both times. If by the definitions the clock, the streams, and under that catalogue the caller's views and admitted
  -- figures are the same after both, then every query, whatever text it was read from, with the same cells lent, returned the same and left the same in all cells; and so did every line.
  module _ (gs hs : List Grant) (ws zs : List ℕ) (w z : Caller) (same : SameLent (lending u gs ws w) (lending v hs zs z))
      (a : Alike (after cs) (after ds) (caller_of w) (catalogue_of u.names gs ws)) where
    abbrev x : Lending
    x = lending u gs ws w

    abbrev y : Lending
    y = lending v hs zs z

    abbrev cat : List M.Grant
    cat = catalogue_of u.names gs ws

    alike : Alike (record_of u) (record_of v) (caller_of w) cat
    alike = subst (λ o. Alike o (record_of v) (caller_of w) cat) (sym kept_u) (subst (λ o. Alike (after cs) o (caller_of w) cat) (sym kept_v) a)

    -- all of it may be lent, or the reply is 12 both times
    asked_same : (spare : ℕ) (o : Option Form) (bs : Bytes) (cells : List ℤ) → asked spare o x bs cells ≡ asked spare o y bs cells
    asked_same spare o bs cells = go (lent_sound x) refl
      where
        go : (b : Bool) → lent_sound x ≡ b → asked spare o x bs cells ≡ asked spare o y bs cells
        go true e =
            asked_is x valid_u (true_T _ e) spare o bs cells
            ∙ same_asked (record_of u) (record_of v) valid_u valid_v (caller_of w) cat alike spare bs o cells
            ∙ ap₂ (λ (c : List M.Grant) (who : M.Caller). A.asked (record_of v) c who spare bs o cells) same.catalogue same.caller
            ∙ sym (asked_is y valid_v (true_T _ (sym same.lent ∙ e)) spare o bs cells)
        go false e =
            asked_lent x valid_u e spare o bs cells
            ∙ sym (asked_lent y valid_v (sym same.lent ∙ e) spare o bs cells)

    lined_same : (spare : ℕ) (o : Option RouteLine) (bs out : Bytes) → lined spare o x bs out ≡ lined spare o y bs out
    lined_same spare o bs out = go (lent_sound x) refl
      where
        go : (b : Bool) → lent_sound x ≡ b → lined spare o x bs out ≡ lined spare o y bs out
        go true e =
            lined_is x valid_u (true_T _ e) spare o bs out
            ∙ same_lined (record_of u) (record_of v) valid_u valid_v (caller_of w) cat alike.clocks alike.schemas spare bs o out
            ∙ ap₂ (λ (c : List M.Grant) (who : M.Caller). A.lined (record_of v) c who spare bs o out) same.catalogue same.caller
            ∙ sym (lined_is y valid_v (true_T _ (sym same.lent ∙ e)) spare o bs out)
        go false e =
            lined_lent x valid_u e spare o bs out
            ∙ sym (lined_lent y valid_v (sym same.lent ∙ e) spare o bs out)

    pub same_answers : (spare : ℕ) (o : Option Form) (bs : Bytes) (cells : List ℤ) {p q : List ℤ} {i j : Reply}
        → Replies (asked spare o x bs cells) cells p i → Replies (asked spare o y bs cells) cells q j → (i ≡ j) × (p ≡ q)
    same_answers spare o bs cells h l = left_same _ _ (asked_same spare o bs cells) h l

    pub same_lines : (spare : ℕ) (o : Option RouteLine) (bs out : Bytes) {p q : Bytes} {i j : Reply}
        → Replies (lined spare o x bs out) out p i → Replies (lined spare o y bs out) out q j → (i ≡ j) × (p ≡ q)
    same_lines spare o bs out h l = left_same _ _ (lined_same spare o bs out) h l
