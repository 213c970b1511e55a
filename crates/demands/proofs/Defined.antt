-- The replies of the code are those of the definitions, over what the lent memory stands for.
use mathlib.Core.Path.{◌≡◌, ap}
use mathlib.Core.List.{List, ◌∷◌}
use mathlib.Core.Bool.{false, ◌&&◌, not}
use mathlib.Core.Option.{Option}
use Prim.Native.Nat.{ℕ}
use lib.IntN.{ℤ}
use lib.Dec.{T}
use Rattle.refusal.specs.Checks.{Check, refuse, first}
use Rattle.refusal.specs.declared.Refusal.TheVariants.{Lent}
use Rattle.lists.specs.Lists.{every}
use Rattle.lists.proofs.Laws.{T_true, and_l, and_r, and_both}
use Rattle.syntax.specs.Grammar.{Bytes, Form, RouteLine}
use Rattle.syntax.specs.Readers.{parse_query}
use Rattle.syntax.specs.Limits.{is_value}
use Rattle.calls.specs.Validity.{valid_record, valid_catalogue, valid_caller}
use Rattle.calls.specs.Replies.{refused, reply}
use Rattle.calls.specs.Asking as C
use Rattle.calls.specs.Asking.{lent_valid, ask_table, line_table, with_route}
use Rattle.schema.specs.Schemas.{schema_of}
use Rattle.ledger.specs.Records.{record_of, memory_sound}
use Rattle.ledger.proofs.Valid as L
use Rattle.caller.specs.Callers.{caller_of, caller_sound}
use Rattle.caller.proofs.Identifying as W
use Rattle.grant.specs.Catalogues.{catalogue_of, catalogue_sound}
use Rattle.grant.proofs.Catalogues.{catalogue_valid}
use Rattle.ask.specs.Asking.{Lending, lent_sound, asked_table, asked, lined_table, lined}

-- what may be lent stands for something valid, its values being numbers of 32 bits
pub valid_kept : (x : Lending) → T (every is_value x.memory.values) → T (lent_sound x) → T (valid_record (record_of x.memory))
unfolding lent_sound
valid_kept x typed t =
    let m = memory_sound x.memory in
    let c = catalogue_sound x.memory.names x.grants x.granted in
    L.sound_valid x.memory typed (and_l m c (and_l (m && c) (caller_sound x.caller) t))

module _ (x : Lending) (valid : T (valid_record (record_of x.memory))) where
  pub valid_cat : T (lent_sound x) → T (valid_catalogue (schema_of x.memory.names) (catalogue_of x.memory.names x.grants x.granted))
  unfolding lent_sound
  valid_cat t =
      let m = memory_sound x.memory in
      let c = catalogue_sound x.memory.names x.grants x.granted in
      catalogue_valid x.memory.names x.grants x.granted (and_r m c (and_l (m && c) (caller_sound x.caller) t))

  sound_lent : T (lent_sound x) → T (lent_valid (record_of x.memory) (catalogue_of x.memory.names x.grants x.granted) (caller_of x.caller))
  unfolding lent_sound lent_valid record_of
  sound_lent t =
      let m = memory_sound x.memory in
      let c = catalogue_sound x.memory.names x.grants x.granted in
      let v = valid_record (record_of x.memory) in
      let k = valid_catalogue (schema_of x.memory.names) (catalogue_of x.memory.names x.grants x.granted) in
      and_both (v && k) (valid_caller (caller_of x.caller))
      (and_both v k valid (valid_cat t))
      (W.sound_valid x.caller (T_true (caller_sound x.caller) (and_r (m && c) (caller_sound x.caller) t)))

  -- 12 aside, both tables are one
  same_table : (cs : List Check) → T (lent_sound x) → first (refuse Lent (not (lent_sound x)) ∷ cs) ≡ first (refuse Lent (not (lent_valid (record_of x.memory) (catalogue_of x.memory.names x.grants x.granted) (caller_of x.caller))) ∷ cs)
  same_table cs t = rw (T_true (lent_sound x) t, T_true (lent_valid (record_of x.memory) (catalogue_of x.memory.names x.grants x.granted) (caller_of x.caller)) (sound_lent t))

  pub asked_is : T (lent_sound x) → (spare : ℕ) (o : Option Form) (bs : Bytes) (cells : List ℤ)
      → asked spare o x bs cells ≡ C.asked (record_of x.memory) (catalogue_of x.memory.names x.grants x.granted) (caller_of x.caller) spare bs o cells
  unfolding asked asked_table C.asked ask_table record_of
  asked_is t spare o bs cells = ap (λ a. reply a (C.answer (record_of x.memory) (catalogue_of x.memory.names x.grants x.granted) (caller_of x.caller) o) cells) (same_table _ t)

  -- where something may not be lent the reply is 12
  pub asked_lent : lent_sound x ≡ false → (spare : ℕ) (o : Option Form) (bs : Bytes) (cells : List ℤ) → asked spare o x bs cells ≡ refused Lent
  unfolding asked asked_table reply first refuse
  asked_lent e spare o bs cells = rw e

  -- the call is that of the definitions
  pub ask_is : T (lent_sound x) → (bs : Bytes) (cells : List ℤ) → asked 0 (parse_query bs) x bs cells ≡ C.ask (record_of x.memory) (catalogue_of x.memory.names x.grants x.granted) (caller_of x.caller) bs cells
  unfolding C.ask
  ask_is t bs cells = asked_is t 0 (parse_query bs) bs cells

  -- ---- the line of a route

  pub lined_is : T (lent_sound x) → (spare : ℕ) (o : Option RouteLine) (bs : Bytes) (out : Bytes)
      → lined spare o x bs out ≡ C.lined (record_of x.memory) (catalogue_of x.memory.names x.grants x.granted) (caller_of x.caller) spare bs o out
  unfolding lined lined_table C.lined line_table record_of
  lined_is t spare o bs out = ap (λ a. reply a (C.printed_line (record_of x.memory) (catalogue_of x.memory.names x.grants x.granted) (caller_of x.caller) o) out) (same_table _ t)

  pub lined_lent : lent_sound x ≡ false → (spare : ℕ) (o : Option RouteLine) (bs : Bytes) (out : Bytes) → lined spare o x bs out ≡ refused Lent
  unfolding lined lined_table reply first refuse
  lined_lent e spare o bs out = rw e

  pub line_is : T (lent_sound x) → (number : ℤ) (bs out : Bytes)
      → lined 0 (with_route number (parse_query bs)) x bs out ≡ C.line (record_of x.memory) (catalogue_of x.memory.names x.grants x.granted) (caller_of x.caller) number bs out
  unfolding C.line
  line_is t number bs out = lined_is t 0 (with_route number (parse_query bs)) bs out
