-- The verb that a text begins with, by the code of its first word.
use mathlib.Core.Path.{◌≡◌, refl, sym, ap, ◌∙◌}
use mathlib.Core.Option.{Option, none, some}
use Prim.Native.Nat.{ℕ}
use native.Mathlib.Omega.{arith}
use lib.ListN.{get_or, drop}
use borrow.Author.Tests.{ne_eqb}
use Rattle.syntax.specs.Grammar as G
use Rattle.syntax.specs.Grammar.{Bytes, verb_word}
use Rattle.syntax.specs.Readers.{Read, bind, ◌>>◌, past, plain, run, among, read_word, read_head, verbs, verb_of}
use Rattle.text.specs.declared.Word.{Word}
use Rattle.text.specs.Keywords.{word_at, WordAt, coded, keywords_compute}
use Rattle.text.proofs.Keywords.{among_coded}
use Rattle.text.proofs.Places.{byte_is, byte_not}
use Rattle.script.specs.declared.Verb.{Verb}
use Rattle.script.specs.declared.Verb.TheVariants.{Stream, Grant, Clock, Row, Clear, Caller, Ask, Line, Other}
use Rattle.script.specs.Steps.{verb_in}

module _ (s : Bytes) {b : ℕ} (p : b ≡ get_or s 0 0) where
  pub verb_unopened : (b ≡ 40 → ⊥) → verb_in Other ≡ verb_of s
  unfolding verb_in verb_of read_head ◌>>◌ bind
  verb_unopened n = rw (byte_not s 0 p 40 n)

  module _ (z : b ≡ 40) {w : Word} (q : WordAt s 1 w) where
    word_read : among verb_word verbs (run plain (drop 1 s)) ≡ coded verb_word verbs w.code
    unfolding keywords_compute word_at
    word_read = among_coded verb_word verbs (run plain (drop 1 s)) tt q.narrow ∙ ap (λ (x : Word). coded verb_word verbs x.code) (sym q.is)

    verb_coded : verb_of s ≡ coded verb_word verbs w.code
    unfolding verb_of read_head read_word ◌>>◌ bind
    verb_coded = rw (byte_is s 0 p 40 z (omega arith), word_read) (go (coded verb_word verbs w.code))
      where
        go : (o : Option G.Verb) → bind (bind o (λ h. some (record { what = h; left = past plain (drop 1 s) }))) (λ (h : Read G.Verb). some h.what) ≡ o
        go none = refl
        go (some v) = refl

    -- the code of a verb's word
    arm : (c : ℕ) → w.code ≡ c → (v : Verb) → coded verb_word verbs c ≡ verb_in v → verb_in v ≡ verb_of s
    arm c e v h = sym (verb_coded ∙ ap (coded verb_word verbs) e ∙ h)

    pub verb_stream : w.code ≡ 0x73747265616d → verb_in Stream ≡ verb_of s
    unfolding keywords_compute verb_in
    verb_stream e = arm 0x73747265616d e Stream refl

    pub verb_grant : w.code ≡ 0x6772616e74 → verb_in Grant ≡ verb_of s
    unfolding keywords_compute verb_in
    verb_grant e = arm 0x6772616e74 e Grant refl

    pub verb_clock : w.code ≡ 0x636c6f636b → verb_in Clock ≡ verb_of s
    unfolding keywords_compute verb_in
    verb_clock e = arm 0x636c6f636b e Clock refl

    pub verb_row : w.code ≡ 0x726f77 → verb_in Row ≡ verb_of s
    unfolding keywords_compute verb_in
    verb_row e = arm 0x726f77 e Row refl

    pub verb_clear : w.code ≡ 0x636c656172 → verb_in Clear ≡ verb_of s
    unfolding keywords_compute verb_in
    verb_clear e = arm 0x636c656172 e Clear refl

    pub verb_caller : w.code ≡ 0x63616c6c6572 → verb_in Caller ≡ verb_of s
    unfolding keywords_compute verb_in
    verb_caller e = arm 0x63616c6c6572 e Caller refl

    pub verb_ask : w.code ≡ 0x61736b → verb_in Ask ≡ verb_of s
    unfolding keywords_compute verb_in
    verb_ask e = arm 0x61736b e Ask refl

    pub verb_line : w.code ≡ 0x6c696e65 → verb_in Line ≡ verb_of s
    unfolding keywords_compute verb_in
    verb_line e = arm 0x6c696e65 e Line refl

    -- and no such code
    pub verb_none : (((((((Unit {0} × (w.code ≡ 0x73747265616d → ⊥)) × (w.code ≡ 0x6772616e74 → ⊥)) × (w.code ≡ 0x636c6f636b → ⊥)) × (w.code ≡ 0x726f77 → ⊥)) × (w.code ≡ 0x636c656172 → ⊥)) × (w.code ≡ 0x63616c6c6572 → ⊥)) × (w.code ≡ 0x61736b → ⊥)) × (w.code ≡ 0x6c696e65 → ⊥)
        → verb_in Other ≡ verb_of s
    unfolding keywords_compute verb_in
    verb_none h =
        sym (verb_coded ∙ rw (ne_eqb 0x73747265616d w.code (λ e. h.0.0.0.0.0.0.0.1 (sym e)), ne_eqb 0x6772616e74 w.code (λ e. h.0.0.0.0.0.0.1 (sym e)), ne_eqb 0x636c6f636b w.code (λ e. h.0.0.0.0.0.1 (sym e)), ne_eqb 0x726f77 w.code (λ e. h.0.0.0.0.1 (sym e)), ne_eqb 0x636c656172 w.code (λ e. h.0.0.0.1 (sym e)), ne_eqb 0x63616c6c6572 w.code (λ e. h.0.0.1 (sym e)), ne_eqb 0x61736b w.code (λ e. h.0.1 (sym e)), ne_eqb 0x6c696e65 w.code (λ e. h.1 (sym e))))
