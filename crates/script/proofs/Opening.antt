-- What the first grants of an array open, one after the other.
use mathlib.Core.Path.{◌≡◌, refl, sym, ap, ◌∙◌}
use mathlib.Core.List.{List, [], ◌∷◌}
use Prim.Native.Nat.{ℕ, zero, suc, ◌+◌, ◌≤◌, ◌<◌}
use native.Mathlib.Omega.{arith}
use lib.ListN.{length, take, get_or, length-take}
use Rattle.syntax.specs.Limits.{max_grants}
use Rattle.grant.specs.declared.Grant.{Grant}
use Rattle.needs.specs.declared.Needs.{Needs}
use Rattle.catalogue.specs.declared.Opened.{Opened}
use Rattle.catalogue.specs.Opened.{blank, none_opened, opened_with, opened_in}
use Rattle.catalogue.proofs.Taken.{taken, taken_none, taken_all}
use mathlib.Core.Option.{Option}
use lib.IntN.{ℤ}
use Rattle.syntax.specs.Grammar.{Bytes, Form, RouteLine}
use Rattle.ledger.specs.Records.{Memory}
use Rattle.caller.specs.declared.Caller.{Caller}
use Rattle.catalogue.specs.Callers.{roles_of, profile_of}
use Rattle.query_text.specs.declared.Told.{Told}
use Rattle.query_text.specs.Texts.{TextRead, PlainRead, RouteRead}
use Rattle.ask.specs.declared.Reply.{Reply}
use Rattle.ask.specs.Replies.{Replies}
use Rattle.ask.specs.Asking.{asked, LineReplies, Prepared, Answers, RouteLines}
use Rattle.script.proofs.Taken.{take_few}

-- an element of the first ones, whatever stands past the last
take_at : {A : Type 0} (n : ℕ) (xs : List A) (i : ℕ) (x y : A) → i < n → i < length xs → get_or (take n xs) i x ≡ get_or xs i y
take_at zero xs i x y h k = absurd (omega arith)
take_at (suc n) [] i x y h k = absurd (omega arith)
take_at (suc n) (z ∷ xs) zero x y h k = refl
take_at (suc n) (z ∷ xs) (suc i) x y h k = take_at n xs i x y (omega arith) (omega arith)

module _ (n : Needs) (ns : List ℕ) (gs : List Grant) (ws roles profile : List ℕ) (count : ℕ) (e : length gs ≡ max_grants) (h : count ≤ max_grants) where
  pub opening_none : {o : Opened} → o ≡ none_opened count (length ws) → o ≡ taken n ns (take count gs) ws roles profile 0
  opening_none f = taken_none n ns (take count gs) ws roles profile (f ∙ ap (λ k. none_opened k (length ws)) (sym (take_few count gs e h)))

  pub opening_more : (i : ℕ) {o r : Opened} (g : Grant) → i < count → o ≡ taken n ns (take count gs) ws roles profile i → r ≡ opened_with o n i (get_or gs i g) ns ws roles profile
      → r ≡ taken n ns (take count gs) ws roles profile (i + 1)
  unfolding taken
  opening_more i {o} g l f k =
      let z : i + 1 ≡ suc i = omega arith in
      k ∙ ap (λ (x : Opened). opened_with x n i (get_or gs i g) ns ws roles profile) f
      ∙ ap (λ (x : Grant). opened_with (taken n ns (take count gs) ws roles profile i) n i x ns ws roles profile) (sym (take_at count gs i blank g l (omega arith)))
      ∙ ap (taken n ns (take count gs) ws roles profile) (sym z)

  pub opening_all : (i : ℕ) → i ≡ count → {o : Opened} → o ≡ taken n ns (take count gs) ws roles profile i → o ≡ opened_in n ns (take count gs) ws roles profile
  opening_all i z f =
      let l = take_few count gs e h in
      let m = length-take count (take count gs) in
      taken_all n ns (take count gs) ws roles profile count i (omega arith) (omega arith) (omega arith) f

-- ---- a text that was read, and what was opened for what it asks

for_it : (ns ws : List ℕ) (who : Caller) (t : Told) (gs : List Grant) (n : Needs) {x : Opened} → n ≡ t.needs → x ≡ opened_in n ns gs ws (roles_of who) (profile_of who) → x ≡ opened_in t.needs ns gs ws (roles_of who) (profile_of who)
for_it ns ws who t gs n f e = e ∙ ap (λ (k : Needs). opened_in k ns gs ws (roles_of who) (profile_of who)) f

prepared : (ns ws : List ℕ) (who : Caller) (t : Told) (x : Opened) (spare : ℕ) (bs : Bytes) (gs : List Grant) (n : Needs) (o : Option Form)
    → n ≡ t.needs → x ≡ opened_in n ns gs ws (roles_of who) (profile_of who) → TextRead spare o ns bs t → Prepared ns ws who t x
prepared ns ws who t x spare bs gs n o f e k = record { spare = spare; bytes = bs; form = o; grants = gs; text = k; opened = for_it ns ws who t gs n f e }

pub plain_prepared : (ns ws : List ℕ) (who : Caller) (t : Told) (x : Opened) (spare : ℕ) (bs : Bytes) (gs : List Grant) (n : Needs) (o : Option Form)
    → n ≡ t.needs → x ≡ opened_in n ns gs ws (roles_of who) (profile_of who) → PlainRead spare o ns bs t → Prepared ns ws who t x
plain_prepared ns ws who t x spare bs gs n o f e k = prepared ns ws who t x spare bs gs n o f e k.text

pub route_prepared : (ns ws : List ℕ) (who : Caller) (t : Told) (x : Opened) (spare : ℕ) (bs : Bytes) (gs : List Grant) (n : Needs) (o : Option RouteLine)
    → n ≡ t.needs → x ≡ opened_in n ns gs ws (roles_of who) (profile_of who) → RouteRead spare o ns bs t → Prepared ns ws who t x
route_prepared ns ws who t x spare bs gs n o f e k = prepared ns ws who t x spare bs gs n _ f e k.text

pub answers_said : (m : Memory) (ws : List ℕ) (who : Caller) (t : Told) (x : Opened) (spare : ℕ) (bs : Bytes) (gs : List Grant) (n : Needs) (o : Option Form) (cells cells' : List ℤ) (r : Reply)
    → n ≡ t.needs → x ≡ opened_in n m.names gs ws (roles_of who) (profile_of who) → PlainRead spare o m.names bs t → Answers m ws who t x cells cells' r
    → Replies (asked spare o (record { memory = m; grants = gs; granted = ws; caller = who }) bs cells) cells cells' r
answers_said m ws who t x spare bs gs n o cells cells' r f e k a = a.shown spare bs o gs k.text (for_it m.names ws who t gs n f e)

pub routes_said : (m : Memory) (ws : List ℕ) (who : Caller) (t : Told) (x : Opened) (spare : ℕ) (bs : Bytes) (gs : List Grant) (n : Needs) (o : Option RouteLine) (out out' : Bytes) (r : Reply)
    → n ≡ t.needs → x ≡ opened_in n m.names gs ws (roles_of who) (profile_of who) → RouteRead spare o m.names bs t → RouteLines m ws who t x out out' r
    → LineReplies spare o (record { memory = m; grants = gs; granted = ws; caller = who }) bs out out' r
routes_said m ws who t x spare bs gs n o out out' r f e k a = a.shown spare bs o gs k (for_it m.names ws who t gs n f e)
