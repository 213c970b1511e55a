-- What a call says, as a result: that it did what it is for, or the refusal; and what is then held.
use Rattle.std.specs.Prelude.{Result, Ok, Err}
use Rattle.std.proofs.Math.Option.{Option, none, some}
use Rattle.refusal.specs.declared.Refusal.{Refusal}
use Rattle.refusal.specs.declared.Refused.{Refused}

abbrev pub Said : Type 0
Said = Result (Unit {0}) Refusal

-- what a table says that gives a refusal or none
abbrev pub result_of : Option Refusal → Said
result_of none = Ok tt
result_of (some r) = Err r

module _ {A : Type 0} where
  -- a value where it is accepted, and where it is refused the refusal with what is then held
  unfoldable pub giving : {B : Type 0} → Said → A → B → Result A (Refused B)
  giving (Ok u) new old = Ok new
  giving (Err f) new old = Err (record { refusal = f; held = old })

  -- what such a result says
  unfoldable pub said_by : {B : Type 0} → Result A (Refused B) → Said
  said_by (Ok x) = Ok tt
  said_by (Err e) = Err e.refusal

  -- what is held after it: its value, or what it gives beside the refusal
  unfoldable pub held_after : Result A (Refused A) → A
  held_after (Ok x) = x
  held_after (Err e) = e.held

  -- what is left: the new where it is accepted, and the old where it is refused
  unfoldable pub settled : Said → A → A → A
  settled (Ok u) old new = new
  settled (Err f) old new = old
