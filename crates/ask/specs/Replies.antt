-- What a call says, by the reply of the definitions.
use Rattle.std.specs.Prelude.{◌≡◌, List}
use Rattle.refusal.specs.Numbers.{number_of}
use Rattle.refusal.specs.declared.Refusal.{Refusal}
use Rattle.calls.specs.Replies as C
use Rattle.calls.specs.Replies.{lent_after}
use Rattle.ask.specs.declared.Reply.{Reply}

-- the number of a refusal
abbrev pub refused_with : Refusal → Reply
refused_with f = record { refusal = number_of f; count = 0 }

-- or 0, and how many cells or bytes were written
unfoldable pub reply_of : {A : Type 0} → C.Reply A → Reply
reply_of (C.refused f) = refused_with f
reply_of (C.filled n lent) = record { refusal = 0; count = n }

-- the reply, and what all lent cells or bytes hold afterwards
pub record Replies {A : Type 0} (y : C.Reply A) (lent lent' : List A) (r : Reply) : Type 0 where
  pub said : r ≡ reply_of y
  pub left : lent' ≡ lent_after y lent
