-- `Caller::sound`: test by test.
use mathlib.Core.Path.{◌≡◌}
use lib.ListN.{length}
use borrow.Author.Rules.{rules}
use Rattle.caller.proofs.Sound.{sounds}
use Rattle.caller.proofs.Caller.sound.Goals as goal
use Rattle.caller.proofs.Caller.sound.Goals.{Start}

role-four : (c : Start) → length c.args.self.role ≡ 4
role-four c = search rules

name-four : (c : Start) → length c.args.self.name ≡ 4
name-four c = search rules

pub returns-then-self : goal.returns-then-self
returns-then-self c = search sounds

pub returns-then-self-2 : goal.returns-then-self-2
returns-then-self-2 c = search sounds

pub returns-then-not-all_sound : goal.returns-then-not-all_sound
returns-then-not-all_sound c = search (sounds, role-four (goal.at.returns-then-not-all_sound c).Start, name-four (goal.at.returns-then-not-all_sound c).Start)

pub returns : goal.returns
returns c = search (sounds, role-four (goal.at.returns c).Start, name-four (goal.at.returns c).Start)
