use Rattle.grant.proofs.Tests.{grant_ends}
use Rattle.grant.proofs.Grant.sound.Goals as goal

pub returns-then-not-valid_name : goal.returns-then-not-valid_name
returns-then-not-valid_name c = search grant_ends

pub returns-then-not-streams_sound : goal.returns-then-not-streams_sound
returns-then-not-streams_sound c = search grant_ends

pub returns-then-not-shown_sound : goal.returns-then-not-shown_sound
returns-then-not-shown_sound c = search grant_ends

pub returns-then-not-limits_sound : goal.returns-then-not-limits_sound
returns-then-not-limits_sound c = search grant_ends

pub returns-then-not-window_sound : goal.returns-then-not-window_sound
returns-then-not-window_sound c = search grant_ends

pub returns : goal.returns
returns c = search grant_ends
