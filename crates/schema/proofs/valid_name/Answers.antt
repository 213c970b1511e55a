-- `valid_name`: a name of a number is never too long.
use Rattle.schema.proofs.FreeNames.{valid_code}
use Rattle.schema.proofs.valid_name.Goals as goal

pub returns : goal.returns
returns c = search valid_code
