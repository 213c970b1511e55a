-- `read`: by whether the line and the words have room.
use Rattle.query_read.proofs.Answering.{read_long, read_few}
use Rattle.query_read.proofs.read.Goals as goal

pub returns-then-s-gt-BYTES : goal.returns-then-s-gt-BYTES
returns-then-s-gt-BYTES c = search read_long

pub returns-then-words-lt-WORDS : goal.returns-then-words-lt-WORDS
returns-then-words-lt-WORDS c = search read_few
