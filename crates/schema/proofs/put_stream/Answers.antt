-- `put_stream`: the part that is copied is that of the definition.
use borrow.Author.Rules.{rules}
use native.Mathlib.Omega.{arith}
use Rattle.std.proofs.lemmas.Slice.{put_mid-paste}
use Rattle.schema.proofs.Puts.{put_ends, put_done}
use Rattle.schema.proofs.put_stream.Goals as goal

pub returns-then-s-ge-MOST : goal.returns-then-s-ge-MOST
returns-then-s-ge-MOST c = search put_ends

pub returns-then-names-lt-NAMES : goal.returns-then-names-lt-NAMES
returns-then-names-lt-NAMES c = search put_ends

pub returns : goal.returns
returns c =
    put_done c.args.names.now c.args.stream.name c.args.stream.columns c.streams-s.ensures {c = 6} c.if-s-ge-MOST.false c.if-names-lt-NAMES.false
    (put_mid-paste _ _ _ _ c.args.stream.columns 6 c.copy_from_slice.ensures.after (omega arith) (search rules)) (search rules) (search rules)
