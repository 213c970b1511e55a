-- `declare`: by the result of its checks.
use mathlib.Core.Path.{◌≡◌}
use borrow.Author.Rules.{rules}
use Rattle.std.specs.Prelude.{Err}
use Rattle.refusal.specs.Results.{Said}
use Rattle.stream_line.proofs.Declared.{declare_refused, declare_accepted}
use Rattle.stream_line.proofs.declare.Goals as goal

pub returns-in_err-result : goal.returns-in_err-result
returns-in_err-result c =
    let a = c.args in
    let h : ◌≡◌ {A = Said} c.from_residual.result (Err c.in_err-result.field-0.0) = search rules in
    rw h
    (declare_refused a.names.now a.line.now c.read-l.ensures c.streams-n.ensures c.sound.ensures c.either.ensures
    c.stream_number.ensures c.either-2.ensures c.result.ensures c.in_err-result.was)

pub returns : goal.returns
returns c =
    let a = c.args in
    declare_accepted a.names.now a.line.now c.read-l.ensures c.streams-n.ensures c.sound.ensures c.either.ensures
    c.stream_number.ensures c.either-2.ensures c.result.ensures c.in_ok-result.was c.put_stream.ensures
