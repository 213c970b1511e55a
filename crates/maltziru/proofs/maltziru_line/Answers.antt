-- `maltziru_line`: what is shown of the text that was read and of the grants that it opens.
use borrow.Author.Rules.{rules}
use mathlib.Core.Path.{◌∙◌, ap}
use mir.Syntax.{w64}
use mir.Val.{SFits}
use mir.ValLaws.{to_z-of_z}
use Rattle.syntax.specs.Readers.{parse_query}
use Rattle.catalogue.specs.Callers.{roles_of, profile_of}
use Rattle.catalogue.specs.Opened.{opened_in}
use Rattle.needs.specs.declared.Needs.{Needs}
use Rattle.maltziru.proofs.maltziru_line.Goals as goal

pub returns : goal.returns
returns c =
    let a = c.args in
    let e = ap (λ (n : Needs). opened_in n a.names.now a.grants.now a.words.now (roles_of a.caller) (profile_of a.caller)) c.asks.ensures in
    let f : SFits w64 a.route = search rules in
    rw (to_z-of_z w64 a.route f) at (c.lined.ensures.shown 0 a.query.now (parse_query a.query.now) a.grants.now c.read_query-t.ensures.text (c.open_all-x.ensures ∙ e))
