-- What it means that a query or a grant passes its checks.
use mathlib.Core.List.{List, [], ◌++◌}
use mathlib.Core.Bool.{◌&&◌}
use lib.Dec.{T, ltb}
use lib.ListN.{length}
use Rattle.refusal.specs.Checks.{passes}
use Rattle.refusal.proofs.Passing.{pass, pass_put}
use Rattle.lists.specs.Lists.{every, distinct, gather, same_list}
use Rattle.lists.proofs.Laws.{parts, and_both, every_append_l, every_append_r}
use Rattle.syntax.specs.Grammar as G
use Rattle.syntax.specs.Grammar.{Form, GrantLine, Span}
use Rattle.syntax.specs.Limits.{max_grants, not_above, natural}
use Rattle.model.specs.Queries.{Schema, Grant}
use Rattle.model.specs.Checks.{placed, sized, grant_placed}
use Rattle.model.specs.Alike.{span_bounded, spans_bounded}
use Rattle.model.proofs.Interference.{written_span}
use Rattle.calls.specs.Names.{resolve, resolve_grant, show_refs, cond_refs, form_keeps, form_spans}
use Rattle.calls.specs.Bounds.{form_bounded, grant_bounded}
use Rattle.calls.specs.Tables.{declared, ref_declared, same_ref, window_allowed, show_placed, grant_checks, query_declared, query_checks}

-- a query that passes its checks
pub record Accepted (d : Schema) (f : Form) : Type 0 where
  pub bounded : T (form_bounded f)
  pub names : T (query_declared d f)
  pub once : T (every (distinct same_ref) (form_keeps f))
  pub places : T (placed d (resolve d f))
  pub sizes : T (sized (resolve d f))

pub query_accepted : (d : Schema) (f : Form) → T (passes (query_checks d f)) → Accepted d f
unfolding query_checks
query_accepted d f h =
    let (b, h₁) = pass _ (form_bounded f) _ h in
    let (n, h₂) = pass _ (query_declared d f) _ h₁ in
    let (o, h₃) = pass _ (every (distinct same_ref) (form_keeps f)) _ h₂ in
    let (p, h₄) = pass _ (placed d (resolve d f)) _ h₃ in
    let (z, h₅) = pass _ (sized (resolve d f)) _ h₄ in
    record { bounded = b; names = n; once = o; places = p; sizes = z }

-- SIZE and OFFSET of its aggregates are as they can be written
pub spans_written : (d : Schema) (f : Form) → T (form_bounded f) → T (spans_bounded (resolve d f))
unfolding form_bounded form_spans resolve spans_bounded every
spans_written d f h = go f (search parts)
  where
    go : (f : Form) → T (every (λ (w : Span). not_above w.size && not_above w.offset) (form_spans f)) → T (spans_bounded (resolve d f))
    go (G.rows s) t = tt
    go (G.pick c q) t = go q t
    go (G.keep rs q) t = go q t
    go (G.join a b q r) t = and_both (spans_bounded (resolve d q)) _ (go q (every_append_l _ (form_spans q) (form_spans r) t)) (go r (every_append_r _ (form_spans q) (form_spans r) t))
    go (G.aggregate f c size offset q) t = and_both (span_bounded (natural size) (natural offset)) _ (written_span size offset (search parts) (search parts)) (go q (search parts))

-- a grant that passes its checks, after those that a catalogue holds
pub record Granted (d : Schema) (gs : List Grant) (g : GrantLine) : Type 0 where
  pub bounded : T (grant_bounded g)
  pub room : T (ltb (length gs) max_grants)
  pub streams : T (every (declared d) g.of)
  pub refs : T (every (ref_declared d) (show_refs g.show ++ gather cond_refs g.when))
  pub once : T (distinct same_list g.of)
  pub shown_once : T (distinct same_ref (show_refs g.show))
  pub shows : T (show_placed d g)
  pub places : T (grant_placed d (resolve_grant d g))
  pub windows : T (window_allowed g.right g.window)

pub grant_accepted : (d : Schema) (gs : List Grant) (g : GrantLine) → T (passes (grant_checks d gs g)) → Granted d gs g
unfolding grant_checks
grant_accepted d gs g h =
    let (b, h₁) = pass _ (grant_bounded g && ltb (length gs) max_grants) _ h in
    let (n, h₂) = pass _ (every (declared d) g.of && every (ref_declared d) (show_refs g.show ++ gather cond_refs g.when)) _ h₁ in
    let (o, h₃) = pass _ (distinct same_list g.of && distinct same_ref (show_refs g.show)) _ h₂ in
    let (p, h₄) = pass _ (show_placed d g && (grant_placed d (resolve_grant d g) && window_allowed g.right g.window)) _ h₃ in
    record {
      bounded = search parts;
      room = search parts;
      streams = search parts;
      refs = search parts;
      once = search parts;
      shown_once = search parts;
      shows = search parts;
      places = search parts;
      windows = search parts;
    }

pub grant_passes : (d : Schema) (gs : List Grant) (g : GrantLine) → Granted d gs g → T (passes (grant_checks d gs g))
unfolding grant_checks
grant_passes d gs g h =
    pass_put _ (grant_bounded g && ltb (length gs) max_grants) _ (and_both (grant_bounded g) _ h.bounded h.room)
    (pass_put _ (every (declared d) g.of && every (ref_declared d) (show_refs g.show ++ gather cond_refs g.when)) _ (and_both (every (declared d) g.of) _ h.streams h.refs)
    (pass_put _ (distinct same_list g.of && distinct same_ref (show_refs g.show)) _ (and_both (distinct same_list g.of) _ h.once h.shown_once)
    (pass_put _ (show_placed d g && (grant_placed d (resolve_grant d g) && window_allowed g.right g.window)) []
    (and_both (show_placed d g) _ h.shows (and_both (grant_placed d (resolve_grant d g)) _ h.places h.windows)) (unfold passes in tt))))
