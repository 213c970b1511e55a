-- The forms of a table refer to words that are laid out, and to aggregates.
use mathlib.Core.Path.{◌≡◌, sym, subst}
use mathlib.Core.List.{List, [], ◌∷◌}
use mathlib.Core.Bool.{false, ◌&&◌}
use Prim.Native.Nat.{ℕ, suc, ◌+◌, ◌≤◌, ◌<◌}
use native.Mathlib.Omega.{arith}
use lib.Dec.{T, lt→ltb, ltb}
use lib.ListN.{length}
use Rattle.syntax.specs.Grammar.{fn_number}
use Rattle.lists.specs.Lists.{every}
use Rattle.lists.proofs.Laws.{and_l, and_r, and_both}
use Rattle.syntax.specs.Grammar as G
use Rattle.schema.specs.Schemas.{schema_sound}
use Rattle.nodes.specs.Nodes.{linked_from}
use Rattle.nodes.specs.Storing.{size, store}
use Rattle.nodes.proofs.Reaching.{Same}
use Rattle.nodes.proofs.Sizes.{size_some}
use Rattle.nodes.proofs.Stored.{links_further, links_same}
use Rattle.conditions.specs.Seeing.{nodes_of}
use Rattle.conditions.proofs.Storable.{cond_fits}
use Rattle.query.specs.Shapes.{laid_form, laid_forms, has_number}
use Rattle.query_read.specs.Parts.{Part, rows, pick, keep, join, aggregate, Inner}
use Rattle.query_read.specs.Seeing.{rows_own, pick_own, keep_own, join_own, aggregate_own, own_of, part_stored, with_part, with_parts}
use Rattle.query_read.specs.declared.Reading.{Reading}
use Rattle.query_read.proofs.Answering.{store_parts, pick_over, over_before, over_first, words_then}
use Rattle.query_line.proofs.Bounds.{part_fine}
use Rattle.query_line.proofs.Known.{part_good}
use Rattle.query_line.proofs.Standing.{known}
use Rattle.query_line.proofs.Meaning.{forms_run, part_length, Agrees, agrees_here, parts_words}

module _ (ns : List ℕ) where
  -- ---- aggregates have their numbers

  part_numbered : (b n : ℕ) (x : Part) → T (has_number (own_of ns b n x 0).form)
  unfolding has_number own_of rows_own pick_own keep_own join_own aggregate_own fn_number
  part_numbered b n (rows s) = tt
  part_numbered b n (pick c) = tt
  part_numbered b n (keep rs) = tt
  part_numbered b n (join x y) = tt
  part_numbered b n (aggregate G.sum c z w) = tt
  part_numbered b n (aggregate G.count c z w) = tt
  part_numbered b n (aggregate G.min c z w) = tt
  part_numbered b n (aggregate G.max c z w) = tt
  part_numbered b n (aggregate G.avg c z w) = tt

  pub all_numbered : (is : List Inner) (r : Reading) → T (every has_number (forms_run ns r is))
  unfolding every forms_run
  all_numbered [] r = tt
  all_numbered (i ∷ is) r = and_both (has_number (own_of ns r.words i.around i.part 0).form) _ (part_numbered r.words i.around i.part) (all_numbered is (with_part ns r i))

  -- ---- conditions are laid out

  module _ (sound : T (schema_sound ns)) (vs : List ℕ) where
    -- up to so many words they are
    abbrev Linked : ℕ → Type 0
    Linked k = T (linked_from (suc k) vs k)

    record Goes (b n : ℕ) (x : Part) : Type 0 where
      laid : T (laid_form vs (own_of ns b n x 0).form)
      further : Linked (own_of ns b n x 0).words

    -- a part whose words begin after b words
    goes : (b n : ℕ) (x : Part) (ws : List ℕ) → T (part_good x) → (own_of ns b n x 0).over ≡ false → (own_of ns b n x 0).words ≤ 102 → 102 ≤ length ws
        → Same vs (part_stored ns b x ws) (own_of ns b n x 0).words → Same vs ws b → Linked b → Goes b n x
    unfolding laid_form own_of rows_own pick_own keep_own join_own aggregate_own part_good part_stored
    goes b n (rows a) ws g o few room s before l = record { laid = tt; further = l }
    goes b n (pick c) ws g o few room s before l =
        let e : (own_of ns b n (pick c) 0).words ≡ b + size (nodes_of ns c) = pick_over ns b n c 0 o in
        let k = b + size (nodes_of ns c) in
        let p : 0 < k = omega (arith, size_some (nodes_of ns c)) in
        let m : Linked k =
        links_same (store (nodes_of ns c) b ws) vs k (λ i h. sym (s i (omega arith)))
        (links_further (nodes_of ns c) b ws (cond_fits ns c g) (omega arith) (omega arith) (links_same vs ws b before l)) in
        record { laid = rw e (and_both (ltb 0 k) (linked_from (suc k) vs k) (lt→ltb 0 k p) m); further = rw e m }
    goes b n (keep rs) ws g o few room s before l = record { laid = tt; further = l }
    goes b n (join x y) ws g o few room s before l = record { laid = tt; further = l }
    goes b n (aggregate f c z w) ws g o few room s before l = record { laid = tt; further = l }

    pub all_laid : (is : List Inner) (r : Reading) (ws : List ℕ) → T (every (known ns sound) is) → (with_parts ns r is).over ≡ false → (with_parts ns r is).words ≤ 102 → 102 ≤ length ws
        → Agrees ns vs r ws is → Linked r.words → T (laid_forms vs (forms_run ns r is))
    unfolding laid_forms every forms_run with_parts Agrees store_parts
    all_laid [] r ws t o few room a l = tt
    all_laid (i ∷ is) r ws t o few room a l =
        let u = part_stored ns r.words i.part ws in
        let e = words_then ns r i in
        let over = (over_before ns r i (over_first ns is (with_part ns r i) o)).1 in
        let w = parts_words ns is (with_part ns r i) o in
        let w' = parts_words ns (i ∷ is) r o in
        let z = part_length ns r.words i.part ws in
        let here : Same vs u (with_part ns r i).words = agrees_here ns vs is (with_part ns r i) u o a in
        let g = goes r.words i.around i.part ws (and_l (part_good i.part) _ (and_l (part_good i.part && part_fine i.around i.part) _ (and_l (known ns sound i) _ t))) over (omega arith) room (λ j h. here j (omega arith))
        (agrees_here ns vs (i ∷ is) r ws o a) l in
        and_both (laid_form vs (own_of ns r.words i.around i.part 0).form) _ g.laid
        (all_laid is (with_part ns r i) u (and_r (known ns sound i) _ t) o few (omega arith) a (subst Linked (sym e) g.further))
