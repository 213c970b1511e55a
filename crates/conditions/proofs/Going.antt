-- The conditions of a list one after another: what is read so far, and what is still to be read.
use mathlib.Core.Path.{◌≡◌, refl, sym, ap, ap₂, ◌∙◌}
use mathlib.Core.List.{List, [], ◌∷◌, ◌++◌, map, map-append}
use mathlib.Core.Bool.{Bool, true, false, ◌&&◌, ◌||◌, cond, and-true}
use mathlib.Core.Option.{Option, none, some}
use Prim.Native.Nat.{ℕ, ◌+◌, ◌-◌, ◌≤◌, ◌<◌, min}
use native.Mathlib.Omega.{arith}
use lib.Dec.{leb, eqb}
use lib.ListN.{length, drop, get_or, length-append, length-drop, drop_of_length-le}
use borrow.Author.Tests.{ne_eqb}
use Rattle.std.proofs.lemmas.Option.{same_Some}
use Rattle.lists.specs.Lists.{every, some?, gather}
use Rattle.lists.proofs.Laws.{append_nil, gather_append, never, by_test}
use Rattle.syntax.specs.Grammar.{Bytes, Test, Cond, Conds, last, more}
use Rattle.syntax.specs.Limits.{cond_depth, conds_depth}
use Rattle.syntax.specs.Readers.{Read, Reader, bind, byte, read_more, head_word, heads}
use Rattle.syntax.proofs.Steps.{from}
use Rattle.syntax.proofs.Leaving.{left_within, head_less, headed_leaves}
use Rattle.model.specs.Conditions.{tests, tests_of, map_cond, map_conds, conds_of}
use Rattle.text.specs.Words.{Found, Some, None, seen, left_at}
use Rattle.text.specs.Readings.{any_cond, any_conds}
use Rattle.text.proofs.Places.{space_is, space_not, byte_here}
use Rattle.text.proofs.Views.{left_drop}
use Rattle.text.proofs.Fuel.{any_cond_leaves, any_conds_leaves, cond_step, conds_step}
use Rattle.masks.specs.Masks.{mask_of}
use Rattle.nodes.specs.declared.Node.{Node}
use Rattle.nodes.specs.Storing.{size, sizes, store, store_all, list_size, store_list}
use Rattle.nodes.proofs.Sizes.{size_append, store_append}
use Rattle.nodes.proofs.Depths.{every_snoc, leb_max}
use Rattle.conditions.specs.declared.Seen.{Seen}
use Rattle.conditions.specs.Seeing.{test_node, nodes_of, deep_seen, begun, seen_of}
use Rattle.conditions.specs.Steps.{counted, both_seen, one, many, told_read, told, put_read, CondIn, CondsIn}
use Rattle.conditions.proofs.Folds.{seen_both}
use Rattle.conditions.proofs.Closing.{few_deep, told_near, told_deep, told_is, told_none, told_some, read_none}

-- ---- a condition takes a byte or more

pub cond_less : (bs : Bytes) (r : Read (Cond Test)) → any_cond bs ≡ some r → length r.left < length bs
cond_less bs r e =
    from _ _ (sym (cond_step bs) ∙ e) (λ h p q.
    let a = head_less head_word heads bs h p in
    let b = left_within (headed_leaves any_cond any_conds any_cond_leaves any_conds_leaves h.what) h.left r q in
    omega arith)

-- ---- conditions as a list

unfoldable pub list_of : Conds Test → List (Cond Test)
list_of (last c) = c ∷ []
list_of (more c cs) = c ∷ list_of cs

list_back : (c : Cond Test) (ds : List (Cond Test)) → list_of (conds_of c ds) ≡ c ∷ ds
unfolding list_of conds_of
list_back c [] = refl
list_back c (d ∷ ds) = ap (λ l. c ∷ l) (list_back d ds)

pub sizes_list : (ks : List ℕ) (cs : Conds Test) → list_size (map (nodes_of ks) (list_of cs)) ≡ sizes (map_conds (test_node ks) cs)
unfolding list_of list_size map_cond nodes_of size
sizes_list ks (last c) = omega arith
sizes_list ks (more c cs) = ap (λ n. size (map_cond (test_node ks) c) + n) (sizes_list ks cs)

pub store_lists : (ks : List ℕ) (cs : Conds Test) (b : ℕ) (ws : List ℕ) → store_list (map (nodes_of ks) (list_of cs)) b ws ≡ store_all (map_conds (test_node ks) cs) b ws
unfolding list_of store_list map_cond nodes_of store
store_lists ks (last c) b ws = refl
store_lists ks (more c cs) b ws = store_lists ks cs (b + size (map_cond (test_node ks) c)) (store (map_cond (test_node ks) c) b ws)

pub tests_list : (cs : Conds Test) → gather tests (list_of cs) ≡ tests_of cs
unfolding list_of gather tests
tests_list (last c) = append_nil (tests c)
tests_list (more c cs) = ap (λ ts. tests c ++ ts) (tests_list cs)

-- no condition of a list is too deep
abbrev pub shallow : ℕ → List (Cond Test) → Bool
shallow level cs = every (λ c. leb (cond_depth c) level) cs

pub depth_list : (level : ℕ) (cs : Conds Test) → shallow level (list_of cs) ≡ leb (conds_depth cs) level
unfolding list_of every cond_depth
depth_list level (last c) = and-true (leb (cond_depth c) level)
depth_list level (more c cs) = ap (λ x. leb (cond_depth c) level && x) (depth_list level cs) ∙ leb_max (cond_depth c) (conds_depth cs) level

-- ---- what is still to be read after some conditions

unfoldable pub before : List (Cond Test) → Conds Test → Conds Test
before [] cs = cs
before (d ∷ ds) cs = more d (before ds cs)

before_more : (ds : List (Cond Test)) (c : Cond Test) (cs : Conds Test) → before ds (more c cs) ≡ before (ds ++ (c ∷ [])) cs
unfolding before
before_more [] c cs = refl
before_more (d ∷ ds) c cs = ap (more d) (before_more ds c cs)

before_last : (d : Cond Test) (ds : List (Cond Test)) (c : Cond Test) → before (d ∷ ds) (last c) ≡ conds_of d (ds ++ (c ∷ []))
unfolding before conds_of
before_last d [] c = refl
before_last d (e ∷ ds) c = ap (more d) (before_last e ds c)

-- with some conditions in front
abbrev pub in_front : List (Cond Test) → Read (Conds Test) → Option (Read (Conds Test))
in_front ds cs = some (record { what = before ds cs.what; left = cs.left })

unfoldable pub going : List (Cond Test) → Reader (Conds Test)
going [] bs = any_conds bs
going (d ∷ ds) [] = none
going (d ∷ ds) (x ∷ xs) = cond (eqb 32 x) (bind (any_conds (x ∷ xs)) (in_front (d ∷ ds))) (some (record { what = conds_of d ds; left = x ∷ xs }))

going_one : (c : Cond Test) (l : Bytes) → read_more any_conds c l ≡ going (c ∷ []) l
unfolding read_more going before conds_of
going_one c [] = refl
going_one c (x ∷ xs) = refl

going_more : (d : Cond Test) (ds : List (Cond Test)) (c : Cond Test) (l : Bytes) → bind (read_more any_conds c l) (in_front (d ∷ ds)) ≡ going (d ∷ (ds ++ (c ∷ []))) l
unfolding read_more going bind
going_more d ds c [] = refl
going_more d ds c (x ∷ xs) = go (eqb 32 x) (any_conds (x ∷ xs))
  where
    go : (t : Bool) (o : Option (Read (Conds Test)))
        → bind (cond t (bind o (λ cs. some (record { what = more c cs.what; left = cs.left }))) (some (record { what = last c; left = x ∷ xs }))) (in_front (d ∷ ds))
        ≡ cond t (bind o (in_front (d ∷ (ds ++ (c ∷ []))))) (some (record { what = conds_of d (ds ++ (c ∷ [])); left = x ∷ xs }))
    go true none = refl
    go true (some cs) = ap (λ y. some (record { what = y; left = cs.left })) (before_more (d ∷ ds) c cs.what)
    go false o = ap (λ y. some (record { what = y; left = x ∷ xs })) (before_last d ds c)

module _ (s : Bytes) (p : ℕ) (l : p < length s) where
  module _ (z : get_or s p 0 ≡ 32) where
    going_on : (ds : List (Cond Test)) (c : Read (Cond Test)) → any_cond (drop (p + 1) s) ≡ some c → going ds (drop p s) ≡ going (ds ++ (c.what ∷ [])) c.left
    unfolding going bind
    going_on [] c e = conds_step (drop p s) ∙ rw (space_is s p refl z, e) (going_one c.what c.left)
    going_on (d ∷ ds) c e =
        let q : any_conds (drop p s) ≡ read_more any_conds c.what c.left = conds_step (drop p s) ∙ rw (space_is s p refl z, e) in
        rw (byte_here s p l z) (ap (λ o. bind o (in_front (d ∷ ds))) (ap any_conds (sym (byte_here s p l z)) ∙ q) ∙ going_more d ds c.what c.left)

    going_none : (ds : List (Cond Test)) → any_cond (drop (p + 1) s) ≡ none → going ds (drop p s) ≡ none
    unfolding going bind
    going_none [] e = conds_step (drop p s) ∙ rw (space_is s p refl z, e)
    going_none (d ∷ ds) e =
        let q : any_conds (drop p s) ≡ none = conds_step (drop p s) ∙ rw (space_is s p refl z, e) in
        rw (byte_here s p l z) (ap (λ o. bind o (in_front (d ∷ ds))) (ap any_conds (sym (byte_here s p l z)) ∙ q))

  going_end : (d : Cond Test) (ds : List (Cond Test)) → (get_or s p 0 ≡ 32 → ⊥) → going (d ∷ ds) (drop p s) ≡ some (record { what = conds_of d ds; left = drop p s })
  unfolding going
  going_end d ds n = rw (byte_here s p l refl, ne_eqb 32 (get_or s p 0) (λ e. n (sym e)))

going_over : (ds : List (Cond Test)) (s : Bytes) (p : ℕ) → length s ≤ p → going ds (drop p s) ≡ none
unfolding going bind byte
going_over [] s p h = conds_step (drop p s) ∙ rw (drop_of_length-le s h)
going_over (d ∷ ds) s p h = rw (drop_of_length-le s h)

-- ---- one more condition

gather_snoc : (ds : List (Cond Test)) (c : Cond Test) → gather tests (ds ++ (c ∷ [])) ≡ gather tests ds ++ tests c
unfolding gather
gather_snoc ds c = gather_append tests ds (c ∷ []) ∙ ap (λ ts. gather tests ds ++ ts) (append_nil (tests c))

alone_size : (c : Cond Node) → list_size (c ∷ []) ≡ size c
unfolding list_size
alone_size c = omega arith

alone_store : (c : Cond Node) (b : ℕ) (ws : List ℕ) → store_list (c ∷ []) b ws ≡ store c b ws
unfolding store_list
alone_store c b ws = refl

sum_counted : (b m n : ℕ) {k : ℕ} → k ≡ counted (b + m) → counted (k + n) ≡ counted (b + (m + n))
unfolding counted
sum_counted b m n e = omega arith

exact_sum : (b m n : ℕ) {k a : ℕ} → k ≡ counted (b + m) → a ≡ counted (k + n) → a ≤ 255 → (k ≡ b + m) × (k ≤ 255)
unfolding counted
exact_sum b m n e f l = (omega arith, omega arith)

or_first : {a : Bool} (b : Bool) → a ≡ true → (a || b) ≡ true
or_first b e = rw e

or_last : (a : Bool) {b : Bool} → b ≡ true → (a || b) ≡ true
or_last true e = refl
or_last false e = e

and_first : (a b : Bool) → (a && b) ≡ true → a ≡ true
and_first true b e = refl
and_first false b e = never (sym e)

and_last : (a b : Bool) → (a && b) ≡ true → b ≡ true
and_last true b e = e
and_last false b e = never (sym e)

both_next : (i j : Seen) → (both_seen i j).next ≡ j.next
unfolding both_seen deep_seen
both_next i j = by_test (i.deep || j.deep) (λ e. rw e) (λ e. rw e)

both_deep : (i j : Seen) → (i.deep || j.deep) ≡ true → both_seen i j ≡ deep_seen j.next
unfolding both_seen
both_deep i j e = rw e

-- ---- what is told of some conditions, up to a place

unfoldable pub part_seen : List ℕ → ℕ → ℕ → List (Cond Test) → ℕ → Seen
part_seen ks b level ds next = cond (shallow level ds) (seen_of ks (gather tests ds) next (counted (b + list_size (map (nodes_of ks) ds)))) (deep_seen next)

pub record Going (ks : List ℕ) (s : Bytes) (b level at : ℕ) (ws ws' : List ℕ) (r : Seen) : Type 0 where
  pub done : List (Cond Test)
  pub reads : any_conds (drop at s) ≡ going done (drop r.next s)
  pub is : r ≡ part_seen ks b level done r.next
  pub stored : r.deep ≡ false → r.count ≤ 255 → ws' ≡ store_list (map (nodes_of ks) done) b ws
  pub kept : length ws' ≡ length ws
  pub few : r.count ≤ 256
  pub some : (get_or s r.next 0 ≡ 32 → ⊥) → 0 < length done

module _ (ks : List ℕ) (s : Bytes) (b level at : ℕ) (ws : List ℕ) where
  module _ {y : ℕ} (q : y ≡ get_or s at 0) where
    pub conds_unspaced : (y ≡ 32 → ⊥) → CondsIn ks s b level at ws ws None
    unfolding bind
    conds_unspaced n = read_none ks (many ks) s b level ws (conds_step (drop at s) ∙ rw (space_not s at q n)) refl refl

    pub conds_start : {r : Seen} → y ≡ 32 → b ≤ 256 → r ≡ begun at b → Going ks s b level at ws ws r
    unfolding going part_seen begun seen_of every gather list_size store_list counted mask_of some?
    conds_start {r} z l e =
        let n : r.next ≡ at = ap (λ x. x.next) e in
        let c : r.count ≡ b = ap (λ x. x.count) e in
        let m : min (b + 0) 256 ≡ b = omega arith in
        record {
          done = [];
          reads = sym (ap (λ i. any_conds (drop i s)) n);
          is = e ∙ sym (rw (m, n));
          stored = λ d k. refl;
          kept = refl;
          few = omega arith;
          some = λ k. absurd (k (ap (λ i. get_or s i 0) n ∙ sym q ∙ z));
        }

  -- what is told of all of them
  part_told : (cs : Conds Test) (p : ℕ) → p ≤ length s → Some (part_seen ks b level (list_of cs) p) ≡ told ks (many ks) s b level (some (record { what = cs; left = drop p s }))
  unfolding part_seen told told_read seen left_at
  part_told cs p h =
      let e : length s - length (drop p s) ≡ p = omega (arith, length-drop p s) in
      rw (depth_list level cs, tests_list cs, sizes_list ks cs, e)

  module _ {ws' : List ℕ} {r : Seen} (g : Going ks s b level at ws ws' r) where
    pub conds_over : length s ≤ r.next → CondsIn ks s b level at ws ws' None
    conds_over h = read_none ks (many ks) s b level ws (g.reads ∙ going_over g.done s r.next h) g.kept refl

    module _ (l : r.next < length s) where
      pub conds_done : (get_or s r.next 0 ≡ 32 → ⊥) → CondsIn ks s b level at ws ws' (Some r)
      unfolding put_read
      conds_done n = go g.done refl
        where
          go : (ds : List (Cond Test)) → g.done ≡ ds → CondsIn ks s b level at ws ws' (Some r)
          go [] e = absurd (let h = g.some n in let k = ap length e in omega arith)
          go (d ∷ ds) e =
              let cs = conds_of d ds in
              let f : g.done ≡ list_of cs = e ∙ sym (list_back d ds) in
              let x : any_conds (drop at s) ≡ some (record { what = cs; left = drop r.next s }) = g.reads ∙ ap (λ es. going es (drop r.next s)) e ∙ going_end s r.next l d ds n in
              record {
                is = ap Some (g.is ∙ ap (λ es. part_seen ks b level es r.next) f) ∙ part_told cs r.next (omega arith) ∙ sym (ap (told ks (many ks) s b level) x);
                stored = λ i o u v. let m = same_Some r i o in g.stored (ap (λ x. x.deep) m ∙ u) (let k = ap (λ x. x.count) m in omega arith) ∙ ap (λ es. store_list (map (nodes_of ks) es) b ws) f ∙ store_lists ks cs b ws ∙ sym (ap (λ w. put_read (many ks) b w ws) x);
                kept = g.kept;
              }

      module _ (z : get_or s r.next 0 ≡ 32) {ws₂ : List ℕ} where
        pub conds_failed : {a : Found Seen} → CondIn ks s r.count level (r.next + 1) ws' ws₂ None → a ≡ None → CondsIn ks s b level at ws ws₂ a
        conds_failed j e =
            let n = told_none ks (one ks) s r.count level (any_cond (drop (r.next + 1) s)) j.is in
            read_none ks (many ks) s b level ws (g.reads ∙ going_none s r.next l z g.done n) (j.kept ∙ g.kept) e

        module _ {i : Seen} (j : CondIn ks s r.count level (r.next + 1) ws' ws₂ (Some i)) {a : Seen} (e : a ≡ both_seen r i) where
          found : {X : Type 0} → ((c : Read (Cond Test)) → any_cond (drop (r.next + 1) s) ≡ some c → i.next ≡ length s - length c.left → a.next ≡ i.next → X) → X
          found f = told_some ks (one ks) s r.count level (any_cond (drop (r.next + 1) s)) j.is (λ c n m k. f c n k (ap (λ x. x.next) e ∙ both_next r i))

          pub conds_less : length s - a.next < length s - r.next
          conds_less = found (λ c n k m. let h = cond_less (drop (r.next + 1) s) c n in omega (arith, length-drop (r.next + 1) s))

          module _ (c : Read (Cond Test)) (n : any_cond (drop (r.next + 1) s) ≡ some c) (k : i.next ≡ length s - length c.left) (m : a.next ≡ i.next) where
            abbrev now : List (Cond Test)
            now = g.done ++ (c.what ∷ [])

            reads_on : any_conds (drop at s) ≡ going now (drop a.next s)
            reads_on = g.reads ∙ going_on s r.next l z g.done c n ∙ ap (going now) (sym (ap (λ x. drop x s) (m ∙ k) ∙ left_drop any_cond_leaves s (r.next + 1) c n))

            seen_i : i ≡ told_read ks (one ks) s r.count level c
            seen_i = told_is ks (one ks) s r.count level c (j.is ∙ ap (told ks (one ks) s r.count level) n)

            module _ (p : shallow level g.done ≡ true) (q : leb (cond_depth c.what) level ≡ true) where
              near_r : r ≡ seen_of ks (gather tests g.done) r.next (counted (b + list_size (map (nodes_of ks) g.done)))
              unfolding part_seen
              near_r = g.is ∙ rw p

              near_i : i ≡ seen_of ks (tests c.what) (length s - length c.left) (counted (r.count + size (nodes_of ks c.what)))
              near_i = seen_i ∙ told_near ks (one ks) s r.count level c q

              near_a : a ≡ seen_of ks (gather tests g.done ++ tests c.what) (length s - length c.left) (counted (r.count + size (nodes_of ks c.what)))
              near_a = e ∙ ap₂ both_seen near_r near_i ∙ seen_both ks (gather tests g.done) (tests c.what) r.next (counted (b + list_size (map (nodes_of ks) g.done))) (length s - length c.left) (counted (r.count + size (nodes_of ks c.what)))

              count_r : r.count ≡ counted (b + list_size (map (nodes_of ks) g.done))
              unfolding seen_of
              count_r = ap (λ x. x.count) near_r

              count_a : a.count ≡ counted (r.count + size (nodes_of ks c.what))
              unfolding seen_of
              count_a = ap (λ x. x.count) near_a

              size_now : list_size (map (nodes_of ks) now) ≡ list_size (map (nodes_of ks) g.done) + size (nodes_of ks c.what)
              size_now = ap list_size (map-append (nodes_of ks) g.done (c.what ∷ [])) ∙ size_append (map (nodes_of ks) g.done) (nodes_of ks c.what ∷ []) ∙ ap (λ x. list_size (map (nodes_of ks) g.done) + x) (alone_size (nodes_of ks c.what))

              part_near : a ≡ part_seen ks b level now a.next
              unfolding part_seen
              part_near =
                  near_a ∙ sym (rw (every_snoc (λ c. leb (cond_depth c) level) g.done c.what, p, q, gather_snoc g.done c.what, m, k, size_now)
                  (ap (seen_of ks (gather tests g.done ++ tests c.what) (length s - length c.left)) (sym (sum_counted b (list_size (map (nodes_of ks) g.done)) (size (nodes_of ks c.what)) count_r))))

              put_near : a.deep ≡ false → a.count ≤ 255 → ws₂ ≡ store_list (map (nodes_of ks) now) b ws
              unfolding put_read seen_of
              put_near d f =
                  let x = exact_sum b (list_size (map (nodes_of ks) g.done)) (size (nodes_of ks c.what)) count_r count_a f in
                  let y : i.count ≡ a.count = ap (λ x. x.count) near_i ∙ sym count_a in
                  j.stored i refl (ap (λ x. x.deep) near_i) (omega arith) ∙ ap (λ w. put_read (one ks) r.count w ws') n
                  ∙ ap₂ (λ u v. store (nodes_of ks c.what) u v) x.0 (g.stored (ap (λ x. x.deep) near_r) x.1)
                  ∙ sym (ap (λ es. store_list es b ws) (map-append (nodes_of ks) g.done (c.what ∷ [])) ∙ store_append (map (nodes_of ks) g.done) (nodes_of ks c.what ∷ []) b ws ∙ alone_store (nodes_of ks c.what) _ _)

            -- where one is too deep
            module _ (w : (shallow level g.done && leb (cond_depth c.what) level) ≡ false) where
              one_deep : (r.deep || i.deep) ≡ true
              unfolding part_seen deep_seen
              one_deep =
                  by_test (shallow level g.done)
                  (λ p. by_test (leb (cond_depth c.what) level) (λ q. never (rw (p, q) at w)) (λ q. or_last r.deep (ap (λ x. x.deep) (seen_i ∙ told_deep ks (one ks) s r.count level c q))))
                  (λ p. let x : r ≡ deep_seen r.next = g.is ∙ rw p in or_first i.deep (ap (λ x. x.deep) x))

              deep_a : a ≡ deep_seen a.next
              deep_a = e ∙ both_deep r i one_deep ∙ ap deep_seen (sym m)

              part_deep : a ≡ part_seen ks b level now a.next
              unfolding part_seen
              part_deep = deep_a ∙ sym (rw (every_snoc (λ c. leb (cond_depth c) level) g.done c.what, w))

              put_deep : {X : Type 0} → a.deep ≡ false → X
              unfolding deep_seen
              put_deep d = never (sym (ap (λ x. x.deep) deep_a) ∙ d)

            again : Going ks s b level at ws ws₂ a
            unfolding counted
            again =
                by_test (shallow level g.done && leb (cond_depth c.what) level)
                (λ w.
                let p = and_first (shallow level g.done) (leb (cond_depth c.what) level) w in
                let q = and_last (shallow level g.done) (leb (cond_depth c.what) level) w in
                let f = count_a p q in
                record { done = now; reads = reads_on; is = part_near p q; stored = put_near p q; kept = j.kept ∙ g.kept; few = omega arith; some = λ x. omega (arith, length-append g.done (c.what ∷ [])) })
                (λ w. record { done = now; reads = reads_on; is = part_deep w; stored = λ d f. put_deep w d; kept = j.kept ∙ g.kept; few = few_deep a.next (deep_a w); some = λ x. omega (arith, length-append g.done (c.what ∷ [])) })

          pub conds_again : Going ks s b level at ws ws₂ a
          conds_again = found again

pub ruleset conds_ends = (conds_unspaced, conds_start, conds_over, conds_done, conds_failed, conds_less, conds_again)
