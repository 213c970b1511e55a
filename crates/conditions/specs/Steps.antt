-- The steps by which conditions are read: a comparison, a closing bracket, the conditions of a list one after another; and the skip over one that nests too deep.
use Rattle.std.specs.Prelude.{◌≡◌, List, Bool, false, ◌||◌, ◌&&◌, not, cond, ℕ, zero, suc, ◌+◌, ◌≤◌, min, leb, eqb, length, drop, get_or}
use Rattle.std.specs.Prelude.{option_map}
use Rattle.std.proofs.Math.Option.{Option, none, some}
use Rattle.std.specs.Int.Bits.{bit_or}
use Rattle.syntax.specs.Grammar.{Bytes, Test, Cond, Conds}
use Rattle.syntax.specs.Limits.{cond_depth, conds_depth}
use Rattle.syntax.specs.Readers.{Read}
use Rattle.model.specs.Conditions.{tests, tests_of, map_conds}
use Rattle.text.specs.Words.{Found, Some, None, seen, left_at, read_end}
use Rattle.text.specs.Readings.{any_cond, any_conds}
use Rattle.masks.specs.Masks.{with_bit}
use Rattle.terms.specs.Terms.{unknown_code}
use Rattle.terms.specs.declared.Comparison.{Comparison}
use Rattle.nodes.specs.Nodes.{node_words}
use Rattle.nodes.specs.Storing.{put_node, size, sizes, store, store_all, inner_node}
use Rattle.nodes.specs.declared.Node.{Node}
use Rattle.conditions.specs.declared.Seen.{Seen}
use Rattle.conditions.specs.declared.Skip.{Skip}
use Rattle.conditions.specs.declared.Skip.TheVariants.{Ended, Next}
use Rattle.conditions.specs.Seeing.{test_node, nodes_of, deep_seen, seen_of, has_room, most_words}

-- ---- what a step answers, and what it leaves in the words

unfoldable pub Answers : Found Seen → List ℕ → Found Seen → List ℕ → Type 0
Answers r ws seen stored = (r ≡ seen) × (ws ≡ stored)

-- ---- words that are counted: all counts that a node's link cannot tell are one

unfoldable pub counted : ℕ → ℕ
counted n = min n (suc most_words)

-- a node after the first b words, and how many there are then
pub record Placed (b : ℕ) (n : Node) (ws ws' : List ℕ) (r : ℕ) : Type 0 where
  pub count : r ≡ counted (b + node_words n)
  pub stored : ws' ≡ put_node ws b n

-- ---- a comparison after the first b words

unfoldable pub compared_node : ℕ → ℕ → Comparison → Node
compared_node h b c = record { head = h; left = c.left; right = c.right; before = b; value = c.value }

unfoldable pub compared_one : ℕ → Comparison → Seen
compared_one b c =
    record {
      next = c.next;
      count = counted (b + node_words (compared_node 0 b c));
      over = c.over;
      unknown = eqb c.left unknown_code || eqb c.right unknown_code;
      deep = false;
      lefts = with_bit 0 c.left;
      rights = with_bit 0 c.right;
    }

unfoldable pub compared_seen : ℕ → Found Comparison → Found Seen
compared_seen b o = option_map (compared_one b) o

unfoldable pub compared_stored : ℕ → ℕ → Found Comparison → List ℕ → List ℕ
compared_stored h b None ws = ws
compared_stored h b (Some c) ws = put_node ws b (compared_node h b c)

-- ---- a closing bracket after what is inside, and the node of the whole

unfoldable pub closed_seen : Bytes → Seen → Found Seen
closed_seen s i =
    cond (eqb (get_or s i.next 0) 41) (Some (cond i.deep (deep_seen (i.next + 1)) (record {
      next = i.next + 1;
      count = counted (i.count + 1);
      over = i.over;
      unknown = i.unknown;
      deep = false;
      lefts = i.lefts;
      rights = i.rights;
    }))) None

unfoldable pub closed_stored : ℕ → ℕ → Bytes → Seen → List ℕ → List ℕ
closed_stored h b s i ws = cond (eqb (get_or s i.next 0) 41 && not i.deep) (put_node ws i.count (inner_node h b)) ws

-- ---- some conditions, and one after them

unfoldable pub both_seen : Seen → Seen → Seen
both_seen i j =
    cond (i.deep || j.deep) (deep_seen j.next) (record {
      next = j.next;
      count = j.count;
      over = i.over || j.over;
      unknown = i.unknown || j.unknown;
      deep = false;
      lefts = bit_or i.lefts j.lefts;
      rights = bit_or i.rights j.rights;
    })

-- ---- a condition, or the conditions of a list: how many words they take, their comparisons, how deep their brackets go, and the words with theirs after the first b

pub record Kind (A : Type 0) : Type 0 where
  pub words : A → ℕ
  pub tests : A → List Test
  pub depth : A → ℕ
  pub put : A → ℕ → List ℕ → List ℕ

abbrev pub one : List ℕ → Kind (Cond Test)
one ks = record { words = λ c. size (nodes_of ks c); tests = tests; depth = cond_depth; put = λ c. store (nodes_of ks c) }

abbrev pub many : List ℕ → Kind (Conds Test)
many ks = record { words = λ cs. sizes (map_conds (test_node ks) cs); tests = tests_of; depth = conds_depth; put = λ cs. store_all (map_conds (test_node ks) cs) }

-- what is told of them, whether or not their words have room
unfoldable pub told_read : {A : Type 0} → List ℕ → Kind A → Bytes → ℕ → ℕ → Read A → Seen
told_read ks k s b level r =
    let next = left_at s r in
    cond (leb (k.depth r.what) level) (seen_of ks (k.tests r.what) next (counted (b + k.words r.what))) (deep_seen next)

unfoldable pub told : {A : Type 0} → List ℕ → Kind A → Bytes → ℕ → ℕ → Option (Read A) → Found Seen
told ks k s b level o = seen (told_read ks k s b level) o

unfoldable pub put_read : {A : Type 0} → Kind A → ℕ → Option (Read A) → List ℕ → List ℕ
put_read k b none ws = ws
put_read k b (some r) ws = k.put r.what b ws

-- their nodes are in the words where all is read, and not too deep, and counted
pub record ReadIn {A : Type 0} (ks : List ℕ) (k : Kind A) (s : Bytes) (b level : ℕ) (o : Option (Read A)) (ws ws' : List ℕ) (r : Found Seen) : Type 0 where
  pub is : r ≡ told ks k s b level o
  pub stored : (i : Seen) → r ≡ Some i → i.deep ≡ false → i.count ≤ most_words → ws' ≡ put_read k b o ws
  pub kept : length ws' ≡ length ws

abbrev pub CondIn : List ℕ → Bytes → ℕ → ℕ → ℕ → List ℕ → List ℕ → Found Seen → Type 0
CondIn ks s b level at ws ws' r = ReadIn ks (one ks) s b level (any_cond (drop at s)) ws ws' r

abbrev pub CondsIn : List ℕ → Bytes → ℕ → ℕ → ℕ → List ℕ → List ℕ → Found Seen → Type 0
CondsIn ks s b level at ws ws' r = ReadIn ks (many ks) s b level (any_conds (drop at s)) ws ws' r

-- what is read, where its words have room
unfoldable pub fitted : ℕ → Seen → Found Seen
fitted room i = cond (not i.deep && not (has_room room i.count)) None (Some i)

-- ---- the skip

-- how many conditions of conditions can be open in a line: each takes four bytes or more
abbrev pub max_nest : ℕ
max_nest = 128

-- after a condition that ended at a place, inside some that are open, the innermost last; `single` tells which of these hold just one
unfoldable pub after_cond : Bytes → List Bool → ℕ → ℕ → Found Skip
after_cond s single p zero = Some (Ended p)
after_cond s single p (suc n) =
    cond (eqb (get_or s p 0) 41) (after_cond s single (p + 1) n)
    (cond (eqb (get_or s p 0) 32 && not (get_or single n false)) (Some (Next (p + 1) (suc n))) None)

-- a condition that is skipped
unfoldable pub skipped_seen : Bytes → ℕ → Found Seen
skipped_seen s at = option_map deep_seen (read_end s (any_cond (drop at s)))
