-- What is read of conditions: how many words they take, what their comparisons name, and the nodes that are stored of them.
use Rattle.std.specs.Prelude.{◌≡◌, List, map, Bool, true, false, ◌||◌, ◌&&◌, cond, ℕ, ◌+◌, ◌-◌, leb, ltb, eqb, length, drop}
use Rattle.std.proofs.Math.Option.{Option, none, some}
use Rattle.lists.specs.Lists.{some?, every, gather}
use Rattle.syntax.specs.Grammar.{Bytes, Test, Cond}
use Rattle.syntax.specs.Limits.{max_line, cond_depth}
use Rattle.syntax.specs.Readers as R
use Rattle.syntax.specs.Readers.{Read, closes, read_head, head_word, heads}
use Rattle.model.specs.Conditions.{tests, map_cond}
use Rattle.text.specs.Words.{Found, Some, None, seen, left_at}
use Rattle.text.specs.Keywords.{op_number, head_number}
use Rattle.text.specs.Readings.{any_cond, any_some}
use Rattle.masks.specs.Masks.{mask_of}
use Rattle.terms.specs.Terms.{unknown_code, test_over, left_code, right_code, test_value}
use Rattle.nodes.specs.Storing.{size, list_size, store, store_list}
use Rattle.nodes.specs.declared.Node.{Node}
use Rattle.conditions.specs.declared.Seen.{Seen}
use Rattle.conditions.specs.declared.Headed.{Headed}

-- the head at a place, and the place after it
unfoldable pub head_seen : Bytes → Read R.Head → Headed
head_seen s r = record { head = head_number r.what; next = left_at s r }

unfoldable pub head_at : Bytes → ℕ → Found Headed
head_at s at = seen (head_seen s) (read_head head_word heads (drop at s))

-- ---- a condition's comparisons as nodes, resolved by the names of a schema

unfoldable pub test_node : List ℕ → Test → Node
test_node ks t = record { head = op_number t.op; left = left_code ks t; right = right_code ks t; before = 0; value = test_value ks t }

unfoldable pub nodes_of : List ℕ → Cond Test → Cond Node
nodes_of ks c = map_cond (test_node ks) c

-- ---- what comparisons name

-- a term that is not declared
unfoldable pub test_unknown : List ℕ → Test → Bool
test_unknown ks t = eqb (left_code ks t) unknown_code || eqb (right_code ks t) unknown_code

-- brackets nest too deep: nothing is told but where they end
unfoldable pub deep_seen : ℕ → Seen
deep_seen next = record { next = next; count = 0; over = false; unknown = false; deep = true; lefts = 0; rights = 0 }

-- none yet
unfoldable pub begun : ℕ → ℕ → Seen
begun at b = record { next = at; count = b; over = false; unknown = false; deep = false; lefts = 0; rights = 0 }

-- some comparisons: whether a name is too long or a number beyond 32 bits, whether a term is not declared, and the codes of the terms on either side
unfoldable pub seen_of : List ℕ → List Test → ℕ → ℕ → Seen
seen_of ks ts next count =
    record {
      next = next;
      count = count;
      over = some? test_over ts;
      unknown = some? (test_unknown ks) ts;
      deep = false;
      lefts = mask_of (map (left_code ks) ts);
      rights = mask_of (map (right_code ks) ts);
    }

-- how many words a node's link can tell
abbrev pub most_words : ℕ
most_words = 255

-- there is room for n words: a node's link has one byte
unfoldable pub has_room : ℕ → ℕ → Bool
has_room room n = leb n room && leb n most_words

-- ---- one condition, after the first b words, where `level` brackets may be opened

unfoldable pub cond_seen : List ℕ → Bytes → ℕ → ℕ → ℕ → Option (Read (Cond Test)) → Found Seen
cond_seen ks s room b level none = None
cond_seen ks s room b level (some r) =
    let n = b + size (nodes_of ks r.what) in
    let next = length s - length r.left in
    cond (leb (cond_depth r.what) level) (cond (has_room room n) (Some (seen_of ks (tests r.what) next n)) None) (Some (deep_seen next))

unfoldable pub cond_stored : List ℕ → ℕ → Option (Read (Cond Test)) → List ℕ → List ℕ
cond_stored ks b none ws = ws
cond_stored ks b (some r) ws = store (nodes_of ks r.what) b ws

unfoldable pub cond_at : List ℕ → Bytes → ℕ → ℕ → ℕ → ℕ → Found Seen
cond_at ks s room b level at = cond (ltb max_line (length s)) None (cond_seen ks s room b level (any_cond (drop at s)))

-- what is seen, and the words with its nodes where it is read and not too deep
pub record CondRead (ks : List ℕ) (s : Bytes) (b level at : ℕ) (ws ws' : List ℕ) (r : Found Seen) : Type 0 where
  pub is : r ≡ cond_at ks s (length ws) b level at
  pub stored : (i : Seen) → r ≡ Some i → i.deep ≡ false → ws' ≡ cond_stored ks b (any_cond (drop at s)) ws
  pub kept : length ws' ≡ length ws

-- ---- one or more, each after a space, up to a closing bracket

unfoldable pub list_seen : List ℕ → Bytes → ℕ → ℕ → Option (Read (List (Cond Test))) → Found Seen
list_seen ks s room level none = None
list_seen ks s room level (some r) =
    let n = list_size (map (nodes_of ks) r.what) in
    let next = length s - length r.left in
    cond (every (λ c. leb (cond_depth c) level) r.what) (cond (has_room room n) (Some (seen_of ks (gather tests r.what) next n)) None) (Some (deep_seen next))

unfoldable pub list_stored : List ℕ → Option (Read (List (Cond Test))) → List ℕ → List ℕ
list_stored ks none ws = ws
list_stored ks (some r) ws = store_list (map (nodes_of ks) r.what) 0 ws

unfoldable pub list_at : List ℕ → Bytes → ℕ → ℕ → ℕ → Found Seen
list_at ks s room level at = cond (ltb max_line (length s)) None (list_seen ks s room level (any_some closes any_cond (drop at s)))

pub record ListRead (ks : List ℕ) (s : Bytes) (level at : ℕ) (ws ws' : List ℕ) (r : Found Seen) : Type 0 where
  pub is : r ≡ list_at ks s (length ws) level at
  pub stored : (i : Seen) → r ≡ Some i → i.deep ≡ false → ws' ≡ list_stored ks (any_some closes any_cond (drop at s)) ws
  pub kept : length ws' ≡ length ws
