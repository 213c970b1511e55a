-- Readers of lines. They add nothing to the grammar: each is proved to undo its printer, both ways.
use Rattle.std.specs.Prelude.{List, [], ◌∷◌, Bool, true, false, ◌&&◌, ◌||◌, not, cond, ℕ, zero, suc, ◌+◌, ◌*◌, ◌-◌, ℤ, pos, negsuc, eqb, length}
use Rattle.std.proofs.Math.Option.{Option, none, some}
use Rattle.lists.specs.Lists.{empty?, same_list}
use Rattle.syntax.specs.Grammar.{Bytes, bytes, Op, eq, ne, lt, le, gt, ge, Fn, min, max, count, avg, sum, Right, read, figures, Ref, dotted, time, figure, Operand, ref, number, Test, Cond, test, all, any, neg, Conds, last, more, Form, rows, pick, keep, join, aggregate, Show, everything, listed, Span, GrantLine, Entry, Verb, stream, grant, clock, row, clear, caller, ask, line, Body, Line, digit, letter, alnum, name?, op_word, fn_word, right_word, verb_word, grammar_computes}

-- ---- readers of a type: what was read, and what is left

pub record Read (A : Type 0) : Type 0 where
  pub what : A
  pub left : Bytes

abbrev pub Reader : Type 0 → Type 0
Reader A = Bytes → Option (Read A)

unfoldable pub bind : {A B : Type 0} → Option A → (A → Option B) → Option B
bind none f = none
bind (some a) f = f a

unfoldable pub ensure : {A : Type 0} → Bool → A → Option A
ensure true a = some a
ensure false a = none

infixl 20 ◌>>=◌
infixl 20 ◌>>◌
unfoldable pub ◌>>=◌ : {A B : Type 0} → Reader A → (A → Reader B) → Reader B
◌>>=◌ m f bs = bind (m bs) (λ a. f a.what a.left)

unfoldable pub ◌>>◌ : {B : Type 0} → Reader (Unit {0}) → Reader B → Reader B
◌>>◌ m n bs = bind (m bs) (λ a. n a.left)

unfoldable pub give : {A : Type 0} → A → Reader A
give a bs = some (record { what = a; left = bs })

unfoldable pub byte : ℕ → Reader (Unit {0})
byte b [] = none
byte b (x ∷ xs) = ensure (eqb b x) (record { what = tt; left = xs })

-- ---- words

-- the longest run of bytes that pass, and what follows it
unfoldable pub run : (ℕ → Bool) → Bytes → Bytes
run p [] = []
run p (b ∷ bs) = let rest = run p bs in cond (p b) (b ∷ rest) []

unfoldable pub past : (ℕ → Bool) → Bytes → Bytes
past p [] = []
past p (b ∷ bs) = let rest = past p bs in cond (p b) rest (b ∷ bs)

-- a byte of a word: no space and no bracket
unfoldable pub plain : ℕ → Bool
plain b = not (eqb b 32 || eqb b 40 || eqb b 41)

module _ {H : Type 0} (word : H → Bytes) where
  unfoldable pub among : List H → Bytes → Option H
  among [] w = none
  among (h ∷ hs) w = cond (same_list (word h) w) (some h) (among hs w)

  -- one of the words
  unfoldable pub read_word : List H → Reader H
  read_word hs bs = bind (among hs (run plain bs)) (λ h. some (record { what = h; left = past plain bs }))

  -- an opening bracket and one of the words
  unfoldable pub read_head : List H → Reader H
  read_head hs = byte 40 >> read_word hs

-- a given word
unfoldable pub itself : Bytes → Bytes
itself w = w

unfoldable pub read_open : Bytes → Reader Bytes
read_open w = read_head itself (w ∷ [])

-- ---- names and numbers

unfoldable pub read_name : Reader Bytes
read_name bs = ensure (name? (run alnum bs)) (record { what = run alnum bs; left = past alnum bs })

-- digits with no needless zero
unfoldable pub numeral : Bytes → Bool
numeral [] = false
numeral (d ∷ []) = true
numeral (d ∷ (e ∷ es)) = not (eqb d 48)

unfoldable pub value_from : ℕ → Bytes → ℕ
value_from a [] = a
value_from a (d ∷ ds) = value_from (a * 10 + (d - 48)) ds

unfoldable pub read_nat : Reader ℕ
read_nat bs = ensure (numeral (run digit bs)) (record { what = value_from 0 (run digit bs); left = past digit bs })

unfoldable pub negated : ℕ → Option ℤ
negated zero = none
negated (suc n) = some (negsuc n)

unfoldable pub read_negative : Reader ℤ
read_negative bs = bind (read_nat bs) (λ n. bind (negated n.what) (λ z. some (record { what = z; left = n.left })))

unfoldable pub read_natural : Reader ℤ
read_natural bs = bind (read_nat bs) (λ n. some (record { what = pos n.what; left = n.left }))

unfoldable pub read_int : Reader ℤ
read_int [] = none
read_int (b ∷ bs) = cond (eqb 45 b) (read_negative bs) (read_natural (b ∷ bs))

-- ---- columns and operands

unfoldable pub lone : Bytes → Reader Ref
lone n bs = cond (same_list (bytes "time") n) (some (record { what = time; left = bs })) (ensure (same_list (bytes "figure") n) (record { what = figure; left = bs }))

unfoldable pub read_dotted : Bytes → Reader Ref
read_dotted n bs = bind (read_name bs) (λ m. some (record { what = dotted n m.what; left = m.left }))

unfoldable pub after_name : Bytes → Reader Ref
after_name n [] = lone n []
after_name n (b ∷ bs) = cond (eqb 46 b) (read_dotted n bs) (lone n (b ∷ bs))

unfoldable pub read_ref : Reader Ref
read_ref bs = bind (read_name bs) (λ n. after_name n.what n.left)

unfoldable pub read_operand : Reader Operand
read_operand [] = none
read_operand (b ∷ bs) =
    cond (letter b)
    (bind (read_ref (b ∷ bs)) (λ r. some (record { what = ref r.what; left = r.left })))
    (bind (read_int (b ∷ bs)) (λ z. some (record { what = number z.what; left = z.left })))

-- ---- lists

-- the items up to where a test of what is left says that they end; the first number bounds them
module _ {A : Type 0} (ends : Bytes → Bool) (item : Reader A) where
  unfoldable pub read_items : ℕ → Reader (List A)
  read_items zero bs = none
  read_items (suc k) bs =
      cond (ends bs) (some (record { what = []; left = bs }))
      (bind (byte 32 bs) (λ s. bind (item s.left) (λ a. bind (read_items k a.left) (λ xs. some (record { what = a.what ∷ xs.what; left = xs.left })))))

  unfoldable pub read_some : ℕ → Reader (List A)
  read_some k bs = bind (read_items k bs) (λ xs. ensure (not (empty? xs.what)) xs)

-- a closing bracket is next
unfoldable pub closes : Bytes → Bool
closes [] = false
closes (b ∷ bs) = eqb 41 b

unfoldable pub opens : Bytes → Bool
opens [] = false
opens (b ∷ bs) = eqb 40 b

-- a space and an opening bracket are next
unfoldable pub form_next : Bytes → Bool
form_next [] = false
form_next (b ∷ bs) = eqb 32 b && opens bs

-- ---- conditions

pub data Head : Type 0 where
  compare : Op → Head
  and or not_of : Head

unfoldable pub head_word : Head → Bytes
head_word (compare o) = op_word o
head_word and = bytes "and"
head_word or = bytes "or"
head_word not_of = bytes "not"

unfoldable pub heads : List Head
heads = compare eq ∷ compare ne ∷ compare lt ∷ compare le ∷ compare gt ∷ compare ge ∷ and ∷ or ∷ not_of ∷ []

unfoldable pub read_test : Op → Reader (Cond Test)
read_test o = do
  byte 32
  a ← read_ref
  byte 32
  b ← read_operand
  byte 41
  give (test (record { op = o; left = a; right = b }))

-- what follows a head, given a reader of a condition and one of a list
unfoldable pub read_headed : Reader (Cond Test) → Reader (Conds Test) → Head → Reader (Cond Test)
read_headed one many (compare o) = read_test o
read_headed one many and = do
  cs ← many
  byte 41
  give (all cs)
read_headed one many or = do
  cs ← many
  byte 41
  give (any cs)
read_headed one many not_of = do
  byte 32
  c ← one
  byte 41
  give (neg c)

-- the list goes on after a space
unfoldable pub read_more : Reader (Conds Test) → Cond Test → Reader (Conds Test)
read_more many c [] = none
read_more many c (b ∷ bs) =
    cond (eqb 32 b) (bind (many (b ∷ bs)) (λ cs. some (record { what = more c cs.what; left = cs.left }))) (some (record { what = last c; left = b ∷ bs }))

-- the first argument bounds the brackets
unfoldable mutual
  pub read_cond : ℕ → Reader (Cond Test)
  read_cond zero bs = none
  read_cond (suc k) bs = bind (read_head head_word heads bs) (λ h. read_headed (λ r. read_cond k r) (λ r. read_conds k r) h.what h.left)

  pub read_conds : ℕ → Reader (Conds Test)
  read_conds zero bs = none
  read_conds (suc k) bs = bind (byte 32 bs) (λ s. bind (read_cond k s.left) (λ c. read_more (λ r. read_conds k r) c.what c.left))

-- ---- queries

pub data Kind : Type 0 where
  k_in k_pick k_keep k_join : Kind
  k_fn : Fn → Kind

unfoldable pub kind_word : Kind → Bytes
kind_word k_in = bytes "in"
kind_word k_pick = bytes "pick"
kind_word k_keep = bytes "keep"
kind_word k_join = bytes "join"
kind_word (k_fn f) = fn_word f

unfoldable pub kinds : List Kind
kinds = k_in ∷ k_pick ∷ k_keep ∷ k_join ∷ k_fn min ∷ k_fn max ∷ k_fn count ∷ k_fn avg ∷ k_fn sum ∷ []

-- what follows a form's first word, given a reader of conditions, one of columns and one of forms
unfoldable pub read_rest : Reader (Cond Test) → Reader (List Ref) → Reader Form → Kind → Reader Form
read_rest conds cols forms k_in = do
  byte 32
  s ← read_name
  byte 41
  give (rows s)
read_rest conds cols forms k_pick = do
  byte 32
  c ← conds
  byte 32
  q ← forms
  byte 41
  give (pick c q)
read_rest conds cols forms k_keep = do
  rs ← cols
  byte 32
  q ← forms
  byte 41
  give (keep rs q)
read_rest conds cols forms k_join = do
  byte 32
  o ← read_open (op_word eq)
  byte 32
  a ← read_ref
  byte 32
  b ← read_ref
  byte 41
  byte 32
  q ← forms
  byte 32
  r ← forms
  byte 41
  give (join a b q r)
read_rest conds cols forms (k_fn f) = do
  byte 32
  c ← read_ref
  byte 32
  size ← read_int
  byte 32
  offset ← read_int
  byte 32
  q ← forms
  byte 41
  give (aggregate f c size offset q)

unfoldable pub read_form : ℕ → Reader Form
read_form zero bs = none
read_form (suc k) bs =
    bind (read_head kind_word kinds bs) (λ h. read_rest (λ r. read_cond (suc k) r) (λ r. read_some form_next read_ref (suc k) r) (λ r. read_form k r) h.what h.left)

-- ---- grants

unfoldable pub rights : List Right
rights = read ∷ figures min ∷ figures max ∷ figures count ∷ figures avg ∷ figures sum ∷ []

-- an opening bracket and a given word are next
unfoldable pub word_opens : Bytes → Bytes → Bool
word_opens w [] = false
word_opens w (b ∷ bs) = eqb 40 b && same_list w (run plain bs)

-- a space before them
unfoldable pub part_opens : Bytes → Bytes → Bool
part_opens w [] = false
part_opens w (b ∷ bs) = eqb 32 b && word_opens w bs

-- a part in brackets, after a space
unfoldable pub read_part : {A : Type 0} → Bytes → Reader A → Reader A
read_part w inner = do
  byte 32
  o ← read_open w
  a ← inner
  byte 41
  give a

-- a part that may be absent: present where its opening bracket and its word are next
unfoldable pub read_optional : {A : Type 0} → Bytes → A → Reader A → Reader A
read_optional w absent part bs = cond (part_opens w bs) (part bs) (give absent bs)

unfoldable pub read_star : Reader Bytes
read_star = do
  byte 32
  read_word itself (bytes "*" ∷ [])

unfoldable pub star_next : Bytes → Bool
star_next [] = false
star_next (b ∷ []) = false
star_next (b ∷ (c ∷ bs)) = eqb 32 b && eqb 42 c

unfoldable pub read_show : ℕ → Reader Show
read_show k bs =
    cond (star_next bs)
    (bind (read_star bs) (λ s. some (record { what = everything; left = s.left })))
    (bind (read_some closes read_ref k bs) (λ rs. some (record { what = listed rs.what; left = rs.left })))

unfoldable pub read_number : Reader ℤ
read_number = byte 32 >> read_int

unfoldable pub read_limit : Bytes → Reader (Option ℤ)
read_limit w = read_optional w none (read_part w (read_number >>= λ n. give (some n)))

unfoldable pub read_window : Reader (Option Span)
read_window = read_optional (bytes "window") none (read_part (bytes "window") (do
  size ← read_number
  offset ← read_number
  give (some (record { size = size; offset = offset }))))

unfoldable pub read_when : ℕ → Reader (List (Cond Test))
read_when k = read_optional (bytes "when") [] (read_part (bytes "when") (read_some closes (λ r. read_cond k r) k))

-- what follows the word `grant`
unfoldable pub read_grant : ℕ → Reader GrantLine
read_grant k = do
  byte 32
  role ← read_name
  byte 32
  right ← read_word right_word rights
  of ← read_part (bytes "of") (read_some closes read_name k)
  show ← read_part (bytes "show") (read_show k)
  when ← read_when k
  from ← read_limit (bytes "from")
  to ← read_limit (bytes "to")
  window ← read_window
  give (record { role = role; right = right; of = of; show = show; when = when; from = from; to = to; window = window })

-- ---- lines

unfoldable pub read_entry : Reader Entry
read_entry = do
  o ← read_open (bytes "self")
  byte 32
  n ← read_name
  byte 32
  z ← read_int
  byte 41
  give (record { name = n; value = z })

unfoldable pub verbs : List Verb
verbs = stream ∷ grant ∷ clock ∷ row ∷ clear ∷ caller ∷ ask ∷ line ∷ []

-- what follows a line's first word, up to its closing bracket
unfoldable pub read_body : (v : Verb) → ℕ → Reader (Body v)
read_body stream k = do
  byte 32
  s ← read_name
  cs ← read_some closes read_name k
  give (record { name = s; columns = cs })
read_body grant k = read_grant k
read_body clock k = read_number
read_body row k = do
  byte 32
  s ← read_name
  vs ← read_some closes read_int k
  give (record { name = s; values = vs })
read_body clear k = give tt
read_body caller k = do
  rs ← read_part (bytes "roles") (read_items closes read_name k)
  es ← read_items closes read_entry k
  give (record { roles = rs; profile = es })
read_body ask k = do
  byte 32
  q ← read_form k
  give q
read_body line k = do
  r ← read_number
  byte 32
  q ← read_form k
  give (record { route = r; query = q })

-- a line of a verb
unfoldable pub read_as : (v : Verb) → ℕ → Reader (Body v)
read_as v k = do
  o ← read_open (verb_word v)
  b ← read_body v k
  byte 41
  give b

-- ---- whole texts

unfoldable pub parse : {A : Type 0} → (ℕ → Reader A) → Bytes → Option A
parse reader bs = bind (reader (length bs) bs) (λ a. ensure (empty? a.left) a.what)

-- what a text says as a line of a verb
unfoldable pub parse_as : (v : Verb) → Bytes → Option (Body v)
parse_as v bs = parse (read_as v) bs

-- the verb that a text begins with
unfoldable pub verb_of : Bytes → Option Verb
verb_of bs = bind (read_head verb_word verbs bs) (λ h. some h.what)

-- a line of any verb
unfoldable pub parse_line : Bytes → Option Line
parse_line bs = bind (verb_of bs) (λ v. bind (parse_as v bs) (λ b. some (record { verb = v; body = b })))

unfoldable pub parse_query : Bytes → Option Form
parse_query bs = parse read_form bs

-- To unfold this is to unfold every definition above.
unfoldable pub readers_compute : Unit {0}
unfolding grammar_computes bind ensure ◌>>=◌ ◌>>◌ give byte run past plain among read_word read_head itself read_open read_name numeral value_from read_nat negated read_negative read_natural read_int lone read_dotted after_name read_ref read_operand read_items read_some closes opens form_next head_word heads read_test read_headed read_more read_cond kind_word kinds read_rest read_form rights word_opens part_opens read_part read_optional read_star star_next read_show read_number read_limit read_window read_when read_grant read_entry verbs read_body read_as parse parse_as verb_of parse_line parse_query
readers_compute = tt
