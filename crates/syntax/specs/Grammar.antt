-- What a line is: its abstract syntax and its text. A text is a line of the stated forms where some well-formed syntax prints it.
use Rattle.std.specs.Prelude.{List, [], ◌∷◌, ◌++◌, Bool, true, false, ◌&&◌, ◌||◌, not, cond, ℕ, zero, suc, ◌+◌, ◌/◌, ◌%◌, ℤ, pos, negsuc, leb, ltb, eqb}
use Rattle.std.proofs.Math.Option.{Option, none, some}
use Prim.Native.Char.{code}
use Prim.Native.String as S
use Prim.Native.String.{String}
use Rattle.lists.specs.Lists.{every, empty?, lists_compute}

abbrev pub Bytes : Type 0
Bytes = List ℕ

-- the bytes of a quoted text
abbrev pub bytes : String → Bytes
bytes S.[] = []
bytes (S.◌∷◌ c s) = code c ∷ bytes s

-- ---- abstract syntax

pub data Op : Type 0 where
  eq ne lt le gt ge : Op

pub data Fn : Type 0 where
  min max count avg sum : Fn

pub data Right : Type 0 where
  read : Right
  figures : Fn → Right

-- what stands where a column may: `S.C` or `self.NAME`, `time`, `figure`
pub data Ref : Type 0 where
  dotted : Bytes → Bytes → Ref
  time figure : Ref

-- the right side of a comparison
pub data Operand : Type 0 where
  ref : Ref → Operand
  number : ℤ → Operand

pub record Test : Type 0 where
  pub op : Op
  pub left : Ref
  pub right : Operand

-- conditions over comparisons of a type
mutual
  pub data Cond (A : Type 0) : Type 0 where
    test : A → Cond A
    all : Conds A → Cond A
    any : Conds A → Cond A
    neg : Cond A → Cond A

  -- one or more
  pub data Conds (A : Type 0) : Type 0 where
    last : Cond A → Conds A
    more : Cond A → Conds A → Conds A

-- a query; `rows` is `(in S)`
pub data Form : Type 0 where
  rows : Bytes → Form
  pick : Cond Test → Form → Form
  keep : List Ref → Form → Form
  join : Ref → Ref → Form → Form → Form
  aggregate : Fn → Ref → ℤ → ℤ → Form → Form

-- `(show *)`, or the columns shown
pub data Show : Type 0 where
  everything : Show
  listed : List Ref → Show

pub record Span : Type 0 where
  pub size : ℤ
  pub offset : ℤ

-- a grant line; `when` is empty where that part is absent
pub record GrantLine : Type 0 where
  pub role : Bytes
  pub right : Right
  pub of : List Bytes
  pub show : Show
  pub when : List (Cond Test)
  pub from : Option ℤ
  pub to : Option ℤ
  pub window : Option Span

-- `(self NAME N)`
pub record Entry : Type 0 where
  pub name : Bytes
  pub value : ℤ

pub record Stream : Type 0 where
  pub name : Bytes
  pub columns : List Bytes

pub record RowLine : Type 0 where
  pub name : Bytes
  pub values : List ℤ

pub record Caller : Type 0 where
  pub roles : List Bytes
  pub profile : List Entry

-- a route's number and a query
pub record RouteLine : Type 0 where
  pub route : ℤ
  pub query : Form

-- the first word of a line
pub data Verb : Type 0 where
  stream grant clock row clear caller ask line : Verb

-- what a line says after its first word
abbrev pub Body : Verb → Type 0
Body stream = Stream
Body grant = GrantLine
Body clock = ℤ
Body row = RowLine
Body clear = Unit {0}
Body caller = Caller
Body ask = Form
Body line = RouteLine

pub record Line : Type 0 where
  pub verb : Verb
  pub body : Body verb

-- ---- well-formed syntax: names are names, and what is one or more is not none

unfoldable pub digit : ℕ → Bool
digit b = leb 48 b && leb b 57

unfoldable pub letter : ℕ → Bool
letter b = leb 97 b && leb b 122

unfoldable pub alnum : ℕ → Bool
alnum b = letter b || digit b

-- lower-case letters and digits, a letter first
unfoldable pub name? : Bytes → Bool
name? [] = false
name? (b ∷ bs) = letter b && every alnum bs

unfoldable pub ref? : Ref → Bool
ref? (dotted n m) = name? n && name? m
ref? time = true
ref? figure = true

unfoldable pub operand? : Operand → Bool
operand? (ref r) = ref? r
operand? (number z) = true

unfoldable pub test? : Test → Bool
test? t = ref? t.left && operand? t.right

unfoldable mutual
  pub cond? : Cond Test → Bool
  cond? (test t) = test? t
  cond? (all cs) = conds? cs
  cond? (any cs) = conds? cs
  cond? (neg c) = cond? c

  pub conds? : Conds Test → Bool
  conds? (last c) = cond? c
  conds? (more c cs) = cond? c && conds? cs

-- one or more, each as it should be
unfoldable pub some_all : {A : Type 0} → (A → Bool) → List A → Bool
some_all p xs = not (empty? xs) && every p xs

unfoldable pub form? : Form → Bool
form? (rows s) = name? s
form? (pick c q) = cond? c && form? q
form? (keep rs q) = some_all ref? rs && form? q
form? (join a b q r) = ref? a && ref? b && form? q && form? r
form? (aggregate f c size offset q) = ref? c && form? q

unfoldable pub show? : Show → Bool
show? everything = true
show? (listed rs) = some_all ref? rs

unfoldable pub grant? : GrantLine → Bool
grant? g = name? g.role && some_all name? g.of && show? g.show && every cond? g.when

unfoldable pub entry? : Entry → Bool
entry? e = name? e.name

unfoldable pub body? : (v : Verb) → Body v → Bool
body? stream b = name? b.name && some_all name? b.columns
body? grant g = grant? g
body? clock n = true
body? row b = name? b.name && not (empty? b.values)
body? clear u = true
body? caller w = every name? w.roles && every entry? w.profile
body? ask q = form? q
body? line l = form? l.query

-- ---- words

unfoldable pub op_word : Op → Bytes
op_word eq = bytes "="
op_word ne = bytes "/="
op_word lt = bytes "<"
op_word le = bytes "<="
op_word gt = bytes ">"
op_word ge = bytes ">="

unfoldable pub fn_word : Fn → Bytes
fn_word min = bytes "min"
fn_word max = bytes "max"
fn_word count = bytes "count"
fn_word avg = bytes "avg"
fn_word sum = bytes "sum"

unfoldable pub right_word : Right → Bytes
right_word read = bytes "read"
right_word (figures f) = fn_word f

unfoldable pub verb_word : Verb → Bytes
verb_word stream = bytes "stream"
verb_word grant = bytes "grant"
verb_word clock = bytes "clock"
verb_word row = bytes "row"
verb_word clear = bytes "clear"
verb_word caller = bytes "caller"
verb_word ask = bytes "ask"
verb_word line = bytes "line"

-- ---- numbers that stand for an aggregate and for a right

unfoldable pub fn_number : Fn → ℕ
fn_number min = 1
fn_number max = 2
fn_number count = 3
fn_number avg = 4
fn_number sum = 5

-- any number that is none of these stands for `sum`
unfoldable pub numbered_fn : ℕ → Fn
numbered_fn n = cond (eqb n 1) min (cond (eqb n 2) max (cond (eqb n 3) count (cond (eqb n 4) avg sum)))

unfoldable pub right_number : Right → ℕ
right_number read = 0
right_number (figures f) = fn_number f

unfoldable pub numbered_right : ℕ → Right
numbered_right n = cond (eqb n 0) read (figures (numbered_fn n))

-- ---- texts, each in front of what follows

-- the decimal digits of a number in front of others; the first argument is at least their number
unfoldable pub digits_from : ℕ → ℕ → Bytes → Bytes
digits_from zero n ds = ds
digits_from (suc k) n ds = elim (ltb n 10) [ true ↦ (48 + n) ∷ ds | false ↦ digits_from k (n / 10) ((48 + n % 10) ∷ ds) ]

unfoldable pub put_nat : ℕ → Bytes → Bytes
put_nat n rest = digits_from (suc n) n [] ++ rest

unfoldable pub put_int : ℤ → Bytes → Bytes
put_int (pos n) rest = put_nat n rest
put_int (negsuc n) rest = 45 ∷ put_nat (suc n) rest

unfoldable pub put_name : Bytes → Bytes → Bytes
put_name n rest = n ++ rest

unfoldable pub put_ref : Ref → Bytes → Bytes
put_ref (dotted n m) rest = n ++ (46 ∷ (m ++ rest))
put_ref time rest = bytes "time" ++ rest
put_ref figure rest = bytes "figure" ++ rest

unfoldable pub put_operand : Operand → Bytes → Bytes
put_operand (ref r) rest = put_ref r rest
put_operand (number z) rest = put_int z rest

-- an opening bracket and the first word
unfoldable pub put_open : Bytes → Bytes → Bytes
put_open w rest = 40 ∷ (w ++ rest)

-- items, each after one space
unfoldable pub put_items : {A : Type 0} → (A → Bytes → Bytes) → List A → Bytes → Bytes
put_items put [] rest = rest
put_items put (x ∷ xs) rest = 32 ∷ put x (put_items put xs rest)

unfoldable mutual
  pub put_cond : Cond Test → Bytes → Bytes
  put_cond (test t) rest = put_open (op_word t.op) (32 ∷ put_ref t.left (32 ∷ put_operand t.right (41 ∷ rest)))
  put_cond (all cs) rest = put_open (bytes "and") (put_conds cs (41 ∷ rest))
  put_cond (any cs) rest = put_open (bytes "or") (put_conds cs (41 ∷ rest))
  put_cond (neg c) rest = put_open (bytes "not") (32 ∷ put_cond c (41 ∷ rest))

  pub put_conds : Conds Test → Bytes → Bytes
  put_conds (last c) rest = 32 ∷ put_cond c rest
  put_conds (more c cs) rest = 32 ∷ put_cond c (put_conds cs rest)

unfoldable pub put_equality : Ref → Ref → Bytes → Bytes
put_equality a b rest = put_open (op_word eq) (32 ∷ put_ref a (32 ∷ put_ref b (41 ∷ rest)))

unfoldable pub put_form : Form → Bytes → Bytes
put_form (rows s) rest = put_open (bytes "in") (32 ∷ put_name s (41 ∷ rest))
put_form (pick c q) rest = put_open (bytes "pick") (32 ∷ put_cond c (32 ∷ put_form q (41 ∷ rest)))
put_form (keep rs q) rest = put_open (bytes "keep") (put_items put_ref rs (32 ∷ put_form q (41 ∷ rest)))
put_form (join a b q r) rest = put_open (bytes "join") (32 ∷ put_equality a b (32 ∷ put_form q (32 ∷ put_form r (41 ∷ rest))))
put_form (aggregate f c size offset q) rest =
    put_open (fn_word f) (32 ∷ put_ref c (32 ∷ put_int size (32 ∷ put_int offset (32 ∷ put_form q (41 ∷ rest)))))

unfoldable pub put_show : Show → Bytes → Bytes
put_show everything rest = 32 ∷ (bytes "*" ++ rest)
put_show (listed rs) rest = put_items put_ref rs rest

-- a part of a grant, after one space
unfoldable pub put_part : Bytes → (Bytes → Bytes) → Bytes → Bytes
put_part w put rest = 32 ∷ put_open w (put (41 ∷ rest))

unfoldable pub put_when : List (Cond Test) → Bytes → Bytes
put_when [] rest = rest
put_when (c ∷ cs) rest = put_part (bytes "when") (put_items put_cond (c ∷ cs)) rest

unfoldable pub put_limit : Bytes → Option ℤ → Bytes → Bytes
put_limit w none rest = rest
put_limit w (some n) rest = put_part w (λ r. 32 ∷ put_int n r) rest

unfoldable pub put_window : Option Span → Bytes → Bytes
put_window none rest = rest
put_window (some w) rest = put_part (bytes "window") (λ r. 32 ∷ put_int w.size (32 ∷ put_int w.offset r)) rest

-- what follows the word `grant`
unfoldable pub put_grant : GrantLine → Bytes → Bytes
put_grant g rest =
    32 ∷ put_name g.role (32 ∷ (right_word g.right ++ put_part (bytes "of") (put_items put_name g.of)
    (put_part (bytes "show") (put_show g.show) (put_when g.when (put_limit (bytes "from") g.from (put_limit (bytes "to") g.to (put_window g.window rest)))))))

unfoldable pub put_entry : Entry → Bytes → Bytes
put_entry e rest = put_open (bytes "self") (32 ∷ put_name e.name (32 ∷ put_int e.value (41 ∷ rest)))

-- what follows a line's first word, up to its closing bracket
unfoldable pub put_body : (v : Verb) → Body v → Bytes → Bytes
put_body stream b rest = put_items put_name (b.name ∷ b.columns) rest
put_body grant g rest = put_grant g rest
put_body clock n rest = 32 ∷ put_int n rest
put_body row b rest = 32 ∷ put_name b.name (put_items put_int b.values rest)
put_body clear u rest = rest
put_body caller w rest = put_part (bytes "roles") (put_items put_name w.roles) (put_items put_entry w.profile rest)
put_body ask q rest = 32 ∷ put_form q rest
put_body line l rest = 32 ∷ put_int l.route (32 ∷ put_form l.query rest)

unfoldable pub put_line : (v : Verb) → Body v → Bytes → Bytes
put_line v b rest = put_open (verb_word v) (put_body v b (41 ∷ rest))

unfoldable pub line_text : (v : Verb) → Body v → Bytes
line_text v b = put_line v b []

unfoldable pub query_text : Form → Bytes
query_text q = put_form q []

-- To unfold this is to unfold every definition above.
unfoldable pub grammar_computes : Unit {0}
unfolding lists_compute digit letter alnum name? ref? operand? test? cond? some_all form? show? grant? entry? body? op_word fn_word right_word verb_word fn_number numbered_fn right_number numbered_right digits_from put_nat put_int put_name put_ref put_operand put_open put_items put_cond put_equality put_form put_show put_part put_when put_limit put_window put_grant put_entry put_body put_line line_text query_text
grammar_computes = tt
