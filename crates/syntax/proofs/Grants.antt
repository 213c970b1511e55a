-- Grants: what is printed is read back, and what is read was printed.
use mathlib.Core.Path.{◌≡◌, refl, ap}
use mathlib.Core.List.{List, [], ◌∷◌, ◌++◌}
use mathlib.Core.Bool.{Bool, true, false}
use mathlib.Core.Option.{Option, none, some}
use Prim.Native.Nat.{ℕ, ◌≤◌, ◌<◌}
use native.Mathlib.Omega.{arith}
use lib.IntN.{ℤ}
use lib.Dec.{T, eqb, leb, eqb→eq, leb→le, not_T}
use lib.ListN.{length}
use Rattle.lists.specs.Lists.{every, empty?, same_list}
use Rattle.lists.proofs.Laws.{and_l, and_both, parts, T_true, T_false, cond_cases, All, all_both, same_list_refl, every_all}
use Rattle.syntax.specs.Grammar.{Bytes, bytes, min, max, count, avg, sum, Right, read, figures, Ref, Test, Cond, Show, everything, listed, Span, GrantLine, letter, name?, ref?, cond?, some_all, show?, grant?, fn_word, right_word, put_int, put_name, put_ref, put_open, put_items, put_cond, put_show, put_part, put_when, put_limit, put_window, put_grant}
use Rattle.syntax.specs.Readers.{Read, Reader, bind, ensure, ◌>>◌, give, byte, run, past, among, plain, itself, read_word, read_name, read_ref, read_some, closes, read_cond, rights, word_opens, part_opens, read_part, read_optional, read_star, star_next, read_show, read_limit, read_window, read_when, read_grant}
use Rattle.syntax.proofs.Steps.{Printed, Reads, Follows, space, close, from, done, byte_step, item_step, give_step, nest_step, given_step, reads_as, byte_put, item_put, run_put, stops_plain, Known, word_put, word_read, lone_word, open_put, open_read}
use Rattle.syntax.proofs.Lexical.{name_put, name_read, number_put, number_read}
use Rattle.syntax.proofs.Terms.{Starts, ref_put, ref_read, ref_first}
use Rattle.syntax.proofs.Items.{some_every, some_filled, items_follow, some_put, some_read}
use Rattle.syntax.proofs.Conditions.{size, cond_put, cond_read}

-- ---- parts in brackets

pub part_put : {A : Type 0} (w : Bytes) (inner : Reader A) (put : Bytes → Bytes) {a : A} {rest : Bytes} → T (every plain w) → Follows (put (41 ∷ rest))
    → inner (put (41 ∷ rest)) ≡ some (record { what = a; left = 41 ∷ rest }) → read_part w inner (put_part w put rest) ≡ some (record { what = a; left = rest })
unfolding read_part put_part give
part_put w inner put p f e = byte_put 32 _ (item_put _ _ (open_put w p f) (item_put _ _ e (byte_put 41 _ refl)))

pub part_read : {A : Type 0} {good : A → Bool} {put : A → Bytes → Bytes} {inner : Reader A} (w : Bytes) → Reads good put inner
    → Reads good (λ a. put_part w (put a)) (read_part w inner)
unfolding read_part put_part
part_read w s = byte_step 32 _ (item_step _ (open_read w) (λ o u. item_step _ s (λ a g. byte_step 41 _ (give_step _ g (λ l. refl)))))

pub part_follow : (w : Bytes) (put : Bytes → Bytes) (rest : Bytes) → Follows (put_part w put rest)
unfolding put_part
part_follow w put rest = space

module _ {A : Type 0} (w : Bytes) (absent : A) (part : Reader A) where
  pub optional_present : (bs : Bytes) {y : Option (Read A)} → part_opens w bs ≡ true → part bs ≡ y → read_optional w absent part bs ≡ y
  unfolding read_optional
  optional_present bs b e = rw b e

  pub optional_absent : (bs : Bytes) → part_opens w bs ≡ false → read_optional w absent part bs ≡ some (record { what = absent; left = bs })
  unfolding read_optional give
  optional_absent bs b = rw b

pub optional_read : {A : Type 0} {good : A → Bool} {put : A → Bytes → Bytes} {part : Reader A} (w : Bytes) (absent : A) → T (good absent) → ((l : Bytes) → l ≡ put absent l)
    → Reads good put part → Reads good put (read_optional w absent part)
unfolding read_optional give
optional_read {good} {put} {part} w absent g h s =
    record { taken = λ bs r e. cond_cases (part_opens w bs) (part bs) (some _) e (λ t d. s.taken bs r d) (λ t d. done (λ x. Printed good put bs x) d (g, h bs)) }

-- a part that is present shows by its word
pub part_begins : (w : Bytes) (put : Bytes → Bytes) (rest : Bytes) → T (every plain w) → Follows (put (41 ∷ rest)) → part_opens w (put_part w put rest) ≡ true
unfolding part_opens word_opens put_part put_open
part_begins w put rest p f = rw (run_put plain w (put (41 ∷ rest)) p (stops_plain f)) (T_true (same_list w w) (same_list_refl w))

-- ---- limits and the window

pub limit_put : (w : Bytes) (n : Option ℤ) {rest : Bytes} → T (every plain w) → part_opens w rest ≡ false → read_limit w (put_limit w n rest) ≡ some (record { what = n; left = rest })
unfolding read_limit put_limit give
limit_put w none {rest} p b = optional_absent w _ _ rest b
limit_put w (some n) {rest} p b =
    optional_present w _ _ _ (part_begins w (λ r. 32 ∷ put_int n r) rest p space) (part_put w _ (λ r. 32 ∷ put_int n r) p space (item_put _ _ (number_put n close) refl))

pub limit_read : (w : Bytes) → Reads (λ n. true) (put_limit w) (read_limit w)
unfolding read_limit read_part put_limit put_part
limit_read w =
    optional_read w none tt (λ l. refl)
    (byte_step 32 _ (item_step _ (open_read w) (λ o u. nest_step _ _ _ (item_step _ number_read (λ n g. given_step _ _ (byte_step 41 _ (give_step _ tt (λ l. refl))))))))

pub window_put : (s : Option Span) {rest : Bytes} → part_opens (bytes "window") rest ≡ false → read_window (put_window s rest) ≡ some (record { what = s; left = rest })
unfolding read_window put_window give every plain
window_put none {rest} b = optional_absent (bytes "window") _ _ rest b
window_put (some s) {rest} b =
    optional_present (bytes "window") _ _ _ (part_begins (bytes "window") (λ r. 32 ∷ put_int s.size (32 ∷ put_int s.offset r)) rest tt space)
    (part_put (bytes "window") _ (λ r. 32 ∷ put_int s.size (32 ∷ put_int s.offset r)) tt space (item_put _ _ (number_put s.size space) (item_put _ _ (number_put s.offset close) refl)))

pub window_read : Reads (λ s. true) put_window read_window
unfolding read_window read_part put_window put_part
window_read =
    optional_read (bytes "window") none tt (λ l. refl)
    (byte_step 32 _ (item_step _ (open_read (bytes "window")) (λ o u. nest_step _ _ _ (item_step _ number_read (λ n g. nest_step _ _ _ (item_step _ number_read (λ m h.
    given_step _ _ (byte_step 41 _ (give_step _ tt (λ l. refl))))))))))

-- ---- conditions

-- conditions that a number bounds
abbrev pub Sized : ℕ → List (Cond Test) → Type 0
Sized k cs = All (λ c. size c ≤ k) cs

-- conditions up to a closing bracket
pub conds_closed_put : (k : ℕ) (cs : List (Cond Test)) {rest : Bytes} → T (some_all cond? cs) → Sized k cs → length cs < k
    → read_some closes (λ r. read_cond k r) k (put_items put_cond cs (41 ∷ rest)) ≡ some (record { what = cs; left = 41 ∷ rest })
unfolding closes
conds_closed_put k cs t s l =
    some_put (λ c. T (cond? c) × (size c ≤ k)) put_cond closes (λ r. read_cond k r) (λ c rest h f. cond_put c k h.0 h.1) (λ c rest h. refl) k cs
    (all_both (every_all cond? cs (some_every cond? cs t)) s) (some_filled cond? cs t) close refl l

pub when_put : (k : ℕ) (cs : List (Cond Test)) {rest : Bytes} → T (every cond? cs) → Sized k cs → length cs < k → part_opens (bytes "when") rest ≡ false
    → read_when k (put_when cs rest) ≡ some (record { what = cs; left = rest })
unfolding read_when put_when put_items every plain some_all empty?
when_put k [] {rest} t s l b = optional_absent (bytes "when") _ _ rest b
when_put k (c ∷ cs) {rest} t s l b =
    optional_present (bytes "when") _ _ _ (part_begins (bytes "when") (put_items put_cond (c ∷ cs)) rest tt space)
    (part_put (bytes "when") _ (put_items put_cond (c ∷ cs)) tt space (conds_closed_put k (c ∷ cs) t s l))

when_as : (cs : List (Cond Test)) → T (some_all cond? cs) → T (every cond? cs) × ((l : Bytes) → put_part (bytes "when") (put_items put_cond cs) l ≡ put_when cs l)
unfolding some_all empty? put_when
when_as [] t = absurd t
when_as (c ∷ cs) t = (t, λ l. refl)

pub when_read : (k : ℕ) → Reads (every cond?) put_when (read_when k)
unfolding read_when put_when every
when_read k = optional_read (bytes "when") [] tt (λ l. refl) (reads_as (part_read (bytes "when") (some_read closes (cond_read k) k)) when_as)

-- ---- what is shown

pub refs_closed_put : (k : ℕ) (rs : List Ref) {rest : Bytes} → T (some_all ref? rs) → length rs < k
    → read_some closes read_ref k (put_items put_ref rs (41 ∷ rest)) ≡ some (record { what = rs; left = 41 ∷ rest })
unfolding closes
refs_closed_put k rs t l =
    some_put (λ r. T (ref? r)) put_ref closes read_ref (λ r rest h f. ref_put r h f) (λ r rest h. refl) k rs (every_all ref? rs (some_every ref? rs t)) (some_filled ref? rs t) close refl l

pub names_closed_put : (k : ℕ) (ns : List Bytes) {rest : Bytes} → T (some_all name? ns) → length ns < k
    → read_some closes read_name k (put_items put_name ns (41 ∷ rest)) ≡ some (record { what = ns; left = 41 ∷ rest })
unfolding closes
names_closed_put k ns t l =
    some_put (λ n. T (name? n)) put_name closes read_name (λ n rest h f. name_put n h f) (λ n rest h. refl) k ns (every_all name? ns (some_every name? ns t)) (some_filled name? ns t) close refl l

letter_no_star : (bs : Bytes) → Starts letter bs → star_next (32 ∷ bs) ≡ false
unfolding star_next letter
letter_no_star [] s = absurd s
letter_no_star (b ∷ bs) s = T_false (eqb 42 b) (not_T (eqb 42 b) (λ u. let h = leb→le 97 b (and_l (leb 97 b) (leb b 122) s) in let e = eqb→eq 42 b u in omega arith))

refs_no_star : (rs : List Ref) (rest : Bytes) → T (some_all ref? rs) → star_next (put_items put_ref rs rest) ≡ false
unfolding put_items some_all empty? every
refs_no_star [] rest t = absurd t
refs_no_star (r ∷ rs) rest t = letter_no_star (put_ref r (put_items put_ref rs rest)) (ref_first r (put_items put_ref rs rest) (search parts))

-- how many columns are listed
abbrev pub shown : Show → ℕ
shown everything = 0
shown (listed rs) = length rs

pub show_put : (k : ℕ) (s : Show) {rest : Bytes} → T (show? s) → shown s < k → read_show k (put_show s (41 ∷ rest)) ≡ some (record { what = s; left = 41 ∷ rest })
unfolding show? read_show put_show bind star_next read_star read_word among itself same_list run past plain byte ensure ◌>>◌
show_put k everything {rest} t l = refl
show_put k (listed rs) {rest} t l = rw (refs_no_star rs (41 ∷ rest) t, refs_closed_put k rs {rest = rest} t l)

pub star_read : Reads (λ s. true) (λ s rest. 32 ∷ (bytes "*" ++ rest)) read_star
unfolding read_star
star_read = byte_step 32 _ (record { taken = λ bs r e. (tt, ap (λ l. 32 ∷ l) ((lone_word (bytes "*")).taken bs r e).1) })

show_was : (k : ℕ) (bs : Bytes) (r : Read Show) → read_show k bs ≡ some r → Printed show? put_show bs r
unfolding read_show put_show show?
show_was k bs r e =
    cond_cases (star_next bs) _ _ e
    (λ t d. from _ _ d (λ s p q. done (λ x. Printed show? put_show bs x) q (tt, (star_read.taken bs s p).1)))
    (λ t d. from _ _ d (λ rs p q. let h = (some_read closes ref_read k).taken bs rs p in done (λ x. Printed show? put_show bs x) q (h.0, h.1)))

pub show_read : (k : ℕ) → Reads show? put_show (read_show k)
show_read k = record { taken = show_was k }

-- ---- grants

pub right_known : (r : Right) → Known right_word rights r
unfolding among right_word fn_word rights same_list every plain
right_known read = (refl, tt)
right_known (figures min) = (refl, tt)
right_known (figures max) = (refl, tt)
right_known (figures count) = (refl, tt)
right_known (figures avg) = (refl, tt)
right_known (figures sum) = (refl, tt)

-- the text from each part on
module _ (g : GrantLine) (rest : Bytes) where
  abbrev pub from_to : Bytes
  from_to = put_limit (bytes "to") g.to (put_window g.window (41 ∷ rest))

  abbrev pub from_from : Bytes
  from_from = put_limit (bytes "from") g.from from_to

  abbrev pub from_when : Bytes
  from_when = put_when g.when from_from

  abbrev pub from_show : Bytes
  from_show = put_part (bytes "show") (put_show g.show) from_when

  abbrev pub from_of : Bytes
  from_of = put_part (bytes "of") (put_items put_name g.of) from_show

  -- what follows the word `grant`
  abbrev pub grant_body : Bytes
  grant_body = 32 ∷ put_name g.role (32 ∷ (right_word g.right ++ from_of))

  pub grant_whole : put_grant g (41 ∷ rest) ≡ grant_body
  unfolding put_grant
  grant_whole = refl

-- a part that is absent is not taken for the next one
pub no_to : (s : Option Span) (rest : Bytes) → part_opens (bytes "to") (put_window s (41 ∷ rest)) ≡ false
unfolding part_opens word_opens run plain same_list put_window put_part put_open
no_to none rest = refl
no_to (some s) rest = refl

pub no_from : (t : Option ℤ) (s : Option Span) (rest : Bytes) → part_opens (bytes "from") (put_limit (bytes "to") t (put_window s (41 ∷ rest))) ≡ false
unfolding part_opens word_opens run plain same_list put_limit put_window put_part put_open
no_from (some n) s rest = refl
no_from none (some s) rest = refl
no_from none none rest = refl

pub no_when : (f t : Option ℤ) (s : Option Span) (rest : Bytes) → part_opens (bytes "when") (put_limit (bytes "from") f (put_limit (bytes "to") t (put_window s (41 ∷ rest)))) ≡ false
unfolding part_opens word_opens run plain same_list put_limit put_window put_part put_open
no_when (some n) t s rest = refl
no_when none (some n) s rest = refl
no_when none none (some s) rest = refl
no_when none none none rest = refl

-- a number bounds a grant's lists and conditions
pub record GrantFits (k : ℕ) (g : GrantLine) : Type 0 where
  pub streams : length g.of < k
  pub columns : shown g.show < k
  pub tests : length g.when < k
  pub brackets : Sized k g.when

show_follow : (s : Show) (rest : Bytes) → Follows rest → Follows (put_show s rest)
unfolding put_show
show_follow everything rest f = space
show_follow (listed rs) rest f = items_follow put_ref rs f

pub grant_put : (k : ℕ) (g : GrantLine) {rest : Bytes} → T (grant? g) → GrantFits k g → read_grant k (grant_body g rest) ≡ some (record { what = g; left = 41 ∷ rest })
unfolding read_grant grant? give every plain part_opens
grant_put k g {rest} t f =
    let t-role : T (name? g.role) = search parts in
    let t_of : T (some_all name? g.of) = search parts in
    let t-show : T (show? g.show) = search parts in
    let t-when : T (every cond? g.when) = search parts in
    byte_put 32 _ (item_put _ _ (name_put g.role t-role space) (byte_put 32 _ (item_put _ _ (word_put right_word rights g.right (right_known g.right) (part_follow (bytes "of") (put_items put_name g.of) (from_show g rest)))
    (item_put _ _ (part_put (bytes "of") _ (put_items put_name g.of) tt (items_follow put_name g.of close) (names_closed_put k g.of t_of f.streams))
    (item_put _ _ (part_put (bytes "show") _ (put_show g.show) tt (show_follow g.show (41 ∷ from_when g rest) close) (show_put k g.show t-show f.columns))
    (item_put _ _ (when_put k g.when t-when f.brackets f.tests (no_when g.from g.to g.window rest))
    (item_put _ _ (limit_put (bytes "from") g.from tt (no_from g.to g.window rest))
    (item_put _ _ (limit_put (bytes "to") g.to tt (no_to g.window rest))
    (item_put _ _ (window_put g.window refl) refl)))))))))

grant_good : (g : GrantLine) → T (name? g.role) → T (some_all name? g.of) → T (show? g.show) → T (every cond? g.when) → T (grant? g)
unfolding grant?
grant_good g a b c d = search and_both

pub grant_read : (k : ℕ) → Reads grant? put_grant (read_grant k)
unfolding read_grant put_grant
grant_read k =
    byte_step 32 _ (item_step _ name_read (λ role t-role. byte_step 32 _ (item_step _ (word_read right_word rights) (λ right t-right.
    item_step _ (part_read (bytes "of") (some_read closes name_read k)) (λ of t_of.
    item_step _ (part_read (bytes "show") (show_read k)) (λ show t-show.
    item_step _ (when_read k) (λ when t-when.
    item_step _ (limit_read (bytes "from")) (λ from t_from.
    item_step _ (limit_read (bytes "to")) (λ to t-to.
    item_step _ window_read (λ window t-window.
    give_step _ (grant_good (record { role = role; right = right; of = of; show = show; when = when; from = from; to = to; window = window }) t-role t_of t-show t-when) (λ l. refl)))))))))))
