-- Lines: what is printed is read back, and what is read was printed.
use mathlib.Core.Path.{◌≡◌, refl, sym, ap, ◌∙◌, subst}
use mathlib.Core.List.{List, [], ◌∷◌}
use mathlib.Core.Bool.{Bool, true, not}
use mathlib.Core.Option.{none, some, some-injective, none-ne-some}
use Prim.Native.Nat.{ℕ, ◌≤◌, ◌<◌}
use native.Mathlib.Omega.{arith}
use lib.IntN.{ℤ}
use lib.Dec.{T}
use lib.ListN.{length}
use Rattle.lists.specs.Lists.{every, empty?, same_list}
use Rattle.lists.proofs.Laws.{and_both, parts, all_any, every_all}
use Rattle.syntax.specs.Grammar.{Bytes, bytes, Form, Entry, Verb, stream, grant, clock, row, clear, caller, ask, line, Body, Line, name?, some_all, form?, entry?, body?, verb_word, put_int, put_name, put_items, put_form, put_grant, put_entry, put_body, put_line, line_text, query_text}
use Rattle.syntax.specs.Readers.{Reader, bind, ensure, give, among, plain, read_name, read_int, read_items, read_some, closes, read_form, read_entry, verbs, read_body, read_as, parse, parse_as, verb_of, parse_line, parse_query}
use Rattle.syntax.proofs.Steps.{Reads, Follows, space, close, from, ensured, done, byte_step, item_step, give_step, bind_put, byte_put, item_put, Known, head_put, open_put, open_read}
use Rattle.syntax.proofs.Lexical.{name_put, name_read, int_put, int_read, number_put, number_read}
use Rattle.syntax.proofs.Items.{items_follow, items_put, items_read, some_put, some_read}
use Rattle.syntax.proofs.Queries.{form_put, form_read}
use Rattle.syntax.proofs.Grants.{part_put, part_read, part_follow, names_closed_put, grant_put, grant_read}
use Rattle.syntax.proofs.Lengths.{name_room, int_room, open_room, part_room, items_room, form_room, grant_room, entry_room}

-- ---- entries and lists

pub entry_put : (e : Entry) {rest : Bytes} → T (entry? e) → read_entry (put_entry e rest) ≡ some (record { what = e; left = rest })
unfolding entry? read_entry put_entry give every plain
entry_put e t =
    item_put _ _ (open_put (bytes "self") tt space) (byte_put 32 _ (item_put _ _ (name_put e.name t space) (byte_put 32 _ (item_put _ _ (int_put e.value close) (byte_put 41 _ refl)))))

pub entry_read : Reads entry? put_entry read_entry
unfolding entry? read_entry put_entry
entry_read =
    item_step _ (open_read (bytes "self")) (λ o u. byte_step 32 _ (item_step _ name_read (λ n g. byte_step 32 _ (item_step _ int_read (λ z h. byte_step 41 _ (give_step _ g (λ l. refl)))))))

pub roles_put : (k : ℕ) (ns : List Bytes) {rest : Bytes} → T (every name? ns) → length ns < k
    → read_items closes read_name k (put_items put_name ns (41 ∷ rest)) ≡ some (record { what = ns; left = 41 ∷ rest })
unfolding closes
roles_put k ns t l = items_put (λ n. T (name? n)) put_name closes read_name (λ n rest h f. name_put n h f) (λ n rest h. refl) k ns (every_all name? ns t) close refl l

pub entries_put : (k : ℕ) (es : List Entry) {rest : Bytes} → T (every entry? es) → length es < k
    → read_items closes read_entry k (put_items put_entry es (41 ∷ rest)) ≡ some (record { what = es; left = 41 ∷ rest })
unfolding closes
entries_put k es t l = items_put (λ e. T (entry? e)) put_entry closes read_entry (λ e rest h f. entry_put e h) (λ e rest h. refl) k es (every_all entry? es t) close refl l

pub values_put : (k : ℕ) (vs : List ℤ) {rest : Bytes} → T (not (empty? vs)) → length vs < k
    → read_some closes read_int k (put_items put_int vs (41 ∷ rest)) ≡ some (record { what = vs; left = 41 ∷ rest })
unfolding closes
values_put k vs t l = some_put (λ z. Unit {0}) put_int closes read_int (λ z rest h f. int_put z f) (λ z rest h. refl) k vs (all_any vs) t close refl l

-- ---- what is printed is read back

pub verb_known : (v : Verb) → Known verb_word verbs v
unfolding among verb_word verbs same_list every plain
verb_known stream = (refl, tt)
verb_known grant = (refl, tt)
verb_known clock = (refl, tt)
verb_known row = (refl, tt)
verb_known clear = (refl, tt)
verb_known caller = (refl, tt)
verb_known ask = (refl, tt)
verb_known line = (refl, tt)

pub body_follow : (v : Verb) (b : Body v) (rest : Bytes) → Follows (put_body v b (41 ∷ rest))
unfolding put_body put_grant put_items
body_follow stream b rest = space
body_follow grant g rest = space
body_follow clock n rest = space
body_follow row b rest = space
body_follow clear u rest = close
body_follow caller w rest = part_follow (bytes "roles") (put_items put_name w.roles) (put_items put_entry w.profile (41 ∷ rest))
body_follow ask q rest = space
body_follow line l rest = space

-- a number that bounds the text bounds its lists, conditions and queries
pub body_put : (k : ℕ) (v : Verb) (b : Body v) {rest : Bytes} → T (body? v b) → length (put_body v b (41 ∷ rest)) ≤ k
    → read_body v k (put_body v b (41 ∷ rest)) ≡ some (record { what = b; left = 41 ∷ rest })
unfolding read_body put_body put_grant put_items body? give every plain
body_put k stream b {rest} t h =
    let ts : T (name? b.name) = search parts in
    let tc : T (some_all name? b.columns) = search parts in
    let c = name_room b.name (put_items put_name b.columns (41 ∷ rest)) in
    let d = items_room put_name name_room b.columns (41 ∷ rest) in
    byte_put 32 _ (item_put _ _ (name_put b.name ts (items_follow put_name b.columns close)) (item_put _ _ (names_closed_put k b.columns tc (omega arith)) refl))
body_put k grant g {rest} t h = grant_put k g t (grant_room g rest k h)
body_put k clock n t h = number_put n close
body_put k row b {rest} t h =
    let ts : T (name? b.name) = search parts in
    let tv : T (not (empty? b.values)) = search parts in
    let c = name_room b.name (put_items put_int b.values (41 ∷ rest)) in
    let d = items_room put_int int_room b.values (41 ∷ rest) in
    byte_put 32 _ (item_put _ _ (name_put b.name ts (items_follow put_int b.values close)) (item_put _ _ (values_put k b.values tv (omega arith)) refl))
body_put k clear u t h = refl
body_put k caller w {rest} t h =
    let tr : T (every name? w.roles) = search parts in
    let te : T (every entry? w.profile) = search parts in
    let b = part_room (bytes "roles") (put_items put_name w.roles) (put_items put_entry w.profile (41 ∷ rest)) in
    let c = items_room put_name name_room w.roles (41 ∷ put_items put_entry w.profile (41 ∷ rest)) in
    let d = items_room put_entry entry_room w.profile (41 ∷ rest) in
    item_put _ _ (part_put (bytes "roles") _ (put_items put_name w.roles) tt (items_follow put_name w.roles close) (roles_put k w.roles tr (omega arith)))
    (item_put _ _ (entries_put k w.profile te (omega arith)) refl)
body_put k ask q {rest} t h = byte_put 32 _ (item_put _ _ (form_put q k t (let b = form_room q (41 ∷ rest) in omega arith)) refl)
body_put k line l {rest} t h =
    let b = int_room l.route (32 ∷ put_form l.query (41 ∷ rest)) in
    let c = form_room l.query (41 ∷ rest) in
    item_put _ _ (number_put l.route space) (byte_put 32 _ (item_put _ _ (form_put l.query k t (omega arith)) refl))

pub verb_plain : (v : Verb) → T (every plain (verb_word v))
verb_plain v = (verb_known v).1

pub as_put : (k : ℕ) (v : Verb) (b : Body v) {rest : Bytes} → T (body? v b) → length (put_line v b rest) ≤ k → read_as v k (put_line v b rest) ≡ some (record { what = b; left = rest })
unfolding read_as put_line give
as_put k v b {rest} t h =
    let a = open_room (verb_word v) (put_body v b (41 ∷ rest)) in
    item_put _ _ (open_put (verb_word v) (verb_plain v) (body_follow v b rest)) (item_put _ _ (body_put k v b t (omega arith)) (byte_put 41 _ refl))

-- ---- what is read was printed

row_good : (s : Bytes) (vs : List ℤ) → T (name? s) → T (some_all (λ z. true) vs) → T (body? row (record { name = s; values = vs }))
unfolding body? some_all
row_good s vs t u = and_both (name? s) (not (empty? vs)) t (search parts)

pub body_read : (k : ℕ) (v : Verb) → Reads (body? v) (put_body v) (read_body v k)
unfolding read_body body? put_body put_items
body_read k stream =
    byte_step 32 _ (item_step _ name_read (λ s t. item_step _ (some_read closes name_read k) (λ cs u. give_step _ (and_both (name? s) (some_all name? cs) t u) (λ l. refl))))
body_read k grant = grant_read k
body_read k clock = number_read
body_read k row = byte_step 32 _ (item_step _ name_read (λ s t. item_step _ (some_read closes int_read k) (λ vs u. give_step _ (row_good s vs t u) (λ l. refl))))
body_read k clear = give_step tt tt (λ l. refl)
body_read k caller =
    item_step _ (part_read (bytes "roles") (items_read closes name_read k)) (λ rs t. item_step _ (items_read closes entry_read k) (λ es u.
    give_step _ (and_both (every name? rs) (every entry? es) t u) (λ l. refl)))
body_read k ask = byte_step 32 _ (item_step _ (form_read k) (λ q t. give_step _ t (λ l. refl)))
body_read k line = item_step _ number_read (λ r s. byte_step 32 _ (item_step _ (form_read k) (λ q t. give_step _ t (λ l. refl))))

pub as_read : (v : Verb) (k : ℕ) → Reads (body? v) (put_line v) (λ r. read_as v k r)
unfolding read_as put_line
as_read v k = item_step _ (open_read (verb_word v)) (λ o u. item_step _ (body_read k v) (λ b t. byte_step 41 _ (give_step _ t (λ l. refl))))

-- ---- whole texts

module _ {A : Type 0} (reader : ℕ → Reader A) where
  pub parse_put : (bs : Bytes) {a : A} → reader (length bs) bs ≡ some (record { what = a; left = [] }) → parse reader bs ≡ some a
  unfolding parse bind ensure empty?
  parse_put bs e = rw e

  pub parse_read : {good : A → Bool} {put : A → Bytes → Bytes} → ((k : ℕ) → Reads good put (λ r. reader k r)) → (bs : Bytes) (a : A) → parse reader bs ≡ some a → T (good a) × (bs ≡ put a [])
  unfolding parse empty?
  parse_read {good} {put} s bs a e =
      from _ _ e (λ r p q. ensured (empty? r.left) q (λ t d.
      let h = (s (length bs)).taken bs r p in
      subst (λ x. T (good x) × (bs ≡ put x [])) d (h.0, h.1 ∙ ap (put r.what) (nothing r.left t))))
    where
      nothing : (l : Bytes) → T (empty? l) → l ≡ []
      nothing [] t = refl
      nothing (b ∷ l) t = absurd t

-- what is printed reads back
pub printed_parses : (v : Verb) (b : Body v) → T (body? v b) → parse_as v (line_text v b) ≡ some b
unfolding parse_as line_text
printed_parses v b t =
    parse_put (λ k. read_as v k) (put_line v b []) (as_put (length (put_line v b [])) v b t (omega arith))

-- what reads was printed
pub parsed_printed : (v : Verb) (bs : Bytes) (b : Body v) → parse_as v bs ≡ some b → T (body? v b) × (bs ≡ line_text v b)
unfolding parse_as line_text
parsed_printed v bs b e = parse_read (λ k. read_as v k) (as_read v) bs b e

pub query_printed_parses : (q : Form) → T (form? q) → parse_query (query_text q) ≡ some q
unfolding parse_query query_text
query_printed_parses q t = parse_put read_form (put_form q []) (form_put q (length (put_form q [])) t (let h = form_room q [] in omega arith))

pub query_parsed_printed : (bs : Bytes) (q : Form) → parse_query bs ≡ some q → T (form? q) × (bs ≡ query_text q)
unfolding parse_query query_text
query_parsed_printed bs q e = parse_read read_form form_read bs q e

-- a line begins with its verb, and reads as a line of no other
pub verb_printed : (v : Verb) (b : Body v) → verb_of (line_text v b) ≡ some v
unfolding verb_of line_text put_line
verb_printed v b = bind_put _ _ (head_put verb_word verbs v (verb_known v) (body_follow v b [])) refl

pub parsed_verb : (v : Verb) (bs : Bytes) (b : Body v) → parse_as v bs ≡ some b → verb_of bs ≡ some v
parsed_verb v bs b e = rw (parsed_printed v bs b e).1 (verb_printed v b)

-- the same of lines of any verb
pub line_printed_parses : (l : Line) → T (body? l.verb l.body) → parse_line (line_text l.verb l.body) ≡ some l
unfolding parse_line
line_printed_parses l t = bind_put _ _ (verb_printed l.verb l.body) (bind_put _ _ (printed_parses l.verb l.body t) refl)

pub line_parsed_printed : (bs : Bytes) (l : Line) → parse_line bs ≡ some l → T (body? l.verb l.body) × (bs ≡ line_text l.verb l.body)
unfolding parse_line
line_parsed_printed bs l e =
    from _ _ e (λ v p q. from _ _ q (λ b r s. done (λ x. T (body? x.verb x.body) × (bs ≡ line_text x.verb x.body)) s (parsed_printed v bs b r)))

-- one to one
pub text_one_to_one : (l m : Line) → T (body? l.verb l.body) → T (body? m.verb m.body) → line_text l.verb l.body ≡ line_text m.verb m.body → l ≡ m
text_one_to_one l m t u e = some-injective l m (sym (line_printed_parses l t) ∙ ap parse_line e ∙ line_printed_parses m u)

pub query_text_one_to_one : (q r : Form) → T (form? q) → T (form? r) → query_text q ≡ query_text r → q ≡ r
query_text_one_to_one q r t u e = some-injective q r (sym (query_printed_parses q t) ∙ ap parse_query e ∙ query_printed_parses r u)

-- a text that no reader takes is no line's
pub unread : (v : Verb) (bs : Bytes) → parse_as v bs ≡ none → (b : Body v) → T (body? v b) → bs ≡ line_text v b → ⊥
unread v bs e b t d = none-ne-some b (sym e ∙ ap (parse_as v) d ∙ printed_parses v b t)

pub query_unread : (bs : Bytes) → parse_query bs ≡ none → (q : Form) → T (form? q) → bs ≡ query_text q → ⊥
query_unread bs e q t d = none-ne-some q (sym e ∙ ap parse_query d ∙ query_printed_parses q t)
