-- Tables of forms: a query's by value, and a rewritten query's in lent words.
use Rattle.std.specs.Prelude.{◌≡◌, List, [], ◌∷◌, ◌++◌, map, ◌&&◌, cond, ℕ, ◌+◌, ◌*◌, min, ltb, leb, length, take, set, get_or, replicate}
use Rattle.std.proofs.lemmas.List.Edits.{sets}
use Rattle.lists.specs.Lists.{count_from}
use Rattle.syntax.specs.Limits.{max_forms, max_rewritten}
use Rattle.query.specs.declared.Form.{Form}
use Rattle.query.specs.declared.Query.{Query}

-- what stands where there is no form
abbrev pub blank : Form
blank = record { kind = 0; first = 0; second = 0; third = 0; fourth = 0 }

-- a form more at the end, where there is room for n
unfoldable pub forms_with : ℕ → List Form → Form → List Form
forms_with n fs f = cond (ltb (length fs) n) (fs ++ (f ∷ [])) fs

-- ---- a query's

unfoldable pub query_forms : Query → List Form
query_forms q = take q.len q.forms

unfoldable pub new_query : Query
new_query = record { forms = replicate max_forms blank; len = 0 }

unfoldable pub query_with : Query → Form → Query
query_with q f = cond (ltb q.len max_forms) (record { forms = set q.forms q.len f; len = q.len + 1 }) q

-- the table, and its forms
pub record QueryWith (q : Query) (f : Form) (r : Query) : Type 0 where
  pub table : r ≡ query_with q f
  pub forms : query_forms r ≡ forms_with max_forms (query_forms q) f

-- ---- a rewritten query's, in words

-- a form's words: its fields, in their order
abbrev pub form_words : ℕ
form_words = 5

unfoldable pub fields_of : Form → List ℕ
fields_of f = f.kind ∷ f.first ∷ f.second ∷ f.third ∷ f.fourth ∷ []

-- words for all forms that there may be
abbrev pub table_words : ℕ
table_words = max_rewritten * form_words

-- form i of some words
unfoldable pub form_at : List ℕ → ℕ → Form
form_at ws i =
    record {
      kind = get_or ws (i * form_words) 0;
      first = get_or ws (i * form_words + 1) 0;
      second = get_or ws (i * form_words + 2) 0;
      third = get_or ws (i * form_words + 3) 0;
      fourth = get_or ws (i * form_words + 4) 0;
    }

-- the first n, or as many as there may be
unfoldable pub forms_in : List ℕ → ℕ → List Form
forms_in ws n = map (form_at ws) (count_from 0 (min n max_rewritten))

-- words, and how many forms stand in them
pub record Rewritten : Type 0 where
  pub words : List ℕ
  pub count : ℕ

abbrev pub held : List ℕ → ℕ → Rewritten
held ws n = record { words = ws; count = n }

abbrev pub rewritten_forms : Rewritten → List Form
rewritten_forms t = forms_in t.words t.count

-- a form more after those that stand there; as it was where they are all that there may be, or the words are too few
unfoldable pub rewritten_with : Rewritten → Form → Rewritten
rewritten_with t f =
    cond (ltb t.count max_rewritten && leb table_words (length t.words))
    (held (sets t.words (t.count * form_words) (fields_of f)) (t.count + 1)) t

-- some more
unfoldable pub rewritten_from : Rewritten → List Form → Rewritten
rewritten_from t [] = t
rewritten_from t (f ∷ fs) = rewritten_from (rewritten_with t f) fs

-- some forms in lent words: the first of them where they are too many, none where the words are too few
unfoldable pub rewritten_table : List ℕ → List Form → Rewritten
rewritten_table ws fs = rewritten_from (held ws 0) fs
