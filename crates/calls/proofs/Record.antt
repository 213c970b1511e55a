-- What a list of calls leaves, told from its accepted calls: the clock of the last clock call, else 0; the streams of the stream calls, in call order;
-- of each stream the rows of its row calls since the last clear, in call order, each stamped with the clock as it then stood.
use mathlib.Core.Path.{◌≡◌, refl, sym, ap, ◌∙◌}
use mathlib.Core.List.{List, [], ◌∷◌, ◌++◌, map}
use mathlib.Core.Bool.{Bool, true, false, cond}
use mathlib.Core.Option.{Option, none, some}
use Prim.Native.Nat.{ℕ, zero, suc, ◌+◌, ◌<◌}
use native.Mathlib.Omega.{arith}
use lib.IntN.{ℤ}
use lib.Dec.{T, leb, eqb, eqb→eq, eqb_refl, nleb→lt}
use lib.ListN.{length, length-append, length-map, set}
use Rattle.refusal.specs.Checks.{passes}
use Rattle.refusal.proofs.Passing.{pass_first, pass_rest}
use Rattle.lists.specs.Lists.{nth}
use Rattle.lists.proofs.Laws.{by_test, true_T, T_true, never}
use Rattle.syntax.specs.Grammar as G
use Rattle.syntax.specs.Grammar.{Bytes, Stream, RowLine}
use Rattle.syntax.specs.Limits.{natural}
use Rattle.syntax.specs.Readers.{parse_as}
use Rattle.model.specs.Queries.{Schema, Row, Record}
use Rattle.calls.specs.Names.{stream_number}
use Rattle.calls.specs.Tables.{row_checks, row_line_checks}
use Rattle.calls.specs.Calls.{Call, stream, clock, row, clear, clock_line, row_line, clear_line, call_checks, call_table, with_stream, with_clock, add_row, with_row, with_row_line, cleared, effect, next, replay, fresh, after}
use Rattle.calls.specs.Events.{Fixture, new_fixture, Event, call, grant, caller, query, happen, happened_from, happened}
use Rattle.calls.proofs.Written.{written_passes}

-- ---- what accepted calls give, the last of them first

-- the number of a line that was read
unfoldable pub time_read : ℕ → Option ℤ → ℕ
time_read else none = else
time_read else (some n) = natural n

unfoldable pub clock_left : List Call → ℕ
clock_left [] = 0
clock_left (clock n ∷ cs) = natural n
clock_left (clock_line bs ∷ cs) = time_read (clock_left cs) (parse_as G.clock bs)
clock_left (stream bs ∷ cs) = clock_left cs
clock_left (row s vs ∷ cs) = clock_left cs
clock_left (clear ∷ cs) = clock_left cs
clock_left (row_line bs ∷ cs) = clock_left cs
clock_left (clear_line bs ∷ cs) = clock_left cs

unfoldable pub stream_read : Option Stream → Schema
stream_read none = []
stream_read (some s) = s ∷ []

unfoldable pub streams_left : List Call → Schema
streams_left [] = []
streams_left (stream bs ∷ cs) = streams_left cs ++ stream_read (parse_as G.stream bs)
streams_left (clock n ∷ cs) = streams_left cs
streams_left (row s vs ∷ cs) = streams_left cs
streams_left (clear ∷ cs) = streams_left cs
streams_left (clock_line bs ∷ cs) = streams_left cs
streams_left (row_line bs ∷ cs) = streams_left cs
streams_left (clear_line bs ∷ cs) = streams_left cs

-- the row of a stream s, given by a call on the stream t
unfoldable pub row_given : ℕ → ℕ → ℕ → List ℤ → List Row
row_given s t time vs = cond (eqb s t) (record { at = time; values = vs } ∷ []) []

unfoldable pub row_read : ℕ → Schema → ℕ → Option RowLine → List Row
row_read s d time none = []
row_read s d time (some w) = row_given s (stream_number d w.name) time w.values

-- of the stream s
unfoldable pub rows_left : ℕ → List Call → List Row
rows_left s [] = []
rows_left s (row t vs ∷ cs) = rows_left s cs ++ row_given s t (clock_left cs) vs
rows_left s (row_line bs ∷ cs) = rows_left s cs ++ row_read s (streams_left cs) (clock_left cs) (parse_as G.row bs)
rows_left s (clear ∷ cs) = []
rows_left s (clear_line bs ∷ cs) = []
rows_left s (stream bs ∷ cs) = rows_left s cs
rows_left s (clock n ∷ cs) = rows_left s cs
rows_left s (clock_line bs ∷ cs) = rows_left s cs

-- ---- the accepted calls of a list, the last first, in front of others; each is tried on what those before it left

unfoldable pub accepted_from : Record → List Call → List Call → List Call
accepted_from x past [] = past
accepted_from x past (c ∷ cs) = accepted_from (next x c) (cond (passes (call_table x c)) (c ∷ past) past) cs

unfoldable pub accepted : List Call → List Call
accepted cs = accepted_from fresh [] cs

-- ---- a record that calls left

pub record Left (x : Record) (past : List Call) : Type 0 where
  pub clock_same : x.clock ≡ clock_left past
  pub schema_same : x.schema ≡ streams_left past
  pub rows_many : length x.rows ≡ length x.schema
  pub rows_same : (s : ℕ) → nth [] x.rows s ≡ rows_left s past

-- ---- lists of rows

nth_new : (rss : List (List Row)) (s : ℕ) → nth [] (rss ++ ([] ∷ [])) s ≡ nth [] rss s
unfolding nth
nth_new [] zero = refl
nth_new [] (suc s) = refl
nth_new (rs ∷ rss) zero = refl
nth_new (rs ∷ rss) (suc s) = nth_new rss s

nth_gone : (rss : List (List Row)) (s : ℕ) → ◌≡◌ {A = List Row} (nth [] (map {B = List Row} (λ rs. []) rss) s) []
unfolding nth
nth_gone [] s = refl
nth_gone (rs ∷ rss) zero = refl
nth_gone (rs ∷ rss) (suc s) = nth_gone rss s

append_none : {A : Type 0} (xs : List A) → xs ++ [] ≡ xs
append_none [] = refl
append_none (x ∷ xs) = ap (λ (ys : List _). x ∷ ys) (append_none xs)

nth_set : (v : List Row) (rss : List (List Row)) (t : ℕ) → t < length rss → nth [] (set rss t v) t ≡ v
unfolding nth
nth_set v [] t h = absurd (omega arith)
nth_set v (rs ∷ rss) zero h = refl
nth_set v (rs ∷ rss) (suc t) h = nth_set v rss t (omega arith)

nth_beside : (v : List Row) (rss : List (List Row)) (t s : ℕ) → (s ≡ t → ⊥) → nth [] (set rss t v) s ≡ nth [] rss s
unfolding nth
nth_beside v [] t s n = refl
nth_beside v (rs ∷ rss) zero zero n = absurd (n refl)
nth_beside v (rs ∷ rss) zero (suc s) n = refl
nth_beside v (rs ∷ rss) (suc t) zero n = refl
nth_beside v (rs ∷ rss) (suc t) (suc s) n = nth_beside v rss t s (λ e. n (ap suc e))

nth_added : (time : ℕ) (vs : List ℤ) (rss : List (List Row)) (t s : ℕ) → t < length rss
    → nth [] (add_row t (record { at = time; values = vs }) rss) s ≡ nth [] rss s ++ row_given s t time vs
unfolding add_row row_given
nth_added time vs rss t s h =
    by_test (eqb s t)
    (λ e. let same : s ≡ t = eqb→eq s t (true_T (eqb s t) e) in rw e (rw same (nth_set _ rss t h)))
    (λ e. rw e (nth_beside _ rss t s (λ same. never (sym (T_true (eqb s t) (rw same (eqb_refl t))) ∙ e)) ∙ sym (append_none (nth [] rss s))))

added_many : (t : ℕ) (r : Row) (rss : List (List Row)) → length (add_row t r rss) ≡ length rss
unfolding add_row nth
added_many t r [] = refl
added_many zero r (rs ∷ rss) = refl
added_many (suc t) r (rs ∷ rss) = ap suc (added_many t r rss)

-- ---- one accepted call

module _ (x : Record) (past : List Call) (h : Left x past) where
  stream_left : (bs : Bytes) (s : Stream) → parse_as G.stream bs ≡ some s → Left (effect x (stream bs)) (stream bs ∷ past)
  unfolding effect with_stream clock_left streams_left stream_read rows_left
  stream_left bs s e =
      rw e
      (record {
        clock_same = h.clock_same;
        schema_same = rw e (ap (λ d. d ++ (s ∷ [])) h.schema_same);
        rows_many = length-append x.rows ([] ∷ []) ∙ ap (λ n. n + 1) h.rows_many ∙ sym (length-append x.schema (s ∷ []));
        rows_same = λ t. nth_new x.rows t ∙ h.rows_same t;
      })

  clock_left_by : (n : ℤ) (c : Call) → effect x c ≡ with_clock x (some n) → clock_left (c ∷ past) ≡ natural n → streams_left (c ∷ past) ≡ streams_left past
      → ((s : ℕ) → rows_left s (c ∷ past) ≡ rows_left s past) → Left (effect x c) (c ∷ past)
  unfolding with_clock
  clock_left_by n c e k d r =
      rw e
      (record {
        clock_same = sym k;
        schema_same = h.schema_same ∙ sym d;
        rows_many = h.rows_many;
        rows_same = λ s. h.rows_same s ∙ sym (r s);
      })

  row_left_by : (t : ℕ) (vs : List ℤ) (c : Call) → t < length x.schema → effect x c ≡ with_row x t vs → clock_left (c ∷ past) ≡ clock_left past → streams_left (c ∷ past) ≡ streams_left past
      → ((s : ℕ) → rows_left s (c ∷ past) ≡ rows_left s past ++ row_given s t (clock_left past) vs) → Left (effect x c) (c ∷ past)
  unfolding with_row
  row_left_by t vs c l e k d r =
      rw e
      (record {
        clock_same = h.clock_same ∙ sym k;
        schema_same = h.schema_same ∙ sym d;
        rows_many = added_many t _ x.rows ∙ h.rows_many;
        rows_same = λ s. nth_added x.clock vs x.rows t s (rw h.rows_many l) ∙ ap (λ rs. rs ++ row_given s t x.clock vs) (h.rows_same s) ∙ ap (λ k. rows_left s past ++ row_given s t k vs) h.clock_same ∙ sym (r s);
      })

  clear_left_by : (c : Call) → effect x c ≡ cleared x → clock_left (c ∷ past) ≡ clock_left past → streams_left (c ∷ past) ≡ streams_left past → ((s : ℕ) → rows_left s (c ∷ past) ≡ []) → Left (effect x c) (c ∷ past)
  unfolding cleared
  clear_left_by c e k d r =
      rw e
      (record {
        clock_same = h.clock_same ∙ sym k;
        schema_same = h.schema_same ∙ sym d;
        rows_many = length-map {B = List Row} x.rows (λ rs. []) ∙ h.rows_many;
        rows_same = λ s. nth_gone x.rows s ∙ sym (r s);
      })

  row_below : (t : ℕ) (vs : List ℤ) → T (passes (row_checks x t vs)) → t < length x.schema
  unfolding row_checks
  row_below t vs p = nleb→lt (length x.schema) t (pass_first _ (leb (length x.schema) t) _ (pass_rest _ _ _ p))

  effect_left : (c : Call) → T (passes (call_table x c)) → Left (effect x c) (c ∷ past)
  unfolding call_table call_checks effect with_row_line row_line_checks clock_left time_read streams_left rows_left row_read
  effect_left (stream bs) p = written_passes 0 bs (parse_as G.stream bs) _ (pass_rest _ _ _ p) (λ s e q. unfold effect in stream_left bs s e)
  effect_left (clock n) p = clock_left_by n (clock n) refl refl refl (λ s. refl)
  effect_left (row t vs) p = row_left_by t vs (row t vs) (row_below t vs (pass_rest _ _ _ p)) refl refl refl (λ s. refl)
  effect_left clear p = clear_left_by clear refl refl refl (λ s. refl)
  effect_left (clock_line bs) p =
      written_passes 0 bs (parse_as G.clock bs) _ (pass_rest _ _ _ p) (λ n e q. clock_left_by n (clock_line bs) (ap (with_clock x) e) (ap (time_read (clock_left past)) e) refl (λ s. refl))
  effect_left (row_line bs) p =
      written_passes 0 bs (parse_as G.row bs) _ (pass_rest _ _ _ p)
      (λ w e q. row_left_by (stream_number x.schema w.name) w.values (row_line bs) (row_below (stream_number x.schema w.name) w.values (pass_rest _ _ _ q)) (ap (with_row_line x) e) refl refl
      (λ s. ap (λ o. rows_left s past ++ row_read s (streams_left past) (clock_left past) o) e ∙ ap (λ d. rows_left s past ++ row_given s (stream_number d w.name) (clock_left past) w.values) (sym h.schema_same)))
  effect_left (clear_line bs) p = clear_left_by (clear_line bs) refl refl refl (λ s. refl)

-- ---- a list of them

next_left : (x : Record) (past : List Call) (c : Call) → Left x past → Left (next x c) (cond (passes (call_table x c)) (c ∷ past) past)
unfolding next
next_left x past c h = go (passes (call_table x c)) refl
  where
    go : (b : Bool) → passes (call_table x c) ≡ b → Left (cond b (effect x c) x) (cond b (c ∷ past) past)
    go true e = effect_left x past h c (true_T (passes (call_table x c)) e)
    go false e = h

replay_left : (x : Record) (past : List Call) (cs : List Call) → Left x past → Left (replay x cs) (accepted_from x past cs)
unfolding replay accepted_from
replay_left x past [] h = h
replay_left x past (c ∷ cs) h = replay_left (next x c) _ cs (next_left x past c h)

pub after_left : (cs : List Call) → Left (after cs) (accepted cs)
unfolding after accepted fresh clock_left streams_left rows_left nth
after_left cs = replay_left fresh [] cs (record { clock_same = refl; schema_same = refl; rows_many = refl; rows_same = λ s. refl })

-- ---- events of every kind

unfoldable pub calls_of : List Event → List Call
calls_of [] = []
calls_of (call c ∷ es) = c ∷ calls_of es
calls_of (grant bs ∷ es) = calls_of es
calls_of (caller bs ∷ es) = calls_of es
calls_of (query ∷ es) = calls_of es

kept_from : (f : Fixture) (es : List Event) → (happened_from f es).record_kept ≡ replay f.record_kept (calls_of es)
unfolding happened_from happen calls_of replay
kept_from f [] = refl
kept_from f (call c ∷ es) = kept_from (happen f (call c)) es
kept_from f (grant bs ∷ es) = kept_from (happen f (grant bs)) es
kept_from f (caller bs ∷ es) = kept_from (happen f (caller bs)) es
kept_from f (query ∷ es) = kept_from f es

-- grant, caller, ask and line calls in between change none of this
pub happened_left : (es : List Event) → Left (happened es).record_kept (accepted (calls_of es))
unfolding happened new_fixture after
happened_left es = rw (kept_from new_fixture es) (after_left (calls_of es))
