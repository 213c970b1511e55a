-- Checks 4 and 5 of a query by the table of its forms, from the last to the first.
use Rattle.std.specs.Prelude.{List, [], ◌∷◌, Bool, true, false, ◌&&◌, ◌||◌, not, cond, ℕ, zero, suc, eqb, get_or}
use Rattle.std.specs.Int.Bits.{bit_or}
use Rattle.model.specs.Checks.{fitting}
use Rattle.masks.specs.Masks.{bit?, with_bit, inside}
use Rattle.grant.specs.Grants.{streams_mask}
use Rattle.query.specs.Forms.{rows_form, pick_form, keep_form, join_form}
use Rattle.query.specs.Tables.{blank}
use Rattle.query.specs.declared.Form.{Form}
use Rattle.query_line.specs.declared.Side.{Side}
use Rattle.query_line.specs.declared.Placing.{Placing}

-- the bits of `time`, of the aggregate's column and of a number
abbrev pub time_bit : ℕ
time_bit = 16777216

abbrev pub figure_bit : ℕ
figure_bit = 33554432

abbrev pub number_bit : ℕ
number_bit = 67108864

-- ---- a query that is passed: its columns, whether it has a join and whether an aggregate

unfoldable pub no_side : Side
no_side = record { mask = 0; joined = false; grouped = false }

-- it may be no side of a join
unfoldable pub sideless : Side → Bool
sideless t = t.joined || t.grouped

unfoldable pub begun : Placing
begun = record { top = no_side; under = no_side; seen = 0; misplaced = false; window = false }

-- ---- one form more, in front of the last query that is passed

unfoldable pub with_rows : List ℕ → Placing → ℕ → Placing
with_rows ns p s =
    record {
      top = record { mask = streams_mask ns (s ∷ []); joined = false; grouped = false };
      under = p.top;
      seen = with_bit p.seen s;
      misplaced = p.misplaced || bit? p.seen s;
      window = p.window;
    }

-- the terms of a condition on either side are not those of some columns, or stand where they may not
unfoldable pub unpicked : ℕ → ℕ → ℕ → Bool
unpicked mask lefts rights = not (inside lefts (bit_or mask time_bit) && inside rights (bit_or mask number_bit))

unfoldable pub with_pick : Placing → ℕ → ℕ → Placing
with_pick p lefts rights =
    record {
      top = p.top;
      under = p.under;
      seen = p.seen;
      misplaced = p.misplaced || unpicked p.top.mask lefts rights;
      window = p.window;
    }

unfoldable pub unkept : Side → ℕ → Bool
unkept t mask = not (not t.grouped && inside mask t.mask)

unfoldable pub with_keep : Placing → ℕ → Placing
with_keep p mask =
    record {
      top = record { mask = mask; joined = p.top.joined; grouped = p.top.grouped };
      under = p.under;
      seen = p.seen;
      misplaced = p.misplaced || unkept p.top mask;
      window = p.window;
    }

-- one column of each side
unfoldable pub links : ℕ → ℕ → ℕ → ℕ → Bool
links l r a b = bit? l a && bit? r b || bit? l b && bit? r a

unfoldable pub unjoined : Side → Side → ℕ → ℕ → Bool
unjoined l r a b = not (not (sideless l) && (not (sideless r) && links l.mask r.mask a b))

unfoldable pub with_join : Placing → ℕ → ℕ → Placing
with_join p a b =
    record {
      top = record { mask = bit_or p.top.mask p.under.mask; joined = true; grouped = false };
      under = p.under;
      seen = p.seen;
      misplaced = p.misplaced || unjoined p.top p.under a b;
      window = p.window;
    }

unfoldable pub ungrouped : Side → ℕ → Bool
ungrouped t code = not (not t.grouped && bit? t.mask code)

unfoldable pub unfitting : ℕ → ℕ → Bool
unfitting size offset = not (fitting size offset)

unfoldable pub with_aggregate : Placing → ℕ → ℕ → ℕ → Placing
with_aggregate p code size offset =
    record {
      top = record { mask = figure_bit; joined = p.top.joined; grouped = true };
      under = p.under;
      seen = p.seen;
      misplaced = p.misplaced || ungrouped p.top code;
      window = p.window || unfitting size offset;
    }

unfoldable pub with_form : List ℕ → Placing → Form → ℕ → ℕ → Placing
with_form ns p f lefts rights =
    cond (eqb f.kind rows_form) (with_rows ns p f.first)
    (cond (eqb f.kind pick_form) (with_pick p lefts rights)
    (cond (eqb f.kind keep_form) (with_keep p lefts)
    (cond (eqb f.kind join_form) (with_join p f.first f.second) (with_aggregate p f.second f.third f.fourth))))

-- the first n of some forms, from the last to the first
unfoldable pub placed_from : List ℕ → List Form → List ℕ → List ℕ → ℕ → Placing → Placing
placed_from ns fs ls rs zero p = p
placed_from ns fs ls rs (suc n) p = placed_from ns fs ls rs n (with_form ns p (get_or fs n blank) (get_or ls n 0) (get_or rs n 0))
