-- A run of the program: what it reads at once, all of its input, and what that prints.
use Rattle.std.specs.Prelude.{◌≡◌, List, [], ◌∷◌, ◌++◌, Bool, false, ◌-◌, ◌^◌, ◌≤◌, ℤ, length, take}
use Rattle.syntax.specs.Grammar.{Bytes}
use Rattle.calls.specs.Scripts.{script}
use Rattle.history.specs.Fixtures.{Fresh}
use Rattle.console.specs.declared.Got.{Got}
use Rattle.console.specs.declared.Reading.TheVariants.{Open, Ended}
use Rattle.console.specs.Lines.{lines_of, begun, closing, Reads, is_over}
use Rattle.console.specs.Output.{most_text, Writes}
use Rattle.script.specs.Runs.{store}
use Rattle.lines.specs.declared.Run.{Run}
use Rattle.lines.specs.Runs.{Point, text_room, texts, refused_after, Advances, Known}

-- A round is begun only where the run is not over: its input went on, neither ended nor unreadable, and no output was lost.
abbrev pub Goes : Run → Type 0
Goes run = is_over run.reading run.output.lost ≡ false

-- A part of the input is read, and stands at the start of s; it is done, and all that its lines print is written.
pub record Round (s : Bytes) (run r : Run) (p q : Point) (l l' m m' : Bytes) : Type 0 where
  pub got : Got
  pub reads : Reads run.kept s got
  pub reading : r.reading ≡ got.reading
  pub written : r.output.used ≡ 0
  pub advances : (w : Bytes) → Known w run l → Advances w (take got.count s) run r p q l l' m m'

-- blocks of input, one behind the other
unfoldable pub joined : List Bytes → Bytes
joined [] = []
joined (b ∷ bs) = b ++ joined bs

-- b is a text that goes on a line of which w was there, and a line feed behind it where its last line has none
pub record Closed (w b : Bytes) : Type 0 where
  pub input : Bytes
  pub same : b ≡ input ++ closing (begun w input)

-- How a run begins: nothing of a line is kept and nothing of the output, no line was refused, and it is lent fresh memory, room for the longest line and one byte more, for a block, and for any text.
pub record Lent (run : Run) (p : Point) (b l m : Bytes) : Type 0 where
  pub fresh : Fresh (store p.held)
  pub kept : run.kept ≡ 0
  pub used : run.output.used ≡ 0
  pub none : run.refused ≡ false
  pub block : 1 ≤ length b
  pub line : length l ≡ 513
  pub texts : text_room p ≤ most_text
  pub out : most_text ≤ length m
  pub goes : run.reading ≡ Open

-- Blocks of the input are done, and all that their lines print is written. Where the input ended, with all of it read and all output written, the blocks are all of it.
pub record Blocks (run r : Run) (p q : Point) (l l' m m' : Bytes) : Type 0 where
  pub blocks : List Bytes
  pub advances : (w : Bytes) → Known w run l → Advances w (joined blocks) run r p q l l' m m'
  pub written : run.output.used ≡ 0 → r.output.used ≡ 0
  pub closed : r.reading ≡ Ended → r.output.lost ≡ false → (w : Bytes) → Known w run l → Closed w (joined blocks)

-- What was read, b, is the input, and a line feed where its last line has none; what was written is what the script of the input's lines prints, all of it; and a line was refused where the script refuses one.
pub record Prints (b : Bytes) (zs : List ℤ) (ys : Bytes) (refused : Bool) : Type 0 where
  pub input : Bytes
  pub read : b ≡ input ++ closing (begun [] input)
  pub written : Writes (texts (script zs ys (lines_of input))) []
  pub any : refused ≡ refused_after false (script zs ys (lines_of input))

-- The input is done, block by block, to its end; unless it could not be read, output was lost, or 2 ^ 64 - 1 blocks were read.
pub record All (run r : Run) (p q : Point) (l l' m m' : Bytes) : Type 0 where
  pub done : Blocks run r p q l l' m m'
  pub over : r.reading ≡ Open → r.output.lost ≡ false → length done.blocks ≡ 2 ^ 64 - 1
  pub prints : r.reading ≡ Ended → r.output.lost ≡ false → Prints (joined done.blocks) p.cells p.bytes r.refused
