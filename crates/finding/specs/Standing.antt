-- What is said of a place: the line, empty where there is none to say; 1 for an instruction, and 1 for one in plain spelling.
use Rattle.std.specs.Prelude.{ℕ, List, length, take}
use Rattle.text.specs.declared.line.Line.{Line}
use Rattle.text.specs.Lines.{empty_line}
use Rattle.finding.specs.declared.finding.Standing.{Standing}
use Rattle.finding.specs.declared.finding.Standing.TheVariants.{Alone, Plain, Unplain}
use Rattle.finding.specs.Found.{Found, plain_in}
use Rattle.finding.specs.Line.{lines_of}

abbrev pub line_in : Standing → Line
line_in Alone = empty_line
line_in Plain = empty_line
line_in (Unplain line) = line

abbrev pub instructions_in : Standing → ℕ
instructions_in Alone = 0
instructions_in Plain = 1
instructions_in (Unplain line) = 1

abbrev pub plain_ones_in : Standing → ℕ
plain_ones_in Alone = 0
plain_ones_in Plain = 1
plain_ones_in (Unplain line) = 0

-- the same as one thing: text and counts
pub record Said : Type 0 where
  pub text : List ℕ
  pub instructions : ℕ
  pub plain : ℕ

abbrev pub said_by : Standing → Said
said_by s =
    record {
      text = take (line_in s).length (line_in s).bytes;
      instructions = instructions_in s;
      plain = plain_ones_in s;
    }

abbrev pub said_of : List Found → Said
said_of fs = record { text = lines_of fs; instructions = length fs; plain = plain_in fs }
