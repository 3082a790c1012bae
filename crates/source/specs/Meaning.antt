-- What a line means to the address pass, in the paper's order.
use Rattle.std.specs.Prelude.{ℕ, ◌+◌, ◌-◌, Bool, not, cond, ◌&&◌, ◌||◌, List, Option, Some, None, Result, Ok, Err, eqb, leb, length}
use Rattle.text.specs.Text.{codes}
use Rattle.scan.specs.declared.class.Class.TheVariants.{Is, IsNot, Blank}
use Rattle.scan.specs.Scan.{first, last, some, count}
use Rattle.op.specs.declared.operation.Op.{Op}
use Rattle.names.specs.Names.{named, same_text}
use Rattle.op.specs.Operations.{form_of, length_of}
use Rattle.source.specs.declared.meaning.Meaning.{Meaning}
use Rattle.source.specs.declared.meaning.Meaning.TheVariants.{Nothing, Bytes, Label}
use Rattle.source.specs.declared.meaning.Unread.{Unread}
use Rattle.source.specs.declared.meaning.Unread.TheVariants.{ShortString, NoOperation}
use Rattle.source.specs.Words.{words, first_word, starts}

abbrev pub is_empty : List ℕ → Bool
is_empty line = eqb (length line) 0

-- "a constant line's first word is `.CONST`"
abbrev pub is_constant : List ℕ → Bool
is_constant line = same_text (first_word line) (codes ".CONST")

-- "a label ends in `:`, has no blank and some byte besides colons": its last colon is its last byte; `:` is 0x3A
abbrev pub is_label : List ℕ → Bool
is_label line = eqb (last (Is 0x3a) line) (length line) && not (some Blank line) && some (IsNot 0x3a) line

-- how many bytes stand between the first quote and the last; a quote is 0x22
abbrev pub between : List ℕ → ℕ
between line = last (Is 0x22) line - 1 - (first (Is 0x22) line + 1)

-- "add the bytes between first and last quote, plus 1"; "`.STRING` with fewer than two quotes" is 16
abbrev pub string_of : List ℕ → Result Meaning Unread
string_of line = cond (leb 2 (count (Is 0x22) line)) (Ok (Bytes (between line + 1))) (Err ShortString)

-- "Otherwise the first word is an operation: add its length."
abbrev pub operation_of : Option Op → Result Meaning Unread
operation_of (Some o) = Ok (Bytes (length_of (form_of o)))
operation_of None = Err NoOperation

unfoldable pub meaning_of : List ℕ → Result Meaning Unread
meaning_of line =
    -- "empty or a constant line: skip"
    cond (is_empty line || is_constant line) (Ok Nothing)
    -- "Starts with `.DB`: add words less one."
    (cond (starts (codes ".DB") line) (Ok (Bytes (words line - 1)))
    -- "Starts with `.STRING`"
    (cond (starts (codes ".STRING") line) (string_of line)
    -- "Label: record the address"
    (cond (is_label line) (Ok Label)
    (operation_of (named (first_word line))))))
