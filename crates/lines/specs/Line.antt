-- A line of a list of cases: "a word that names its kind, a blank, and bytes".
use Rattle.std.specs.Prelude.{ℕ, suc, cond, Option, Some, None, Result, Ok, Err, List, [], ◌∷◌, eqb, length, take}
use Rattle.digits.specs.declared.unhex.Stopped.{Stopped}
use Rattle.digits.specs.Unhex as Unhex
use Rattle.digits.specs.Unhex.{unhexed}
use Rattle.fields.specs.Read.{part}
use Rattle.names.specs.Names.{same_text}
use Rattle.text.specs.Text.{codes}
use Rattle.answers.specs.declared.answer.Kind.{Kind}
use Rattle.compare.specs.declared.verdict.Mismatch.{Mismatch}
use Rattle.lines.specs.declared.line.NoCase.{NoCase}
use Rattle.lines.specs.declared.line.NoCase.TheVariants.{NoKind, NoByte}
use Rattle.lines.specs.declared.line.Word.{Word}
use Rattle.replay.specs.Case.{verdict_of}
use Rattle.lines.specs.Table.{opcode_verdict, name_verdict, flags_verdict}

-- where the first blank stands, or the end
abbrev pub word_end : List ℕ → ℕ
word_end [] = 0
word_end (c ∷ cs) = cond (eqb c 32) 0 (suc (word_end cs))

-- the kinds and their words
abbrev pub words : List Word
words = Word.Step ∷ Word.Run ∷ Word.Load ∷ Word.Opcode ∷ Word.Name ∷ Word.Flags ∷ []

abbrev pub word_text : Word → List ℕ
word_text Word.Step = codes "step"
word_text Word.Run = codes "run"
word_text Word.Load = codes "load"
word_text Word.Opcode = codes "opcode"
word_text Word.Name = codes "name"
word_text Word.Flags = codes "flags"

-- the kind of the list that the text names, or none
abbrev pub word_in : List Word → List ℕ → Option Word
word_in [] text = None
word_in (w ∷ ws) text = cond (same_text text (word_text w)) (Some w) (word_in ws text)

unfoldable pub word_of : List ℕ → Option Word
word_of text = word_in words text

abbrev pub judged_by : Word → List ℕ → Result (Unit {0}) Mismatch
judged_by Word.Step case = verdict_of Kind.Step case
judged_by Word.Run case = verdict_of Kind.Run case
judged_by Word.Load case = verdict_of Kind.Load case
judged_by Word.Opcode case = opcode_verdict case
judged_by Word.Name case = name_verdict case
judged_by Word.Flags case = flags_verdict case

-- the answer, and the buffer with it
pub record Told : Type 0 where
  pub answer : Result (Result (Unit {0}) Mismatch) NoCase
  pub buffer : List ℕ

abbrev pub told : Result (Result (Unit {0}) Mismatch) NoCase → List ℕ → Told
told r buffer = record { answer = r; buffer = buffer }

abbrev pub line_by : Option Word → Result ℕ Stopped → List ℕ → Result (Result (Unit {0}) Mismatch) NoCase
line_by word (Err stopped) buffer = Err (NoByte stopped.at)
line_by (Some word) (Ok count) buffer = Ok (judged_by word (take count buffer))
line_by None (Ok count) buffer = Err NoKind

abbrev pub line_from : Option Word → Unhex.Told → Told
line_from word t = told (line_by word t.answer t.buffer) t.buffer

unfoldable pub line_of : List ℕ → List ℕ → Told
line_of text buffer =
    line_from (word_of (take (word_end text) text)) (unhexed (part text (word_end text) (length text)) buffer)
