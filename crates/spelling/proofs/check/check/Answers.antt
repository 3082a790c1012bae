-- The two tests are the definition's, in its order, and pick its case; the last line, laid behind the others, makes
-- the whole text.
use Rattle.std.proofs.Common.{◌≡◌, ◌∙◌, ap, ℕ, ◌+◌, ◌<◌, ◌≤◌, List, [], ◌∷◌, ◌++◌, length, drop, arith, length-append, lt-ltb, le-ltb}
use native.Mathlib.Nat.{zero-add}
use Rattle.fields.specs.Lay.{laid}
use Rattle.fields.specs.Written.{told}
use Rattle.fields.proofs.LaidLaws.{laid_next, laid_whole}
use Rattle.finding.specs.Found.{plain_in}
use Rattle.finding.specs.Line.{lines_of}
use Rattle.text.specs.declared.line.Line.{Line}
use Rattle.text.specs.Lines.{lined}
use Rattle.text.proofs.LineLaws.{Holds}
use Rattle.spelling.specs.Check.{checked, check_of, counts_of, found}
use Rattle.spelling.proofs.RoomLaws.{check_fits, last_holds}
use Rattle.spelling.proofs.check.check.Goals as goal

-- a text laid behind another that stands there, and what is behind both
behind :
    (buffer lines last : List ℕ) {n : ℕ} → n ≡ length lines → length (lines ++ last) ≤ length buffer →
    laid (lines ++ drop (length lines) buffer) n last ≡ (lines ++ last) ++ drop (length (lines ++ last)) buffer
behind buffer lines last {n} e fits =
    rw (← laid_whole buffer lines (omega (arith, length-append lines last)))
    (rw (zero-add n) at (laid_next buffer 0 lines last e) ∙ laid_whole buffer (lines ++ last) fits)

-- the tally's numbers make the last line, and with it the length of the whole text
module _
    (rule : List ℕ) (h : length rule ≤ 256) {lines plain all : ℕ} {line : Line} (a : lines ≡ length (lines_of (found rule)))
    (b : all ≡ length (found rule)) (e : plain ≡ plain_in (found rule)) (f : line ≡ lined (counts_of plain all)) where
  abbrev last : List ℕ
  last = counts_of (plain_in (found rule)) (length (found rule))

  holds : Holds last line
  holds = last_holds rule h (f ∙ rw (e, b))

  needed : lines + line.length ≡ length (checked (found rule))
  needed = omega (arith, length-append (lines_of (found rule)) last, holds.size, a)

pub returns-then-rule-gt256-clause-value : goal.returns-then-rule-gt256-clause-value
unfolding check_of
returns-then-rule-gt256-clause-value c = rw (lt-ltb 256 _ c.if-rule-gt256.true)

pub overflow_add-needed : goal.overflow_add-needed
overflow_add-needed c =
    let t = c.of-tally.ensures in
    let rule = c.args.rule.now in
    let size = needed rule (omega arith) t.lines_value t.instructions_value t.plain_value c.counts-last.ensures in
    omega (arith, size, check_fits rule (omega arith))

pub returns-then-buffer-needed-clause-value : goal.returns-then-buffer-needed-clause-value
unfolding check_of
returns-then-buffer-needed-clause-value c =
    let t = c.of-tally.ensures in
    let rule = c.args.rule.now in
    let buffer = c.args.buffer.now in
    let size = needed rule (omega arith) t.lines_value t.instructions_value t.plain_value c.counts-last.ensures in
    let less : length buffer < length (checked (found rule)) = omega (arith, size, c.if-buffer-needed.true) in
    rw (le-ltb 256 _ c.if-rule-gt256.false, lt-ltb _ _ less) (ap (λ n. told (14 ∷ n ∷ []) buffer) size)

pub returns-clause-value : goal.returns-clause-value
unfolding check_of
returns-clause-value c =
    let t = c.of-tally.ensures in
    let rule = c.args.rule.now in
    let buffer = c.args.buffer.now in
    let fs = found rule in
    let end = counts_of (plain_in fs) (length fs) in
    let lines = c.of-tally.result.lines in
    let held = holds rule (omega arith) t.lines_value t.instructions_value t.plain_value c.counts-last.ensures in
    let size = needed rule (omega arith) t.lines_value t.instructions_value t.plain_value c.counts-last.ensures in
    let fits : length (checked fs) ≤ length buffer = omega (arith, size, c.if-buffer-needed.false) in
    let text =
    c.lay.ensures
    ∙ ap (laid c.write_lines.new.buffer lines) (c.as_bytes.ensures ∙ held.whole)
    ∙ ap (λ written. laid written lines end) c.write_lines.ensures
    ∙ behind buffer (lines_of fs) end t.lines_value fits in
    rw (le-ltb 256 _ c.if-rule-gt256.false, le-ltb _ _ fits)
    (ap (λ n. told (0 ∷ n ∷ []) c.lay.new.buffer) size ∙ ap (told (0 ∷ length (checked fs) ∷ [])) text)
