-- A rule with the station's bytes: loaded at 0 into a fresh machine that has the limit, and run with the bytes as input.
use Rattle.std.specs.Prelude.{ℕ, List, [], ◌∷◌}
use Rattle.nanocore.specs.declared.machine.Machine.{Machine}
use Rattle.nanocore.specs.Load.{Loading, load_of}
use Rattle.nanocore.specs.Machine.{fresh}
use Rattle.nanocore.specs.Run.{run_of}
use Rattle.nanocore.specs.Step.{Answered, situated}
use Rattle.text.specs.declared.line.Line.{Line}
use Rattle.text.specs.Lines.{lined}
use Rattle.rule.specs.declared.rule.Ending.{Ending}
use Rattle.rule.specs.Verdict.{verdict_of, too_long}

-- the verdict, the output's bytes, and how many of them the rule printed
pub record Ended : Type 0 where
  pub verdict : Line
  pub output : List ℕ
  pub written : ℕ

abbrev pub ended : Line → List ℕ → ℕ → Ended
ended verdict output written = record { verdict = verdict; output = output; written = written }

abbrev pub ending : Ending → List ℕ → Ended
ending r output = ended r.verdict output r.written

-- the machine with another limit
abbrev pub limited : Machine → ℕ → Machine
limited m limit =
    record {
      registers = m.registers;
      memory = m.memory;
      pc = m.pc;
      sp = m.sp;
      flags = m.flags;
      halted = m.halted;
      count = m.count;
      limit = limit;
    }

abbrev pub ran : Answered → Ended
ran r =
    ended
    (lined (verdict_of r.answer r.after.machine.count r.after.machine.pc))
    r.after.output
    r.after.written

-- from the first byte of the input, with nothing printed yet
abbrev pub ran_from : Machine → List ℕ → List ℕ → Ended
ran_from m input output = ran (run_of input (situated m 0 output 0))

abbrev pub not_run : ℕ → ℕ → List ℕ → Ended
not_run length start output = ended (lined (too_long length start)) output 0

-- a load answers 0, or 11 with length and start
abbrev pub ran_by : List ℕ → Machine → List ℕ → List ℕ → Ended
ran_by [] m input output = ran_from m input output
ran_by (n ∷ []) m input output = ran_from m input output
ran_by (n ∷ length ∷ []) m input output = not_run length 0 output
ran_by (n ∷ length ∷ start ∷ vs) m input output = not_run length start output

abbrev pub loaded_run : Loading → List ℕ → List ℕ → Ended
loaded_run l input output = ran_by l.answer l.machine input output

abbrev pub rule_loaded : List ℕ → ℕ → Loading
rule_loaded rule limit = load_of (limited fresh limit) rule 0

unfoldable pub rule_of : List ℕ → ℕ → List ℕ → List ℕ → Ended
rule_of rule limit input output = loaded_run (rule_loaded rule limit) input output
