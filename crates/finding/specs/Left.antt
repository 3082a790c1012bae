-- What is said of the places of a rule, and of those that the walk has still to come to.
use Rattle.std.specs.Prelude.{ℕ, List, [], ◌∷◌, drop}
use Rattle.front.specs.Walk.{walked}
use Rattle.finding.specs.Found.{found_at}
use Rattle.finding.specs.Standing.{Said, said_of}
use Rattle.finding.specs.declared.findings.Findings.{Findings}

-- from an address on
abbrev pub findings_of : List ℕ → ℕ → List Said
findings_of rule address = walked (λ a bytes. said_of (found_at a bytes) ∷ []) 0 address rule

abbrev pub findings_left : Findings → List Said
findings_left f = findings_of (drop f.at f.rule.now) f.at
