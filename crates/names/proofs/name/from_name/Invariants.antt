-- No operation before the value has this name: what is named in all forty is named in those from the value on.
use Rattle.std.proofs.Common.{◌≡◌, drop}
use Rattle.op.specs.Operations.{ops}
use Rattle.names.specs.Names.{name_in, named}
use Rattle.names.proofs.name.from_name.Given as goal

abbrev pub invariant-loop-value : goal.invariant-loop-value
invariant-loop-value l = named l.text ≡ name_in (drop l.value ops) l.text
