-- What a step did with the stack, told by the instruction at pc and by whether it completed, not by sp.
use Rattle.std.specs.Prelude.{ℕ, ◌+◌, ◌%◌, Bool, true, false, cond, List, [], ◌∷◌, eqb, get_or}
use Rattle.op.specs.declared.operation.Op.{Op}
use Rattle.op.specs.Operations.{byte_of}
use Rattle.instruction.specs.Decode.{Decoding}
use Rattle.instruction.specs.Operands.{first_of, second_of}
use Rattle.turn.specs.Turn.{fetched}
use Rattle.nanocore.specs.declared.machine.Machine.{Machine}
use Rattle.nanocore.specs.Step.{Answered}
use Rattle.steps.specs.Trace.{completed}

pub data Event : Type 0 where
  -- a push or a call: it put this byte
  put : ℕ → Event
  -- a pop or a return: it received this byte
  took : ℕ → Event
  -- a STORE or an STR: it wrote at this address, whether or not the byte there changed
  stored : ℕ → Event
  other : Event

-- bytes tell the operations apart
abbrev is : Op → Op → Bool
is p o = eqb (byte_of o) (byte_of p)

-- by the operation and its operands, the machine before and the machine after
abbrev pub event_by : Op → ℕ → ℕ → Machine → Machine → Event
event_by o x y before after =
    -- "CALL and CALLR push pc+2"
    cond (is Op.PUSH o) (put (get_or before.registers x 0))
    (cond (is Op.CALL o) (put ((before.pc + 2) % 256))
    (cond (is Op.CALLR o) (put ((before.pc + 2) % 256))
    -- what a POP received is what its register then holds, what a RET received is what pc then is
    (cond (is Op.POP o) (took (get_or after.registers x 0))
    (cond (is Op.RET o) (took after.pc)
    -- "STORE, STR (d to memory at s)"
    (cond (is Op.STORE o) (stored y)
    (cond (is Op.STR o) (stored (get_or before.registers y 0))
    other))))))

-- a step that did not complete did nothing
abbrev pub event_if : Bool → Decoding → Machine → Machine → Event
event_if true (Decoding.instruction o a) before after = event_by o (first_of a) (second_of a) before after
event_if true (Decoding.refused f) before after = other
event_if false d before after = other

-- by the machine before, and what the step answered and left
abbrev pub event_of : Machine → Answered → Event
event_of m r = event_if (completed r.answer) (fetched m.memory m.pc) m r.after.machine

-- one for a push or a call; one for a pop or a return
abbrev pub puts : Event → ℕ
puts (put b) = 1
puts (took b) = 0
puts (stored a) = 0
puts other = 0

abbrev pub takes : Event → ℕ
takes (put b) = 0
takes (took b) = 1
takes (stored a) = 0
takes other = 0

-- the bytes put and not yet taken, the most recent first, whatever memory holds: from those before a step, those after it
abbrev pub unspent : Event → List ℕ → List ℕ
unspent (put b) bytes = b ∷ bytes
unspent (took b) [] = []
unspent (took b) (latest ∷ bytes) = bytes
unspent (stored a) bytes = bytes
unspent other bytes = bytes
