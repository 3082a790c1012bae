-- "Cases to prove together, as one table": K1 to K13, each as a start, what is done, and what is then so. A row says what its case says and no more.
use Rattle.std.specs.Prelude.{ℕ, Bool, true, ◌&&◌, List, [], ◌∷◌, ◌++◌, length, get_or, take, drop, set}
use Prim.Native.String.{String}
use Rattle.text.specs.Text.{codes, line_end}
use Rattle.names.specs.Names.{same_text}
use Rattle.table.specs.declared.labels.Labels.{Labels}
use Rattle.labels.specs.Pass.{mapping_of}
use Rattle.nanocore.specs.declared.machine.Machine.{Machine}
use Rattle.nanocore.specs.Load.{laid, load_of}
use Rattle.nanocore.specs.Machine.{fresh}
use Rattle.nanocore.specs.Run.{run_of}
use Rattle.nanocore.specs.Step.{Situation, situated, step_of}

-- a part of a machine with what it holds: a start sets it, and afterwards it is tested
pub data Part : Type 0 where
  register : ℕ → ℕ → Part
  bytes : ℕ → List ℕ → Part
  pc : ℕ → Part
  sp : ℕ → Part
  flags : ℕ → Part
  count : ℕ → Part
  limit : ℕ → Part

-- what is done; a load is of these bytes, from this address on, and a source of these lines is mapped
pub data Deed : Type 0 where
  step : Deed
  run : Deed
  load : List ℕ → ℕ → Deed
  map : List String → Deed

-- the paper's number and values, or the labels' addresses, where the case tells them
pub data Answer : Type 0 where
  untold : Answer
  gives : List ℕ → Answer

-- the start is a fresh machine but for its parts
pub record Row : Type 0 where
  pub start : List Part
  pub deed : Deed
  pub answer : Answer
  pub after : List Part

abbrev row : List Part → Deed → Answer → List Part → Row
row start deed answer after = record { start = start; deed = deed; answer = answer; after = after }

abbrev pub rows : List Row
rows =
    -- K1 Fresh: run gives 1, count 0, pc 0.
    row [] run (gives (1 ∷ [])) (count 0 ∷ pc 0 ∷ []) ∷
    -- K2 02 00 FF 0A 00 01 00: R0 0, flags 3, count 2, pc 6.
    row (bytes 0 (0x02 ∷ 0x00 ∷ 0xff ∷ 0x0a ∷ 0x00 ∷ 0x01 ∷ 0x00 ∷ []) ∷ []) run untold (register 0 0 ∷ flags 3 ∷ count 2 ∷ pc 6 ∷ []) ∷
    -- K3 02 00 FF 0D 00 00: R0 0, flags 1, pc 5.
    row (bytes 0 (0x02 ∷ 0x00 ∷ 0xff ∷ 0x0d ∷ 0x00 ∷ 0x00 ∷ []) ∷ []) run untold (register 0 0 ∷ flags 1 ∷ pc 5 ∷ []) ∷
    -- K4 PUSH at sp 0xEB completes; at 0xEA gives 4.
    row (bytes 0 (0x07 ∷ 0x00 ∷ []) ∷ sp 0xeb ∷ []) step (gives (0 ∷ [])) [] ∷
    row (bytes 0 (0x07 ∷ 0x00 ∷ []) ∷ sp 0xea ∷ []) step (gives (4 ∷ 0xea ∷ [])) [] ∷
    -- K5 RET at sp 0xFF gives 5; at 0xFE pc is memory[0xFF].
    row (bytes 0 (0x21 ∷ []) ∷ sp 0xff ∷ []) step (gives (5 ∷ 0xff ∷ [])) [] ∷
    row (bytes 0 (0x21 ∷ []) ∷ sp 0xfe ∷ bytes 0xff (0x42 ∷ []) ∷ []) step untold (pc 0x42 ∷ []) ∷
    -- K6 Load at 0xFF: one byte 0, two bytes 11; no bytes: 0.
    row [] (load (0x01 ∷ []) 0xff) (gives (0 ∷ [])) [] ∷
    row [] (load (0x01 ∷ 0x02 ∷ []) 0xff) (gives (11 ∷ 2 ∷ 0xff ∷ [])) [] ∷
    row [] (load [] 0xff) (gives (0 ∷ [])) [] ∷
    -- K7 27 12 puts R1 at [R2]; 28 gives 3.
    row (bytes 0 (0x27 ∷ 0x12 ∷ []) ∷ register 1 0x5a ∷ register 2 0x80 ∷ []) step untold (bytes 0x80 (0x5a ∷ []) ∷ []) ∷
    row (bytes 0 (0x28 ∷ []) ∷ []) step (gives (3 ∷ 0x28 ∷ 0 ∷ [])) [] ∷
    -- K8 16 00, limit 4: 10, count 4; limit 0: 10, count 0.
    row (bytes 0 (0x16 ∷ 0x00 ∷ []) ∷ limit 4 ∷ []) run (gives (10 ∷ 4 ∷ [])) (count 4 ∷ []) ∷
    row (bytes 0 (0x16 ∷ 0x00 ∷ []) ∷ limit 0 ∷ []) run (gives (10 ∷ 0 ∷ [])) (count 0 ∷ []) ∷
    -- K9 CMP of 3 and 5: flags 6.
    row (bytes 0 (0x13 ∷ 0x12 ∷ []) ∷ register 1 3 ∷ register 2 5 ∷ []) step untold (flags 6 ∷ []) ∷
    -- K10 pc 0xFF: bytes 02 at 0xFF, 13 at 0, 07 at 1: R3 7, pc 2.
    row (pc 0xff ∷ bytes 0xff (0x02 ∷ []) ∷ bytes 0 (0x13 ∷ 0x07 ∷ []) ∷ []) step untold (register 3 7 ∷ pc 2 ∷ []) ∷
    -- K11 ROR of 0x01: 0x80, flags 6.
    row (bytes 0 (0x23 ∷ 0x01 ∷ []) ∷ register 1 0x01 ∷ []) step untold (register 1 0x80 ∷ flags 6 ∷ []) ∷
    -- K12 At count 1023: HLT gives 1; NOP then HLT gives 10.
    row (bytes 0 (0x00 ∷ []) ∷ count 1023 ∷ []) run (gives (1 ∷ [])) [] ∷
    row (bytes 0 (0x01 ∷ 0x00 ∷ []) ∷ count 1023 ∷ []) run (gives (10 ∷ 1024 ∷ [])) [] ∷
    -- K13 `A:`, `LDI R0 1`, `B:`, `.DB 1 2 3`, `C:` give 0, 3, 6.
    row [] (map ("A:" ∷ "LDI R0 1" ∷ "B:" ∷ ".DB 1 2 3" ∷ "C:" ∷ [])) (gives (0 ∷ 3 ∷ 6 ∷ [])) [] ∷
    []

abbrev machine : List ℕ → List ℕ → ℕ → ℕ → ℕ → Bool → ℕ → ℕ → Machine
machine rs ms p s f h n l =
    record { registers = rs; memory = ms; pc = p; sp = s; flags = f; halted = h; count = n; limit = l }

abbrev pub put : Part → Machine → Machine
put (register r v) m = machine (set m.registers r v) m.memory m.pc m.sp m.flags m.halted m.count m.limit
put (bytes a vs) m = machine m.registers (laid m.memory a vs) m.pc m.sp m.flags m.halted m.count m.limit
put (pc v) m = machine m.registers m.memory v m.sp m.flags m.halted m.count m.limit
put (sp v) m = machine m.registers m.memory m.pc v m.flags m.halted m.count m.limit
put (flags v) m = machine m.registers m.memory m.pc m.sp v m.halted m.count m.limit
put (count v) m = machine m.registers m.memory m.pc m.sp m.flags m.halted v m.limit
put (limit v) m = machine m.registers m.memory m.pc m.sp m.flags m.halted m.count v

abbrev pub started : List Part → Machine
started [] = fresh
started (p ∷ ps) = put p (started ps)

-- what a part says, and what a machine holds there
abbrev pub said : Part → List ℕ
said (register r v) = v ∷ []
said (bytes a vs) = vs
said (pc v) = v ∷ []
said (sp v) = v ∷ []
said (flags v) = v ∷ []
said (count v) = v ∷ []
said (limit v) = v ∷ []

abbrev pub held : Part → Machine → List ℕ
held (register r v) m = get_or m.registers r 0 ∷ []
held (bytes a vs) m = take (length vs) (drop a m.memory)
held (pc v) m = m.pc ∷ []
held (sp v) m = m.sp ∷ []
held (flags v) m = m.flags ∷ []
held (count v) m = m.count ∷ []
held (limit v) m = m.limit ∷ []

-- no case reads input or prints
abbrev alone : Machine → Situation
alone m = situated m 0 [] 0

abbrev source_of : List String → List ℕ
source_of [] = []
source_of (line ∷ lines) = codes line ++ line_end ++ source_of lines

-- in the table's order; a refused source has none
abbrev addresses_of : Labels → List ℕ
addresses_of t = take t.count t.addresses

-- the answer of what is done with a machine, and the machine that it leaves
abbrev pub answer_of : Deed → Machine → List ℕ
answer_of step m = (step_of [] (alone m)).answer
answer_of run m = (run_of [] (alone m)).answer
answer_of (load vs a) m = (load_of m vs a).answer
answer_of (map lines) m = addresses_of (mapping_of (source_of lines)).labels

abbrev pub machine_of : Deed → Machine → Machine
machine_of step m = (step_of [] (alone m)).after.machine
machine_of run m = (run_of [] (alone m)).after.machine
machine_of (load vs a) m = (load_of m vs a).machine
machine_of (map lines) m = m

-- the test of a row
abbrev pub every : {A : Type 0} → (A → Bool) → List A → Bool
every f [] = true
every f (x ∷ xs) = f x && every f xs

abbrev pub fits : Answer → List ℕ → Bool
fits untold number = true
fits (gives n) number = same_text number n

abbrev pub holds : Row → Bool
holds r =
    fits r.answer (answer_of r.deed (started r.start))
    && every (λ p. same_text (held p (machine_of r.deed (started r.start))) (said p)) r.after
