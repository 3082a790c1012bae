-- What an instruction comes to: the shapes of an effect, each with all its five parts, and the faults that may stand before it.
use Rattle.std.specs.Prelude.{ℕ, ◌+◌, ◌%◌, Bool, true, false, not, List, [], ◌∷◌, length, ◌==◌, nat_le, slice_index}
use Rattle.byte.specs.declared.Carried.{Carried}
use Rattle.byte.specs.Arithmetic.{wrapped_sub}
use Rattle.byte.specs.Flags.{zn, with_carry}
use Rattle.effect.specs.declared.moves.Core.{Core}
use Rattle.effect.specs.declared.Effect.{Effect}
use Rattle.effect.specs.declared.Write.{Write}
use Rattle.effect.specs.declared.Write.TheVariants.{Nothing, Register, Memory, Output}

-- the one or the other, by a test
abbrev pub pick : ℕ → ℕ → Bool → ℕ
pick a b true = a
pick a b false = b

-- "pc and sp wrap modulo 256"
abbrev pub ahead : Core → ℕ → ℕ
ahead c length = (c.pc + length) % 256

-- the same place, but for sp; but for the input's place
abbrev pub at_sp : Core → ℕ → Core
at_sp c s = record { pc = c.pc; sp = s; flags = c.flags; place = c.place }

abbrev pub at_place : Core → ℕ → Core
at_place c p = record { pc = c.pc; sp = c.sp; flags = c.flags; place = p }

-- pc goes on by the length, and all else stays
unfoldable pub kept : Core → ℕ → Write → Effect
kept c length w = record { write = w; pc = ahead c length; sp = c.sp; flags = c.flags; place = c.place }

-- "load, ZN, C kept"
unfoldable pub loaded : Core → ℕ → ℕ → ℕ → Effect
loaded c length r v =
    record { write = Register r v; pc = ahead c length; sp = c.sp; flags = zn c.flags v; place = c.place }

-- "low byte, ZN, C"
unfoldable pub flagged : Core → ℕ → Write → Carried → Effect
flagged c length w b =
    record {
      write = w;
      pc = ahead c length;
      sp = c.sp;
      flags = with_carry (zn c.flags b.value) b.carry;
      place = c.place;
    }

abbrev pub resulted : Core → ℕ → ℕ → Carried → Effect
resulted c length r b = flagged c length (Register r b.value) b

-- "flags of SUB, no register written"
abbrev pub compared : Core → ℕ → Carried → Effect
compared c length b = flagged c length Nothing b

unfoldable pub jumped : Core → ℕ → Effect
jumped c to = record { write = Nothing; pc = to; sp = c.sp; flags = c.flags; place = c.place }

-- "writes at sp, then sp-1"
unfoldable pub pushed : Core → ℕ → ℕ → Effect
pushed c v to =
    record { write = Memory c.sp v; pc = to; sp = wrapped_sub c.sp 1; flags = c.flags; place = c.place }

-- "POP raises sp, then reads", "RET pops into pc"
abbrev pub raised : Core → ℕ
raised c = (c.sp + 1) % 256

abbrev pub popped : Core → ℕ → ℕ → List ℕ → Effect
popped c length r memory = loaded (at_sp c (raised c)) length r (slice_index memory (raised c))

abbrev pub returned : Core → List ℕ → Effect
returned c memory = jumped (at_sp c (raised c)) (slice_index memory (raised c))

-- IN takes the byte at the input's place, and moves on
abbrev pub taken : Core → ℕ → ℕ → List ℕ → Effect
taken c length r input = loaded (at_place c (c.place + 1)) length r (slice_index input c.place)

-- JZ and JNZ: to the address where the jump is taken, else on to the next instruction
abbrev pub branched : Core → ℕ → ℕ → Bool → Effect
branched c length to jumps = jumped c (pick to (ahead c length) jumps)

-- What comes before the effect: nothing; HLT halts in its place; or the instruction's own fault, with its number and values, where the test holds.
pub data Before : Type 0 where
  nothing : Before
  halts : Before
  fault : Bool → List ℕ → Before

-- "4 stack full: PUSH, CALL, CALLR at sp 0xEA", "5 stack empty: POP, RET at sp 0xFF", each with sp
abbrev pub full : Core → Before
full c = fault (c.sp == 0xea) (4 ∷ c.sp ∷ [])

abbrev pub empty : Core → Before
empty c = fault (c.sp == 0xff) (5 ∷ c.sp ∷ [])

-- "6 divisor 0", with the opcode
abbrev pub zero_divisor : ℕ → ℕ → Before
zero_divisor opcode d = fault (d == 0) (6 ∷ opcode ∷ [])

-- "7 IN, none left", "8 PRINT, no room left"
abbrev pub dry : Core → List ℕ → Before
dry c input = fault (nat_le (length input) c.place) (7 ∷ [])

abbrev pub crowded : Bool → Before
crowded room = fault (not room) (8 ∷ [])

-- how an instruction ends: with its effect, halted, or refused with a number and values
pub data Fate : Type 0 where
  done : Effect → Fate
  halt : Fate
  refused : List ℕ → Fate

abbrev pub fate_by : Before → Effect → Fate
fate_by nothing e = done e
fate_by halts e = halt
fate_by (fault true f) e = refused f
fate_by (fault false f) e = done e

-- whether an effect gives an output byte
abbrev pub prints : Write → Bool
prints Nothing = false
prints (Register r v) = false
prints (Memory a v) = false
prints (Output v) = true
