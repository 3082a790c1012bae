-- Laws of the forty operations that the crates above cite: what holds of each of the forty holds of every operation; bytes and
-- operations determine each other.
use mathlib.Core.Path.{◌≡◌, refl, ap}
use mathlib.Core.List.{List, [], ◌∷◌, map}
use Prim.Native.Nat.{ℕ, zero, suc, ◌+◌, ◌<◌, ◌≤◌}
use native.Mathlib.Omega.{arith}
use native.Mathlib.Nat.{le_of_suc-le-suc, not-suc-le-zero}
use borrow.Author.Tests.{ltb-true}
use lib.Dec.{ltb}
use mathlib.Core.Bool.{true}
use Rattle.std.specs.Prelude.{Some, None}
use lib.ListN.{length, get_or, drop}
use Rattle.op.specs.declared.form.Form.{Form}
use Rattle.op.specs.declared.operation.Op.{Op}
use Rattle.op.specs.Operations.{ops, op_at, decoded, byte_of, length_of}

-- a family at each operation of a list
abbrev pub All : (Op → Type 0) → List Op → Type 0
All P [] = Unit {0}
All P (o ∷ os) = P o × All P os

-- one after the other, as a table reads
infixr 20 ◌&◌
abbrev pub ◌&◌ : {A B : Type 0} → A → B → A × B
p & ps = (p, ps)

pub each : (P : Op → Type 0) → All P ops → (o : Op) → P o
each P a Op.HLT = a.0
each P a Op.NOP = a.1.0
each P a Op.LDI = a.1.1.0
each P a Op.LDA = a.1.1.1.0
each P a Op.LDR = a.1.1.1.1.0
each P a Op.MOV = a.1.1.1.1.1.0
each P a Op.STORE = a.1.1.1.1.1.1.0
each P a Op.PUSH = a.1.1.1.1.1.1.1.0
each P a Op.POP = a.1.1.1.1.1.1.1.1.0
each P a Op.ADD = a.1.1.1.1.1.1.1.1.1.0
each P a Op.ADDI = a.1.1.1.1.1.1.1.1.1.1.0
each P a Op.SUB = a.1.1.1.1.1.1.1.1.1.1.1.0
each P a Op.SUBI = a.1.1.1.1.1.1.1.1.1.1.1.1.0
each P a Op.INC = a.1.1.1.1.1.1.1.1.1.1.1.1.1.0
each P a Op.DEC = a.1.1.1.1.1.1.1.1.1.1.1.1.1.1.0
each P a Op.AND = a.1.1.1.1.1.1.1.1.1.1.1.1.1.1.1.0
each P a Op.OR = a.1.1.1.1.1.1.1.1.1.1.1.1.1.1.1.1.0
each P a Op.XOR = a.1.1.1.1.1.1.1.1.1.1.1.1.1.1.1.1.1.0
each P a Op.NOT = a.1.1.1.1.1.1.1.1.1.1.1.1.1.1.1.1.1.1.0
each P a Op.CMP = a.1.1.1.1.1.1.1.1.1.1.1.1.1.1.1.1.1.1.1.0
each P a Op.SHL = a.1.1.1.1.1.1.1.1.1.1.1.1.1.1.1.1.1.1.1.1.0
each P a Op.SHR = a.1.1.1.1.1.1.1.1.1.1.1.1.1.1.1.1.1.1.1.1.1.0
each P a Op.JMP = a.1.1.1.1.1.1.1.1.1.1.1.1.1.1.1.1.1.1.1.1.1.1.0
each P a Op.JZ = a.1.1.1.1.1.1.1.1.1.1.1.1.1.1.1.1.1.1.1.1.1.1.1.0
each P a Op.JNZ = a.1.1.1.1.1.1.1.1.1.1.1.1.1.1.1.1.1.1.1.1.1.1.1.1.0
each P a Op.PRINT = a.1.1.1.1.1.1.1.1.1.1.1.1.1.1.1.1.1.1.1.1.1.1.1.1.1.0
each P a Op.MUL = a.1.1.1.1.1.1.1.1.1.1.1.1.1.1.1.1.1.1.1.1.1.1.1.1.1.1.0
each P a Op.MULI = a.1.1.1.1.1.1.1.1.1.1.1.1.1.1.1.1.1.1.1.1.1.1.1.1.1.1.1.0
each P a Op.DIV = a.1.1.1.1.1.1.1.1.1.1.1.1.1.1.1.1.1.1.1.1.1.1.1.1.1.1.1.1.0
each P a Op.DIVI = a.1.1.1.1.1.1.1.1.1.1.1.1.1.1.1.1.1.1.1.1.1.1.1.1.1.1.1.1.1.0
each P a Op.MOD = a.1.1.1.1.1.1.1.1.1.1.1.1.1.1.1.1.1.1.1.1.1.1.1.1.1.1.1.1.1.1.0
each P a Op.MODI = a.1.1.1.1.1.1.1.1.1.1.1.1.1.1.1.1.1.1.1.1.1.1.1.1.1.1.1.1.1.1.1.0
each P a Op.CALL = a.1.1.1.1.1.1.1.1.1.1.1.1.1.1.1.1.1.1.1.1.1.1.1.1.1.1.1.1.1.1.1.1.0
each P a Op.RET = a.1.1.1.1.1.1.1.1.1.1.1.1.1.1.1.1.1.1.1.1.1.1.1.1.1.1.1.1.1.1.1.1.1.0
each P a Op.ROL = a.1.1.1.1.1.1.1.1.1.1.1.1.1.1.1.1.1.1.1.1.1.1.1.1.1.1.1.1.1.1.1.1.1.1.0
each P a Op.ROR = a.1.1.1.1.1.1.1.1.1.1.1.1.1.1.1.1.1.1.1.1.1.1.1.1.1.1.1.1.1.1.1.1.1.1.1.0
each P a Op.IN = a.1.1.1.1.1.1.1.1.1.1.1.1.1.1.1.1.1.1.1.1.1.1.1.1.1.1.1.1.1.1.1.1.1.1.1.1.0
each P a Op.JMPR = a.1.1.1.1.1.1.1.1.1.1.1.1.1.1.1.1.1.1.1.1.1.1.1.1.1.1.1.1.1.1.1.1.1.1.1.1.1.0
each P a Op.CALLR = a.1.1.1.1.1.1.1.1.1.1.1.1.1.1.1.1.1.1.1.1.1.1.1.1.1.1.1.1.1.1.1.1.1.1.1.1.1.1.0
each P a Op.STR = a.1.1.1.1.1.1.1.1.1.1.1.1.1.1.1.1.1.1.1.1.1.1.1.1.1.1.1.1.1.1.1.1.1.1.1.1.1.1.1.0

-- two functions that give one list over the forty agree at every operation: the checker computes both lists
all_agree : {A : Type 0} (f g : Op → A) (os : List Op) → map f os ≡ map g os → All (λ o. f o ≡ g o) os
all_agree f g [] e = tt
all_agree f g (o ∷ os) e = (ap (λ l. get_or l 0 (f o)) e, all_agree f g os (ap (drop 1) e))

pub agree : {A : Type 0} (f g : Op → A) → map f ops ≡ map g ops → (o : Op) → f o ≡ g o
agree f g e = each (λ o. f o ≡ g o) (all_agree f g ops e)

-- no operation at a byte from the list's length on
pub past : (os : List Op) (b : ℕ) → length os ≤ b → None ≡ op_at os b
past [] b h = refl
past (o ∷ os) zero h = absurd (not-suc-le-zero h)
past (o ∷ os) (suc b) h = past os b (le_of_suc-le-suc h)

-- decoding the byte of an operation gives the operation, and its byte is below 40
pub decoded_byte : (o : Op) → decoded (byte_of o) ≡ Some o
decoded_byte = agree (λ o. decoded (byte_of o)) Some refl

pub byte_below : (o : Op) → byte_of o < 40
byte_below o = ltb-true (byte_of o) 40 (agree (λ o. ltb (byte_of o) 40) (λ o. true) refl o)

-- an operation is found at its own byte: the forty stand in order of their bytes, which the checker computes
abbrev numbers : ℕ → List Op → List ℕ
numbers n [] = []
numbers n (o ∷ os) = n ∷ numbers (suc n) os

in_order : (os : List Op) (n b : ℕ) (o : Op) → map byte_of os ≡ numbers n os → op_at os b ≡ Some o → byte_of o ≡ n + b
in_order [] n b o e h = cc
in_order (p ∷ os) n zero o e h =
    let first : byte_of p ≡ n = ap (λ l. get_or l 0 n) e in
    let same : p ≡ o = cc in
    omega (arith, first, ap byte_of same)
in_order (p ∷ os) n (suc b) o e h = omega (arith, in_order os (suc n) b o (ap (drop 1) e) h)

pub byte_decoded : (b : ℕ) (o : Op) → decoded b ≡ Some o → byte_of o ≡ b
byte_decoded b o h = omega (arith, in_order ops 0 b o refl h)

-- bytes tell the operations apart
pub byte_injective : (o p : Op) → byte_of o ≡ byte_of p → o ≡ p
byte_injective o p e = cc (decoded_byte o, decoded_byte p, ap decoded e)

-- an instruction has one byte at least, and three at most
pub length_within : (f : Form) → (1 ≤ length_of f) × (length_of f ≤ 3)
length_within Form.None = (omega arith, omega arith)
length_within Form.Reg = (omega arith, omega arith)
length_within Form.RegImm = (omega arith, omega arith)
length_within Form.RegReg = (omega arith, omega arith)
length_within Form.RegAddr = (omega arith, omega arith)
length_within Form.Addr = (omega arith, omega arith)

-- Laws that stand for themselves: a number that is none of those below n is n or more.
abbrev NoneBelow : ℕ → ℕ → Type 0
NoneBelow zero x = Unit {0}
NoneBelow (suc n) x = NoneBelow n x × (x ≡ n → ⊥)

pub none_below : (n x : ℕ) → NoneBelow n x → n ≤ x
none_below zero x h = omega arith
none_below (suc n) x h = omega (arith, none_below n x h.0)
