-- Laws that the crates above cite: what encode gives is decoded to the same instruction; what decode gives has its operation's form,
-- and encode takes it; an answer's number and values tell the answer.
use mathlib.Core.Path.{◌≡◌, refl, sym, ◌∙◌, ap}
use mathlib.Core.Bool.{Bool, true, false, cond, and-eq-true_iff}
use mathlib.Core.List.{List, [], ◌∷◌}
use Prim.Native.Nat.{ℕ, ◌+◌, ◌*◌, ◌/◌, ◌%◌, ◌<◌}
use native.Mathlib.Omega.{arith}
use borrow.Author.Tests.{eqb-true, eq-eqb, leb-true, le-leb}
use lib.Dec.{leb}
use lib.ListN.{get_or}
use Rattle.byte.proofs.Inverse.{undone}
use Rattle.op.specs.declared.form.Form.{Form}
use Rattle.op.specs.declared.operation.Op.{Op}
use Rattle.std.specs.Prelude.{Option, Some, Result, Ok, Err}
use Rattle.op.specs.Operations.{decoded, form_of}
use Rattle.op.proofs.Laws.{decoded_byte}
use Rattle.instruction.specs.declared.operands.Operands.{Operands}
use Rattle.instruction.specs.declared.operands.Operands.TheVariants.{None, Reg, RegImm, RegReg, RegAddr, Addr}
use Rattle.instruction.specs.declared.decode.Instruction.{Instruction}
use Rattle.instruction.specs.declared.decode.InvalidOpcode.{InvalidOpcode}
use Rattle.instruction.specs.declared.encode.Encoded.{Encoded}
use Rattle.instruction.specs.declared.encode.EncodeRefusal.{EncodeRefusal}
use Rattle.instruction.specs.declared.encode.EncodeRefusal.TheVariants.{OtherForm, NoSuchRegister}
use Rattle.instruction.specs.Operands.{operands_of}
use Rattle.instruction.specs.Decode.{Decoding, instruction, decoding_of, decoded_of}
use Rattle.instruction.specs.Encode.{
  shape_of,
  form_number,
  same_form,
  registers_exist,
  two_of,
  three_of,
  Encoding,
  no_bytes,
  three_bytes,
  encoded_of,
}
use Rattle.instruction.specs.Numbers.{decoding, spelling, encode_number, encoding}

abbrev form_at : ℕ → Form
form_at n = get_or (Form.None ∷ Form.RegImm ∷ Form.RegAddr ∷ Form.Reg ∷ Form.RegReg ∷ Form.Addr ∷ []) n Form.None

form_at_number : (f : Form) → form_at (form_number f) ≡ f
form_at_number Form.None = refl
form_at_number Form.Reg = refl
form_at_number Form.RegImm = refl
form_at_number Form.RegReg = refl
form_at_number Form.RegAddr = refl
form_at_number Form.Addr = refl

same_form_lem : (f g : Form) → same_form f g ≡ true → f ≡ g
same_form_lem f g e = undone form_number form_at form_at_number f g (eqb-true (form_number f) (form_number g) e)

-- encode takes an instruction exactly where both tests hold
chosen :
    (form registers : Bool) (x : Encoding) →
    (cond form (cond registers x (no_bytes (13 ∷ []))) (no_bytes (12 ∷ []))).answer ≡ 0 ∷ [] → (form ≡ true) × (registers ≡ true)
chosen true true x e = (refl, refl)
chosen true false x e = (refl, cc)
chosen false registers x e = (cc, cc)

pub accepted : (o : Op) (a : Operands) → (encoded_of o a).answer ≡ 0 ∷ [] → (shape_of a ≡ form_of o) × (registers_exist a ≡ true)
unfolding encoded_of
accepted o a e =
    let tests = chosen (same_form (shape_of a) (form_of o)) (registers_exist a) (three_bytes o a) e in
    (same_form_lem (shape_of a) (form_of o) tests.0, tests.1)

pub accepts : (o : Op) (a : Operands) → shape_of a ≡ form_of o → registers_exist a ≡ true → encoded_of o a ≡ three_bytes o a
unfolding encoded_of
accepts o a e h = rw (eq-eqb (form_number (shape_of a)) (form_number (form_of o)) (ap form_number e), h)

-- operands whose registers exist are read back from their bytes
read_back : (a : Operands) → registers_exist a ≡ true → operands_of (shape_of a) (two_of a) (three_of a) ≡ a
read_back None h = refl
read_back (Reg r) h = let low = leb-true r 15 h in ap Reg (omega arith)
read_back (RegImm r v) h = let low = leb-true r 15 h in ap (λ r. RegImm r v) (omega arith)
read_back (RegReg d s) h =
    let low = (and-eq-true_iff (leb d 15) (leb s 15)).0 h in
    let d-low = leb-true d 15 low.0 in
    let s-low = leb-true s 15 low.1 in
    let high : (d % 16 * 16 + s % 16) / 16 ≡ d = omega arith in
    let rest : (d % 16 * 16 + s % 16) % 16 ≡ s = omega arith in
    cc
read_back (RegAddr r a) h = let low = leb-true r 15 h in ap (λ r. RegAddr r a) (omega arith)
read_back (Addr a) h = refl

-- three bytes as encode gives them, decoded
abbrev pub decoded_bytes : List ℕ → Decoding
decoded_bytes bytes = decoded_of (get_or bytes 0 0) (get_or bytes 1 0) (get_or bytes 2 0)

-- "Decoding gives the same back"
pub decoded_encoded :
    (o : Op) (a : Operands) → (encoded_of o a).answer ≡ 0 ∷ [] → decoded_bytes (encoded_of o a).bytes ≡ instruction o a
unfolding decoded_of
decoded_encoded o a e =
    let tests = accepted o a e in
    rw (accepts o a tests.0 tests.1, decoded_byte o, ← tests.0, read_back a tests.1)

-- operands read by a form have that form, and from a byte no register above 15
pub shape_read : (f : Form) (two three : ℕ) → shape_of (operands_of f two three) ≡ f
shape_read Form.None two three = refl
shape_read Form.Reg two three = refl
shape_read Form.RegImm two three = refl
shape_read Form.RegReg two three = refl
shape_read Form.RegAddr two three = refl
shape_read Form.Addr two three = refl

pub registers_read : (f : Form) (two three : ℕ) → two < 256 → registers_exist (operands_of f two three) ≡ true
registers_read Form.None two three h = refl
registers_read Form.Reg two three h = le-leb (two % 16) 15 (omega arith)
registers_read Form.RegImm two three h = le-leb (two % 16) 15 (omega arith)
registers_read Form.RegReg two three h =
    rw (le-leb (two / 16) 15 (omega arith)) (le-leb (two % 16) 15 (omega arith))
registers_read Form.RegAddr two three h = le-leb (two % 16) 15 (omega arith)
registers_read Form.Addr two three h = refl

read_from_lem :
    (l : Option Op) (one two three : ℕ) (o : Op) (a : Operands) → decoding_of l one two three ≡ instruction o a →
    operands_of (form_of o) two three ≡ a
read_from_lem (Some p) one two three o a e = cc
read_from_lem Option.None one two three o a e = cc

module _ (one two three : ℕ) (o : Op) (a : Operands) (e : decoded_of one two three ≡ instruction o a) where
  -- decoded operands were read by the operation's form
  pub read : operands_of (form_of o) two three ≡ a
  unfolding decoded_of
  read = read_from_lem (decoded one) one two three o a e

  -- no decoded instruction has operands of another form: the Rust's InvalidOperand is never reached
  pub decoded_form : shape_of a ≡ form_of o
  decoded_form = rw (← read) (shape_read (form_of o) two three)

  -- encode takes what was decoded from bytes
  pub encoded_decoded : two < 256 → (encoded_of o a).answer ≡ 0 ∷ []
  encoded_decoded h = rw (accepts o a decoded_form (rw (← read) (registers_read (form_of o) two three h)))

-- equal numbers and values, and the same said of the spelling: equal answers
pub decoding_injective : (r s : Result Instruction InvalidOpcode) → decoding r ≡ decoding s → spelling r ≡ spelling s → r ≡ s
decoding_injective (Ok i) (Ok j) e f =
    let op : i.op ≡ j.op = cc in
    let operands : i.operands ≡ j.operands = cc in
    let plain : i.plain ≡ j.plain = cc in
    ap Ok
    (ap (λ o. record { op = o; operands = i.operands; plain = i.plain }) op
    ∙ ap (λ a. record { op = j.op; operands = a; plain = i.plain }) operands
    ∙ ap (λ p. record { op = j.op; operands = j.operands; plain = p }) plain)
decoding_injective (Ok i) (Err d) e f = cc
decoding_injective (Err c) (Ok j) e f = cc
decoding_injective (Err c) (Err d) e f =
    let opcode : c.opcode ≡ d.opcode = cc in
    ap (λ b. Err (record { opcode = b })) opcode

pub encode_number_injective : (r s : EncodeRefusal) → encode_number r ≡ encode_number s → r ≡ s
encode_number_injective OtherForm OtherForm e = refl
encode_number_injective OtherForm NoSuchRegister e = cc
encode_number_injective NoSuchRegister OtherForm e = cc
encode_number_injective NoSuchRegister NoSuchRegister e = refl

-- no refusal has the number of what was done
not_done : (f : EncodeRefusal) → encode_number f ≡ 0 ∷ [] → ⊥
not_done OtherForm e = cc
not_done NoSuchRegister e = cc

pub encoding_injective : (r s : Result Encoded EncodeRefusal) → encoding r ≡ encoding s → r ≡ s
encoding_injective (Ok a) (Ok b) e = ap (λ x. Ok (record { bytes = x.bytes; length = x.length })) e
encoding_injective (Ok a) (Err f) e = absurd (not_done f (ap (λ x. x.answer) (sym e)))
encoding_injective (Err f) (Ok b) e = absurd (not_done f (ap (λ x. x.answer) e))
encoding_injective (Err f) (Err g) e = ap Err (encode_number_injective f g (ap (λ x. x.answer) e))
