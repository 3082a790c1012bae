-- An instruction of a rule: where it stands, its bytes, and its plain spelling, what encode gives for what was decoded.
use Rattle.std.specs.Prelude.{ℕ, ◌+◌, Bool, cond, List, [], ◌∷◌, take}
use Rattle.instruction.specs.Encode.{encoded_of}
use Rattle.front.specs.declared.front.Front.{Front}
use Rattle.front.specs.declared.front.Front.TheVariants.{Whole, Alone}
use Rattle.front.specs.Front.{front_of, size_of}

pub record Found : Type 0 where
  pub address : ℕ
  pub bytes : List ℕ
  pub plainly : List ℕ
  pub is_plain : Bool

-- by what the bytes begin with: one instruction, or none where a byte stands alone
abbrev pub found_by : Front → ℕ → List ℕ → List Found
found_by (Whole i) address bytes =
    record {
      address = address;
      bytes = take (size_of (Whole i)) bytes;
      plainly = take (encoded_of i.op i.operands).length (encoded_of i.op i.operands).bytes;
      is_plain = i.plain;
    } ∷ []
found_by (Alone byte) address bytes = []

-- at an address, in the bytes from there on
abbrev pub found_at : ℕ → List ℕ → List Found
found_at address bytes = found_by (front_of bytes) address bytes

-- how many of them are in plain spelling
abbrev pub plain_in : List Found → ℕ
plain_in [] = 0
plain_in (f ∷ fs) = cond f.is_plain 1 0 + plain_in fs
