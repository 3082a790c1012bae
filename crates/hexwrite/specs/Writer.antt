-- "Our writer makes, rising, one record per unbroken run of set bytes, cut at addresses divisible by 16, in upper case with LF, then the type 01
-- record at address 0."
use Rattle.std.specs.Prelude.{ℕ, zero, suc, ◌+◌, ◌-◌, ◌%◌, cond, ◌&&◌, List, [], ◌∷◌, ◌++◌, eqb, length, take, drop}
use Rattle.fields.specs.Written.{Written, told, written}
use Rattle.hexline.specs.Line.{line_of}

-- how many bytes the run has that begins at an address, from the marks there: "0 clear, else set"
unfoldable pub run : ℕ → List ℕ → ℕ
run address [] = 0
run address (m ∷ ms) =
    cond (eqb m 0) 0 (suc (cond (eqb ((address + 1) % 16) 0) 0 (run (address + 1) ms)))

-- the record of a run of so many bytes; of none there is no record
abbrev pub run_line : ℕ → ℕ → List ℕ → List ℕ
run_line zero address bytes = []
run_line (suc n) address bytes = line_of 0 address (take (suc n) bytes)

-- the records from an address on; the first so many bytes belong to one that is there already
unfoldable pub records_from : ℕ → ℕ → List ℕ → List ℕ → List ℕ
records_from done address [] marks = []
records_from done address (b ∷ bs) [] = []
records_from (suc done) address (b ∷ bs) (m ∷ ms) = records_from done (address + 1) bs ms
records_from zero address (b ∷ bs) (m ∷ ms) =
    run_line (run address (m ∷ ms)) address (b ∷ bs) ++ records_from (run address (m ∷ ms) - 1) (address + 1) bs ms

-- what is left to write from a place on
abbrev pub rest : (image marks : List ℕ) → ℕ → List ℕ
rest image marks at = records_from 0 at (drop at image) (drop at marks)

unfoldable pub text_of : (image marks : List ℕ) → List ℕ
text_of image marks = records_from 0 0 image marks ++ line_of 1 0 []

-- "19: a lent image or its marks not 256 long"; "writer: 14"
unfoldable pub writing_of : (image marks buffer : List ℕ) → Written
writing_of image marks buffer =
    cond (eqb (length image) 256 && eqb (length marks) 256) (written (text_of image marks) buffer) (told (19 ∷ []) buffer)
