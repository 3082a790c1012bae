-- What a line of Intel HEX is. The public format: `:`, then the bytes of a record, two digits each: how many data bytes there are; the address, the
-- high byte first; the type; the data; the checksum.
use Rattle.std.specs.Prelude.{ℕ, ◌+◌, ◌-◌, ◌*◌, Bool, cond, not, ◌&&◌, List, [], ◌∷◌, length, take, drop, ◌==◌, nat_lt, slice_index}
use Rattle.hexline.specs.Spelling.{Spelling, spells, nothing, spelled}
use Rattle.hexline.specs.Sum.{sums_to0}

-- data from an address on, the end, or the number of a refusal
pub data Row : Type 0 where
  fills : ℕ → List ℕ → Row
  ends : Row
  refused : ℕ → Row

-- the parts of a record
abbrev pub count_of : List ℕ → ℕ
count_of bytes = slice_index bytes 0

abbrev pub address_of : List ℕ → ℕ
address_of bytes = slice_index bytes 1 * 256 + slice_index bytes 2

abbrev pub type_of : List ℕ → ℕ
type_of bytes = slice_index bytes 3

abbrev pub data_of : List ℕ → List ℕ
data_of bytes = take (count_of bytes) (drop 4 bytes)

-- "20 shape (data in type 01 too; any address there)": as many data bytes as it says, beside five others, and none in type 01
abbrev pub shaped : List ℕ → Bool
shaped bytes = length bytes == count_of bytes + 5 && not (type_of bytes == 1 && nat_lt 0 (count_of bytes))

-- "22 other type"
abbrev pub typed : List ℕ → Row
typed bytes = cond (type_of bytes == 0) (fills (address_of bytes) (data_of bytes)) (cond (type_of bytes == 1) ends (refused 22))

-- "in this order: 20 shape .., 21 checksum, 22 other type"
unfoldable pub row_by : List ℕ → Row
row_by bytes = cond (shaped bytes) (cond (sums_to0 bytes) (typed bytes) (refused 21)) (refused 20)

abbrev pub row_spelled : Spelling → Row
row_spelled (spells bs) = row_by bs
row_spelled nothing = refused 20

-- "Each line ends in LF or CR LF": CR, 0x0D, may be the last byte before LF (decision H7)
abbrev pub without_return : List ℕ → List ℕ
without_return line = cond (slice_index line (length line - 1) == 0x0d) (take (length line - 1) line) line

-- `:` is 0x3A
abbrev pub row_after : List ℕ → Row
row_after [] = refused 20
row_after (c ∷ cs) = cond (c == 0x3a) (row_spelled (spelled cs)) (refused 20)

-- a line, without its LF
unfoldable pub row_of : List ℕ → Row
row_of line = row_after (without_return line)
