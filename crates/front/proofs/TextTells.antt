-- A text determines its lines, by their ends; the lines determine the program, since each determines the bytes that it stands for.
use mathlib.Core.Path.{◌≡◌, refl, sym, ◌∙◌, ap}
use mathlib.Core.List.{List, [], ◌∷◌, ◌++◌}
use Prim.Native.Nat.{ℕ, zero, suc, ◌+◌, ◌<◌}
use native.Mathlib.Omega.{arith}
use lib.ListN.{length, get_or, drop, length-drop, take-append-drop}
use lib.Seq.{length-take-le}
use Rattle.fields.specs.Bytes.{Bytes}
use Rattle.fields.proofs.BytesLaws.{bytes_drop}
use Rattle.front.specs.Front.{front_of, size_of}
use Rattle.front.specs.Line.{line_at}
use Rattle.front.specs.Listed.{lines_of, listed}
use Rattle.front.specs.Tells.{ListingTellsProgram, TextTellsLines, stands_for}
use Rattle.front.specs.Walk.{walked}
use Rattle.front.proofs.FrontLaws.{size_within}
use Rattle.front.proofs.LineTells.{line_some, line_tells_bytes, line_told}
use Rattle.front.proofs.WalkLaws.{walk_first}

-- at bytes there is a line, for so many of them, and the others are fewer
module _ (b : ℕ) (bs : List ℕ) where
  abbrev bytes : List ℕ
  bytes = b ∷ bs

  abbrev size : ℕ
  size = size_of (front_of bytes)

  abbrev behind : List ℕ
  behind = drop size bytes

  some : 0 < length bytes
  some = omega arith

  fewer : (k : ℕ) → length bytes < suc k → length behind < k
  fewer k few = omega (arith, (size_within bytes some).0, length-drop size bytes)

  text_first : (a : ℕ) → listed bytes a ≡ line_at a bytes ++ listed behind (a + size)
  text_first a = walk_first line_at a bytes some

  lines_first : (a : ℕ) → lines_of bytes a ≡ line_at a bytes ∷ lines_of behind (a + size)
  lines_first a = walk_first (λ a bytes. line_at a bytes ∷ []) a bytes some

  stands_long : length (stands_for bytes) ≡ size
  stands_long = length-take-le size bytes (size_within bytes some).1

-- of programs with fewer bytes than k: their texts tell their lines
abbrev TextTold : ℕ → Type 0
TextTold k = (p q : List ℕ) (a b : ℕ) → length p < k → listed p a ≡ listed q b → lines_of p a ≡ lines_of q b

text_next : (k : ℕ) → TextTold k → TextTold (suc k)
unfolding walked
text_next k told [] [] a b few e = refl
text_next k told [] (d ∷ q) a b few e = absurd (line_some b (d ∷ q) _ (e ∙ text_first d q b))
text_next k told (c ∷ p) [] a b few e = absurd (line_some a (c ∷ p) _ (sym e ∙ text_first c p a))
text_next k told (c ∷ p) (d ∷ q) a b few e =
    let parts = line_told a b (c ∷ p) (d ∷ q) (some c p) (some d q) _ _ (sym (text_first c p a) ∙ e ∙ text_first d q b) in
    let rest = told (behind c p) (behind d q) (a + size c p) (b + size d q) (fewer c p k few) parts.1 in
    cc (lines_first c p a, lines_first d q b, parts.0, rest)

text_told : (k : ℕ) → TextTold k
text_told zero = λ p q a b few e. absurd (omega arith)
text_told (suc k) = text_next k (text_told k)

pub text_tells_lines : TextTellsLines
text_tells_lines program other a b = text_told (suc (length program)) program other a b (omega arith)

-- and their lines tell the programs
abbrev LinesTold : ℕ → Type 0
LinesTold k =
    (p q : List ℕ) (start : ℕ) → length p < k → Bytes p → Bytes q → lines_of p start ≡ lines_of q start → p ≡ q

lines_next : (k : ℕ) → LinesTold k → LinesTold (suc k)
unfolding walked
lines_next k told [] [] start few is are e = refl
lines_next k told [] (d ∷ q) start few is are e = cc (e, lines_first d q start)
lines_next k told (c ∷ p) [] start few is are e = cc (e, lines_first c p start)
lines_next k told (c ∷ p) (d ∷ q) start few is are e =
    let lines = sym (lines_first c p start) ∙ e ∙ lines_first d q start in
    let first : stands_for (c ∷ p) ≡ stands_for (d ∷ q) =
    line_tells_bytes start start (c ∷ p) (d ∷ q) is are (some c p) (some d q) (ap (λ l. get_or l 0 []) lines) in
    let sizes : size c p ≡ size d q = sym (stands_long c p) ∙ ap length first ∙ stands_long d q in
    let left : lines_of (behind c p) (start + size c p) ≡ lines_of (behind d q) (start + size c p) =
    ap (drop 1) lines ∙ ap (λ n. lines_of (behind d q) (start + n)) (sym sizes) in
    let rest =
    told (behind c p) (behind d q) (start + size c p) (fewer c p k few) (bytes_drop (size c p) (c ∷ p) is)
    (bytes_drop (size d q) (d ∷ q) are) left in
    sym (take-append-drop (size c p) (c ∷ p)) ∙ cc (first, rest) ∙ take-append-drop (size d q) (d ∷ q)

lines_told : (k : ℕ) → LinesTold k
lines_told zero = λ p q start few is are e. absurd (omega arith)
lines_told (suc k) = lines_next k (lines_told k)

pub listing_tells_program : ListingTellsProgram
listing_tells_program program other start is are e =
    lines_told (suc (length program)) program other start (omega arith) is are (text_tells_lines program other start start e)
