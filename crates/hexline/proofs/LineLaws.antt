-- The line of a record, piece by piece.
use Rattle.std.proofs.Common.{◌≡◌, ℕ, ◌+◌, ◌-◌, ◌/◌, ◌%◌, ◌<◌, List, [], ◌∷◌, ◌++◌, length, sym, refl, ap, ◌∙◌, append_assoc, arith}
use Rattle.digits.specs.Digit.{pair_of}
use Rattle.text.specs.declared.line.Line.{Line}
use Rattle.text.specs.Lines.{appended, empty_line, lined}
use Rattle.text.specs.Text.{codes, line_end}
use Rattle.text.proofs.LineLaws.{onto}
use Rattle.hexline.specs.Line.{front_of, record_of, line_of}
use Rattle.hexline.specs.Spelling.{digits_of}
use Rattle.hexline.specs.Sum.{total, checksum}

pub digits_append : (a b : List ℕ) → digits_of (a ++ b) ≡ digits_of a ++ digits_of b
unfolding digits_of
digits_append [] b = refl
digits_append (x ∷ a) b = ap (λ t. pair_of x ++ t) (digits_append a b) ∙ sym (append_assoc (pair_of x) (digits_of a) (digits_of b))

sum_parts : (t s : ℕ) → (t % 256 + s % 256) % 256 ≡ (t + s) % 256
sum_parts t s = omega arith

-- the byte that makes a sum 0 modulo 256
makes_0 : (b t : ℕ) → (b + t % 256) % 256 ≡ 0 → b < 256 → b ≡ (256 - t % 256) % 256
makes_0 b t e small = omega arith

front_total : (n a s : ℕ) → a < 256 → n + (0 + (a + (0 + 0))) + s ≡ n + (a / 256 + (a % 256 + (0 + s)))
front_total n a s low = omega arith

-- the four bytes before the data
abbrev front : ℕ → List ℕ → List ℕ
front address held = length held ∷ 0 ∷ address ∷ 0 ∷ []

-- of an address below 256
module _ (address : ℕ) (low : address < 256) (held : List ℕ) where
  front_whole : front_of 0 address held ≡ front address held ++ held
  front_whole =
      let high : address / 256 ≡ 0 = omega arith in
      let same : address % 256 ≡ address = omega arith in
      rw (high, same)

  spelled_out :
      digits_of (record_of 0 address held) ≡
      digits_of (front address held) ++ digits_of held ++ digits_of (checksum (front_of 0 address held) ∷ [])
  spelled_out =
      digits_append (front_of 0 address held) (checksum (front_of 0 address held) ∷ [])
      ∙ ap (λ t. t ++ digits_of (checksum (front_of 0 address held) ∷ []))
      (ap digits_of front_whole ∙ digits_append (front address held) held)

  -- from the sums of the four and of the data
  pub sums_make :
      {four filled all last : ℕ} → four ≡ total (front address held) % 256 → filled ≡ total held % 256 →
      all ≡ (four + filled) % 256 → (last + all) % 256 ≡ 0 → last < 256 → last ≡ checksum (front_of 0 address held)
  sums_make {last = last} f h a l small =
      let whole : total (front address held) + total held ≡ total (front_of 0 address held) = front_total (length held) address (total held) low in
      let all = a ∙ rw (f, h) (sum_parts (total (front address held)) (total held)) ∙ ap (λ t. t % 256) whole in
      makes_0 last (total (front_of 0 address held)) (rw all at l) small

  pub pieces_make :
      {last : ℕ} {begun four filled whole line : Line} → last ≡ checksum (front_of 0 address held) → begun ≡ lined (codes ":") →
      four ≡ appended begun (digits_of (front address held)) → filled ≡ appended four (digits_of held) →
      whole ≡ appended filled (digits_of (last ∷ [])) → line ≡ appended whole line_end → line ≡ lined (line_of 0 address held)
  unfolding line_of
  pieces_make {last} sum b f h w l =
      let colon = codes ":" in
      let at-four = f ∙ onto empty_line colon (digits_of (front address held)) b in
      let at_held = h ∙ onto empty_line (colon ++ digits_of (front address held)) (digits_of held) at-four in
      let at_last = w ∙ onto empty_line ((colon ++ digits_of (front address held)) ++ digits_of held) (digits_of (last ∷ [])) at_held in
      let at_end = l ∙ onto empty_line (((colon ++ digits_of (front address held)) ++ digits_of held) ++ digits_of (last ∷ [])) line_end at_last in
      at_end ∙ rw sum (ap (λ t. lined (colon ++ t ++ line_end)) (sym spelled_out))
