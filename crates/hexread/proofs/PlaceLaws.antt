-- What the tests of a record come to, and the stretch that is filled.
use mathlib.Core.Path.{◌≡◌, refl, sym, ◌∙◌, ap}
use mathlib.Core.Bool.{true, false}
use mathlib.Core.List.{List, [], ◌∷◌, ◌++◌, append-nil, append_assoc}
use Prim.Native.Nat.{ℕ, ◌+◌, ◌*◌, ◌-◌, ◌≤◌, ◌<◌}
use native.Mathlib.Omega.{arith}
use borrow.Author.Tests.{lt-ltb, le-ltb}
use borrow.Rule.Slice.PartMut.{put_mid, Post-is}
use lib.ListN.{length, get_or, take, drop, replicate, length-drop, length-replicate, take-append-drop}
use lib.Seq.{length-take-le}
use Rattle.scan.specs.declared.class.Class.TheVariants.{IsNot}
use Rattle.scan.specs.Scan.{first, some}
use Rattle.hexline.specs.Row.{address_of, count_of, data_of}
use Rattle.hexread.specs.File.{Sheet, goes, refused, sheet, filled, put}

part_length : (xs : List ℕ) (a n : ℕ) → a + n ≤ length xs → length (take (a + n - a) (drop a xs)) ≡ n
part_length xs a n h =
    let size : a + n - a ≡ n = omega arith in
    rw size (length-take-le n (drop a xs) (omega (arith, length-drop a xs)))

-- a stretch that is back with other bytes
stretch_filled : (xs : List ℕ) (a n : ℕ) {ys : List ℕ} (held : List ℕ) → n ≡ length held → ys ≡ held → put_mid a (a + n - a) xs ys ≡ filled xs a held
stretch_filled xs a n held size e =
    rw (e, size)
    (ap (λ rest. take a xs ++ (held ++ rest)) (Post-is a (a + length held) xs (omega arith))
    ∙ sym (append_assoc (take a xs) held (drop (a + length held) xs)))

-- no bytes fill nothing
pub filled_none : (xs : List ℕ) (a : ℕ) → filled xs a [] ≡ xs
filled_none xs a =
    let here : a + 0 ≡ a = omega arith in
    rw (here, append-nil (take a xs)) (take-append-drop a xs)

module _ (number : ℕ) (image marks : List ℕ) (address : ℕ) (held : List ℕ) where
  -- no bytes change nothing
  pub none_held : length held ≡ 0 → goes (sheet image marks) ≡ put number (sheet image marks) address held
  unfolding put first
  none_held none = by held none
    where
      by : (l : List ℕ) → length l ≡ 0 → goes (sheet image marks) ≡ put number (sheet image marks) address l
      by [] e =
          ap (λ bytes. goes (sheet bytes marks)) (sym (filled_none image address))
          ∙ ap (λ bytes. goes (sheet (filled image address []) bytes)) (sym (filled_none marks address))
      by (b ∷ l) e = absurd (omega arith)

  module _ (some-held : 0 < length held) where
    pub past_end : 256 < address + length held → refused (23 ∷ number ∷ []) ≡ put number (sheet image marks) address held
    unfolding put
    past_end past = rw (lt-ltb 0 (length held) some-held, lt-ltb 256 (address + length held) past)

    module _ (inside : address + length held ≤ 256) where
      pub set_twice :
          some (IsNot 0) (take (address + length held - address) (drop address marks)) ≡ true →
          refused (24 ∷ number ∷ []) ≡ put number (sheet image marks) address held
      unfolding put
      set_twice twice =
          let size : address + length held - address ≡ length held = omega arith in
          rw (lt-ltb 0 (length held) some-held, le-ltb 256 (address + length held) inside, rw size at twice)

      module _ (image-long : length image ≡ 256) (marks-long : length marks ≡ 256) where
        pub newly_set :
            some (IsNot 0) (take (address + length held - address) (drop address marks)) ≡ false →
            {stretch ones : List ℕ} → stretch ≡ held →
            ones ≡ replicate (length (take (address + length held - address) (drop address marks))) 1 →
            goes
            (sheet
            (put_mid address (address + length held - address) image stretch)
            (put_mid address (address + length held - address) marks ones))
            ≡ put number (sheet image marks) address held
        unfolding put
        newly_set fresh s o =
            let size : address + length held - address ≡ length held = omega arith in
            let marks-there = part_length marks address (length held) (omega arith) in
            rw (
              lt-ltb 0 (length held) some-held,
              le-ltb 256 (address + length held) inside,
              rw size at fresh,
              stretch_filled image address (length held) held refl s,
              stretch_filled
                  marks
                  address
                  (length held)
                  (replicate (length held) 1)
                  (sym (length-replicate (length held) 1))
                  (o ∙ ap (λ n. replicate n 1) marks-there),
            )

-- Laws that stand for themselves: address and data of a record that is as long as it says, from its bytes.
pub of_record :
    (number : ℕ) (s : Sheet) (bs : List ℕ) {high low : ℕ} → high ≡ get_or bs 1 0 → low ≡ get_or bs 2 0 → length bs ≡ count_of bs + 5 →
    put number s (high * 256 + low) (take (length bs - 1 - 4) (drop 4 bs)) ≡ put number s (address_of bs) (data_of bs)
of_record number s bs h l whole =
    let size : length bs - 1 - 4 ≡ count_of bs = omega arith in
    rw (h, l, size)
