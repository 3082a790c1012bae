-- The sum, byte by byte, is the whole sum modulo 256.
use Rattle.std.proofs.Common.{◌≡◌, ℕ, ◌+◌, ◌%◌, ◌<◌, List, [], ◌∷◌, length, get_or, drop, fold, add-one, arith, drop-cons}
use Rattle.hexline.specs.Sum.{total}

summed_on : (s : ℕ) (bytes : List ℕ) → s < 256 → fold (λ s b. (s + b) % 256) s bytes ≡ (s + total bytes) % 256
summed_on s [] h = omega arith
summed_on s (b ∷ bytes) h = omega (arith, summed_on ((s + b) % 256) bytes (omega arith))

pub summed : (bytes : List ℕ) → fold (λ s b. (s + b) % 256) 0 bytes ≡ total bytes % 256
summed bytes = omega (arith, summed_on 0 bytes (omega arith))

-- Laws that stand for themselves.
pub total_next :
    (bytes : List ℕ) (i : ℕ) → i < length bytes → total (drop i bytes) ≡ get_or bytes i 0 + total (drop (i + 1) bytes)
total_next bytes i h = rw (add-one i, drop-cons bytes i 0 h)
