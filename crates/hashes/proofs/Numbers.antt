-- What `to_be_bytes` gives is big_endian.
use Rattle.std.proofs.Common.{◌≡◌, ℕ, ◌/◌, ◌%◌, List, [], ◌∷◌, ap, ◌∙◌, arith}
use Rattle.hashes.specs.BigEndian.{big_endian}

-- eight bytes as `to_be_bytes` has them
pub eight_bytes : (x : ℕ) (bytes : List ℕ)
    → bytes ≡ (x / 72057594037927936 % 256) ∷ (x / 281474976710656 % 256) ∷ (x / 1099511627776 % 256) ∷ (x / 4294967296 % 256) ∷ (x / 16777216 % 256) ∷ (x / 65536 % 256) ∷ (x / 256 % 256) ∷ (x % 256) ∷ []
    → bytes ≡ big_endian 8 x
eight_bytes x bytes e =
    e ∙ ap (λ z. (x / 72057594037927936 % 256) ∷ (x / 281474976710656 % 256) ∷ (x / 1099511627776 % 256) ∷ (x / 4294967296 % 256) ∷ (x / 16777216 % 256) ∷ (x / 65536 % 256) ∷ (x / 256 % 256) ∷ z ∷ [])
    (let g : x % 256 ≡ x / 1 % 256 = omega arith in g)
