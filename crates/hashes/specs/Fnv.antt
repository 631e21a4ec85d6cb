-- FNV-1a of 64 bits: from the offset basis on, each byte is XORed into the value, which is then multiplied by the
-- prime modulo 2^64.
use Rattle.std.specs.Prelude.{ℕ, ◌*◌, ◌%◌, ◌^◌, List, fold, bit_xor}
use Rattle.hashes.specs.BigEndian.{big_endian}
use Rattle.hashes.specs.Traces.{OneTrace}

abbrev pub fnv_basis : ℕ
fnv_basis = 14695981039346656037

abbrev pub fnv_prime : ℕ
fnv_prime = 1099511628211

-- the value after one byte more
abbrev pub fnv_step : ℕ → ℕ → ℕ
fnv_step value byte = bit_xor value byte * fnv_prime % 2 ^ 64

-- the value of a string, from a value on
abbrev pub fnv_value : ℕ → List ℕ → ℕ
fnv_value value bytes = fold fnv_step value bytes

-- the digest from a value on: eight bytes, the highest first
abbrev pub fnv_from : ℕ → List ℕ → List ℕ
fnv_from value bytes = big_endian 8 (fnv_value value bytes)

-- the digest of a string
abbrev pub fnv1a : List ℕ → List ℕ
fnv1a bytes = fnv_from fnv_basis bytes

-- the values of every string, from the basis on, byte by byte: there is one such list, and its last value is the digest's
abbrev pub FnvLaw : Type 0
FnvLaw = (bytes : List ℕ) → OneTrace fnv_step fnv_basis bytes (fnv_value fnv_basis bytes)
