-- The meaning of a running hash: the digest that it will give for each list of bytes still to come.
use Rattle.std.specs.Prelude.{ℕ, List, ◌++◌}

-- the meaning after some bytes more: a rest gives what the bytes and that rest gave before
abbrev pub after : List ℕ → (List ℕ → List ℕ) → List ℕ → List ℕ
after bytes meaning = λ rest. meaning (bytes ++ rest)
