-- Numbers in decimal.
use Rattle.std.specs.Prelude.{◌≡◌, ℕ, ◌^◌, ◌<◌, ◌≤◌, List, length, decimal}

-- The text s is the number n in decimal, with at most `most` digits.
-- `decimal` writes no leading zero but 0 itself. No number has more than 19 digits here, so that each fits 64 bits.
pub record Numeral (most n : ℕ) (s : List ℕ) : Type 0 where
  pub few : length s ≤ most
  pub small : n < 10 ^ 19
  pub written : s ≡ decimal n
