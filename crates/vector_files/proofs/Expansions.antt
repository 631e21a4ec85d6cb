use Rattle.std.proofs.Common.{◌≡◌, ℕ, ◌<◌, ◌≤◌, List, length, Some, None, Option, Result, arith, Bor}
use Rattle.std.specs.Option.{ok_or}
use Rattle.texts.specs.Hex.{Decoded, IsHex}
use Rattle.vector_files.specs.declared.vector.Fault.{Fault}
use Rattle.vector_files.specs.declared.vector.Fault.TheVariants as fault
use Rattle.vector_files.specs.declared.vector.Message.TheVariants.{Hex}
use Rattle.vector_files.specs.Checks.{Expanded, too_long}

-- a hex text whose bytes were put into a buffer, or do not fit
pub decoded : (s : Bor (List ℕ)) (old new : List ℕ) (o : Option ℕ) (r : Result ℕ Fault) → IsHex s.now → Decoded s.now old new o
    → r ≡ ok_or o fault.TooLong → Expanded (Hex s) old new r
decoded s old new None r (bs, h) d f =
    let n : length bs ≤ length old → ⊥ = d.0 bs h in
    let l : length old < length bs = omega arith in
    rw f (too_long bs h l, d.1)
decoded s old new (Some n) r x (bs, h, l, i, a) f = rw f (bs, h, l, record { fits = omega (arith, l); after = rw l a })
