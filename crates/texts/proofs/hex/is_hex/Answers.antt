use Rattle.std.proofs.Common.{arith, rules}
use Rattle.std.proofs.lemmas.Bool.Decides.{nat_tests}
use Rattle.std.proofs.lemmas.Iterator.{cases_from_all, YieldsList-from_slice}
use Rattle.texts.proofs.Hexes.{WritesOne, WritesNone, hex_told, odd_no}
use Rattle.texts.proofs.hex.is_hex.Goals as goal

pub returns-then-is_empty : goal.returns-then-is_empty
returns-then-is_empty c =
    hex_told c.args.text.now _ c.all.result (record { cut = c.as_chunks.ensures.front; many = c.as_chunks.ensures.front_len }) (grind (arith, nat_tests))
    (cases_from_all _ _ _ WritesOne WritesNone c.all.ensures.ran (YieldsList-from_slice c.as_chunks.result.0.now cc) (λ x q k. search rules) (λ x q k. search rules))

pub returns-else-is_empty : goal.returns-else-is_empty
returns-else-is_empty c = grind (arith, nat_tests, odd_no c.args.text.now)
