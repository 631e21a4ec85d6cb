use Rattle.std.proofs.Common.{arith}
use Rattle.std.proofs.lemmas.Grind.{common_steps}
use Rattle.texts.proofs.Hexes.{length-hex}
use Rattle.texts.proofs.writer.Field.len.Goals as goal

pub returns-in-Hex : goal.returns-in-Hex
returns-in-Hex c = grind (arith, common_steps, length-hex)
