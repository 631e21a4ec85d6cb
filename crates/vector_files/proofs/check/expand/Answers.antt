use Rattle.std.proofs.Common.{replicate, refl, arith}
use lib.ListN.{length-replicate}
use Rattle.std.proofs.lemmas.Bool.Decides.{not_from_Decides}
use Rattle.vector_files.specs.Checks.{no_bytes, too_long}
use Rattle.vector_files.proofs.Expansions.{decoded}
use Rattle.vector_files.proofs.check.expand.Goals as goal

pub returns-then-bytes-buffer : goal.returns-then-bytes-buffer
returns-then-bytes-buffer c = rw c.in-Text.is (too_long c.in-Text.bytes.now refl (omega arith), refl)

pub returns-then-not-is_hex : goal.returns-then-not-is_hex
returns-then-not-is_hex c = rw c.in-Hex.is (no_bytes (λ bytes h. not_from_Decides _ c.is_hex.ensures c.if-not-is_hex.true (bytes, h)), refl)

pub returns-then-count-buffer : goal.returns-then-count-buffer
returns-then-count-buffer c =
    rw c.in-Repeat.is (too_long (replicate c.in-Repeat.count c.in-Repeat.byte) refl (omega (arith, length-replicate c.in-Repeat.count c.in-Repeat.byte)), refl)

pub returns-else-not-is_hex : goal.returns-else-not-is_hex
returns-else-not-is_hex c =
    rw c.in-Hex.is (decoded c.in-Hex.digits _ _ _ _ (c.is_hex.ensures.0 c.if-not-is_hex.false) c.decode_hex.ensures c.ok_or.ensures.value)
