use Rattle.std.proofs.Common.{◌≡◌}
use Rattle.vector_files.proofs.check.digest_in_pieces.Given as goal

-- the hash gives for what is left what a fresh one gives for the whole
abbrev pub invariant-loop-size : goal.invariant-loop-size
invariant-loop-size g l = g.H.RunningHash.meaning l.hash l.rest ≡ g.H.RunningHash.start l.bytes
