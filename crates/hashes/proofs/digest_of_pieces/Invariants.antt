use Rattle.std.proofs.Common.{◌≡◌, map, take}
use Rattle.std.specs.List.{concat}
use Rattle.hashes.specs.Running.{after}
use Rattle.hashes.proofs.digest_of_pieces.Given as goal

abbrev pub invariant-loop-piece : goal.invariant-loop-piece
invariant-loop-piece g l = g.H.RunningHash.meaning l.hash ≡ after (concat (map (λ x. x.now) (take l.piece-index l.pieces))) g.H.RunningHash.start
