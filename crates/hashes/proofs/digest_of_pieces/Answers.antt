use Rattle.std.proofs.Common.{ℕ, List, [], ap, ◌∙◌, Bor}
use Rattle.hashes.specs.Running.{after}
use Rattle.hashes.proofs.Lists.{after-more}
use Rattle.hashes.proofs.digest_of_pieces.Goals as goal

pub loop-piece-preserved : goal.loop-piece-preserved
loop-piece-preserved g c =
    let none : Bor (List ℕ) = record { ref_ptr = (0, 0); now = [] } in
    c.absorb.ensures ∙ ap (after _) c.loop-piece.invariant ∙ after-more (λ x. x.now) c.args.pieces.now c.loop-piece.piece-index none g.H.RunningHash.start c.loop-piece-test.true
