use Rattle.std.proofs.Common.{◌≡◌, ℕ, List, length, arith}
use Rattle.sha256.proofs.Steps.{words_in_lanes}
use Rattle.sha256.proofs.schedule.Window.first.Goals as goal

pub returns : goal.returns
returns c =
    let b : List ℕ = c.args.block.now in
    let l : length b ≡ 64 = omega arith in
    rw (c.four_words.ensures, c.four_words-2.ensures, c.four_words-3.ensures, c.four_words-4.ensures, c.as_chunks.ensures.front, l) (words_in_lanes b l)
