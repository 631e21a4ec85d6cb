use Rattle.sha256.specs.Words.{Σ0, Σ1}
use Rattle.sha256.proofs.Forms.{round_is}
use Rattle.sha256.proofs.compression.one_round.Goals as goal

pub returns : goal.returns
unfolding Σ0 Σ1
returns c k w e =
    round_is c.args.s k w c.args.kw c.choice.result c.big_sigma.result c.big_sigma-2.result c.majority.result
    e c.choice.ensures c.big_sigma.ensures c.big_sigma-2.ensures c.majority.ensures
