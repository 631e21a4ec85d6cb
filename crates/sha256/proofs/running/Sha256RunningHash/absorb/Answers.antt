use Rattle.sha256.proofs.Blocks.{fed_means}
use Rattle.sha256.proofs.Constants.{constants_law}
use Rattle.sha256.proofs.Schedules.{rounds_law, schedule_law}
use Rattle.sha256.proofs.running.Sha256RunningHash.absorb.Goals as goal

pub returns : goal.returns
returns c =
    let h = c.args.self.now in
    let b = c.args.bytes.now in
    record { meaning = λ i rest. fed_means h c.feed.new.self b rest c.feed.ensures i; schedule = schedule_law; rounds = rounds_law; constants = constants_law }
