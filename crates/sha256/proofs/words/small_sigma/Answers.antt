use Rattle.std.proofs.Common.{◌≡◌, length, sym, refl, arith}
use Rattle.hashes.proofs.Lists.{reads_all}
use Rattle.sha256.proofs.words.small_sigma.Goals as goal

pub returns : goal.returns
returns g c =
    let l : length c.args.x ≡ 4 = omega arith in
    rw (c.rotated.ensures, c.rotated-2.ensures, sym (reads_all 4 c.args.x l)) refl
