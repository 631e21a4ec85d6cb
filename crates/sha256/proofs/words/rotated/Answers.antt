use Rattle.std.proofs.Common.{◌≡◌, length, sym, refl, arith}
use Rattle.hashes.proofs.Lists.{reads_all}
use Rattle.sha256.proofs.words.rotated.Goals as goal

pub returns : goal.returns
returns g c =
    let l : length c.args.x ≡ 4 = omega arith in
    rw (sym (reads_all 4 c.args.x l)) refl
