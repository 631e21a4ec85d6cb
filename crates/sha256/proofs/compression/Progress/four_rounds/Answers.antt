use Rattle.std.proofs.Common.{◌≡◌, ℕ, List, length, get_or, sym, refl, arith}
use Rattle.hashes.proofs.Lists.{reads_all}
use Rattle.sha256.proofs.compression.Progress.four_rounds.Goals as goal

pub returns-clause-state : goal.returns-clause-state
returns-clause-state c =
    let k : List ℕ = c.args.k.now in
    let x : List ℕ = c.args.self.window.x0 in
    let lk : length k ≡ 4 = omega arith in
    let lx : length x ≡ 4 = grind arith in
    let rk = sym (reads_all 4 k lk) in
    let rx = sym (reads_all 4 x lx) in
    let s0 = c.one_round-s0.ensures (get_or k 0 0) (get_or x 0 0) (rw (rk, rx) refl) in
    let s1 = c.one_round-s1.ensures (get_or k 1 0) (get_or x 1 0) (rw (rk, rx) refl) in
    let s2 = c.one_round-s2.ensures (get_or k 2 0) (get_or x 2 0) (rw (rk, rx) refl) in
    let s3 = c.one_round.ensures (get_or k 3 0) (get_or x 3 0) (rw (rk, rx) refl) in
    rw (rk, rx) (cc)
