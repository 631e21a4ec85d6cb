use Rattle.std.proofs.Common.{◌≡◌, ℕ, List, [], ◌∷◌, length, take, drop, sym, ap, ◌∙◌, arith, length-append}
use Rattle.sha256.specs.Windows.{window_words}
use Rattle.sha256.specs.Compression.{compressed, constants, state_sum, rounds}
use Rattle.sha256.proofs.Steps.{schedule_is, rounds_are}
use Rattle.sha256.proofs.compression.compress.Goals as goal

pub returns : goal.returns
unfolding compressed constants
returns c =
    let s = c.args.s in
    let b : List ℕ = c.args.block.now in
    let w0 : List ℕ = window_words c.first.result in
    let w1 : List ℕ = window_words c.quarter.result.window in
    let w2 : List ℕ = window_words c.quarter-2.result.window in
    let w3 : List ℕ = window_words c.quarter-3.result.window in
    let l0 : length w0 ≡ 16 = simp length-append (grind arith) in
    let l1 : length w1 ≡ 16 = simp length-append (grind arith) in
    let l2 : length w2 ≡ 16 = simp length-append (grind arith) in
    let l3 : length w3 ≡ 16 = simp length-append (grind arith) in
    let e = schedule_is b w0 w1 w2 w3 l1 l2 l3 c.first.ensures c.quarter.ensures.window c.quarter-2.ensures.window c.quarter-3.ensures.window in
    let k0 : List ℕ = take 16 constants in
    let k1 : List ℕ = take 16 (drop 16 constants) in
    let k2 : List ℕ = take 16 (drop 32 constants) in
    let k3 : List ℕ = drop 48 constants in
    let ks : c.as_chunks.result.0.now ≡ k0 ∷ k1 ∷ k2 ∷ k3 ∷ [] = c.as_chunks.ensures.front in
    let s0 = rw ks at c.quarter.ensures.state in
    let s1 = rw ks at c.quarter-2.ensures.state in
    let s2 = rw ks at c.quarter-3.ensures.state in
    let s3 = rw ks at c.quarter-end.ensures.state in
    let f = rounds_are s c.quarter.result.state c.quarter-2.result.state c.quarter-3.result.state c.quarter-end.result.state k0 k1 k2 k3 w0 w1 w2 w3 (sym l0) (sym l1) (sym l2) s0 s1 s2 s3 in
    c.added.ensures ∙ ap (state_sum s) (f ∙ ap (rounds s constants) (sym e))
