use Rattle.std.proofs.Common.{◌≡◌, ℕ, List, [], ◌++◌, length, get_or, ap₂, ◌∙◌, arith, length-append}
use Rattle.sha256.specs.Compression.{rounds}
use Rattle.sha256.specs.Windows.{window_words}
use Rattle.sha256.proofs.Steps.{words_gone, words_next, rounds_are, Rows, rows}
use Rattle.sha256.proofs.compression.Progress.quarter.Goals as goal

pub returns : goal.returns
returns c =
    let p0 = c.args.self in
    let p1 = c.four_rounds.result in
    let p2 = c.four_rounds-2.result in
    let p3 = c.four_rounds-3.result in
    let p4 = c.four_rounds-4.result in
    let w0 : List ℕ = window_words p0.window in
    let w1 : List ℕ = window_words p1.window in
    let w2 : List ℕ = window_words p2.window in
    let w3 : List ℕ = window_words p3.window in
    let w4 : List ℕ = window_words p4.window in
    let x0 : List ℕ = p0.window.x0 in
    let x1 : List ℕ = p1.window.x0 in
    let x2 : List ℕ = p2.window.x0 in
    let x3 : List ℕ = p3.window.x0 in
    let l0 : length w0 ≡ 16 = simp length-append (grind arith) in
    let l1 : length w1 ≡ 16 = simp length-append (grind arith) in
    let l2 : length w2 ≡ 16 = simp length-append (grind arith) in
    let l3 : length w3 ≡ 16 = simp length-append (grind arith) in
    let m : length (x0 ++ (x1 ++ (x2 ++ x3))) ≡ 16 = simp length-append (grind arith) in
    let k : List ℕ = c.args.k.now in
    let ks : List (List ℕ) = c.as_chunks.result.0.now in
    let r : Rows k ks = rw c.as_chunks.ensures.front (rows k (omega arith)) in
    let m0 : length (get_or ks 0 []) ≡ length x0 = r.0 ∙ grind arith in
    let m1 : length (get_or ks 1 []) ≡ length x1 = r.1 ∙ grind arith in
    let m2 : length (get_or ks 2 []) ≡ length x2 = r.2 ∙ grind arith in
    let gone = words_gone w0 w1 w2 w3 w4 x0 x1 x2 x3 l0 l1 l2 l3 m c.four_rounds.ensures.window c.four_rounds-2.ensures.window c.four_rounds-3.ensures.window c.four_rounds-4.ensures.window in
    record {
      state = rounds_are p0.state p1.state p2.state p3.state p4.state (get_or ks 0 []) (get_or ks 1 []) (get_or ks 2 []) (get_or ks 3 []) x0 x1 x2 x3 m0 m1 m2
          c.four_rounds.ensures.state c.four_rounds-2.ensures.state c.four_rounds-3.ensures.state c.four_rounds-4.ensures.state
          ∙ ap₂ (rounds p0.state) r.3 gone;
      window = words_next w0 w1 w2 w3 w4 x0 x1 x2 x3 l0 l1 l2 l3 m c.four_rounds.ensures.window c.four_rounds-2.ensures.window c.four_rounds-3.ensures.window c.four_rounds-4.ensures.window;
    }
