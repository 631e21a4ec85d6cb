use Rattle.std.proofs.Common.{◌≡◌, ℕ, List, [], ◌∷◌, map, length, get_or, refl, ◌∙◌, arith, w32}
use Rattle.std.specs.Int.{from_be_bytes}
use Rattle.sha256.proofs.Maps.{mapped}
use Rattle.sha256.proofs.Steps.{words_in_parts}
use Rattle.sha256.proofs.schedule.four_words.Goals as goal

pub returns : goal.returns
returns c =
    let b : List ℕ = c.args.bytes.now in
    let l : length b ≡ 16 = omega arith in
    let ps : List (List ℕ) = c.as_chunks.result.0.now in
    let parts : List (List ℕ) = get_or ps 0 [] ∷ get_or ps 1 [] ∷ get_or ps 2 [] ∷ get_or ps 3 [] ∷ [] in
    let e : c.map.result ≡ map (from_be_bytes w32) parts = mapped _ (from_be_bytes w32) _ parts c.map.result 4 [] refl c.map.ensures.items (λ p x y q called. called.met) in
    e ∙ rw (c.as_chunks.ensures.front, l) (words_in_parts b l)
