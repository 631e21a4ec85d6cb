use Rattle.std.proofs.Common.{◌≡◌, ℕ, ◌*◌, ◌%◌, ◌^◌, List, take, replicate, ap, ◌∙◌, arith}
use Rattle.std.proofs.lemmas.Option.{MatchOption-at_some}
use Rattle.std.proofs.lemmas.List.{take-replicate}
use Rattle.hashes.specs.BigEndian.{big_endian}
use Rattle.hashes.proofs.Numbers.{eight_bytes}
use Rattle.sha256.specs.Padding.{zeros}
use Rattle.sha256.proofs.Blocks.{ended_means}
use Rattle.sha256.proofs.Paddings.{padding_law, blocks_law, chain_law}
use Rattle.sha256.proofs.running.Sha256RunningHash.digest.Goals as goal

pub returns : goal.returns
returns c =
    let h = c.args.self.now in
    let count : ℕ = c.zero_count.result in
    let zs : List ℕ = take count (replicate 64 0) in
    let bits : List ℕ = c.to_be_bytes-bits.result in
    let n : count ≡ zeros h.total = omega arith in
    let z : zs ≡ replicate (zeros h.total) 0 = ap (λ k. take k (replicate 64 0)) n ∙ take-replicate (zeros h.total) 64 0 (omega arith) in
    let e : bits ≡ big_endian 8 (8 * h.total % 2 ^ 64) =
    eight_bytes (h.total * 8 % 2 ^ 64) bits c.to_be_bytes-bits.ensures ∙ ap (big_endian 8) (let m : h.total * 8 % 2 ^ 64 ≡ 8 * h.total % 2 ^ 64 = omega arith in m) in
    let made = MatchOption-at_some _ _ c.unwrap.result c.unwrap.ensures c.new.ensures in
    record {
      digest = made.1 ∙ c.as_flattened.ensures.value ∙ c.state_bytes.ensures ∙ ended_means h c.feed.new.self c.feed-2.new.self c.feed-3.new.self zs bits c.feed.ensures c.feed-2.ensures c.feed-3.ensures z e;
      padding = padding_law;
      blocks = blocks_law;
      chain = chain_law;
    }
