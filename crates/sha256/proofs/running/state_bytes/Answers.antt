use Rattle.std.proofs.Common.{◌≡◌, ℕ, ◌∷◌, ◌/◌, ◌%◌, [], List, map, ap, ◌∙◌, refl, arith, w32}
use Rattle.std.specs.List.{flat_map}
use Rattle.std.specs.Int.{to_be_bytes}
use Rattle.hashes.specs.BigEndian.{big_endian}
use Rattle.sha256.specs.Message.{digest_of}
use Rattle.sha256.proofs.Maps.{mapped}
use Rattle.sha256.proofs.running.state_bytes.Goals as goal

four_bytes : (x : ℕ) → to_be_bytes w32 x ≡ big_endian 4 x
four_bytes x = let last : x % 256 ≡ x / 1 % 256 = omega arith in ap (λ y. (x / 16777216 % 256) ∷ (x / 65536 % 256) ∷ (x / 256 % 256) ∷ y ∷ []) last

pub returns : goal.returns
unfolding digest_of
returns c =
    let s = c.args.s in
    let words : List ℕ = s.a ∷ s.b ∷ s.c ∷ s.d ∷ s.e ∷ s.f ∷ s.g ∷ s.h ∷ [] in
    let e : c.map.result ≡ map (big_endian 4) words = mapped _ (big_endian 4) _ words c.map.result 8 0 refl c.map.ensures.items (λ p x y q called. called.met ∙ four_bytes x) in
    ap (flat_map (λ x. x)) e
