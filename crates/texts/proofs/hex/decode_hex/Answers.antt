use Rattle.std.proofs.Common.{◌≡◌, ◌≤◌, [], get_or, sym, length, refl, ap, ◌∙◌, arith, rules}
use Rattle.std.proofs.lemmas.Grind.{common_steps}
use Rattle.std.proofs.lemmas.List.{drop_all}
use Rattle.texts.proofs.Chains.{writing_begin, writing_more, writing_done, fronted_by}
use Rattle.texts.proofs.Hexes.{length_of_hex, pair_at, next_byte, some_byte, the_byte}
use Rattle.texts.proofs.hex.decode_hex.Goals as goal
use Rattle.texts.proofs.hex.decode_hex.Goals.{then-text-out-via-then-text-out, then-text-out-via-else-text-out+then-not-is_hex}

pub returns-then-text-out : goal.returns-then-text-out
returns-then-text-out c =
    elim c.then-text-out.branch [
      | then-text-out-via-then-text-out w ↦ ((λ bs h f. omega (arith, length_of_hex c.args.text.now bs h)), refl)
      | then-text-out-via-else-text-out+then-not-is_hex w ↦ ((λ bs h f. grind (arith, common_steps)), refl)
    ]

pub loop-hi-init : goal.loop-hi-init
loop-hi-init c bs h = writing_begin _ _ (omega (arith, length_of_hex c.args.text.now bs h, ap length c.over-writer.ensures.bytes))

pub unwrap-requires : goal.unwrap-requires
unwrap-requires c =
    let i = c.if-not-is_hex.ensures.0 refl in
    some_byte (get_or c.as_chunks.result.0.now c.loop-hi.hi-index []) _ c.hex_byte.result c.hex_byte.ensures (pair_at c.args.text.now i.0 [] _ c.loop-hi.hi-index (record { cut = c.as_chunks.ensures.front; many = c.as_chunks.ensures.front_len }) c.loop-hi-test.true i.1)

pub put_byte-requires : goal.put_byte-requires
put_byte-requires c =
    let i = c.if-not-is_hex.ensures.0 refl in
    let b = the_byte (get_or c.as_chunks.result.0.now c.loop-hi.hi-index []) _ c.hex_byte.result c.hex_byte.ensures c.unwrap.ensures in
    let e = next_byte c.args.text.now i.0 [] _ c.loop-hi.hi-index _ (record { cut = c.as_chunks.ensures.front; many = c.as_chunks.ensures.front_len }) c.loop-hi-test.true i.1 b in
    omega (arith, (c.loop-hi.invariant i.0 i.1).room, ap length e)

pub loop-hi-preserved : goal.loop-hi-preserved
loop-hi-preserved c bs h =
    let b = the_byte (get_or c.as_chunks.result.0.now c.loop-hi.hi-index []) _ c.hex_byte.result c.hex_byte.ensures c.unwrap.ensures in
    writing_more _ _ (next_byte c.args.text.now bs [] _ c.loop-hi.hi-index _ (record { cut = c.as_chunks.ensures.front; many = c.as_chunks.ensures.front_len }) c.loop-hi-test.true h b)
    (c.loop-hi.invariant bs h) c.put_byte.ensures

pub returns : goal.returns
returns c =
    let i = c.if-not-is_hex.ensures.0 refl in
    let many : length c.as_chunks.result.0.now ≡ length i.0 = omega (arith, length_of_hex c.args.text.now i.0 i.1, c.as_chunks.ensures.front_len) in
    let fits : length c.as_chunks.result.0.now ≤ length c.args.out.now = omega (arith, c.as_chunks.ensures.front_len) in
    let w = writing_done (drop_all c.loop-hi.hi-index i.0 (omega (arith, many))) (c.loop-hi.invariant i.0 i.1) in
    let last : _ ≡ c.loop-hi.writer.out.now = search rules in
    (i.0, i.1, sym many, fits, last ∙ fronted_by _ many c.over-writer.ensures w)
