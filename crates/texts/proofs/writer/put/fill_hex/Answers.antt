use Rattle.std.proofs.Common.{◌≡◌, ℕ, List, [], ◌∷◌, ◌++◌, length, refl, ap, ◌∙◌, arith, rules, append-nil}
use Rattle.std.proofs.lemmas.List.{drop_all}
use Rattle.texts.specs.Hex.{hex}
use Rattle.texts.proofs.Chains.{puts_then, puts_same, writing_begin, writing_more, writing_done, fronted_by}
use Rattle.texts.proofs.Tabs.{hex_next, hex_end}
use Rattle.texts.proofs.writer.put.fill_hex.Goals as goal

pub loop-byte-preserved : goal.loop-byte-preserved
loop-byte-preserved c =
    let e = hex_next c.args.bytes.now c.loop-byte.byte-index (omega arith) in
    let upper = c.hex_character.ensures in
    let lower = c.hex_character-in-loop-byte.ensures in
    writing_more _ _ e c.loop-byte.invariant (puts_same (λ i. upper i ∷ (lower i ∷ [])) (puts_then c.put_byte.ensures c.put_byte-in-loop-byte.ensures))

pub loop-byte-init : goal.loop-byte-init
loop-byte-init c = writing_begin _ _ (omega (arith, c.requires, c.over-writer.ensures.place, ap length c.over-writer.ensures.bytes))

pub returns : goal.returns
returns c =
    let w = writing_done (hex_end c.args.bytes.now c.loop-byte.byte-index (omega arith)) c.loop-byte.invariant in
    let full = drop_all (length (hex c.args.bytes.now)) c.args.out.now (omega (arith, c.requires)) in
    let last : _ ≡ c.loop-byte.writer.out.now = search rules in
    last
    ∙ fronted_by _ refl c.over-writer.ensures w
    ∙ ap (λ (rest : List ℕ). hex c.args.bytes.now ++ rest) full
    ∙ append-nil (hex c.args.bytes.now)
