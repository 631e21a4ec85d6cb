use Rattle.std.proofs.Common.{◌≡◌, ℕ, ◌+◌, ◌-◌, ◌<◌, List, ◌++◌, length, fold, sym, ap, ap₂, ◌∙◌, arith}
use Rattle.std.proofs.lemmas.List.{take-append-drop}
use Rattle.sha256.specs.Compression.{compressed}
use Rattle.sha256.specs.Message.{left, over}
use Rattle.sha256.proofs.Blocks.{fed_short, fed_long}
use Rattle.sha256.proofs.running.Sha256.feed.Goals as goal

pub returns-in-Some : goal.returns-in-Some
unfolding over left
returns-in-Some c =
    let h = c.args.self.now in
    let b : List ℕ = c.args.bytes.now in
    let fill : ℕ = c.fill-fill.result in
    let w : length h.buffer ≡ 64 = omega arith in
    let cut = c.in-Some.ensures.cases in
    let whole : b ≡ c.in-Some.head.now ++ c.in-Some.rest.now = sym (take-append-drop (64 - fill) b) ∙ ap₂ (λ x y. x ++ y) (sym cut.1) (sym cut.2) in
    fed_long h b fill w c.fill-fill.ensures (length c.as_chunks.result.1.now) c.in-Some.head.now c.in-Some.rest.now c.copy_from_slice.new.self c.copy_from_slice-in-Some.new.self
    c.compress_all.new.s c.compress_all-in-Some.new.s whole cut.3 c.copy_from_slice.ensures.after
    (c.compress_all.ensures ∙ ap (fold compressed h.state) c.from_ref.ensures.value)
    (c.compress_all-in-Some.ensures ∙ ap (fold compressed c.compress_all.new.s) c.as_chunks.ensures.front)
    (c.copy_from_slice-in-Some.ensures.after ∙ c.as_chunks.ensures.back)

pub returns-in_default : goal.returns-in_default
returns-in_default c =
    let h = c.args.self.now in
    let b : List ℕ = c.args.bytes.now in
    let fill : ℕ = c.fill-fill.result in
    let w : length h.buffer ≡ 64 = omega arith in
    let short : length b < 64 - fill = c.in_default.ensures.cases in
    fed_short h b fill w c.fill-fill.ensures (fill + length b - fill) c.copy_from_slice-in_default.new.self short c.copy_from_slice-in_default.ensures.after
