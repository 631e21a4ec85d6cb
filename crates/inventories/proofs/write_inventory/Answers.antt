use Rattle.std.proofs.Common.{◌≡◌, ◌≤◌, ap, ◌∙◌, length, arith, rules}
use Rattle.texts.proofs.Chains.{puts_then, fronted_by}
use Rattle.inventories.specs.Texts.{inventory_text}
use Rattle.inventories.proofs.Told.{same_record}
use Rattle.inventories.proofs.write_inventory.Goals as goal

pub returns-then-out-inventory_len-clause-tells : goal.returns-then-out-inventory_len-clause-tells
returns-then-out-inventory_len-clause-tells c other small = same_record other c.args.library.now small (omega arith)

pub returns-clause-tells : goal.returns-clause-tells
returns-clause-tells c other small = same_record other c.args.library.now small (omega arith)

pub returns-clause-written : goal.returns-clause-written
returns-clause-written c =
    let w = puts_then c.write_recordings.ensures c.write_last.ensures in
    let n : c.place.result ≡ length (inventory_text c.args.library.now) = omega (arith, c.place.ensures, w.wrote.place, c.over-writer.ensures.place) in
    let fits : c.place.result ≤ length c.args.out.now = omega (arith, w.wrote.fits, ap length c.over-writer.ensures.bytes) in
    let last : _ ≡ c.write_last.new.writer.out.now = search rules in
    (n, fits, last ∙ fronted_by _ n c.over-writer.ensures w)
