use Rattle.std.proofs.Common.{rules}
use Rattle.texts.proofs.Hexes.{length-hex}
use Rattle.texts.proofs.writer.Writer.put_hex.Goals as goal

pub overflow_add-end : goal.overflow_add-end
overflow_add-end c = search (rules, length-hex c.args.bytes.now)

pub slice_bounds-fill_hex-end : goal.slice_bounds-fill_hex-end
slice_bounds-fill_hex-end c = search (rules, length-hex c.args.bytes.now)

pub fill_hex-requires : goal.fill_hex-requires
fill_hex-requires c = search (rules, length-hex c.args.bytes.now)
