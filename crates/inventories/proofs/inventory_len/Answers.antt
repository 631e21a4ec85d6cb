use Rattle.std.proofs.Common.{ℕ, length, codes, decimal, ap, arith}
use Rattle.recordings.specs.Recordings.{recordings}
use Rattle.inventories.proofs.EntryLines.{length-record_line, length-inventory_text}
use Rattle.inventories.proofs.inventory_len.Goals as goal

pub returns : goal.returns
returns c =
    let library = c.args.library.now in
    omega (
      arith,
      length-inventory_text library,
      length-record_line (codes "library") (length (recordings library)) library,
      ap (λ (n : ℕ). length (decimal n)) c.count.ensures.number,
    )
