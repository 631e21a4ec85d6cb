use Rattle.std.proofs.Common.{◌∙◌}
use Rattle.inventories.proofs.EntryLines.{four_fields, line_put}
use Rattle.inventories.proofs.lines.write_entry.Goals as goal

pub unwrap-requires : goal.unwrap-requires
unwrap-requires c = (line_put _ c.write_line.result (four_fields _ c.args.number _ _ c.args.bytes.now (c.as_bytes.ensures.value ∙ c.of-digests.ensures.fnv) (c.as_bytes-2.ensures.value ∙ c.of-digests.ensures.sha)) c.write_line.ensures c.requires).0

pub returns : goal.returns
returns c = (line_put _ c.write_line.result (four_fields _ c.args.number _ _ c.args.bytes.now (c.as_bytes.ensures.value ∙ c.of-digests.ensures.fnv) (c.as_bytes-2.ensures.value ∙ c.of-digests.ensures.sha)) c.write_line.ensures c.requires).1
