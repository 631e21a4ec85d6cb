use Rattle.std.proofs.Common.{refl, arith}
use Rattle.vector_files.proofs.Walks.{entry_shorter}
use Rattle.vector_reports.proofs.Progress.{begun, said, reported, finished}
use Rattle.vectors.proofs.report.Goals as goal

pub loop-record-init : goal.loop-record-init
loop-record-init c = record {
  long = omega (arith, c.in_ok-messages.ensures.len);
  reported = begun c.new-text.ensures.items c.over-reader.ensures.passed c.over-reader.ensures.left c.new-tally.ensures;
}

pub loop-record-smaller : goal.loop-record-smaller
loop-record-smaller c = entry_shorter _ _ _ _ _ c.in-Some.ensures.next.1 refl

pub loop-record-preserved : goal.loop-record-preserved
loop-record-preserved c =
    let held = c.loop-record.invariant in
    let examined = c.in-Some.ensures.next.2 in record {
      long = held.long;
      reported =
          reported c.in-Some.ensures.next.0 c.in-Some.record held.reported c.in-Some.ensures.next.1
          (omega (arith, held.long, c.as_mut_slice.ensures.len)) examined.line (said examined) c.count.ensures.one_more c.in_ok-add_line.ensures;
    }

pub returns : goal.returns
returns c = finished c.loop-record.invariant.reported c.in_default.ensures.next.0 c.in_ok-add_line-2.ensures
