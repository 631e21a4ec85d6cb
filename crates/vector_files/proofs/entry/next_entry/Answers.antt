use Rattle.std.proofs.lemmas.Bool.Decides.{not_from_Decides}
use Rattle.vector_files.proofs.Walks.{past_remark, shorter, a_line, at_last}
use Rattle.std.proofs.Common.{rules, refl}
use Rattle.vector_files.proofs.entry.next_entry.Goals as goal

pub returns-then-not-is_remark : goal.returns-then-not-is_remark
returns-then-not-is_remark c =
    let n = c.in-Some.ensures in
    a_line c.args.reader.now c.loop-line.reader c.next_line.new.self c.in-Some.line _ c.loop-line.invariant n.0 n.1 (not_from_Decides _ c.is_remark.ensures c.if-not-is_remark.true) c.read_vector.ensures.reads

pub loop-line-smaller : goal.loop-line-smaller
loop-line-smaller c = shorter c.loop-line.reader c.next_line.new.self c.in-Some.line c.in-Some.ensures.0

pub loop-line-preserved : goal.loop-line-preserved
loop-line-preserved c =
    let n = c.in-Some.ensures in
    past_remark c.args.reader.now c.loop-line.reader c.next_line.new.self c.in-Some.line c.loop-line.invariant n.0 n.1 (c.if-not-is_remark.ensures.0 refl)

pub returns : goal.returns
returns c =
    let n = c.in_default.ensures in
    at_last c.args.reader.now c.loop-line.reader c.next_line.new.self c.rest.new.self c.rest.result c.map.result _ c.loop-line.invariant n.0 n.1 c.rest.ensures
    c.map.ensures.cases (λ l e h. search rules)
