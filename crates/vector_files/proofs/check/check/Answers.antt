use Rattle.std.proofs.Common.{refl}
use Rattle.std.proofs.lemmas.Result.{err_from_is_err_and}
use Rattle.vector_files.specs.Checks.{no_digest, no_message}
use Rattle.vector_files.proofs.Findings.{reported, good_only_long}
use Rattle.vector_files.proofs.check.check.Goals as goal

pub returns-in_err-expected : goal.returns-in_err-expected
returns-in_err-expected c =
    let p = err_from_is_err_and c.from_residual.result c.from_residual.ensures.1 in
    let e = c.in_err-expected.ensures in
    let n = no_digest e.1 in
    rw (p.1, p.2, e.0) (record { checks = (n, refl); good = good_only_long c.args.vector _ _ n })

pub returns-in_err-length : goal.returns-in_err-length
returns-in_err-length c =
    let p = err_from_is_err_and c.from_residual-in_err-length.result c.from_residual-in_err-length.ensures.1 in
    let e = c.in_err-length.ensures in
    let n = no_message _ c.in_ok-expected.ensures e.0 in
    rw (p.1, p.2) (record { checks = (n, e.1); good = good_only_long c.args.vector _ _ n })

pub returns : goal.returns
returns c = record {
  checks = reported c.args.vector c.args.buffer.now _ _ c.in_ok-expected.expected c.digests-digests.result _ c.in_ok-expected.ensures c.in_ok-length.ensures c.digests-digests.ensures c.compare.ensures;
  good = λ _. tt;
}
