use Rattle.std.proofs.Common.{◌≡◌, ◌*◌, ℕ, drop, ap, ◌∙◌, arith, rules}
use Rattle.std.proofs.lemmas.List.{take_rest}
use Rattle.recordings.proofs.Cuts.{length-recordings, only_cut, first_chunk}
use Rattle.recordings.proofs.recording.Goals as goal

pub returns-in_err-checked_mul-clause-value : goal.returns-in_err-checked_mul-clause-value
returns-in_err-checked_mul-clause-value c = grind (arith, length-recordings)

pub returns-in_err-checked_mul-clause-cut : goal.returns-in_err-checked_mul-clause-cut
returns-in_err-checked_mul-clause-cut c = only_cut c.args.library.now

pub returns-in_err-rest-clause-value : goal.returns-in_err-rest-clause-value
returns-in_err-rest-clause-value c = grind (arith, length-recordings)

pub returns-in_err-rest-clause-cut : goal.returns-in_err-rest-clause-cut
returns-in_err-rest-clause-cut c = only_cut c.args.library.now

pub returns-clause-value : goal.returns-clause-value
returns-clause-value c =
    let library = c.args.library.now in
    let from : c.in_ok-checked_mul.field-0 ≡ c.args.number * 4096 = grind arith in
    let begins = c.in_ok-rest.ensures.lookup.0.2 ∙ take_rest library _ ∙ ap (λ (k : ℕ). drop k library) from in
    first_chunk library c.args.number _ c.next.new.self c.next.result (search rules) (search rules ∙ begins) c.next.ensures.steps

pub returns-clause-cut : goal.returns-clause-cut
returns-clause-cut c = only_cut c.args.library.now
