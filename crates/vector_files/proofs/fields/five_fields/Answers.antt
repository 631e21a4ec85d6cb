use Rattle.vector_files.proofs.Tabbing.{no_tab, no_rest, no_more}
use Rattle.vector_files.proofs.fields.five_fields.Goals as goal

pub returns-in_err-name : goal.returns-in_err-name
returns-in_err-name c = rw c.from_residual.ensures (λ v w x y z. no_tab c.args.line.now v w _ c.in_err-name.ensures)

pub returns-in_err-hash : goal.returns-in_err-hash
returns-in_err-hash c =
    rw c.from_residual-in_err-hash.ensures (λ v w x y z.
    no_rest c.args.line.now v w _ _ _ c.in_ok-name.ensures (no_tab _ w x _ c.in_err-hash.ensures))

pub returns-in_err-form : goal.returns-in_err-form
returns-in_err-form c =
    rw c.from_residual-in_err-form.ensures (λ v w x y z.
    no_rest c.args.line.now v w _ _ _ c.in_ok-name.ensures
    (no_rest _ w x _ _ _ c.in_ok-hash.ensures (no_tab _ x y _ c.in_err-form.ensures)))

pub returns-in_err-message : goal.returns-in_err-message
returns-in_err-message c =
    rw c.from_residual-in_err-message.ensures (λ v w x y z.
    no_rest c.args.line.now v w _ _ _ c.in_ok-name.ensures
    (no_rest _ w x _ _ _ c.in_ok-hash.ensures
    (no_rest _ x y _ _ _ c.in_ok-form.ensures (no_tab _ y z _ c.in_err-message.ensures))))

pub returns-then-is_some : goal.returns-then-is_some
returns-then-is_some c v w x y z =
    no_rest c.args.line.now v w _ _ _ c.in_ok-name.ensures
    (no_rest _ w x _ _ _ c.in_ok-hash.ensures
    (no_rest _ x y _ _ _ c.in_ok-form.ensures
    (no_rest _ y z _ _ _ c.in_ok-message.ensures (no_more _ z _ c.cut-5.ensures cc))))
