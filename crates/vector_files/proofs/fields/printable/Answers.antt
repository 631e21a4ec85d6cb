use Rattle.std.proofs.Common.{rules, tests}
use Rattle.std.proofs.lemmas.Iterator.{cases_from_all, YieldsList-from_slice}
use Rattle.vector_files.specs.Vectors.{Printable}
use Rattle.vector_files.proofs.Names.{decided}
use Rattle.vector_files.proofs.fields.printable.Goals as goal

pub returns : goal.returns
returns c =
    decided c.args.s.now _
    (cases_from_all _ _ _ Printable (λ b. Printable b → ⊥) c.all.ensures.ran (YieldsList-from_slice c.args.s.now cc) (λ x q k. search (rules, tests)) (λ x q k. search (rules, tests)))
