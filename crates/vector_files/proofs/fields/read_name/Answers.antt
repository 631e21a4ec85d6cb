use Rattle.vector_files.proofs.Names.{read}
use Rattle.vector_files.proofs.fields.read_name.Goals as goal

pub unwrap-requires : goal.unwrap-requires
unwrap-requires c = read c.args.field.now _ _ _ c.from_utf8.ensures.cases (c.printable.ensures.0 c.if-not-printable.false)
