-- The longest run of bytes of names is a name or a reserved word.
use Rattle.cpn_lex.specs.Lexis.{is_name_byte}
use Rattle.cpn_lex.proofs.ByteRuns.{run_passes, name_begins}
use Rattle.cpn_lex.proofs.names.name_front.Goals as goal

pub name_text-requires : goal.name_text-requires
name_text-requires c = rw c.name_length-length.ensures (run_passes is_name_byte c.args.text.now)

pub returns-clause-ok : goal.returns-clause-ok
returns-clause-ok c = rw (c.name_length-length.ensures, c.in_ok-kind.ensures, c.name_text.ensures, c.name_length-length.ensures) (name_begins c.args.text.now c.requires)
