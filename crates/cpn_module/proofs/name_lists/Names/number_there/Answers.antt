-- A name that is there has the number that is its position.
use Rattle.std.proofs.Common.{sym, ap, ◌∙◌}
use Rattle.std.specs.Prelude.{is_some}
use Rattle.cpn_module.proofs.NameNumbers.{told, found}
use Rattle.cpn_module.proofs.name_lists.Names.number_there.Goals as goal

pub unwrap-requires : goal.unwrap-requires
unwrap-requires c = ap is_some c.number.ensures.number ∙ told c.args.name.now c.args.self.now ∙ c.requires.there

pub returns : goal.returns
returns c = record { number = (found c.args.name.now c.args.self.now c.unwrap.result (sym c.number.ensures.number ∙ c.unwrap.ensures)).1 }
