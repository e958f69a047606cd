-- It is told whether the name is there.
use Rattle.cpn_declared.proofs.NewNames.{new_name_told}
use Rattle.cpn_declared.proofs.decls.Decls.is_new_name.Goals as goal

pub returns-then-not-is_predeclared : goal.returns-then-not-is_predeclared
returns-then-not-is_predeclared c = record {
  exact = new_name_told c.args.name.now c.args.self.now.names c.is_predeclared.result c.has.result c.is_predeclared.ensures.exact c.if-not-is_predeclared.true c.has.ensures.tells;
}
