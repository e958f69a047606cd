-- The name goes last.
use Rattle.std.proofs.Common.{refl}
use Rattle.cpn_typing.proofs.Grown.{same_parts}
use Rattle.cpn_declared.proofs.NewNames.{names_with}
use Rattle.cpn_declared.proofs.decls.Decls.add_name.Goals as goal

pub returns-clause-added : goal.returns-clause-added
returns-clause-added c =
    same_parts _ _ _ _ _ _ _ _ _ _ _ _ refl
    (names_with c.args.name.now c.args.meaning c.args.self.now.names c.push.new.self c.in_ok-push.ensures.added)
    refl refl refl refl
