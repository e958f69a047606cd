-- The colour set goes last.
use Rattle.std.proofs.Common.{refl}
use Rattle.cpn_typing.proofs.Grown.{same_parts}
use Rattle.cpn_declared.proofs.NewNames.{colours_with}
use Rattle.cpn_declared.proofs.decls.Decls.add_colour.Goals as goal

pub returns-clause-added : goal.returns-clause-added
returns-clause-added c =
    same_parts _ _ _ _ _ _ _ _ _ _ _ _
    (colours_with c.args.name.now c.args.colour c.args.self.now.colours c.push.new.self c.in_ok-push.ensures.added)
    refl refl refl refl refl
