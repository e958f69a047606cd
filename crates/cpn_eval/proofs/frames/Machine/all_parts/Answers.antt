-- No part is done where the first of them begins.
use Rattle.std.proofs.Common.{refl}
use Rattle.cpn_definitions.specs.Inscription.{apply}
use Rattle.cpn_core.specs.Inscriptions.{exprs_view}
use Rattle.cpn_eval.specs.Frames.{head_view}
use Rattle.cpn_eval.proofs.Turns.{goes_same, parts_goes}
use Rattle.cpn_eval.proofs.frames.Machine.all_parts.Goals as goal

pub returns : goal.returns
returns c =
    goes_same c.args.world.now c.parts.new.self c.parts.result _ _ (parts_goes c.args.world.now c.args.self.now (head_view c.args.head) c.new.result.items c.args.parts.now c.args.parts.now (apply (head_view c.args.head) (exprs_view c.args.parts.now)) c.new.ensures.items refl refl) c.parts.ensures
