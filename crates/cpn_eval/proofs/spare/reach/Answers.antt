-- A frame with a part left may read a local.
use Rattle.std.proofs.Common.{◌≢◌, [], sym, ap, ◌∙◌, arith}
use Rattle.std.proofs.lemmas.Grind.{common_steps}
use Rattle.cpn_eval.specs.Held.{all_held}
use Rattle.cpn_eval.specs.Frames.{head_view, frame_view}
use Rattle.cpn_eval.specs.Spare.{reach_of}
use Rattle.cpn_eval.proofs.SpareLocals.{reads_more}
use Rattle.cpn_eval.proofs.spare.reach.Goals as goal

pub returns-else-is_empty : goal.returns-else-is_empty
returns-else-is_empty c =
    let some : c.in-Parts.rest.now ≢ [] = grind (arith, common_steps) in
    record { reach = sym (ap (λ f. reach_of (frame_view f) c.args.number) c.in-Parts.is ∙ reads_more (head_view c.in-Parts.field-0) (all_held c.in-Parts.field-1) c.in-Parts.rest.now c.args.number some) }
