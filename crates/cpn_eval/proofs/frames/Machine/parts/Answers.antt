-- The parts that are left are evaluated one after another, then what their head does.
use Rattle.std.proofs.Common.{map, take, drop, length, ◌-◌}
use Rattle.cpn_eval.specs.Held.{held_view}
use Rattle.cpn_core.specs.Inscriptions.{expr_view, exprs_view}
use Rattle.cpn_eval.specs.Frames.{head_view}
use Rattle.cpn_eval.proofs.FirstParts.{first_part}
use Rattle.cpn_eval.proofs.Turns.{next_goes, goes_same}
use Rattle.cpn_eval.proofs.frames.Machine.parts.Goals as goal

pub returns-in-len1-up : goal.returns-in-len1-up
returns-in-len1-up c =
    rw (first_part c.args.rest.now c.next-item.result c.in-len1-up.len_at_least c.next-item.is)
    (goes_same c.args.world.now c.wait.new.self c.wait.result _ _ (next_goes c.args.world.now c.args.self.now (head_view c.args.head) (map held_view c.args.done.items) (expr_view c.next-item.result) (exprs_view (take (length c.args.rest.now - 1) (drop 1 c.args.rest.now)))) c.wait.ensures)
