-- The places of some of the stages are some of the marking's.
use Rattle.std.proofs.Common.{◌+◌, ◌-◌, length}
use Rattle.cpn_search.proofs.TriedPlans.{placed_before, placed_behind}
use Rattle.cpn_search.proofs.trials.trials_with.Goals as goal

pub push_trials-requires : goal.push_trials-requires
push_trials-requires c = record { placed = placed_before (length c.args.marking.now) c.args.plan.now.stages.items c.deref.result.now c.args.number c.deref.ensures.value c.requires.placed }

pub push_trials-requires-2 : goal.push_trials-requires-2
push_trials-requires-2 c = record { placed = placed_behind (length c.args.marking.now) c.args.plan.now.stages.items c.deref-2.result.now (c.args.number + 1) (length c.deref-2.result.now - (c.args.number + 1)) c.deref-2.ensures.value c.requires.placed }
