-- One demand more.
use Rattle.std.proofs.Common.{sym, append-nil, arith}
use Rattle.cpn_core.specs.Views.{value_view}
use Rattle.cpn_tmset.specs.PicksViews.{demands_of}
use Rattle.cpn_tmset.proofs.GrownLists.{demanded_next, all_demanded, demand_is}
use Rattle.cpn_tmset.proofs.picks.push_demands.Goals as goal

pub loop-number-init : goal.loop-number-init
loop-number-init c = sym (append-nil (demands_of c.args.picks.now.items))

pub loop-number-preserved : goal.loop-number-preserved
loop-number-preserved c =
    let v = value_view c.args.value.now in
    let before = demands_of c.args.picks.now.items in
    demanded_next v c.args.time before c.loop-number.picks.items c.push.new.self.items c.loop-number._number _ (demand_is v c.args.time before _ c.in_ok-value.ensures.same) c.in_ok-push.ensures.items c.loop-number.invariant

pub returns : goal.returns
returns c = record { demands = all_demanded (value_view c.args.value.now) c.args.time (demands_of c.args.picks.now.items) _ c.loop-number._number c.args.number (omega arith) c.loop-number.invariant }
