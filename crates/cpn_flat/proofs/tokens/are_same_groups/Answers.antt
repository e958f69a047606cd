-- Where one group differs, the lists do.
use Rattle.std.proofs.Common.{◌<◌, length, IsTrue, subst, arith}
use Rattle.cpn_tmset.specs.ListedViews.{group_view}
use Rattle.cpn_flat.proofs.EqualGroups.{same_there}
use Rattle.cpn_flat.proofs.tokens.are_same_groups.Goals as goal

pub returns-then-not-is_same_group : goal.returns-then-not-is_same_group
returns-then-not-is_same_group c =
    let within : c.loop-number.number < length c.args.others.now = omega (arith, c.if-groups-others.false, c.loop-number-test.true) in
    record {
      exact = (
        λ e. cc,
        λ e. subst IsTrue c.if-not-is_same_group.true (c.is_same_group.ensures.exact.1 (same_there group_view c.args.groups.now c.args.others.now c.loop-number.number c.index-groups-number.result c.index-others-number.result c.loop-number-test.true within c.index-groups-number.is c.index-others-number.is e)),
      );
    }
