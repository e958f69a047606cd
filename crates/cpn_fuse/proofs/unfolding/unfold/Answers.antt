-- What is unfolded is told, and the laws of it hold.
use Rattle.cpn_module.specs.Views.{hierarchy_view}
use Rattle.cpn_fuse.proofs.ComingFirst.{one_unfolding, one_refusal, not_both}
use Rattle.cpn_fuse.proofs.unfolding.unfold.Goals as goal

pub returns : goal.returns
returns c =
    let h = hierarchy_view c.args.hierarchy.now in
    record {
      unfolded = c.unfolding_of.ensures.unfolded;
      refused = c.unfolding_of.ensures.refused;
      one = one_unfolding h;
      one_refusal = one_refusal h;
      not_both = not_both h;
    }
