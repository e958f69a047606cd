-- Parts that wait come before all others.
use Rattle.std.proofs.Common.{◌∙◌, ap}
use Rattle.cpn_module.specs.Views.{hierarchy_view}
use Rattle.cpn_fuse.specs.Waiting.{waiting_instances}
use Rattle.cpn_fuse.proofs.WaitingParts.{waiting_more}
use Rattle.cpn_fuse.proofs.preorder.wait.Goals as goal

pub returns-in_ok-push-clause-before : goal.returns-in_ok-push-clause-before
returns-in_ok-push-clause-before c =
    let h = hierarchy_view c.args.hierarchy.now in
    ap (waiting_instances h) c.in_ok-push.ensures.items ∙ waiting_more h c.args.waiting.now.items c.args.parts
