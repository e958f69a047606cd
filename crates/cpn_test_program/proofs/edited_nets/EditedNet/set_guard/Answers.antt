-- The edit that was found is accepted, so it is of a transition that is there.
use Rattle.std.proofs.Common.{subst}
use Rattle.std.specs.Prelude.{IfSome}
use Rattle.cpn_core.specs.Nets.{net_view}
use Rattle.cpn_declared.specs.DeclsViews.{decls_view}
use Rattle.cpn_edit_texts.specs.Views.{edit_view}
use Rattle.cpn_monitor.specs.Views.{monitors_view}
use Rattle.cpn_test_program.specs.Editable.{IsAccepted}
use Rattle.cpn_test_program.proofs.AcceptedEdits.{accepted_there}
use Rattle.cpn_test_program.proofs.edited_nets.EditedNet.set_guard.Goals as goal

pub edit-requires-clause-accepted : goal.edit-requires-clause-accepted
edit-requires-clause-accepted c =
    let ds = decls_view c.args.self.now.decls in
    let n = net_view c.args.self.now.net in
    let ms = monitors_view c.args.self.now.monitors in
    subst (λ found. IfSome found (λ edit. IsAccepted ds n ms (edit_view edit))) c.in-Some.is c.in_ok-found.ensures.accepted

pub edit-requires-clause-there : goal.edit-requires-clause-there
edit-requires-clause-there c =
    let ds = decls_view c.args.self.now.decls in
    let n = net_view c.args.self.now.net in
    let ms = monitors_view c.args.self.now.monitors in
    accepted_there ds n ms _ (subst (λ found. IfSome found (λ edit. IsAccepted ds n ms (edit_view edit))) c.in-Some.is c.in_ok-found.ensures.accepted)
