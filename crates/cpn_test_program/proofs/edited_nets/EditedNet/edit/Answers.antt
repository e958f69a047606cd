-- The edited net is the old one with another guard of the transition, so the index is that of the edited net; and it may be edited further.
use Rattle.std.proofs.Common.{length, sym, ap, subst, ◌∙◌}
use Rattle.std.proofs.lemmas.List.{map-set}
use Rattle.cpn_definitions.specs.Sound.{IsSound}
use Rattle.cpn_core.specs.Nets.{net_view, transition_view}
use Rattle.cpn_declared.specs.DeclsViews.{decls_view}
use Rattle.cpn_edit_texts.specs.Edits.{edits_guard}
use Rattle.cpn_edit_texts.specs.Ready.{IsThere}
use Rattle.cpn_edit_texts.specs.Views.{edit_view}
use Rattle.cpn_monitor.specs.Views.{monitors_view}
use Rattle.cpn_test_program.specs.Editable.{IsAccepted, IsEditable}
use Rattle.cpn_test_program.proofs.AcceptedEdits.{accepted_alike, accepted_editable}
use Rattle.cpn_test_program.proofs.GuardEdits.{guard_may_be_set}
use Rattle.cpn_test_program.proofs.edited_nets.EditedNet.edit.Goals as goal

pub set_guard-requires-clause-sound : goal.set_guard-requires-clause-sound
set_guard-requires-clause-sound c =
    let ds = decls_view c.args.self.now.decls in
    let n = net_view c.args.self.now.net in
    let ms = monitors_view c.args.self.now.monitors in
    let edit = edits_guard c.in-Guard.number (transition_view c.in-Guard.edited) in
    let made = ap (λ ts. record n { transitions = ts }) (map-set transition_view c.args.self.now.net.transitions.items c.in-Guard.number c.in-Guard.edited) in
    let accepted = subst (λ e. IsAccepted ds n ms (edit_view e)) c.in-Guard.is c.requires.accepted in
    subst IsSound (sym made) (accepted_editable ds n ms edit c.requires.held.editable accepted).ready.editable.sound

pub set_guard-requires-clause-sets : goal.set_guard-requires-clause-sets
set_guard-requires-clause-sets c =
    let ds = decls_view c.args.self.now.decls in
    let n = net_view c.args.self.now.net in
    let ms = monitors_view c.args.self.now.monitors in
    let edit = edits_guard c.in-Guard.number (transition_view c.in-Guard.edited) in
    let made = ap (λ ts. record n { transitions = ts }) (map-set transition_view c.args.self.now.net.transitions.items c.in-Guard.number c.in-Guard.edited) in
    let accepted = subst (λ e. IsAccepted ds n ms (edit_view e)) c.in-Guard.is c.requires.accepted in
    guard_may_be_set n _ c.args.self.now.marking c.in-Guard.number (transition_view c.in-Guard.edited) c.args.self.now.index made c.requires.held.enabled
    (subst (λ e. IsThere (length n.transitions) (length n.places) (edit_view e)) c.in-Guard.is c.requires.there) (accepted_alike ds n ms edit accepted)

pub returns-in_ok-set_guard-in-Guard : goal.returns-in_ok-set_guard-in-Guard
returns-in_ok-set_guard-in-Guard c =
    let ds = decls_view c.args.self.now.decls in
    let n = net_view c.args.self.now.net in
    let ms = monitors_view c.args.self.now.monitors in
    let edit = edits_guard c.in-Guard.number (transition_view c.in-Guard.edited) in
    let made = ap (λ ts. record n { transitions = ts }) (map-set transition_view c.args.self.now.net.transitions.items c.in-Guard.number c.in-Guard.edited) in
    let accepted = subst (λ e. IsAccepted ds n ms (edit_view e)) c.in-Guard.is c.requires.accepted in
    let editable = accepted_editable ds n ms edit c.requires.held.editable accepted in
    record {
      held = record {
        sound = subst IsSound (sym made) editable.ready.editable.sound;
        marking = c.requires.held.marking;
        enabled = c.in_ok-set_guard-in-Guard.ensures.set;
        at = c.in_ok-set_guard-in-Guard.ensures.clock ∙ c.requires.held.at;
        editable = subst (λ k. IsEditable ds k ms) (sym made) editable;
      };
    }
