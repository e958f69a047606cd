-- The edits of the first phase are there, and are made.
use Rattle.std.proofs.Common.{◌≡◌, List, ◌∷◌, Some, length, drop, refl, sym, ap, ◌∙◌, subst, rules}
use Rattle.std.specs.Prelude.{slice_get}
use Rattle.std.specs.List.{AllByRecursion}
use Rattle.cpn_core.specs.Nets.{net_view}
use Rattle.cpn_edit_texts.specs.Edits.{net_after_all, initial_after_all}
use Rattle.cpn_edit_texts.specs.Ready.{IsThere}
use Rattle.cpn_edit_texts.specs.Views.{edits_view, phase_view, phases_view}
use Rattle.cpn_edit_texts.specs.declared.edits.Edit.{Edit}
use Rattle.cpn_edit_texts.specs.declared.edits.Phase.{Phase}
use Rattle.cpn_edit.specs.Standing.{Stands}
use Rattle.cpn_edit.proofs.EditedSessions.{phase_there, phase_valid}
use Rattle.cpn_edit.proofs.StandingSessions.{head_is, there_in, edited_stands}
use Rattle.cpn_edit.proofs.sessions.Session.next_phase.Goals as goal

pub edited-requires-clause-there : goal.edited-requires-clause-there
edited-requires-clause-there c =
    let s = c.requires.stands.0 in
    let stands : Stands s c.args.self.now = c.requires.stands.1 in
    let phase : Phase = c.in-Some.phase.now in
    let first : Some phase ≡ slice_get c.args.self.now.phases.items 0 = search rules in
    let head = head_is c.args.self.now.phases.items phase first in
    let are : s.phases ≡ phase_view phase ∷ phases_view head.0 = sym stands.but_latest.phases ∙ ap phases_view head.1 in
    subst (λ (es : List Edit). AllByRecursion (IsThere (length c.args.self.now.net.value.transitions.items) (length c.args.self.now.initial)) (edits_view es)) (sym c.as_slice.ensures.value)
    (there_in s c.args.self.now stands (edits_view phase.edits.items) (phase_there s stands.but_latest.valid (phase_view phase) (phases_view head.0) are))

pub returns-clause-takes : goal.returns-clause-takes
returns-clause-takes c = λ s stands.
    let phase : Phase = c.in-Some.phase.now in
    let items = c.args.self.now.phases.items in
    let first : Some phase ≡ slice_get items 0 = search rules in
    let head = head_is items phase first in
    let are : s.phases ≡ phase_view phase ∷ phases_view head.0 = sym stands.but_latest.phases ∙ ap phases_view head.1 in
    let rest : c.remove.new.self.items ≡ head.0 = c.remove.ensures.by_index.2 ∙ ap (λ (ps : List Phase). drop 1 ps) head.1 in (
      phase_view phase,
      phases_view head.0,
      are,
      refl,
      edited_stands s c.args.self.now _ stands (record { decls = refl; monitors = refl; limits = refl; seed = refl; latest = refl }) (edits_view phase.edits.items) (phases_view head.0)
          (subst (λ (es : List Edit). net_view c.in_ok-net.net.value ≡ net_after_all (net_view c.args.self.now.net.value) (edits_view es)) c.as_slice.ensures.value c.in_ok-net.ensures.net)
          (subst (λ (es : List Edit). c.in_ok-net.initial ≡ initial_after_all c.args.self.now.initial (edits_view es)) c.as_slice.ensures.value c.in_ok-net.ensures.initial)
          (ap phases_view rest) (phase_valid s stands.but_latest.valid (phase_view phase) (phases_view head.0) are),
    )
