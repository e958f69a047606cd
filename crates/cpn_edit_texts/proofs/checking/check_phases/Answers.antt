-- The next phase is read in the first net, and so in the edited one; or the first refusal is its.
use Rattle.std.proofs.Common.{List, map, [], ◌∷◌, arith, refl, sym, subst, take}
use Rattle.std.proofs.lemmas.List.{map-append}
use Rattle.std.proofs.lemmas.Result.{err_from_is_err_and}
use Rattle.cpn_core.specs.Nets.{net_view}
use Rattle.cpn_declared.specs.DeclsViews.{decls_view}
use Rattle.cpn_document.specs.Views.{edit_view as written_edit_view, phase_view as written_view}
use Rattle.cpn_document.specs.declared.document.Edit.{Edit as WrittenEdit}
use Rattle.cpn_monitor.specs.Views.{monitors_view}
use Rattle.cpn_readings.specs.Relations.{RefusesBy}
use Rattle.cpn_readings.proofs.RelatedLists.{AreRead, related_more, related_refused, related_done}
use Rattle.cpn_edit_texts.specs.Answers.{edit_refusal_of}
use Rattle.cpn_edit_texts.specs.Checked.{edits_so, phase_so}
use Rattle.cpn_edit_texts.specs.Reading.{read}
use Rattle.cpn_edit_texts.specs.Views.{edits_view, phase_view, phases_view}
use Rattle.cpn_edit_texts.specs.declared.edits.Phase.{Phase}
use Rattle.cpn_edit_texts.proofs.AlikeEdits.{phases_each, phases_refused}
use Rattle.cpn_edit_texts.proofs.CheckedEdits.{phase_refused, phase_made}
use Rattle.cpn_edit_texts.proofs.checking.check_phases.Goals as goal

pub loop-number-init : goal.loop-number-init
loop-number-init c =
    let reads = phase_so (decls_view c.args.decls.now) (monitors_view c.args.monitors.now) (net_view c.args.net.now) in
    subst (λ (phases : List Phase). AreRead reads 0 (map written_view (take 0 c.args.written.now)) (phases_view phases)) (sym c.in_ok-phases.ensures.items) tt

pub loop-number-preserved : goal.loop-number-preserved
loop-number-preserved c =
    let ds = decls_view c.args.decls.now in
    let ms = monitors_view c.args.monitors.now in
    let n = net_view c.args.net.now in
    let i = c.loop-number.number in
    let written = c.index-written-number.result in
    let phases = c.loop-number.phases.items in
    let edits = edits_view c.in_ok-edits.edits.items in
    let here = subst (λ (es : List WrittenEdit). edits_so ds ms i 0 n (map written_edit_view es) (read edits)) c.as_slice.ensures.value (rw (← c.in_ok-named.ensures.net) c.in_ok-edits.ensures.reads) in
    rw (c.in_ok-push.ensures.items, map-append phase_view phases (_ ∷ []))
    (related_more (phase_so ds ms n) written_view c.args.written.now i written c.loop-number-test.true c.index-written-number.is (phases_view phases) c.loop-number.invariant (record { start = written.start; edits = edits }) (phase_made ds ms n i (written_view written) edits here))

pub returns : goal.returns
returns c = record {
  reads = (
      let ds = decls_view c.args.decls.now in
      let ms = monitors_view c.args.monitors.now in
      let n = net_view c.args.net.now in
      let phases = phases_view c.loop-number.phases.items in
      phases_each ds ms 0 n n refl c.requires.editable.declares (map written_view c.args.written.now) (read phases)
      (related_done (phase_so ds ms n) written_view c.args.written.now c.loop-number.number phases (omega arith) c.loop-number.invariant));
}

pub returns-in_err-edits : goal.returns-in_err-edits
returns-in_err-edits c = record {
  reads = (
      let ds = decls_view c.args.decls.now in
      let ms = monitors_view c.args.monitors.now in
      let n = net_view c.args.net.now in
      let i = c.loop-number.number in
      let written = c.index-written-number.result in
      let o = edit_refusal_of c.in_err-edits.field-0.0 in
      let p = err_from_is_err_and c.from_residual-in_err-edits.result c.from_residual-in_err-edits.ensures.1 in
      let here = subst (λ (es : List WrittenEdit). RefusesBy (edits_so ds ms i 0 n (map written_edit_view es)) o) c.as_slice.ensures.value (rw (← c.in_ok-named.ensures.net) c.in_err-edits.ensures.reads) in
      rw (p.1, p.2) (phases_refused ds ms n c.requires.editable.declares (map written_view c.args.written.now) o
      (related_refused (phase_so ds ms n) written_view c.args.written.now i written c.loop-number-test.true c.index-written-number.is (phases_view c.loop-number.phases.items) c.loop-number.invariant o (phase_refused ds ms n i (written_view written) o here))));
}
