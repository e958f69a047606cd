-- The next edit is read in the first net, and so in the edited one; or the first refusal is its.
use Rattle.std.proofs.Common.{List, map, [], ◌∷◌, arith, refl, sym, subst, take}
use Rattle.std.proofs.lemmas.List.{map-append}
use Rattle.std.proofs.lemmas.Result.{err_from_is_err_and}
use Rattle.cpn_core.specs.Nets.{net_view}
use Rattle.cpn_declared.specs.DeclsViews.{decls_view}
use Rattle.cpn_document.specs.Views.{edit_view as written_view}
use Rattle.cpn_monitor.specs.Views.{monitors_view}
use Rattle.cpn_readings.proofs.RelatedLists.{AreRead, related_more, related_refused, related_done}
use Rattle.cpn_edit_texts.specs.Answers.{edit_refusal_of}
use Rattle.cpn_edit_texts.specs.Reading.{read}
use Rattle.cpn_edit_texts.specs.Views.{edit_view, edits_view}
use Rattle.cpn_edit_texts.specs.declared.edits.Edit.{Edit}
use Rattle.cpn_edit_texts.proofs.AlikeEdits.{edit_of, edits_each, edits_refused}
use Rattle.cpn_edit_texts.proofs.checking.edits_of.Goals as goal

pub loop-number-init : goal.loop-number-init
loop-number-init c =
    let reads = edit_of (decls_view c.args.decls.now) (monitors_view c.args.monitors.now) (net_view c.args.named.now) c.args.phase in
    subst (λ (edits : List Edit). AreRead reads 0 (map written_view (take 0 c.args.written.now)) (edits_view edits)) (sym c.in_ok-edits.ensures.items) tt

pub loop-number-preserved : goal.loop-number-preserved
loop-number-preserved c =
    let reads = edit_of (decls_view c.args.decls.now) (monitors_view c.args.monitors.now) (net_view c.args.named.now) c.args.phase in
    let edits = c.loop-number.edits.items in
    let edit = c.in_ok-edit_in.field-0 in
    rw (c.in_ok-push.ensures.items, map-append edit_view edits (edit ∷ []))
    (related_more reads written_view c.args.written.now c.loop-number.number c.index-written-number.result c.loop-number-test.true c.index-written-number.is (edits_view edits) c.loop-number.invariant (edit_view edit) c.in_ok-edit_in.ensures.reads)

pub returns : goal.returns
returns c = record {
  reads = (
      let ds = decls_view c.args.decls.now in
      let ms = monitors_view c.args.monitors.now in
      let n = net_view c.args.named.now in
      let edits = edits_view c.loop-number.edits.items in
      edits_each ds ms c.args.phase 0 n n refl c.requires.editable.declares (map written_view c.args.written.now) (read edits)
      (related_done (edit_of ds ms n c.args.phase) written_view c.args.written.now c.loop-number.number edits (omega arith) c.loop-number.invariant));
}

pub returns-in_err-edit_in : goal.returns-in_err-edit_in
returns-in_err-edit_in c = record {
  reads = (
      let ds = decls_view c.args.decls.now in
      let ms = monitors_view c.args.monitors.now in
      let n = net_view c.args.named.now in
      let o = edit_refusal_of c.in_err-edit_in.field-0.0 in
      let p = err_from_is_err_and c.from_residual-in_err-edit_in.result c.from_residual-in_err-edit_in.ensures.1 in
      rw (p.1, p.2) (edits_refused ds ms c.args.phase n c.requires.editable.declares (map written_view c.args.written.now) o
      (related_refused (edit_of ds ms n c.args.phase) written_view c.args.written.now c.loop-number.number c.index-written-number.result c.loop-number-test.true c.index-written-number.is (edits_view c.loop-number.edits.items) c.loop-number.invariant o c.in_err-edit_in.ensures.reads)));
}
