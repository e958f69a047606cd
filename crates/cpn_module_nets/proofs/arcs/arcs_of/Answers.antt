-- Each item is read as the next one of the list, or refused with it.
use Rattle.std.proofs.Common.{◌≡◌, ◌∙◌, [], ◌∷◌, length, map, arith, subst}
use Rattle.std.proofs.lemmas.Result.{err_from_is_err_and}
use Rattle.std.proofs.lemmas.List.{map-append}
use Rattle.cpn_core.specs.Nets.{place_view}
use Rattle.cpn_declared.specs.DeclsViews.{decls_view}
use Rattle.cpn_module.specs.Views.{structure_view}
use Rattle.cpn_module_trees.specs.TreesViews.{tree_view}
use Rattle.cpn_readings.proofs.NumberedLists.{numbered_more, numbered_refused, numbered_done}
use Rattle.cpn_module_nets.specs.Accepted.{arc_with, arc_of}
use Rattle.cpn_module_nets.specs.AcceptedViews.{sides_view}
use Rattle.cpn_module_nets.specs.Answers.{Refuses, net_refusal_of}
use Rattle.cpn_module_nets.specs.Pointers.{expr_pointer}
use Rattle.cpn_module_nets.specs.Reading.{read}
use Rattle.cpn_module_nets.proofs.ArcEnds.{arc_there, ends_there, ends_known}
use Rattle.cpn_module_nets.proofs.arcs.arcs_of.Goals as goal

pub arc_of-requires : goal.arc_of-requires
arc_of-requires c = record {
  few = c.requires.few;
  at_place = ends_known (length c.args.places.now) c.args.structure.now c.loop-number.number c.index-ends.result.now (arc_there c.args.structure.now c.args.texts.now c.loop-number.number c.loop-number-test.true c.requires.as_many) c.index-ends.ensures c.requires.at_places;
}

pub returns-in_err-arc_of : goal.returns-in_err-arc_of
returns-in_err-arc_of c = record {
  reads = (
      let p = err_from_is_err_and c.from_residual-in_err-arc_of.result c.from_residual-in_err-arc_of.ensures.1 in
      let ds = decls_view c.args.decls.now in
      let places = map place_view c.args.places.now in
      let s = structure_view c.args.structure.now in
      rw (p.1, p.2) (numbered_refused tree_view (arc_of ds places c.args.of_module s) c.args.texts.now c.loop-number.number c.index-texts-number.result c.loop-number-test.true c.index-texts-number.is (map sides_view c.loop-number.sides.items) (net_refusal_of c.in_err-arc_of.field-0.0) c.loop-number.invariant
      (subst (λ ends. Refuses (net_refusal_of c.in_err-arc_of.field-0.0) (arc_with ds places (expr_pointer c.args.of_module c.loop-number.number) ends (tree_view c.index-texts-number.result)))
      (ends_there c.args.structure.now c.loop-number.number c.index-ends.result.now (arc_there c.args.structure.now c.args.texts.now c.loop-number.number c.loop-number-test.true c.requires.as_many) c.index-ends.ensures) c.in_err-arc_of.ensures.reads)));
}

pub loop-number-preserved : goal.loop-number-preserved
loop-number-preserved c =
    let ds = decls_view c.args.decls.now in
    let places = map place_view c.args.places.now in
    let s = structure_view c.args.structure.now in
    rw (c.in_ok-push.ensures.items, map-append sides_view c.loop-number.sides.items (c.in_ok-arc_of.field-0 ∷ []))
    (numbered_more tree_view (arc_of ds places c.args.of_module s) c.args.texts.now c.loop-number.number c.index-texts-number.result c.loop-number-test.true c.index-texts-number.is (map sides_view c.loop-number.sides.items) (sides_view c.in_ok-arc_of.field-0)
    (subst (λ ends. arc_with ds places (expr_pointer c.args.of_module c.loop-number.number) ends (tree_view c.index-texts-number.result) ≡ read (sides_view c.in_ok-arc_of.field-0))
    (ends_there c.args.structure.now c.loop-number.number c.index-ends.result.now (arc_there c.args.structure.now c.args.texts.now c.loop-number.number c.loop-number-test.true c.requires.as_many) c.index-ends.ensures) c.in_ok-arc_of.ensures.reads) ∙ c.loop-number.invariant)

pub returns : goal.returns
returns c = record { reads = numbered_done tree_view (arc_of (decls_view c.args.decls.now) (map place_view c.args.places.now) c.args.of_module (structure_view c.args.structure.now)) c.args.texts.now c.loop-number.number (map sides_view c.loop-number.sides.items) (omega arith) c.loop-number.invariant }
