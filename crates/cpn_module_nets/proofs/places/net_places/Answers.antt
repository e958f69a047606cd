-- Each item is read as the next one of the list, or refused with it.
use Rattle.std.proofs.Common.{◌∙◌, [], ◌∷◌, map, arith}
use Rattle.std.proofs.lemmas.Result.{err_from_is_err_and}
use Rattle.std.proofs.lemmas.List.{map-append}
use Rattle.cpn_core.specs.Nets.{place_view}
use Rattle.cpn_module_trees.specs.TreesViews.{place_trees_view}
use Rattle.cpn_declared.specs.DeclsViews.{decls_view}
use Rattle.cpn_module_nets.specs.Accepted.{net_place}
use Rattle.cpn_module_nets.specs.Answers.{net_refusal_of}
use Rattle.cpn_readings.proofs.NumberedLists.{numbered_more, numbered_refused, numbered_done}
use Rattle.cpn_module_nets.proofs.places.net_places.Goals as goal

pub returns-in_err-net_place : goal.returns-in_err-net_place
returns-in_err-net_place c = record {
  reads = (
      let p = err_from_is_err_and c.from_residual-in_err-net_place.result c.from_residual-in_err-net_place.ensures.1 in
      rw (p.1, p.2) (numbered_refused place_trees_view (net_place (decls_view c.args.decls.now) c.args.of_module) c.args.places.now c.loop-number.number c.index-places-number.result c.loop-number-test.true c.index-places-number.is (map place_view c.loop-number.made.items) (net_refusal_of c.in_err-net_place.field-0.0) c.loop-number.invariant c.in_err-net_place.ensures.reads));
}

pub loop-number-preserved : goal.loop-number-preserved
loop-number-preserved c =
    rw (c.in_ok-push.ensures.items, map-append place_view c.loop-number.made.items (c.in_ok-net_place.field-0 ∷ []))
    (numbered_more place_trees_view (net_place (decls_view c.args.decls.now) c.args.of_module) c.args.places.now c.loop-number.number c.index-places-number.result c.loop-number-test.true c.index-places-number.is (map place_view c.loop-number.made.items) (place_view c.in_ok-net_place.field-0) c.in_ok-net_place.ensures.reads ∙ c.loop-number.invariant)

pub returns : goal.returns
returns c = record { reads = numbered_done place_trees_view (net_place (decls_view c.args.decls.now) c.args.of_module) c.args.places.now c.loop-number.number (map place_view c.loop-number.made.items) (omega arith) c.loop-number.invariant }
