-- Each item is read as the next one of the list, or refused with it.
use Rattle.std.proofs.Common.{◌∙◌, [], ◌∷◌, map, arith}
use Rattle.std.proofs.lemmas.Result.{err_from_is_err_and}
use Rattle.std.proofs.lemmas.List.{map-append}
use Rattle.cpn_module_trees.specs.TreesViews.{module_trees_view}
use Rattle.cpn_declared.specs.DeclsViews.{decls_view}
use Rattle.cpn_module_nets.specs.Accepted.{places_of}
use Rattle.cpn_module_nets.specs.Answers.{net_refusal_of}
use Rattle.cpn_readings.proofs.NumberedLists.{numbered_more, numbered_refused, numbered_done}
use Rattle.cpn_module_nets.specs.AcceptedViews.{places_view}
use Rattle.cpn_module_nets.proofs.places.places_of_each.Goals as goal

pub returns-in_err-places_of : goal.returns-in_err-places_of
returns-in_err-places_of c = record {
  reads = (
      let p = err_from_is_err_and c.from_residual-in_err-places_of.result c.from_residual-in_err-places_of.ensures.1 in
      rw (p.1, p.2) (numbered_refused module_trees_view (places_of (decls_view c.args.decls.now)) c.args.modules.now c.loop-number.number c.index-modules-number.result c.loop-number-test.true c.index-modules-number.is (map places_view c.loop-number.made.items) (net_refusal_of c.in_err-places_of.field-0.0) c.loop-number.invariant c.in_err-places_of.ensures.reads));
}

pub loop-number-preserved : goal.loop-number-preserved
loop-number-preserved c =
    rw (c.in_ok-push.ensures.items, map-append places_view c.loop-number.made.items (c.in_ok-places_of.field-0 ∷ []))
    (numbered_more module_trees_view (places_of (decls_view c.args.decls.now)) c.args.modules.now c.loop-number.number c.index-modules-number.result c.loop-number-test.true c.index-modules-number.is (map places_view c.loop-number.made.items) (places_view c.in_ok-places_of.field-0) c.in_ok-places_of.ensures.reads ∙ c.loop-number.invariant)

pub returns : goal.returns
returns c = record { reads = numbered_done module_trees_view (places_of (decls_view c.args.decls.now)) c.args.modules.now c.loop-number.number (map places_view c.loop-number.made.items) (omega arith) c.loop-number.invariant }
