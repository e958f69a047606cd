-- Each item is read as the next one of the list, or refused with it.
use Rattle.std.proofs.Common.{◌≡◌, subst, ◌∙◌, [], ◌∷◌, map, arith}
use Rattle.std.proofs.lemmas.Result.{err_from_is_err_and}
use Rattle.std.proofs.lemmas.List.{map-append}
use Rattle.std.specs.Prelude.{Option, option_map}
use Rattle.cpn_core.specs.declared.inscriptions.ArcExpr.{ArcExpr}
use Rattle.cpn_accepted.specs.Views.{initial_view}
use Rattle.cpn_module_trees.specs.TreesViews.{place_trees_view}
use Rattle.cpn_declared.specs.DeclsViews.{decls_view}
use Rattle.cpn_module_nets.specs.Accepted.{initial_of, initial_at}
use Rattle.cpn_core.specs.Nets.{place_view}
use Rattle.cpn_module_nets.specs.Answers.{net_refusal_of, Refuses}
use Rattle.cpn_module_nets.specs.Reading.{read}
use Rattle.cpn_module_nets.proofs.PlaceColours.{colour_there}
use Rattle.cpn_readings.proofs.NumberedLists.{numbered_more, numbered_refused, numbered_done}
use Rattle.cpn_module_nets.specs.Pointers.{initial_pointer}
use Rattle.cpn_module_nets.proofs.places.initials_of.Goals as goal

pub returns-in_err-initial_of : goal.returns-in_err-initial_of
returns-in_err-initial_of c = record {
  reads = (
      let p = err_from_is_err_and c.from_residual-in_err-initial_of.result c.from_residual-in_err-initial_of.ensures.1 in
      rw (p.1, p.2) (numbered_refused place_trees_view (initial_of (decls_view c.args.decls.now) (map place_view c.args.places.now) c.args.of_module) c.args.written.now c.loop-number.number c.index-written-number.result c.loop-number-test.true c.index-written-number.is (map (λ (initial : Option ArcExpr). option_map initial_view initial) c.loop-number.initials.items) (net_refusal_of c.in_err-initial_of.field-0.0) c.loop-number.invariant
      (subst (λ colour. Refuses (net_refusal_of c.in_err-initial_of.field-0.0) (initial_at (decls_view c.args.decls.now) colour (initial_pointer c.args.of_module c.loop-number.number) (place_trees_view c.index-written-number.result).initial)) (colour_there c.args.places.now c.loop-number.number c.index-places-number.result (omega (arith, c.requires.as_many, c.loop-number-test.true))) c.in_err-initial_of.ensures.reads)));
}

pub loop-number-preserved : goal.loop-number-preserved
loop-number-preserved c =
    rw (c.in_ok-push.ensures.items, map-append (λ (initial : Option ArcExpr). option_map initial_view initial) c.loop-number.initials.items (c.in_ok-initial_of.field-0 ∷ []))
    (numbered_more place_trees_view (initial_of (decls_view c.args.decls.now) (map place_view c.args.places.now) c.args.of_module) c.args.written.now c.loop-number.number c.index-written-number.result c.loop-number-test.true c.index-written-number.is (map (λ (initial : Option ArcExpr). option_map initial_view initial) c.loop-number.initials.items) ((λ (initial : Option ArcExpr). option_map initial_view initial) c.in_ok-initial_of.field-0) (subst (λ colour. initial_at (decls_view c.args.decls.now) colour (initial_pointer c.args.of_module c.loop-number.number) (place_trees_view c.index-written-number.result).initial ≡ read (option_map initial_view c.in_ok-initial_of.field-0)) (colour_there c.args.places.now c.loop-number.number c.index-places-number.result (omega (arith, c.requires.as_many, c.loop-number-test.true))) c.in_ok-initial_of.ensures.reads) ∙ c.loop-number.invariant)

pub returns : goal.returns
returns c = record { reads = numbered_done place_trees_view (initial_of (decls_view c.args.decls.now) (map place_view c.args.places.now) c.args.of_module) c.args.written.now c.loop-number.number (map (λ (initial : Option ArcExpr). option_map initial_view initial) c.loop-number.initials.items) (omega arith) c.loop-number.invariant }
