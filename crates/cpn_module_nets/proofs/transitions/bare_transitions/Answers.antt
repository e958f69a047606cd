-- Each item is read as the next one of the list, or refused with it.
use Rattle.std.proofs.Common.{◌∙◌, [], ◌∷◌, map, arith}
use Rattle.std.proofs.lemmas.Result.{err_from_is_err_and}
use Rattle.std.proofs.lemmas.List.{map-append}
use Rattle.cpn_core.specs.Nets.{transition_view}
use Rattle.cpn_module_trees.specs.TreesViews.{transition_trees_view}
use Rattle.cpn_declared.specs.DeclsViews.{decls_view}
use Rattle.cpn_module_nets.specs.Accepted.{bare_transition}
use Rattle.cpn_module_nets.specs.Answers.{net_refusal_of}
use Rattle.cpn_readings.proofs.NumberedLists.{numbered_more, numbered_refused, numbered_done}
use Rattle.cpn_module_nets.proofs.transitions.bare_transitions.Goals as goal

pub returns-in_err-bare_transition : goal.returns-in_err-bare_transition
returns-in_err-bare_transition c = record {
  reads = (
      let p = err_from_is_err_and c.from_residual-in_err-bare_transition.result c.from_residual-in_err-bare_transition.ensures.1 in
      rw (p.1, p.2) (numbered_refused transition_trees_view (bare_transition (decls_view c.args.decls.now) c.args.of_module) c.args.transitions.now c.loop-number.number c.index-transitions-number.result c.loop-number-test.true c.index-transitions-number.is (map transition_view c.loop-number.made.items) (net_refusal_of c.in_err-bare_transition.field-0.0) c.loop-number.invariant c.in_err-bare_transition.ensures.reads));
}

pub loop-number-preserved : goal.loop-number-preserved
loop-number-preserved c =
    rw (c.in_ok-push.ensures.items, map-append transition_view c.loop-number.made.items (c.in_ok-bare_transition.field-0 ∷ []))
    (numbered_more transition_trees_view (bare_transition (decls_view c.args.decls.now) c.args.of_module) c.args.transitions.now c.loop-number.number c.index-transitions-number.result c.loop-number-test.true c.index-transitions-number.is (map transition_view c.loop-number.made.items) (transition_view c.in_ok-bare_transition.field-0) c.in_ok-bare_transition.ensures.reads ∙ c.loop-number.invariant)

pub returns : goal.returns
returns c = record { reads = numbered_done transition_trees_view (bare_transition (decls_view c.args.decls.now) c.args.of_module) c.args.transitions.now c.loop-number.number (map transition_view c.loop-number.made.items) (omega arith) c.loop-number.invariant }
