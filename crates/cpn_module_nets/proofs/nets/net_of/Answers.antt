-- The steps are those of the definition.
use Rattle.std.proofs.Common.{◌≡◌, map, subst}
use Rattle.std.proofs.lemmas.Result.{err_from_is_err_and}
use Rattle.cpn_core.specs.Nets.{place_view, transition_view}
use Rattle.cpn_declared.specs.DeclsViews.{decls_view}
use Rattle.cpn_module.specs.Views.{structure_view}
use Rattle.cpn_module_trees.specs.TreesViews.{place_trees_view, module_trees_view}
use Rattle.cpn_accepted.specs.Views.{initials_view}
use Rattle.cpn_module_nets.specs.Accepted.{initial_of}
use Rattle.cpn_module_nets.specs.Answers.{Refuses, RefusesBy, net_refusal_of}
use Rattle.cpn_module_nets.specs.Documents.{transitions_so}
use Rattle.cpn_module_nets.specs.Reading.{read, each_from}
use Rattle.cpn_module_nets.proofs.ReadNets.{initials_refused, transitions_refused, net_read}
use Rattle.cpn_module_nets.proofs.nets.net_of.Goals as goal

pub returns-in_err-initials : goal.returns-in_err-initials
returns-in_err-initials c =
    let p = err_from_is_err_and c.from_residual.result c.from_residual.ensures.1 in
    let ds = decls_view c.args.decls.now in
    let m = c.args.of_module in
    let o = net_refusal_of c.in_err-initials.field-0.0 in
    record {
      reads = rw (p.1, p.2) (initials_refused ds (map place_view c.args.places.items) m (structure_view c.args.structure.now) (module_trees_view c.args.trees.now) o
          (subst (λ written. Refuses o (each_from (initial_of ds (map place_view c.args.places.items) m) 0 (map place_trees_view written))) c.as_slice-2.ensures.value
          (subst (λ places. Refuses o (each_from (initial_of ds (map place_view places) m) 0 (map place_trees_view c.as_slice-2.result.now))) c.as_slice.ensures.value c.in_err-initials.ensures.reads)));
    }

pub returns-in_err-transitions : goal.returns-in_err-transitions
returns-in_err-transitions c =
    let p = err_from_is_err_and c.from_residual-in_err-transitions.result c.from_residual-in_err-transitions.ensures.1 in
    let ds = decls_view c.args.decls.now in
    let m = c.args.of_module in
    let s = structure_view c.args.structure.now in
    let trees = module_trees_view c.args.trees.now in
    let initials = initials_view c.in_ok-initials.initials.items in
    let o = net_refusal_of c.in_err-transitions.field-0.0 in
    record {
      reads = rw (p.1, p.2) (transitions_refused ds (map place_view c.args.places.items) m s trees initials
          (subst (λ written. each_from (initial_of ds (map place_view c.args.places.items) m) 0 (map place_trees_view written) ≡ read initials) c.as_slice-2.ensures.value
          (subst (λ places. each_from (initial_of ds (map place_view places) m) 0 (map place_trees_view c.as_slice-2.result.now) ≡ read initials) c.as_slice.ensures.value c.in_ok-initials.ensures.reads)) o
          (subst (λ places. RefusesBy (transitions_so ds (map place_view places) m s trees) o) c.as_slice-3.ensures.value c.in_err-transitions.ensures.reads));
    }

pub returns : goal.returns
returns c =
    let ds = decls_view c.args.decls.now in
    let m = c.args.of_module in
    let s = structure_view c.args.structure.now in
    let trees = module_trees_view c.args.trees.now in
    let initials = initials_view c.in_ok-initials.initials.items in
    let ts = map transition_view c.in_ok-transitions.transitions.items in
    record {
      reads = net_read ds (map place_view c.args.places.items) m s trees initials
          (subst (λ written. each_from (initial_of ds (map place_view c.args.places.items) m) 0 (map place_trees_view written) ≡ read initials) c.as_slice-2.ensures.value
          (subst (λ places. each_from (initial_of ds (map place_view places) m) 0 (map place_trees_view c.as_slice-2.result.now) ≡ read initials) c.as_slice.ensures.value c.in_ok-initials.ensures.reads)) ts
          (subst (λ places. transitions_so ds (map place_view places) m s trees (read ts)) c.as_slice-3.ensures.value c.in_ok-transitions.ensures.reads);
    }
