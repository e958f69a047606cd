-- The parts of the next module have it, or it is no part of itself.
use Rattle.std.proofs.Common.{refl, sym, below_more, arith}
use Rattle.std.proofs.lemmas.Bool.{both_ways}
use Rattle.cpn_module.specs.Views.{structure_view, hierarchy_view}
use Rattle.cpn_module.proofs.PartsOfModules.{as_many, lists_are_below, whole_is_there, same_lists}
use Rattle.cpn_module.proofs.cycles.first_in_itself.Goals as goal

pub parts_of-requires-clause-below : goal.parts_of-requires-clause-below
parts_of-requires-clause-below c =
    let same = same_lists structure_view c.as_slice-in-loop-number.result.now _ _ _ c.as_slice-in-loop-number.ensures.value c.in_ok-submodules.ensures.each c.as_slice.ensures.value in
    lists_are_below (hierarchy_view c.args.hierarchy.now) c.requires.numbers _ same _ refl

pub loop-number-preserved : goal.loop-number-preserved
loop-number-preserved c =
    let same = same_lists structure_view c.as_slice-in-loop-number.result.now _ _ _ c.as_slice-in-loop-number.ensures.value c.in_ok-submodules.ensures.each c.as_slice.ensures.value in
    below_more _ _ c.loop-number.invariant (λ part. both_ways _ (sym c.if-has.ensures.tells) ((c.in_ok-parts.ensures.exact (hierarchy_view c.args.hierarchy.now) same c.loop-number.number).1 part))

pub returns : goal.returns
returns c =
    let same = same_lists structure_view c.in_ok-submodules.submodules.items _ _ _ refl c.in_ok-submodules.ensures.each c.as_slice.ensures.value in
    let many = as_many (hierarchy_view c.args.hierarchy.now) _ same in
    record { first = λ m part. c.loop-number.invariant m (omega (arith, whole_is_there (hierarchy_view c.args.hierarchy.now) part, many, c.in_ok-submodules.submodules.ok.0)) part }
