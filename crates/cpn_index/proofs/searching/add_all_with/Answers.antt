-- One transition more; and all that have a term there.
use Rattle.std.proofs.Common.{take, get_or, nat_cmp, sym, ◌∙◌, subst, arith}
use Rattle.std.proofs.lemmas.List.{take_more, take_all}
use Rattle.cpn_definitions.specs.Lists.{Rises}
use Rattle.cpn_definitions.proofs.RisingLists.{IsIn}
use Rattle.cpn_core.specs.Nets.{net_view}
use Rattle.cpn_core.specs.Views.{value_view}
use Rattle.cpn_stages.specs.Work.{IsPinned}
use Rattle.cpn_index.specs.Added.{HaveAll, HasTermAt}
use Rattle.cpn_index.specs.UpdateWork.{IsSum}
use Rattle.cpn_index.proofs.AddedElements.{more_then}
use Rattle.cpn_index.proofs.NetPlaces.{of_the_program}
use Rattle.cpn_index.proofs.ReadOtherwise.{term_listed, listed_term, listed_rise}
use Rattle.cpn_index.proofs.SearchedParts.{IsOfOne, one_searched, one_more_summed, all_searched, in_at, steps_so_far, steps_of_all}
use Rattle.cpn_index.proofs.searching.add_all_with.Goals as goal

pub add_found_with-requires-clause-in_range : goal.add_found_with-requires-clause-in_range
add_found_with-requires-clause-in_range g c =
    let ts = c.with_term-t-items.result.now in
    let t = get_or ts c.loop-t.t-index 0 in
    of_the_program c.args.net.now t (listed_term (net_view c.args.net.now) c.args.readers.now c.args.change.now.place t c.requires.readers (subst (IsIn t) c.with_term-t-items.ensures.listed (in_at ts c.loop-t.t-index c.loop-t-test.true)))

pub returns-in_err-add_found_with-clause-steps : goal.returns-in_err-add_found_with-clause-steps
returns-in_err-add_found_with-clause-steps g c =
    let n = net_view c.args.net.now in
    let place = c.args.change.now.place in
    let ts = c.with_term-t-items.result.now in
    let listed = c.with_term-t-items.ensures.listed in
    steps_so_far (λ t own. IsPinned n c.args.marking.now t place (value_view c.args.change.now.value) own) n ts (subst (Rises nat_cmp) (sym listed) (listed_rise n c.args.readers.now place c.requires.readers))
    (λ t h. listed_term n c.args.readers.now place t c.requires.readers (subst (IsIn t) listed h)) c.args.steps.now c.loop-t.steps c.loop-t.t-index c.add_found_with.new.steps c.loop-t-test.true c.loop-t.invariant.bound c.add_found_with.ensures.steps

pub loop-t-preserved : goal.loop-t-preserved
loop-t-preserved g c =
    let n = net_view c.args.net.now in
    let m = c.args.marking.now in
    let place = c.args.change.now.place in
    let v = value_view c.args.change.now.value in
    let ts = c.with_term-t-items.result.now in
    let i = c.loop-t.t-index in
    let t = get_or ts i 0 in
    let new = c.add_found_with.new.elements.elements in
    let next = sym (take_more ts i 0 c.loop-t-test.true) in
    record {
      more = more_then n m c.args.elements.now.elements c.loop-t.elements.elements new c.loop-t.invariant.more c.in_ok-add_found_with.ensures.more;
      all = subst (λ us. HaveAll n m (IsOfOne us (HasTermAt n place v)) new) next (one_searched n m (HasTermAt n place v) (take i ts) t c.loop-t.elements.elements new c.in_ok-add_found_with.ensures.more c.loop-t.invariant.all c.in_ok-add_found_with.ensures.all);
      bound = λ k sum.
          one_more_summed (λ u own. IsPinned n m u place v own) (take i ts) t c.args.steps.now c.loop-t.steps c.add_found_with.new.steps c.loop-t.invariant.bound c.add_found_with.ensures.steps k
          (subst (λ us. IsSum (λ u own. IsPinned n m u place v own) us k) (sym next) sum);
      clock = c.add_found_with.ensures.clock ∙ c.loop-t.invariant.clock;
      places = c.add_found_with.ensures.places ∙ c.loop-t.invariant.places;
    }

pub returns-clause-all : goal.returns-clause-all
returns-clause-all g c =
    let n = net_view c.args.net.now in
    let place = c.args.change.now.place in
    let v = value_view c.args.change.now.value in
    let ts = c.with_term-t-items.result.now in
    all_searched n c.args.marking.now ts place v c.loop-t.elements.elements (λ t lt has. subst (IsIn t) (sym c.with_term-t-items.ensures.listed) (term_listed n c.args.readers.now place t c.requires.sound c.requires.readers lt has))
    (subst (λ us. HaveAll n c.args.marking.now (IsOfOne us (HasTermAt n place v)) c.loop-t.elements.elements) (take_all c.loop-t.t-index ts (omega arith)) c.loop-t.invariant.all)

pub returns-clause-steps : goal.returns-clause-steps
returns-clause-steps g c =
    let n = net_view c.args.net.now in
    let place = c.args.change.now.place in
    let ts = c.with_term-t-items.result.now in
    let listed = c.with_term-t-items.ensures.listed in
    steps_of_all (λ t own. IsPinned n c.args.marking.now t place (value_view c.args.change.now.value) own) n ts (subst (Rises nat_cmp) (sym listed) (listed_rise n c.args.readers.now place c.requires.readers))
    (λ t h. listed_term n c.args.readers.now place t c.requires.readers (subst (IsIn t) listed h)) c.args.steps.now c.loop-t.steps
    (λ k sum. c.loop-t.invariant.bound k (subst (λ us. IsSum (λ t own. IsPinned n c.args.marking.now t place (value_view c.args.change.now.value) own) us k) (sym (take_all c.loop-t.t-index ts (omega arith))) sum))
