-- One transition more; and all that read such a place otherwise.
use Rattle.std.proofs.Common.{refl, sym, ◌∙◌, subst, inl, inr, ⊎_elim}
use Rattle.cpn_definitions.proofs.RisingLists.{IsIn}
use Rattle.cpn_core.specs.Nets.{net_view}
use Rattle.cpn_tmset.specs.ChangedViews.{change_views}
use Rattle.cpn_index.proofs.AddedElements.{more_then}
use Rattle.cpn_index.proofs.NetPlaces.{of_the_program}
use Rattle.cpn_index.proofs.ReadTransitions.{AreBounded, one_read, one_bounded, of_read, in_read, bounded_by_all}
use Rattle.cpn_index.proofs.searching.add_read_otherwise.Goals as goal

pub add_all_of-requires-clause-in_range : goal.add_all_of-requires-clause-in_range
add_all_of-requires-clause-in_range g c =
    let n = net_view c.args.net.now in
    let all = c.into_iter-t-iterator.ensures.into_iter_gives in
    let here : IsIn c.in-Some.t.now c.loop-t.t-iterator = subst (IsIn c.in-Some.t.now) (sym c.in-Some.ensures.steps) (inl refl) in
    of_the_program c.args.net.now c.in-Some.t.now
    (of_read n c.args.marking.now (change_views c.args.changes.now) c.args.readers.now c.in_ok-read.read c.requires.sound c.requires.readers all.4 c.in_ok-read.ensures.read c.in-Some.t.now (subst (IsIn c.in-Some.t.now) all.0 (c.loop-t.invariant.within c.in-Some.t.now here))).0

pub loop-t-preserved : goal.loop-t-preserved
loop-t-preserved g c =
    let n = net_view c.args.net.now in
    let m = c.args.marking.now in
    let all = c.into_iter-t-iterator.result in
    let left = c.loop-t.t-iterator in
    let rest = c.next.new.self in
    let t = c.in-Some.t.now in
    let old = c.loop-t.elements.elements in
    let new = c.add_all_of.new.elements.elements in
    let next = c.in-Some.ensures.steps in
    record {
      more = more_then n m c.args.elements.now.elements old new c.loop-t.invariant.more c.in_ok-add_all_of.ensures.more;
      all = one_read n m all left rest t old new next c.in_ok-add_all_of.ensures.more c.loop-t.invariant.all c.in_ok-add_all_of.ensures.all;
      within = λ u h. c.loop-t.invariant.within u (subst (IsIn u) (sym next) (inr h));
      bound = one_bounded n m all left rest t c.args.steps.now c.loop-t.steps c.add_all_of.new.steps next c.loop-t.invariant.bound c.add_all_of.ensures.steps;
      clock = c.add_all_of.ensures.clock ∙ c.loop-t.invariant.clock;
      places = c.add_all_of.ensures.places ∙ c.loop-t.invariant.places;
    }

pub returns-in_err-add_all_of-clause-steps : goal.returns-in_err-add_all_of-clause-steps
returns-in_err-add_all_of-clause-steps g c =
    let n = net_view c.args.net.now in
    let m = c.args.marking.now in
    let given = c.into_iter-t-iterator.ensures.into_iter_gives in
    let bound = one_bounded n m c.into_iter-t-iterator.result c.loop-t.t-iterator c.next.new.self c.in-Some.t.now c.args.steps.now c.loop-t.steps c.add_all_of.new.steps c.in-Some.ensures.steps c.loop-t.invariant.bound c.add_all_of.ensures.steps in
    bounded_by_all n m (change_views c.args.changes.now) c.args.readers.now c.in_ok-read.read c.requires.sound c.requires.readers given.4 c.in_ok-read.ensures.read c.next.new.self c.args.steps.now c.add_all_of.new.steps
    (subst (λ keys. AreBounded n m keys c.next.new.self c.args.steps.now c.add_all_of.new.steps) given.0 bound)

pub returns-clause-all : goal.returns-clause-all
returns-clause-all g c = λ t lt reads.
    let n = net_view c.args.net.now in
    let given = c.into_iter-t-iterator.ensures.into_iter_gives in
    let here = in_read n c.args.marking.now (change_views c.args.changes.now) c.args.readers.now c.in_ok-read.read c.requires.sound c.requires.readers given.4 c.in_ok-read.ensures.read t lt reads in
    ⊎_elim (λ left. absurd (subst (IsIn t) c.in-None.ensures.steps.0 left)) (λ have. have) (c.loop-t.invariant.all t (subst (IsIn t) (sym given.0) here))

pub returns-clause-steps : goal.returns-clause-steps
returns-clause-steps g c =
    let n = net_view c.args.net.now in
    let m = c.args.marking.now in
    let given = c.into_iter-t-iterator.ensures.into_iter_gives in
    bounded_by_all n m (change_views c.args.changes.now) c.args.readers.now c.in_ok-read.read c.requires.sound c.requires.readers given.4 c.in_ok-read.ensures.read c.loop-t.t-iterator c.args.steps.now c.loop-t.steps
    (subst (λ keys. AreBounded n m keys c.loop-t.t-iterator c.args.steps.now c.loop-t.steps) given.0 c.loop-t.invariant.bound)
