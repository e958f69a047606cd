-- One told value more.
use Rattle.std.proofs.Common.{◌≡◌, ◌+◌, true, take, sym, ◌∙◌, subst, arith}
use Rattle.std.proofs.lemmas.List.{take_all}
use Rattle.cpn_core.specs.Nets.{net_view}
use Rattle.cpn_tmset.specs.Changed.{is_told}
use Rattle.cpn_tmset.specs.ChangedViews.{change_view, change_views}
use Rattle.cpn_index.specs.UpdateWork.{IsSum, IsPinnedInAll}
use Rattle.cpn_index.proofs.AddedElements.{more_then}
use Rattle.cpn_index.proofs.SearchedParts.{one_told, one_more_summed}
use Rattle.cpn_index.proofs.SumParts.{first_summed}
use Rattle.cpn_index.proofs.ToldViews.{views_next}
use Rattle.cpn_index.proofs.searching.add_found_with_each.Goals as goal

pub returns-in_err-add_all_with-clause-steps : goal.returns-in_err-add_all_with-clause-steps
returns-in_err-add_all_with-clause-steps g c = λ k sum.
    let Has = IsPinnedInAll (net_view c.args.net.now) c.args.marking.now in
    let changes = c.args.changes.now in
    let i = c.loop-change.change-index in
    let some = first_summed Has change_view changes (i + 1) k sum in
    let up_to = one_more_summed Has (change_views (take i changes)) (change_view c.change-item.result) c.args.steps.now c.loop-change.steps c.add_all_with.new.steps c.loop-change.invariant.bound c.add_all_with.ensures.steps some.0
    (subst (λ told. IsSum Has told some.0) (views_next changes i c.change-item.result c.loop-change-test.true c.change-item.is) some.1) in
    let most = some.2 in
    omega (arith, up_to, most)

pub loop-change-preserved : goal.loop-change-preserved
loop-change-preserved g c =
    let n = net_view c.args.net.now in
    let m = c.args.marking.now in
    let changes = c.args.changes.now in
    let i = c.loop-change.change-index in
    let told = change_views (take i changes) in
    let change = change_view c.change-item.result in
    let new = c.add_all_with.new.elements.elements in
    let next = views_next changes i c.change-item.result c.loop-change-test.true c.change-item.is in
    record {
      more = more_then n m c.args.elements.now.elements c.loop-change.elements.elements new c.loop-change.invariant.more c.in_ok-add_all_with.ensures.more;
      all = λ p v is. one_told n m told change c.loop-change.elements.elements new c.in_ok-add_all_with.ensures.more c.loop-change.invariant.all c.in_ok-add_all_with.ensures.all p v (subst (λ ts. is_told p v ts ≡ true) next is);
      bound = λ k sum. one_more_summed (IsPinnedInAll n m) told change c.args.steps.now c.loop-change.steps c.add_all_with.new.steps c.loop-change.invariant.bound c.add_all_with.ensures.steps k (subst (λ ts. IsSum (IsPinnedInAll n m) ts k) next sum);
      clock = c.add_all_with.ensures.clock ∙ c.loop-change.invariant.clock;
      places = c.add_all_with.ensures.places ∙ c.loop-change.invariant.places;
    }

pub returns-clause-all : goal.returns-clause-all
returns-clause-all g c = λ p v is.
    c.loop-change.invariant.all p v (subst (λ changes. is_told p v (change_views changes) ≡ true) (sym (take_all c.loop-change.change-index c.args.changes.now (omega arith))) is)
