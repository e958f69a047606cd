-- The index follows: retimed, with all that a told value may enable.
use Rattle.std.proofs.Common.{◌∙◌, arith}
use Rattle.cpn_core.specs.Nets.{net_view}
use Rattle.cpn_tmset.specs.ChangedViews.{change_views}
use Rattle.cpn_index.specs.Index.{kept_in}
use Rattle.cpn_index.specs.Added.{HasTermAt}
use Rattle.cpn_index.proofs.AddedElements.{more_then, still_all}
use Rattle.cpn_index.proofs.FollowedElements.{of_net, still_own}
use Rattle.cpn_index.proofs.UpdatedElements.{updated_is_enabled}
use Rattle.cpn_index.proofs.index.Index.follow.Goals as goal

pub returns-in_err-retime_all-clause-steps : goal.returns-in_err-retime_all-clause-steps
returns-in_err-retime_all-clause-steps g c = λ final k enabled work.
    let few = c.retime_all.ensures.steps (net_view c.args.net.now) final c.requires.marking c.requires.follows.was.own enabled in
    let is = work.sum_is in
    omega (arith, few, is)

pub returns-in_err-add_found_with_each-clause-steps : goal.returns-in_err-add_found_with_each-clause-steps
returns-in_err-add_found_with_each-clause-steps g c = λ final k enabled work.
    let few = c.retime_all.ensures.steps (net_view c.args.net.now) final c.requires.marking c.requires.follows.was.own enabled in
    let pinned = c.add_found_with_each.ensures.steps work.pinned work.pinned_is in
    let is = work.sum_is in
    omega (arith, few, pinned, is)

pub returns-in_err-add_read_otherwise-clause-steps : goal.returns-in_err-add_read_otherwise-clause-steps
returns-in_err-add_read_otherwise-clause-steps g c = λ final k enabled work.
    let few = c.retime_all.ensures.steps (net_view c.args.net.now) final c.requires.marking c.requires.follows.was.own enabled in
    let pinned = c.add_found_with_each.ensures.steps work.pinned work.pinned_is in
    let full = c.add_read_otherwise.ensures.steps work.full work.full_is in
    let is = work.sum_is in
    omega (arith, few, pinned, full, is)

pub returns-clause-updated : goal.returns-clause-updated
returns-clause-updated g c =
    let n = net_view c.args.net.now in
    let m = c.args.marking.now in
    let told = change_views c.args.changes.now in
    let follows = c.requires.follows in
    let before = kept_in c.args.self.now in
    let retimed = c.retime_all.new.elements.elements in
    let found = c.add_found_with_each.new.elements.elements in
    let after = c.add_read_otherwise.new.elements.elements in
    let anew = c.in_ok-retime_all.ensures.retimed n c.requires.marking follows.was.own in
    let more = more_then n m retimed found after c.in_ok-add_found_with_each.ensures.more c.in_ok-add_read_otherwise.ensures.more in
    record {
      knows = record {
        planned = follows.was.knows.planned;
        readers = follows.was.knows.readers;
        places = c.add_read_otherwise.ensures.places ∙ c.add_found_with_each.ensures.places ∙ c.retime_all.ensures.places ∙ follows.was.knows.places;
      };
      enabled = updated_is_enabled n told follows.old m before retimed after follows.stay follows.was.enabled (of_net n before follows.was.own) anew more c.len.ensures.in_order
          (λ p v is. still_all n m (HasTermAt n p v) found after c.in_ok-add_read_otherwise.ensures.more (c.in_ok-add_found_with_each.ensures.all p v is)) c.in_ok-add_read_otherwise.ensures.all;
      own = still_own n m told before retimed after follows.was.own anew more;
    }

pub returns-clause-steps : goal.returns-clause-steps
returns-clause-steps g c = λ final k enabled work.
    let few = c.retime_all.ensures.steps (net_view c.args.net.now) final c.requires.marking c.requires.follows.was.own enabled in
    let pinned = c.add_found_with_each.ensures.steps work.pinned work.pinned_is in
    let full = c.add_read_otherwise.ensures.steps work.full work.full_is in
    let is = work.sum_is in
    omega (arith, few, pinned, full, is)
