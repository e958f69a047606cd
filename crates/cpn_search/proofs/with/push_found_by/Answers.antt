-- What the trials find is added.
use Rattle.cpn_core.specs.Nets.{net_view}
use Rattle.cpn_search.specs.TrialViews.{trials_view}
use Rattle.cpn_search.proofs.FoundWith.{adds_found, elements_more}
use Rattle.cpn_search.proofs.with.push_found_by.Goals as goal

pub returns-clause-added : goal.returns-clause-added
returns-clause-added g c =
    adds_found (net_view c.args.net.now) c.args.marking.now c.args.t (trials_view c.args.trials.now) c.args.found.now.items c.push_all.new.found.items c.in_ok-searched.searched.found.items c.in_ok-searched.ensures.found c.in_ok-push_all.ensures.appended

pub returns-clause-elements : goal.returns-clause-elements
returns-clause-elements g c = elements_more (net_view c.args.net.now) c.args.t c.args.found.now.items c.push_all.new.found.items c.in_ok-searched.searched.found.items c.in_ok-searched.ensures.elements c.in_ok-push_all.ensures.appended
