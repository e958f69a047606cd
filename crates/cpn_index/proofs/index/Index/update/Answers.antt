-- The steps are those of following what is told, which has a bound.
use Rattle.std.proofs.Common.{sym, subst}
use Rattle.cpn_core.specs.Nets.{net_view}
use Rattle.cpn_tmset.specs.ChangedViews.{changes_view}
use Rattle.cpn_due.specs.Due.{entries_in}
use Rattle.cpn_index.specs.Index.{kept_in}
use Rattle.cpn_index.specs.UpdateWork.{IsUpdateWork}
use Rattle.cpn_index.proofs.UpdateBounds.{some_bound}
use Rattle.cpn_index.proofs.index.Index.update.Goals as goal

pub returns-in-Ok-clause-steps : goal.returns-in-Ok-clause-steps
returns-in-Ok-clause-steps g c = λ final k enabled work.
    c.in-Ok.ensures.steps final k enabled (subst (λ told. IsUpdateWork (net_view c.args.net.now) c.args.marking.now told (entries_in (kept_in c.args.self.now)) final k) (sym c.items.ensures.items) work)

pub returns-in-Err-clause-steps : goal.returns-in-Err-clause-steps
returns-in-Err-clause-steps g c = λ final k enabled work.
    c.in-Err.ensures.steps final k enabled (subst (λ told. IsUpdateWork (net_view c.args.net.now) c.args.marking.now told (entries_in (kept_in c.args.self.now)) final k) (sym c.items.ensures.items) work)

pub returns-in-Ok-clause-bounded : goal.returns-in-Ok-clause-bounded
returns-in-Ok-clause-bounded g c = λ final enabled.
    let bound = some_bound (net_view c.args.net.now) _ c.requires.sound c.requires.follows.was.knows.planned c.args.marking.now (changes_view c.args.changes.now) (entries_in (kept_in c.args.self.now)) final in
    let told = subst (λ told. IsUpdateWork (net_view c.args.net.now) c.args.marking.now told (entries_in (kept_in c.args.self.now)) final bound.number) (sym c.items.ensures.items) bound.has in
    record { most = bound.number; is_work = bound.has; within = c.in-Ok.ensures.steps final bound.number enabled told }

pub returns-in-Err-clause-bounded : goal.returns-in-Err-clause-bounded
returns-in-Err-clause-bounded g c = λ final enabled.
    let bound = some_bound (net_view c.args.net.now) _ c.requires.sound c.requires.follows.was.knows.planned c.args.marking.now (changes_view c.args.changes.now) (entries_in (kept_in c.args.self.now)) final in
    let told = subst (λ told. IsUpdateWork (net_view c.args.net.now) c.args.marking.now told (entries_in (kept_in c.args.self.now)) final bound.number) (sym c.items.ensures.items) bound.has in
    record { most = bound.number; is_work = bound.has; within = c.in-Err.ensures.steps final bound.number enabled told }
