-- The claims ahead of the number stand, and what seats hold of these.
use Rattle.std.proofs.Common.{◌≡◌, [], ◌∷◌, ◌++◌, map, refl, ap, ◌∙◌}
use Rattle.cpn_definitions.proofs.ListItems.{map_more}
use Rattle.cpn_runs.specs.State.{cut_made}
use Rattle.cpn_runs.specs.Views.{event_view, end_view}
use Rattle.cpn_runs.specs.declared.events.Event.TheVariants as events
use Rattle.cpn_book.proofs.CommittedStandings.{cut_stands}
use Rattle.cpn_log.specs.LogViews.{log_view}
use Rattle.cpn_tmset.specs.ChangedViews.{changes_view}
use Rattle.cpn_book.proofs.ToldChanges.{tells_more}
use Rattle.cpn_book.proofs.cutting.cut_off.Goals as goal

pub returns-clause-at : goal.returns-clause-at
returns-clause-at c = λ setup may.
    let old = c.args.standing.now in
    let noted : map event_view c.push_reserved.new.self.items ≡ map event_view c.args.standing.now.journal.items ++ cut_made c.args.number ∷ [] = ap (map event_view) c.push_reserved.ensures.items ∙ map_more event_view c.args.standing.now.journal.items (events.Cut c.args.number) in
    cut_stands setup old (record { number = c.args.number; cause = end_view c.args.cause }) may _ c.in_ok-changes.ensures.cut c.in_ok-changes.ensures.jobs c.cut.ensures.committed c.cut.ensures.settled c.in_ok-changes.ensures.kept c.free_from.ensures.long c.free_from.ensures.freed refl noted refl

pub returns-clause-told : goal.returns-clause-told
returns-clause-told c =
    tells_more (changes_view c.args.told.now) (changes_view c.append.new.self) (changes_view c.in_ok-changes.changes) (log_view c.args.standing.now.log).unclaimed (log_view c.cut.new.self).unclaimed c.in_ok-append.ensures.appended c.in_ok-changes.ensures.changes.others
