-- The run is under way at the next time, and something is ready.
use Rattle.std.proofs.Common.{arith, ap, ◌∙◌, map, sym, subst}
use Rattle.cpn_log.specs.LogViews.{log_view}
use Rattle.cpn_runs.specs.Views.{event_view}
use Rattle.cpn_runs.specs.declared.events.Event.TheVariants as events
use Rattle.cpn_book.specs.Books.{setup_in}
use Rattle.cpn_book.proofs.MovedBooks.{next_not_before, moved_runs, moved_ready}
use Rattle.cpn_book.proofs.books.Book.move_to.Goals as goal
use Rattle.cpn_definitions.proofs.ListItems.{map_more}

pub returns-clause-running : goal.returns-clause-running
returns-clause-running c =
    let book = c.args.self.now in
    let s = record book.standing { journal = c.push_reserved.new.self } in
    moved_runs book c.args.time c.requires.running c.requires.none_ready c.requires.none_open c.requires.uncut c.requires.below c.requires.next c.requires.in_time s
    (ap (map event_view) c.push_reserved.ensures.items ∙ map_more event_view book.standing.journal.items (events.Move c.args.time))
    c.advance_to.new.self c.advance_to.ensures.kept c.advance_to.ensures.moved
    (c.advance_to.ensures.index (setup_in book).net (log_view book.standing.log).unclaimed c.requires.running.index)

pub returns-clause-ready : goal.returns-clause-ready
returns-clause-ready c = moved_ready c.args.self.now c.args.time c.requires.running c.requires.none_ready c.requires.none_open c.requires.uncut c.requires.below c.requires.next c.requires.in_time c.advance_to.new.self c.advance_to.ensures.kept c.advance_to.ensures.moved

pub advance_to-requires : goal.advance_to-requires
advance_to-requires c = record { not_back = (let own = c.requires.running.clock in let from = next_not_before c.args.self.now c.args.time c.requires.running c.requires.next in omega (arith, own, from)) }
