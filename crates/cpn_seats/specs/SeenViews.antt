-- What a view tells of the run. Source: own choice.
use Rattle.std.specs.Prelude.{Option}
use Rattle.std.specs.Option.{option_map}
use Rattle.cpn_runs.specs.FinishedViews.{setup_view}
use Rattle.cpn_book.specs.Seen.{Seen}
use Rattle.cpn_seats.specs.declared.views.View.{View}
use Rattle.cpn_seats.specs.Turns.{journal_told}

-- the run as far as a seat of this view has seen it; nothing where it was joined away
abbrev pub seen_by : View → Option Seen
seen_by v = option_map (λ setup. record { setup = setup_view setup; journal = journal_told v.seen; spent = v.spent }) v.setup
