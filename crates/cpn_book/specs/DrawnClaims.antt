-- The claim that is drawn: its word is taken, and it is still to be made. Source: own choice.
use Rattle.std.specs.Prelude.{◌≡◌, ℕ, ◌+◌, ◌<◌, List, None}
use Rattle.cpn_definitions.specs.Enabled.{PlainEntry, Enabled, ready}
use Rattle.cpn_definitions.specs.Occurrence.{Needed, needs_of}
use Rattle.cpn_definitions.specs.Outcome.{gives}
use Rattle.cpn_draw.specs.Draw.{generator}
use Rattle.cpn_jobs.specs.Work.{PlainJob}
use Rattle.cpn_log.specs.Logs.{claims_made}
use Rattle.cpn_log.specs.LogViews.{log_view}
use Rattle.cpn_runs.specs.State.{PlainSetup, IsDrawn}
use Rattle.cpn_book.specs.Standings.{IsAt, job_at}
use Rattle.cpn_book.specs.declared.standings.Standing.{Standing}

-- where the run stands, with that word still to be drawn
abbrev pub undrawn : PlainSetup → Standing → Standing
undrawn setup s = record s { draw = generator setup.seed (claims_made (log_view s.log)) }

-- The claim that is drawn, by its number, its job and its needs: no cut stands, fewer claims were made than may be, and its element is the one
-- that the word draws from the ready ones of the unclaimed marking.
pub record IsDrawnClaim (setup : PlainSetup) (s : Standing) (number : ℕ) (job : PlainJob) (needs : List Needed) : Type 0 where
  pub at : IsAt setup (undrawn setup s)
  pub next_word : s.draw ≡ generator setup.seed (claims_made (log_view s.log) + 1)
  pub uncut : s.cut ≡ None
  pub below : claims_made (log_view s.log) < setup.limits.steps
  pub entries : List PlainEntry
  pub enabled : Enabled setup.net (log_view s.log).unclaimed s.clock entries
  pub drawn : PlainEntry
  pub drawn_is : IsDrawn setup.seed (claims_made (log_view s.log)) (ready s.clock entries) drawn
  pub number_is : number ≡ claims_made (log_view s.log)
  pub job_is : job ≡ job_at setup.net drawn.element s.clock
  pub needs_are : needs_of setup.net drawn.element ≡ gives needs
