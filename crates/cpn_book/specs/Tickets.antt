-- What tickets and evaluations stand for. Source: own choice.
use Rattle.std.specs.Prelude.{ℕ}
use Rattle.cpn_jobs.specs.Views.{job_view}
use Rattle.cpn_jobs.specs.Work.{PlainJob}
use Rattle.cpn_book.specs.declared.tickets.Ticket.{Ticket}
use Rattle.cpn_book.specs.declared.tickets.Evaluated.{Evaluated}

-- the number and the job of a ticket
abbrev pub number_of : Ticket → ℕ
number_of ticket = ticket.number

abbrev pub job_of : Ticket → PlainJob
job_of ticket = job_view ticket.job.value

-- those of an evaluation
abbrev pub evaluated_number : Evaluated → ℕ
evaluated_number done = done.number

abbrev pub evaluated_job : Evaluated → PlainJob
evaluated_job done = job_view done.job.value
