-- Tickets, evaluations and books may cross threads, whole (`IsSend`) and shared (`IsSync`).
use denote.Param.Send.{IsSend, IsSync, sendable}
use denote.Param.SendFields.{declared_send, declared_sync}
use Rattle.std.proofs.Crossing as std
use Rattle.cpn_core.proofs.SendableNets as nets
use Rattle.cpn_monitor.proofs.SendableMonitors as monitors
use Rattle.cpn_runs.proofs.SendableRuns as runs
use Rattle.cpn_jobs.proofs.SendableJobs as jobs
use Rattle.cpn_log.proofs.SendableLogs as logs
use Rattle.cpn_index.proofs.SendableIndexes as indexes
use Rattle.cpn_draw.specs.contracts.draw.Draw as draw
use Rattle.cpn_book.specs.contracts.books.Book as book
use Rattle.cpn_book.specs.contracts.standings.Cut as cut
use Rattle.cpn_book.specs.contracts.standings.Standing as standing
use Rattle.cpn_book.specs.contracts.tickets.Evaluated as evaluated
use Rattle.cpn_book.specs.contracts.tickets.Ticket as ticket

pub ticket_send : IsSend ticket.the_row
ticket_send = declared_send ticket.the_type (std.send, (search sendable depth 20, (std.Arc-send _ jobs.job_send jobs.job_sync, tt)))

pub ticket_sync : IsSync ticket.the_row
ticket_sync = declared_sync ticket.the_type (std.sync, (search sendable depth 20, (std.Arc-sync _ jobs.job_send jobs.job_sync, tt)))

pub evaluated_send : IsSend evaluated.the_row
evaluated_send = declared_send evaluated.the_type (search sendable depth 20, (std.Arc-send _ jobs.job_send jobs.job_sync, (search (nets.outputs_send, nets.fault_send, sendable) depth 20, tt)))

pub evaluated_sync : IsSync evaluated.the_row
evaluated_sync = declared_sync evaluated.the_type (search sendable depth 20, (std.Arc-sync _ jobs.job_send jobs.job_sync, (search (nets.outputs_sync, nets.fault_sync, sendable) depth 20, tt)))

pub cut_send : IsSend cut.the_row
cut_send = declared_send cut.the_type (search sendable depth 20, (runs.end_send, tt))

pub cut_sync : IsSync cut.the_row
cut_sync = declared_sync cut.the_type (search sendable depth 20, (runs.end_sync, tt))

pub draw_send : IsSend draw.the_row
draw_send = search sendable depth 20

pub draw_sync : IsSync draw.the_row
draw_sync = search sendable depth 20

pub standing_send : IsSend standing.the_row
standing_send = declared_send standing.the_type (search sendable depth 20, (logs.log_send, (std.Vec-send _ runs.event_send, (std.Vec-send _ nets.occurrence_send, (monitors.measuring_send, (draw_send, (search (std.crosses, sendable) depth 20, (search (cut_send, sendable) depth 20, tt))))))))

pub standing_sync : IsSync standing.the_row
standing_sync = declared_sync standing.the_type (search sendable depth 20, (logs.log_sync, (std.Vec-sync _ runs.event_sync, (std.Vec-sync _ nets.occurrence_sync, (monitors.measuring_sync, (draw_sync, (search (std.crosses, sendable) depth 20, (search (cut_sync, sendable) depth 20, tt))))))))

pub book_send : IsSend book.the_row
book_send = declared_send book.the_type (std.send, (runs.setup_send, (std.Vec-send _ (std.Arc-send _ jobs.work_send jobs.work_sync), (standing_send, (runs.outlook_send, (indexes.index_send, (search sendable depth 20, (search sendable depth 20, tt))))))))

pub book_sync : IsSync book.the_row
book_sync = declared_sync book.the_type (std.sync, (runs.setup_sync, (std.Vec-sync _ (std.Arc-sync _ jobs.work_send jobs.work_sync), (standing_sync, (runs.outlook_sync, (indexes.index_sync, (search sendable depth 20, (search sendable depth 20, tt))))))))
