-- Logs may cross threads, whole (`IsSend`) and shared (`IsSync`).
use denote.Param.Send.{IsSend, IsSync, sendable}
use denote.Param.SendFields.{declared_send, declared_sync}
use Rattle.std.proofs.Crossing as std
use Rattle.cpn_core.proofs.SendableNets as nets
use Rattle.cpn_tmset.proofs.SendableMarkings as markings
use Rattle.cpn_jobs.proofs.SendableJobs as jobs
use Rattle.cpn_log.specs.contracts.claims.Claim as claim
use Rattle.cpn_log.specs.contracts.claims.Course as course
use Rattle.cpn_log.specs.contracts.claims.Head as head
use Rattle.cpn_log.specs.contracts.logs.Log as log
use Rattle.cpn_log.specs.contracts.markings.Markings as log_markings
use Rattle.cpn_log.specs.contracts.markings.SettledAs as settled_as
use Rattle.cpn_log.specs.contracts.settled.Behind as behind
use Rattle.cpn_log.specs.contracts.settled.Exchange as exchange
use Rattle.cpn_log.specs.contracts.settled.Settled as settled

pub head_send : IsSend head.the_row
head_send = declared_send head.the_type (search sendable depth 20, (search sendable depth 20, (std.Arc-send _ nets.element_send nets.element_sync, tt)))

pub head_sync : IsSync head.the_row
head_sync = declared_sync head.the_type (search sendable depth 20, (search sendable depth 20, (std.Arc-sync _ nets.element_send nets.element_sync, tt)))

pub course_send : IsSend course.the_row
course_send = search (nets.outputs_send, sendable) depth 20

pub course_sync : IsSync course.the_row
course_sync = search (nets.outputs_sync, sendable) depth 20

pub claim_send : IsSend claim.the_row
claim_send = declared_send claim.the_type (head_send, (std.Arc-send _ jobs.job_send jobs.job_sync, (nets.needs_send, (search (std.crosses, sendable) depth 20, (course_send, tt)))))

pub claim_sync : IsSync claim.the_row
claim_sync = declared_sync claim.the_type (head_sync, (std.Arc-sync _ jobs.job_send jobs.job_sync, (nets.needs_sync, (search (std.crosses, sendable) depth 20, (course_sync, tt)))))

pub exchange_send : IsSend exchange.the_row
exchange_send = declared_send exchange.the_type (nets.needs_send, (search sendable depth 20, (nets.outputs_send, tt)))

pub exchange_sync : IsSync exchange.the_row
exchange_sync = declared_sync exchange.the_type (nets.needs_sync, (search sendable depth 20, (nets.outputs_sync, tt)))

pub behind_send : IsSend behind.the_row
behind_send = declared_send behind.the_type (markings.marking_send, (exchange_send, tt))

pub behind_sync : IsSync behind.the_row
behind_sync = declared_sync behind.the_type (markings.marking_sync, (exchange_sync, tt))

pub settled_send : IsSend settled.the_row
settled_send = search (markings.marking_send, behind_send, sendable) depth 20

pub settled_sync : IsSync settled.the_row
settled_sync = search (markings.marking_sync, behind_sync, sendable) depth 20

pub settled_as_send : IsSend settled_as.the_row
settled_as_send = search (behind_send, settled_send, sendable) depth 20

pub settled_as_sync : IsSync settled_as.the_row
settled_as_sync = search (behind_sync, settled_sync, sendable) depth 20

pub log_markings_send : IsSend log_markings.the_row
log_markings_send = declared_send log_markings.the_type (markings.marking_send, (settled_as_send, tt))

pub log_markings_sync : IsSync log_markings.the_row
log_markings_sync = declared_sync log_markings.the_type (markings.marking_sync, (settled_as_sync, tt))

pub log_send : IsSend log.the_row
log_send = declared_send log.the_type (std.send, (log_markings_send, (std.Vec-send _ head_send, (std.Deque-send _ claim_send, tt))))

pub log_sync : IsSync log.the_row
log_sync = declared_sync log.the_type (std.sync, (log_markings_sync, (std.Vec-sync _ head_sync, (std.Deque-sync _ claim_sync, tt))))
