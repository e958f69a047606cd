-- Jobs and the work that they share may cross threads, whole (`IsSend`) and shared (`IsSync`).
use denote.Param.Send.{IsSend, IsSync, sendable}
use denote.Param.SendFields.{declared_send, declared_sync}
use Rattle.std.proofs.Crossing as std
use Rattle.cpn_core.proofs.SendableNets as nets
use Rattle.cpn_jobs.specs.contracts.work.Job as job
use Rattle.cpn_jobs.specs.contracts.work.Work as work
use Rattle.cpn_jobs.specs.contracts.work.WorkArc as work_arc

pub work_arc_send : IsSend work_arc.the_row
work_arc_send = declared_send work_arc.the_type (search sendable depth 20, (search sendable depth 20, (std.Arc-send _ nets.arc_send nets.arc_sync, tt)))

pub work_arc_sync : IsSync work_arc.the_row
work_arc_sync = declared_sync work_arc.the_type (search sendable depth 20, (search sendable depth 20, (std.Arc-sync _ nets.arc_send nets.arc_sync, tt)))

pub work_send : IsSend work.the_row
work_send = declared_send work.the_type (std.Arc-send _ nets.funs_send nets.funs_sync, (search (nets.of_exprs, std.crosses, sendable) depth 60 fits 20000, (std.Vec-send _ work_arc_send, tt)))

pub work_sync : IsSync work.the_row
work_sync = declared_sync work.the_type (std.Arc-sync _ nets.funs_send nets.funs_sync, (search (nets.of_exprs, std.crosses, sendable) depth 60 fits 20000, (std.Vec-sync _ work_arc_sync, tt)))

pub job_send : IsSend job.the_row
job_send = declared_send job.the_type (std.Arc-send _ nets.element_send nets.element_sync, (search sendable depth 20, (std.Arc-send _ work_send work_sync, tt)))

pub job_sync : IsSync job.the_row
job_sync = declared_sync job.the_type (std.Arc-sync _ nets.element_send nets.element_sync, (search sendable depth 20, (std.Arc-sync _ work_send work_sync, tt)))
