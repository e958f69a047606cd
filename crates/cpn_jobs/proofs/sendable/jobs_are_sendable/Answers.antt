use denote.Param.Send.{param_send, param_sync, arg_send, arg_sync}
use Rattle.cpn_jobs.proofs.SendableJobs.{work_send, work_sync, job_send, job_sync}
use Rattle.cpn_jobs.proofs.sendable.jobs_are_sendable.Goals as goal

pub is_sendable-requires-send-T : goal.is_sendable-requires-send-T
is_sendable-requires-send-T c κs = search (work_send, param_send, arg_send) depth 10

pub is_sendable-requires-sync-T : goal.is_sendable-requires-sync-T
is_sendable-requires-sync-T c κs = search (work_sync, param_sync, arg_sync) depth 10

pub is_sendable-requires-2-send-T : goal.is_sendable-requires-2-send-T
is_sendable-requires-2-send-T c κs = search (job_send, param_send, arg_send) depth 10

pub is_sendable-requires-2-sync-T : goal.is_sendable-requires-2-sync-T
is_sendable-requires-2-sync-T c κs = search (job_sync, param_sync, arg_sync) depth 10
