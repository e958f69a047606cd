-- What a run starts from, its events and its end may cross threads, whole (`IsSend`) and shared (`IsSync`).
use denote.Param.Send.{IsSend, IsSync, sendable}
use denote.Param.SendFields.{declared_send, declared_sync, variants_send, variants_sync}
use Rattle.std.proofs.Crossing as std
use Rattle.cpn_core.proofs.SendableNets as nets
use Rattle.cpn_tmset.proofs.SendableMarkings as markings
use Rattle.cpn_monitor.proofs.SendableMonitors as monitors
use Rattle.cpn_runs.proofs.events.Event.TheSendSync as events
use Rattle.cpn_runs.proofs.runs.Outlook.TheSendSync as outlooks
use Rattle.cpn_runs.specs.contracts.events.End as end
use Rattle.cpn_runs.specs.contracts.events.Event as event
use Rattle.cpn_runs.specs.contracts.runs.Outlook as outlook
use Rattle.cpn_runs.specs.contracts.runs.Setup as setup

pub end_send : IsSend end.the_row
end_send = variants_send end.enum ((search sendable depth 20, tt), ((nets.element_send, (nets.fault_send, tt)), (tt, (tt, (tt, ((search sendable depth 20, tt), tt))))))

pub end_sync : IsSync end.the_row
end_sync = variants_sync end.enum ((search sendable depth 20, tt), ((nets.element_sync, (nets.fault_sync, tt)), (tt, (tt, (tt, ((search sendable depth 20, tt), tt))))))

pub event_send : IsSend event.the_row
event_send = events.the_send

pub event_sync : IsSync event.the_row
event_sync = events.the_sync

pub outlook_send : IsSend outlook.the_row
outlook_send = outlooks.the_send

pub outlook_sync : IsSync outlook.the_row
outlook_sync = outlooks.the_sync

pub setup_send : IsSend setup.the_row
setup_send = declared_send setup.the_type (std.Arc-send _ nets.net_send nets.net_sync, (markings.marking_send, (search sendable depth 20, (search sendable depth 20, (std.Arc-send _ monitors.monitors_send monitors.monitors_sync, (search sendable depth 20, tt))))))

pub setup_sync : IsSync setup.the_row
setup_sync = declared_sync setup.the_type (std.Arc-sync _ nets.net_send nets.net_sync, (markings.marking_sync, (search sendable depth 20, (search sendable depth 20, (std.Arc-sync _ monitors.monitors_send monitors.monitors_sync, (search sendable depth 20, tt))))))
