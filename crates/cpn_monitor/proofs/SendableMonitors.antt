-- Monitors and what they measure may cross threads, whole (`IsSend`) and shared (`IsSync`).
use denote.Param.Send.{IsSend, IsSync, sendable}
use denote.Param.SendFields.{declared_send, declared_sync}
use Rattle.std.proofs.Crossing as std
use Rattle.cpn_core.proofs.SendableNets as nets
use Rattle.cpn_monitor.proofs.monitors.Bound.TheSendSync as bounds
use Rattle.cpn_monitor.proofs.measuring.Measuring.TheSendSync as kept
use Rattle.cpn_monitor.proofs.values.Values14.TheSendSync as measured
use Rattle.cpn_monitor.specs.contracts.measuring.Measuring as measuring
use Rattle.cpn_monitor.specs.contracts.monitors.Monitors as monitors
use Rattle.cpn_monitor.specs.contracts.values.Values14 as values

pub monitors_send : IsSend monitors.the_row
monitors_send = declared_send monitors.the_type (std.Arc-send _ nets.funs_send nets.funs_sync, (search (bounds.the_field_send, nets.of_exprs, std.crosses, sendable) depth 60 fits 20000, tt))

pub monitors_sync : IsSync monitors.the_row
monitors_sync = declared_sync monitors.the_type (std.Arc-sync _ nets.funs_send nets.funs_sync, (search (bounds.the_field_sync, nets.of_exprs, std.crosses, sendable) depth 60 fits 20000, tt))

pub values_send : IsSend values.the_row
values_send = measured.the_send

pub values_sync : IsSync values.the_row
values_sync = measured.the_sync

pub measuring_send : IsSend measuring.the_row
measuring_send = kept.the_send

pub measuring_sync : IsSync measuring.the_row
measuring_sync = kept.the_sync
