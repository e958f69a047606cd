-- A run may start from what is loaded, and edits may be made of it, where its monitors are accepted.
use Rattle.std.proofs.Common.{List}
use Rattle.cpn_flat.specs.Flat.{PlainLoaded}
use Rattle.cpn_flat.specs.WellLoaded.{IsWellLoaded}
use Rattle.cpn_edit_texts.specs.Ready.{IsReady}
use Rattle.cpn_monitor.specs.Monitors.{PlainMonitor}
use Rattle.cpn_monitor_texts.specs.Accepted.{AreAcceptedMonitors}
use Rattle.cpn_typing.specs.Consistency.{IsConsistent}

pub is_ready : (loaded : PlainLoaded) (ms : List PlainMonitor) → IsConsistent loaded.declared → IsWellLoaded loaded → AreAcceptedMonitors loaded.declared loaded.net ms → IsReady loaded.declared loaded.net loaded.initial ms
is_ready loaded ms consistent well measured = record {
  editable = record { consistent = consistent; declares = well.declares; sound = well.sound; measured = measured };
  accepted = well.accepted;
  named = well.named;
  marking = well.marking;
  bounded = well.bounded;
  in_time = well.in_time;
}
