-- Markings may cross threads, whole (`IsSend`) and shared (`IsSync`).
use denote.Param.Send.{IsSend, IsSync, sendable}
use Rattle.std.proofs.Crossing as std
use Rattle.std.proofs.MapsCrossing as maps
use Rattle.cpn_core.proofs.SendableNets as nets
use Rattle.cpn_tmset.specs.contracts.markings.Marking as marking

pub marking_send : IsSend marking.the_row
marking_send = search (nets.of_values, maps.crosses, std.crosses, sendable) depth 60 fits 20000

pub marking_sync : IsSync marking.the_row
marking_sync = search (nets.of_values, maps.crosses, std.crosses, sendable) depth 60 fits 20000
