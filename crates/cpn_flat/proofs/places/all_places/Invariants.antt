-- The places of the instances so far.
use Rattle.std.proofs.Common.{◌≡◌, map, take, string_bytes}
use Rattle.cpn_core.specs.Nets.{place_view}
use Rattle.cpn_fuse.specs.Views.{instance_view}
use Rattle.cpn_accepted.specs.Views.{module_net_view}
use Rattle.cpn_flat.specs.FlatNet.{each_instance, places_at}
use Rattle.cpn_flat.proofs.places.all_places.Given as goal

abbrev pub invariant-loop-number : goal.invariant-loop-number
invariant-loop-number l = map place_view l.places.items ≡ each_instance (places_at (map module_net_view l.modules) (map string_bytes l.names)) 0 (map instance_view (take l.number l.instances))
