-- Indexes may cross threads, whole (`IsSend`) and shared (`IsSync`).
use denote.Param.Send.{IsSend, IsSync, sendable}
use denote.Param.SendFields.{declared_send, declared_sync}
use Rattle.std.proofs.Crossing as std
use Rattle.std.proofs.MapsCrossing as maps
use Rattle.cpn_core.proofs.SendableNets as nets
use Rattle.cpn_search.proofs.SendablePlans as plans
use Rattle.cpn_due.proofs.SendableElements as due
use Rattle.cpn_index.proofs.readers.Readers.TheSendSync as readers
use Rattle.cpn_index.specs.contracts.elements.WatchedElements as elements
use Rattle.cpn_index.specs.contracts.elements.WatchedElements.TheInside as inside
use Rattle.cpn_index.specs.contracts.index.Index as index
use Rattle.cpn_index.specs.contracts.waiting.Waiting as waiting
use Rattle.cpn_index.specs.contracts.waiting.Watcher as watcher
use Rattle.cpn_index.specs.contracts.watchers.Watchers as watchers

pub watcher_send : IsSend watcher.the_row
watcher_send = declared_send watcher.the_type (std.Arc-send _ nets.element_send nets.element_sync, tt)

pub watcher_sync : IsSync watcher.the_row
watcher_sync = declared_sync watcher.the_type (std.Arc-sync _ nets.element_send nets.element_sync, tt)

pub waiting_send : IsSend waiting.the_row
waiting_send = declared_send waiting.the_type (search (watcher_send, nets.of_values, maps.crosses, std.crosses, sendable) depth 60 fits 20000, tt)

pub waiting_sync : IsSync waiting.the_row
waiting_sync = declared_sync waiting.the_type (search (watcher_sync, nets.of_values, maps.crosses, std.crosses, sendable) depth 60 fits 20000, tt)

pub watchers_send : IsSend watchers.the_row
watchers_send = declared_send watchers.the_type (std.send, (std.Vec-send _ waiting_send, tt))

pub watchers_sync : IsSync watchers.the_row
watchers_sync = declared_sync watchers.the_type (std.sync, (std.Vec-sync _ waiting_sync, tt))

pub inside_send : IsSend inside.the_row
inside_send = declared_send inside.the_type (due.due_send, (watchers_send, tt))

pub inside_sync : IsSync inside.the_row
inside_sync = declared_sync inside.the_type (due.due_sync, (watchers_sync, tt))

pub elements_send : IsSend elements.the_row
elements_send = search (inside_send, sendable) depth 20

pub elements_sync : IsSync elements.the_row
elements_sync = search (inside_sync, sendable) depth 20

pub index_send : IsSend index.the_row
index_send = declared_send index.the_type (std.send, (plans.plans_send, (readers.the_send, (elements_send, tt))))

pub index_sync : IsSync index.the_row
index_sync = declared_sync index.the_type (std.sync, (plans.plans_sync, (readers.the_sync, (elements_sync, tt))))
