-- Due elements may cross threads, whole (`IsSend`) and shared (`IsSync`).
use denote.Param.Send.{IsSend, IsSync, sendable}
use denote.Param.SendFields.{declared_send, declared_sync}
use Rattle.std.proofs.Crossing as std
use Rattle.cpn_core.proofs.SendableNets as nets
use Rattle.cpn_due.proofs.summaries.Summary.TheSendSync as summaries
use Rattle.cpn_due.proofs.trees.Tree.TheLaws.TheKnot as trees
use Rattle.cpn_due.specs.contracts.due.Due as due
use Rattle.cpn_due.specs.contracts.due.Due.TheInside as inside
use Rattle.cpn_due.specs.contracts.marked.Marked as marked
use Rattle.cpn_due.specs.contracts.trees.Fork as fork
use Rattle.cpn_due.specs.contracts.trees.Tree as tree
use Rattle.std.specs.contracts.option.Option as option

pub marked_send : IsSend marked.the_row
marked_send = declared_send marked.the_type (nets.enabled_send, (search sendable depth 20, tt))

pub marked_sync : IsSync marked.the_row
marked_sync = declared_sync marked.the_type (nets.enabled_sync, (search sendable depth 20, tt))

pub tree_send : IsSend tree.the_row
tree_send = search (summaries.the_send, marked_send, std.crosses, trees.crosses, sendable) depth 60 fits 20000

pub tree_sync : IsSync tree.the_row
tree_sync = search (summaries.the_sync, marked_sync, std.crosses, trees.crosses, sendable) depth 60 fits 20000

pub fork_send : IsSend fork.the_row
fork_send = declared_send fork.the_type (tree_send, (tree_send, (marked_send, (summaries.the_send, tt))))

pub fork_sync : IsSync fork.the_row
fork_sync = declared_sync fork.the_type (tree_sync, (tree_sync, (marked_sync, (summaries.the_sync, tt))))

pub spare_send : IsSend (option.the_row fork.the_row)
spare_send = search (fork_send, sendable) depth 20

pub spare_sync : IsSync (option.the_row fork.the_row)
spare_sync = search (fork_sync, sendable) depth 20

pub inside_send : IsSend inside.the_row
inside_send = declared_send inside.the_type (tree_send, (std.Vec-send _ (std.Box-send (option.the_row fork.the_row) spare_send), (search sendable depth 20, tt)))

pub inside_sync : IsSync inside.the_row
inside_sync = declared_sync inside.the_type (tree_sync, (std.Vec-sync _ (std.Box-sync (option.the_row fork.the_row) spare_sync), (search sendable depth 20, tt)))

pub due_send : IsSend due.the_row
due_send = search (inside_send, sendable) depth 20

pub due_sync : IsSync due.the_row
due_sync = search (inside_sync, sendable) depth 20
