-- The assignments so far are joined.
use Rattle.std.proofs.Common.{◌≡◌, ◌+◌, ◌++◌, take, map}
use Rattle.cpn_fuse.proofs.sockets.join_assigned.Given as goal

abbrev pub invariant-loop-assigned : goal.invariant-loop-assigned
invariant-loop-assigned l = l.pairs.items ≡ l.initial.pairs.items ++ map (λ a. (l.sockets + a.socket, l.ports + a.port)) (take l.assigned-index l.assignments)
