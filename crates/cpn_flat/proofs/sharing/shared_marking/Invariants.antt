-- The places so far have their tokens.
use Rattle.cpn_core.specs.Nets.{net_view}
use Rattle.cpn_flat.proofs.SharedMarkings.{AreShared}
use Rattle.cpn_flat.proofs.sharing.shared_marking.Given as goal

abbrev pub invariant-loop-place : goal.invariant-loop-place
invariant-loop-place l = AreShared (net_view l.net) l.fn.values l.place l.marking
