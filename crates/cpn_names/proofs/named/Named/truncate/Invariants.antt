-- The first things are those that were there.
use Rattle.std.proofs.Common.{◌≡◌, take, length}
use Rattle.cpn_names.proofs.named.Named.truncate.Given as goal

abbrev pub invariant-loop-self : goal.invariant-loop-self
invariant-loop-self g l = take l.count l.self ≡ take l.initial.count l.initial.self

abbrev pub decreases-loop-self : goal.decreases-loop-self
decreases-loop-self g l = length l.self
