-- The trees join what the pairs so far join.
use Rattle.std.proofs.Common.{◌≡◌, length, take}
use Rattle.cpn_classes.specs.Trees.{links, JoinTheSame}
use Rattle.cpn_classes.proofs.classes.Classes.of.Given as goal

abbrev pub invariant-loop-one : goal.invariant-loop-one
invariant-loop-one l = record { as_many : length l.trees ≡ l.count; same : JoinTheSame (links l.trees) (take l.one-index l.pairs) }
