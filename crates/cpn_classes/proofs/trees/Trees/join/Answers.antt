-- Both items are joined to their roots, and these by the new parent.
use Rattle.std.proofs.Common.{◌<◌, length, arith}
use Rattle.cpn_classes.specs.Trees.{links}
use Rattle.cpn_classes.specs.JoinedPairs.{same_through}
use Rattle.cpn_classes.proofs.NewParents.{roots_joined}
use Rattle.cpn_classes.proofs.trees.Trees.join.Goals as goal

pub returns-clause-joined : goal.returns-clause-joined
returns-clause-joined c =
    let first = c.root-first.ensures in
    let second = c.root-second.ensures in
    let first_in : c.root-first.result < length c.root-second.new.self = omega (arith, first.before, first.length, second.length, c.requires.one) in
    let second_in : c.root-second.result < length c.root-second.new.self = omega (arith, second.before, first.length, second.length, c.requires.other) in
    rw (c.max.ensures, c.min.ensures, c.self.view_is)
    (roots_joined c.args.self.now c.root-second.new.self c.args.one c.args.other (same_through (links c.args.self.now) (links c.root-first.new.self) (links c.root-second.new.self) first.same second.same)
    c.root-first.result c.root-second.result first_in second_in (second.roots c.root-first.result first.root) second.root ((second.same c.args.one c.root-first.result).0 first.joined) second.joined)
