-- The copies so far are of those so far.
use Rattle.std.proofs.Common.{◌≡◌, take}
use Rattle.cpn_core.specs.Nets.{names_view}
use Rattle.cpn_declared.proofs.parts.copies_of.Given as goal

abbrev pub invariant-loop-names : goal.invariant-loop-names
invariant-loop-names l = names_view l.copies.items ≡ names_view (take l.names-index l.lists)
