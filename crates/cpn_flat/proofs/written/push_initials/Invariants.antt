-- The initial markings so far stand behind those that were there.
use Rattle.std.proofs.Common.{◌≡◌, ◌++◌, take}
use Rattle.cpn_accepted.specs.Views.{initials_view}
use Rattle.cpn_flat.specs.WrittenViews.{optional_view}
use Rattle.cpn_flat.proofs.written.push_initials.Given as goal

abbrev pub invariant-loop-initial : goal.invariant-loop-initial
invariant-loop-initial l = optional_view l.initials.items ≡ optional_view l.initial.initials.items ++ initials_view (take l.initial-index l.module.initials.items)
