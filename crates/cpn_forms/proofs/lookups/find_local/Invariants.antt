-- The innermost local is the one among those that are left, else the one that is found.
use Rattle.std.proofs.Common.{◌≡◌, drop}
use Rattle.cpn_typing.specs.Names.{local_named}
use Rattle.cpn_forms.specs.ScopeViews.{scope_view}
use Rattle.cpn_forms.specs.LookupViews.{local_seen}
use Rattle.cpn_forms.proofs.Innermost.{behind}
use Rattle.cpn_forms.proofs.lookups.find_local.Given as goal

abbrev pub invariant-loop-number : goal.invariant-loop-number
invariant-loop-number l =
    behind l.number (local_named l.name (scope_view (drop l.number l.scope))) (local_seen l.found) ≡ local_named l.name (scope_view l.scope)
