-- A local has the name exactly where one of those that are left has it.
use Rattle.std.proofs.Common.{◌≡◌, drop}
use Rattle.cpn_typing.specs.Names.{is_local}
use Rattle.cpn_forms.specs.ScopeViews.{scope_view}
use Rattle.cpn_forms.proofs.scopes.is_local.Given as goal

abbrev pub invariant-loop-local : goal.invariant-loop-local
invariant-loop-local l = is_local l.name (scope_view l.scope) ≡ is_local l.name (scope_view (drop l.local-index l.scope))
