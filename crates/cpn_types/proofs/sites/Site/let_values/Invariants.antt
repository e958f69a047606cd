-- The values so far stand around what follows them in the inner scope.
use Rattle.std.proofs.Common.{◌≡◌, map, take, drop, length}
use Rattle.cpn_definitions.specs.Inscription.{ArcInscription}
use Rattle.cpn_core.specs.Inscriptions.{expr_view}
use Rattle.cpn_trees.specs.AstViews.{local_view, locals_from}
use Rattle.cpn_typing.specs.Names.{Scope, Checked}
use Rattle.cpn_typing.specs.Multisets.{marked_let}
use Rattle.cpn_forms.specs.ScopeViews.{scope_view}
use Rattle.cpn_types.specs.Sites.{site_view}
use Rattle.cpn_types.proofs.LetValues.{around}
use Rattle.cpn_types.proofs.sites.Site.let_values.Given as goal

abbrev pub invariant-loop-local : goal.invariant-loop-local
invariant-loop-local l = record {
  left : (body : Scope → Checked ArcInscription) → marked_let (site_view l.self) (locals_from (map local_view l.values)) (scope_view l.initial.scope.items) body
      ≡ around (map expr_view l.exprs.items) (marked_let (site_view l.self) (locals_from (map local_view (drop l.local-index l.values))) (scope_view l.scope.items) body);
  outer : take (length l.initial.scope.items) l.scope.items ≡ l.initial.scope.items;
}
