-- The values that are left, around what has been made, are all of them around the body, and the type stays.
use Rattle.std.proofs.Common.{◌≡◌, map, length}
use Rattle.cpn_core.specs.Inscriptions.{expr_view}
use Rattle.cpn_typing.specs.Bindings.{bind_all}
use Rattle.cpn_declared.specs.TypeViews.{ty_view}
use Rattle.cpn_forms.proofs.made.nested.Given as goal

abbrev pub invariant-values : goal.invariant-values
invariant-values l = record {
  all : bind_all (map expr_view l.values.items) (expr_view l.expr) ≡ bind_all (map expr_view l.fn.values.items) (expr_view l.fn.body.expr);
  same : ty_view l.ty ≡ ty_view l.fn.body.ty;
}

abbrev pub decreases-values : goal.decreases-values
decreases-values l = length l.values.items
