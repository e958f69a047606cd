-- The plain typed inscription that one of the program stands for.
use Rattle.cpn_core.specs.Inscriptions.{expr_view}
use Rattle.cpn_typing.specs.Rules as rules
use Rattle.cpn_declared.specs.TypeViews.{ty_view}
use Rattle.cpn_forms.specs.declared.typed.Typed.{Typed}

abbrev pub typed_view : Typed → rules.Typed
typed_view t = record { expr = expr_view t.expr; type_of = ty_view t.ty }
