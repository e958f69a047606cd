-- What a name in front of a parenthesis means, as the rules of calls say it.
use Rattle.cpn_typing.specs.Rules as rules
use Rattle.cpn_declared.specs.TypeViews.{ty_view, tys_view}
use Rattle.cpn_forms.specs.LookupViews.{predeclared_view}
use Rattle.cpn_forms.specs.declared.calls.Called.{Called}
use Rattle.cpn_forms.specs.declared.calls.Called.TheVariants as called

abbrev pub called_view : Called → rules.Called
called_view (called.Predeclared o) = rules.does (predeclared_view o)
called_view (called.Constructor union position argument) = rules.constructs union position (ty_view argument.now)
called_view (called.Function number parameters result) = rules.calls number (tys_view parameters.now.items) (ty_view result.now)
called_view called.Nothing = rules.nothing_called
