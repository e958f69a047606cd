-- The locals of the program, as the rules have them.
use Rattle.std.specs.Prelude.{List, map}
use Rattle.cpn_typing.specs.Names.{Scope}
use Rattle.cpn_typing.specs.Names as rules
use Rattle.cpn_declared.specs.TypeViews.{ty_view}
use Rattle.cpn_forms.specs.declared.scopes.Local.{Local}

abbrev pub local_view : Local → rules.Local
local_view l = record { name = l.name.now; type_of = ty_view l.ty }

abbrev pub scope_view : List Local → Scope
scope_view = map local_view
