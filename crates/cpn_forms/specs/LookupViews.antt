-- What a look-up answers, as what a name means where it stands.
use Rattle.std.specs.Prelude.{ℕ, Option}
use Rattle.std.specs.Option.{option_map}
use Rattle.std.specs.Borrow.{Bor}
use Rattle.cpn_definitions.specs.Inscription.{Operation, head, tail, list_length, reversal, membership, string_size}
use Rattle.cpn_typing.specs.Types.{PlainTy}
use Rattle.cpn_typing.specs.Names as plain
use Rattle.cpn_declared.specs.TypeViews.{ty_view}
use Rattle.cpn_declared.specs.DeclsViews.{meaning_view}
use Rattle.cpn_declared.specs.declared.types.Ty.{Ty}
use Rattle.cpn_forms.specs.declared.lookups.Predeclared.{Predeclared}
use Rattle.cpn_forms.specs.declared.lookups.Predeclared.TheVariants as predeclared
use Rattle.cpn_forms.specs.declared.lookups.Found.{Found}
use Rattle.cpn_forms.specs.declared.lookups.Found.TheVariants as found

abbrev pub predeclared_view : Predeclared → Operation
predeclared_view predeclared.Head = head
predeclared_view predeclared.Tail = tail
predeclared_view predeclared.Length = list_length
predeclared_view predeclared.Rev = reversal
predeclared_view predeclared.Mem = membership
predeclared_view predeclared.Size = string_size

abbrev pub local_seen : Option (ℕ × Bor Ty) → Option (ℕ × PlainTy)
local_seen = option_map (λ l. (l.0, ty_view l.1.now))

abbrev pub found_view : Found → plain.Found
found_view (found.Local k t) = plain.a_local k (ty_view t.now)
found_view (found.Predeclared p) = plain.predeclared (predeclared_view p)
found_view (found.Declared m) = plain.declared (meaning_view m.now)
found_view found.Nothing = plain.nothing
