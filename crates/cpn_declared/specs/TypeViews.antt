-- The plain type that a type of the program stands for.
use Rattle.std.specs.Prelude.{List, map}
use Rattle.cpn_typing.specs.Types.{PlainTy, unit_type, bool_type, int_type, text_type, enumeration, union, tuples, lists, PlainTys, types_from}
use Rattle.cpn_declared.specs.declared.types.Ty.{Ty, fold-Ty}
use Rattle.cpn_declared.specs.declared.types.Ty.TheOpen.{Ty-F}

-- one level, with each type inside already seen as its plain one
abbrev pub ty_step : Ty-F PlainTy → PlainTy
ty_step Ty-F.Unit = unit_type
ty_step Ty-F.Bool = bool_type
ty_step Ty-F.Int = int_type
ty_step Ty-F.Text = text_type
ty_step (Ty-F.Enum number) = enumeration number
ty_step (Ty-F.Tuple ts) = tuples (types_from ts.value.items)
ty_step (Ty-F.Union number) = union number
ty_step (Ty-F.List t) = lists t.value

abbrev pub ty_view : Ty → PlainTy
ty_view = fold-Ty PlainTy ty_step

abbrev pub tys_view : List Ty → PlainTys
tys_view ts = types_from (map ty_view ts)
