-- The rules of calls, taken apart: what a predeclared function wants of its first argument and of those behind it, and what it
-- makes of them; and the types that are wanted of the argument or the arguments of a constructor.
use Rattle.std.specs.Prelude.{ℕ, Option, Some, None}
use Rattle.cpn_definitions.specs.Inscription.{Operation, head, tail, list_length, reversal, membership, string_size, operation, tupling, calling, PlainExpr, apply, PlainExprs, more_exprs}
use Rattle.cpn_trees.specs.Trees.{PlainAsts, no_ast, more_asts}
use Rattle.cpn_typing.specs.Types.{PlainTy, bool_type, int_type, text_type, tuples, lists, PlainTys, no_types, more_types, same_types}
use Rattle.cpn_typing.specs.Names.{Name, unknown, mismatch, Checked, ok, refused, ◌>>=◌, accepted_if}
use Rattle.cpn_typing.specs.Rules.{Typed, Parts, Spot, meets, item_of, Arguments}
use Rattle.cpn_forms.specs.LookupViews.{predeclared_view}
use Rattle.cpn_forms.specs.declared.lookups.Predeclared.{Predeclared}
use Rattle.cpn_forms.specs.declared.lookups.Predeclared.TheVariants as predeclared

-- what is wanted of the first argument
abbrev pub first_wanted_by : Predeclared → Option PlainTy
first_wanted_by predeclared.Head = None
first_wanted_by predeclared.Tail = None
first_wanted_by predeclared.Length = None
first_wanted_by predeclared.Rev = None
first_wanted_by predeclared.Mem = None
first_wanted_by predeclared.Size = Some text_type

-- the types of the arguments behind it, by its type
abbrev pub no_more : PlainTy → Checked PlainTys
no_more t = ok no_types

abbrev pub one_more : PlainTy → Checked PlainTys
one_more t = ok (more_types t no_types)

abbrev pub others_wanted_by : Predeclared → PlainTy → ℕ → Checked PlainTys
others_wanted_by predeclared.Head t at = item_of t at >>= no_more
others_wanted_by predeclared.Tail t at = item_of t at >>= no_more
others_wanted_by predeclared.Length t at = item_of t at >>= no_more
others_wanted_by predeclared.Rev t at = item_of t at >>= no_more
others_wanted_by predeclared.Mem t at = item_of t at >>= one_more
others_wanted_by predeclared.Size t at = ok no_types

-- the type of what it gives, by the type of the first argument
abbrev pub item_or : PlainTy → PlainTy
item_or (lists t) = t
item_or t = t

abbrev pub result_of : Predeclared → PlainTy → PlainTy
result_of predeclared.Head t = item_or t
result_of predeclared.Tail t = t
result_of predeclared.Length t = int_type
result_of predeclared.Rev t = t
result_of predeclared.Mem t = bool_type
result_of predeclared.Size t = int_type

-- what it makes of the first argument and those behind it
abbrev pub operation_makes : Predeclared → Spot → Typed → PlainTys → Parts → Checked Typed
operation_makes o spot first others rest =
    accepted_if (same_types rest.types others) (mismatch spot.at) rest.exprs >>= λ es. meets spot.wanted spot.at (apply (operation (predeclared_view o)) (more_exprs first.expr es)) (result_of o first.type_of)

abbrev pub from_arguments : Predeclared → Spot → Arguments → Checked Typed
from_arguments o spot xs =
    xs.first.check (first_wanted_by o) >>= λ a. others_wanted_by o a.type_of xs.first.at >>= λ ts. xs.rest ts >>= λ p. operation_makes o spot a ts p

-- several arguments of a constructor are the parts of a tuple
abbrev pub tuple_made : PlainTy → ℕ → Parts → Checked PlainExpr
tuple_made (tuples ts) at p = accepted_if (same_types p.types ts) (mismatch at) p.exprs >>= λ es. ok (apply tupling es)
tuple_made t at p = refused (mismatch at)

-- what a function of a number makes of its arguments, by the types of its parameters and of what it gives
abbrev pub function_makes : ℕ → Spot → PlainTys → PlainTy → Parts → Checked Typed
function_makes k spot ts t p = accepted_if (same_types p.types ts) (mismatch spot.at) p.exprs >>= λ es. meets spot.wanted spot.at (apply (calling k) es) t
