-- What declarations declare has no variable in functions: these are closed.
use Rattle.std.proofs.Common.{◌≡◌, ℕ, suc, List, [], ◌∷◌, ◌++◌, length, Option, Some, None, refl, subst}
use Rattle.cpn_definitions.specs.Bindable.{variables_of, AreClosed}
use Rattle.cpn_definitions.specs.Inscription.{PlainFunction, Functions}
use Rattle.cpn_definitions.proofs.RisingLists.{each_appended}
use Rattle.cpn_trees.specs.Trees.{PlainAst}
use Rattle.cpn_trees.specs.DeclTrees.{PlainDecl, decl, PlainDeclForm, colour_set, variables, value, function}
use Rattle.cpn_typing.specs.Types.{PlainTy}
use Rattle.cpn_typing.specs.Names.{Declared, nothing_declared, Scope, ok}
use Rattle.cpn_typing.specs.Contexts.{in_function}
use Rattle.cpn_typing.specs.Rules.{Typed}
use Rattle.cpn_typing.specs.Expressions.{typed}
use Rattle.cpn_typing.specs.ColourSets.{with_new, with_all_new, colour_names, other_names, limited, shape_of_body, with_colour}
use Rattle.cpn_typing.specs.Declarations.{colour_of, with_variables, scope_of, type_named, with_function, with_new_name, declared_form, declared}
use Rattle.cpn_typing.specs.Consistency.{IsConsistent}
use Rattle.cpn_typing.proofs.Acceptance.{accepted_reads}
use Rattle.cpn_typing.proofs.Consistent.{accepted_parts, same_accepted, nothing_consistent, declared_consistent}
use Rattle.cpn_typing.proofs.Functions.{closed_has_no_variables}
use Rattle.cpn_typing.proofs.MeaningsInNets.{world_of}
use Rattle.cpn_module_nets.specs.Reading.{read}
use Rattle.cpn_module_trees.specs.Parsing.{Parsing}
use Rattle.cpn_module_nets.specs.Accepted.{tree_at, declared_with, declared_from}
use Rattle.cpn_document.specs.declared.pointers.Pointer.TheVariants as pointers
use Rattle.cpn_module_nets.proofs.AcceptedTexts.{accepted_is}
use Rattle.cpn_readings.proofs.Readings.{same_read, steps}

body_closed : (ds : Declared) → IsConsistent ds → (a : PlainAst) (sc : Scope) (w : Option PlainTy) (r : Typed) → typed ds in_function a sc w ≡ ok r → variables_of r.expr ≡ []
body_closed ds good a sc w r is = closed_has_no_variables ds in_function refl (variables_of r.expr) (accepted_reads (world_of ds good [] 0) in_function a sc w r is)

abbrev HasClosed : Declared → Type 0
HasClosed ds = AreClosed ds.functions

one_more_closed : (funs : Functions) (f : PlainFunction) → AreClosed funs → variables_of f.body ≡ [] → AreClosed (funs ++ f ∷ [])
one_more_closed funs f all is = each_appended (λ (g : PlainFunction). variables_of g.body ≡ []) funs (f ∷ []) all (is, tt)

form_closed : (ds : Declared) (form : PlainDeclForm) (now : Declared) → IsConsistent ds → HasClosed ds → declared_form ds form ≡ ok now → HasClosed now
form_closed ds (colour_set n body timed) now good all is =
    let named = accepted_parts (with_new n (colour_names ds)) _ now is in
    let shaped = accepted_parts (shape_of_body ds n body) _ now named.2 in
    let small = accepted_parts (limited shaped.0.shape) _ now shaped.2 in
    subst HasClosed (same_accepted (with_colour ds n timed shaped.0) now small.2) all
form_closed ds (variables ns colour_name) now good all is =
    let named = accepted_parts (with_all_new ns (other_names ds)) _ now is in
    let coloured = accepted_parts (colour_of ds colour_name) _ now named.2 in
    subst HasClosed (same_accepted (with_variables ds ns coloured.0) now coloured.2) all
form_closed ds (value n e) now good all is =
    let named = accepted_parts (with_new_name ds n) _ now is in
    let body = accepted_parts (typed ds in_function e [] None) _ now named.2 in
    subst HasClosed (same_accepted (with_function ds n [] body.0) now body.2) (one_more_closed ds.functions (record { parameters = 0; body = body.0.expr }) all (body_closed ds good e [] None body.0 body.1))
form_closed ds (function n parameters result e) now good all is =
    let named = accepted_parts (with_new_name ds n) _ now is in
    let scope = accepted_parts (scope_of ds parameters []) _ now named.2 in
    let wanted = accepted_parts (type_named ds result) _ now scope.2 in
    let body = accepted_parts (typed ds in_function e scope.0 (Some wanted.0)) _ now wanted.2 in
    subst HasClosed (same_accepted (with_function ds n scope.0 body.0) now body.2) (one_more_closed ds.functions (record { parameters = length scope.0; body = body.0.expr }) all (body_closed ds good e scope.0 (Some wanted.0) body.0 body.1))

declared_closed : (ds : Declared) (d : PlainDecl) (now : Declared) → IsConsistent ds → HasClosed ds → declared ds d ≡ ok now → HasClosed now
declared_closed ds (decl at form) now good all is = form_closed ds form now good all is

abbrev IsGoodAndClosed : Declared → Type 0
IsGoodAndClosed ds = IsConsistent ds × HasClosed ds

with_closed : (i : ℕ) (ds : Declared) (text : Parsing PlainDecl) (now : Declared) → IsGoodAndClosed ds → declared_with i ds text ≡ read now → IsGoodAndClosed now
unfolding declared_with
with_closed i ds text now good h =
    let tree = steps _ (tree_at (pointers.Declaration i) text) now h in
    let is = accepted_is (pointers.Declaration i) (declared ds tree.0) now tree.2 in
    (declared_consistent ds tree.0 now good.0 is, declared_closed ds tree.0 now good.0 good.1 is)

from_closed : (i : ℕ) (ds : Declared) (texts : List (Parsing PlainDecl)) (now : Declared) → IsGoodAndClosed ds → declared_from i ds texts ≡ read now → IsGoodAndClosed now
unfolding declared_from
from_closed i ds [] now good h = subst IsGoodAndClosed (same_read ds now h) good
from_closed i ds (text ∷ texts) now good h =
    let first = steps _ (declared_with i ds text) now h in
    from_closed (suc i) first.0 texts now (with_closed i ds text first.0 good first.1) first.2

pub functions_closed : (texts : List (Parsing PlainDecl)) (ds : Declared) → declared_from 0 nothing_declared texts ≡ read ds → AreClosed ds.functions
functions_closed texts ds h = (from_closed 0 nothing_declared texts ds (nothing_consistent, tt) h).1
