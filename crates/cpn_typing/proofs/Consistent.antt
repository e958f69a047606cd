-- What is declared holds together: each declaration that is accepted keeps this.
use Rattle.std.proofs.Common.{◌≡◌, ◌⊎◌, ℕ, zero, suc, ◌+◌, ◌<◌, ◌∙◌, Bool, List, [], ◌∷◌, ◌++◌, length, map, slice_get, slice_index_or, append_assoc, Option, Some, None, refl, sym, ap, subst, inl, inr, ⊎_elim, arith}
use Rattle.std.proofs.lemmas.List.{length-map}
use Rattle.std.proofs.Math.Nat.{zero-add}
use Rattle.cpn_definitions.specs.Colour.{PlainColour}
use Rattle.cpn_definitions.specs.Inscription.{PlainFunction, Functions}
use Rattle.cpn_definitions.specs.Meaning.{PlainBinding}
use Rattle.cpn_definitions.specs.Net.{Coloured, nothing}
use Rattle.cpn_trees.specs.Trees.{PlainAst}
use Rattle.cpn_trees.specs.DeclTrees.{PlainBody, PlainDecl, decl, PlainDeclForm, colour_set, variables, value, function}
use Rattle.cpn_typing.specs.Types.{PlainTy, type_of_shape}
use Rattle.cpn_typing.specs.Names.{Name, Meant, a_variable, a_constant, a_constructor, a_function, Refusal, NamedMeaning, Declared, nothing_declared, colour_named, meant_among, unknown, Scope, types_of_scope, Checked, ok, refused, ◌>>=◌, required}
use Rattle.cpn_typing.specs.Contexts.{in_function}
use Rattle.cpn_typing.specs.Rules.{Typed}
use Rattle.cpn_typing.specs.Expressions.{typed}
use Rattle.cpn_typing.specs.TypedValues.{Sets, HasSetsOf}
use Rattle.cpn_typing.specs.Law.{IsKeptBelow, AreKeptBelow}
use Rattle.cpn_typing.specs.ColourSets.{with_new, with_all_new, colour_names, other_names, Shaped, limited, shape_of_body, with_colour}
use Rattle.cpn_typing.specs.Declarations.{colour_of, coloured_as, variables_from, with_variables, scope_of, type_named, with_function, with_new_name, declared_form, declared, all_declared}
use Rattle.cpn_typing.specs.Consistency.{HasSets, IsNumbered, IsConsistent}
use Rattle.cpn_typing.proofs.Outcomes.{accepts_at}
use Rattle.cpn_typing.proofs.NamesDeclared.{length_more, index_before, get_at, among_more, colour_more, colour_alone, meant_alone, IsVariable, variable_is}
use Rattle.cpn_typing.proofs.SetsDeclared.{fewer_sets, sets_of_lists, their_own, IsOfSets, IsShapeOf, body_has}
use Rattle.cpn_typing.proofs.Functions.{kept_with_function}

-- what is accepted behind something comes from what that accepts
pub accepted_parts : {A B : Type 0} (c : Checked A) (f : A → Checked B) (y : B) → (c >>= f) ≡ ok y → (x : A) × (c ≡ ok x) × (f x ≡ ok y)
accepted_parts (ok x) f y is = (x, refl, is)
accepted_parts (refused r) f y is = cc

pub same_accepted : {A : Type 0} (x y : A) → ok x ≡ ok y → x ≡ y
same_accepted x y h = cc

pub required_is : {A : Type 0} (o : Option A) (r : Refusal) (x : A) → required o r ≡ ok x → o ≡ Some x
required_is None r x h = cc
required_is (Some y) r x h = ap (λ z. Some z) (same_accepted y x h)

-- ---- at first

pub nothing_consistent : IsConsistent nothing_declared
nothing_consistent = record {
  colours_of = λ sets h n c e. absurd (cc);
  coloured = λ sets h x lt. absurd (omega arith);
  numbered = λ n x t e. absurd (cc);
  kept = λ sets funs more b time h is n m e. absurd (cc);
}

-- ---- colour sets

of_sets_kept : (sets : Sets) (funs : Functions) (b : PlainBinding) (time n : ℕ) (m : Meant) → IsOfSets sets m → IsKeptBelow sets funs b time n m
of_sets_kept sets funs b time n (a_variable x t) h = absurd h
of_sets_kept sets funs b time n (a_constant id k) h = h
of_sets_kept sets funs b time n (a_constructor id k t) h = h
of_sets_kept sets funs b time n (a_function k ts t) h = absurd h

-- with the shapes of a body that is accepted
abbrev Brings : Declared → Shaped → Type 0
Brings ds new = (sets : Sets) → HasSets sets (ds.enumerations ++ new.enumerations) (ds.unions ++ new.unions) → IsShapeOf sets new

-- the sets that an enumeration or a union brings are none of a variable
abbrev BringsNoVariable : Shaped → Type 0
BringsNoVariable new = (n : Name) (x : ℕ) (t : PlainTy) → meant_among n new.names ≡ Some (a_variable x t) → ⊥

colour_consistent : (ds : Declared) (n : Name) (timed : Bool) (new : Shaped) → IsConsistent ds → Brings ds new → BringsNoVariable new → IsConsistent (with_colour ds n timed new)
colour_consistent ds n timed new good brings none = record {
  colours_of = λ sets h m c e. ⊎_elim (λ g. good.colours_of sets (before sets h) m c g)
      (λ g. subst (λ colour. HasSetsOf sets colour.shape) (colour_alone m c (record { name = n; colour = record { shape = new.shape; timed = timed } }) g) (brings sets h).shape_of)
      (colour_more m c ds.colours (record { name = n; colour = record { shape = new.shape; timed = timed } } ∷ []) e);
  coloured = λ sets h x lt. good.coloured sets (before sets h) x lt;
  numbered = λ m x t e. ⊎_elim (λ g. good.numbered m x t g) (λ g. absurd (none m x t g)) (among_more m (a_variable x t) ds.names new.names e);
  kept = λ sets funs more b time h is m k e. ⊎_elim (λ g. good.kept sets funs more b time (before sets h) is m k g)
      (λ g. of_sets_kept sets funs b time (length ds.functions) k ((brings sets h).names_of m k g))
      (among_more m k ds.names new.names e);
}
  where
    before : (sets : Sets) → HasSets sets (ds.enumerations ++ new.enumerations) (ds.unions ++ new.unions) → HasSets sets ds.enumerations ds.unions
    before sets h = fewer_sets sets ds.enumerations new.enumerations ds.unions new.unions h

-- ---- variables

index_behind : {X : Type 0} (xs ys : List X) (j : ℕ) (d : X) → slice_index_or (xs ++ ys) (length xs + j) d ≡ slice_index_or ys j d
index_behind [] ys j d = ap (λ k. slice_index_or ys k d) (zero-add j)
index_behind (x ∷ xs) ys j d = ap (λ k. slice_index_or (x ∷ (xs ++ ys)) k d) (one_more (length xs) j) ∙ index_behind xs ys j d
  where
    one_more : (a k : ℕ) → suc a + k ≡ suc (a + k)
    one_more a k = omega arith

coloured_there : (colour : PlainColour) (ns : List Name) (j : ℕ) → j < length ns → (slice_index_or (map (coloured_as colour) ns) j nothing).colour ≡ colour
coloured_there colour [] j lt = absurd (omega arith)
coloured_there colour (n ∷ ns) zero lt = refl
coloured_there colour (n ∷ ns) (suc j) lt = coloured_there colour ns j (omega arith)

-- one of those before, or one behind them
where_it_is : (a c x : ℕ) → x < a + c → (x < a) ⊎ ((j : ℕ) × (j < c) × (a + j ≡ x))
where_it_is zero c x lt = inr (x, omega arith, omega arith)
where_it_is (suc a) c zero lt = inl (omega arith)
where_it_is (suc a) c (suc x) lt = ⊎_elim (λ h. inl (omega arith)) (λ h. inr (h.0, h.1, next h.0 h.2)) (where_it_is a c x (omega arith))
  where
    next : (j : ℕ) → a + j ≡ x → suc a + j ≡ suc x
    next j e = omega arith

variables_consistent : (ds : Declared) (ns : List Name) (colour : PlainColour) → IsConsistent ds → ((sets : Sets) → HasSets sets ds.enumerations ds.unions → HasSetsOf sets colour.shape) → IsConsistent (with_variables ds ns colour)
variables_consistent ds ns colour good has = record {
  colours_of = good.colours_of;
  coloured = λ sets h x lt. ⊎_elim
      (λ g. subst (λ v. HasSetsOf sets v.colour.shape) (sym (index_before ds.variables new x nothing g)) (good.coloured sets h x g))
      (λ g. subst (λ k. HasSetsOf sets (slice_index_or (ds.variables ++ new) k nothing).colour.shape) g.2
      (subst (λ v. HasSetsOf sets v.colour.shape) (sym (index_behind ds.variables new g.0 nothing))
      (subst (λ c. HasSetsOf sets c.shape) (sym (coloured_there colour ns g.0 g.1)) (has sets h))))
      (where_it_is (length ds.variables) (length ns) x (subst (λ k. x < k) (length_more ds.variables new ∙ ap (λ k. length ds.variables + k) (length-map ns (coloured_as colour))) lt));
  numbered = λ m x t e. ⊎_elim (λ g. earlier x t (good.numbered m x t g)) (λ g. new_one x t (variable_is m (a_variable x t) (length ds.variables) (type_of_shape colour.shape) ns g))
      (among_more m (a_variable x t) ds.names (variables_from (length ds.variables) (type_of_shape colour.shape) ns) e);
  kept = λ sets funs more b time h is m k e. ⊎_elim (λ g. good.kept sets funs more b time h is m k g)
      (λ g. variable_kept sets funs b time k (variable_is m k (length ds.variables) (type_of_shape colour.shape) ns g))
      (among_more m k ds.names (variables_from (length ds.variables) (type_of_shape colour.shape) ns) e);
}
  where
    new : List Coloured
    new = map (coloured_as colour) ns

    longer : (x a c d : ℕ) → d ≡ a + c → x < a → x < d
    longer x a c d e lt = omega arith

    earlier : (x : ℕ) (t : PlainTy) → IsNumbered ds.variables x t → IsNumbered (ds.variables ++ map (coloured_as colour) ns) x t
    earlier x t h = record {
      is_below = longer x (length ds.variables) (length (map (coloured_as colour) ns)) (length (ds.variables ++ map (coloured_as colour) ns)) (length_more ds.variables (map (coloured_as colour) ns)) h.is_below;
      type_is = h.type_is ∙ ap (λ v. type_of_shape v.colour.shape) (sym (index_before ds.variables (map (coloured_as colour) ns) x nothing h.is_below));
    }

    number_of : Meant → ℕ
    number_of (a_variable x t) = x
    number_of (a_constant id k) = 0
    number_of (a_constructor id k t) = 0
    number_of (a_function k ts t) = 0

    type_of_variable : Meant → PlainTy
    type_of_variable (a_variable x t) = t
    type_of_variable (a_constant id k) = type_of_shape colour.shape
    type_of_variable (a_constructor id k t) = type_of_shape colour.shape
    type_of_variable (a_function k ts t) = type_of_shape colour.shape

    inside : (x a c d j : ℕ) → d ≡ a + c → j < c → a + j ≡ x → x < d
    inside x a c d j e lt is = omega arith

    new_one : (x : ℕ) (t : PlainTy) → IsVariable (length ds.variables) (type_of_shape colour.shape) ns (a_variable x t) → IsNumbered (ds.variables ++ map (coloured_as colour) ns) x t
    new_one x t h = record {
      is_below = inside x (length ds.variables) (length ns) (length (ds.variables ++ map (coloured_as colour) ns)) h.position
          (length_more ds.variables (map (coloured_as colour) ns) ∙ ap (λ k. length ds.variables + k) (length-map ns (coloured_as colour))) h.is_there (ap number_of h.is);
      type_is = sym (ap type_of_variable h.is)
          ∙ ap (λ c. type_of_shape c.shape) (sym (coloured_there colour ns h.position h.is_there))
          ∙ ap (λ v. type_of_shape v.colour.shape) (sym (index_behind ds.variables (map (coloured_as colour) ns) h.position nothing))
          ∙ ap (λ k. type_of_shape (slice_index_or (ds.variables ++ map (coloured_as colour) ns) k nothing).colour.shape) (ap number_of h.is);
    }

    variable_kept : (sets : Sets) (funs : Functions) (b : PlainBinding) (time : ℕ) (k : Meant) → IsVariable (length ds.variables) (type_of_shape colour.shape) ns k → IsKeptBelow sets funs b time (length ds.functions) k
    variable_kept sets funs b time k h = subst (IsKeptBelow sets funs b time (length ds.functions)) h.is tt

-- ---- functions

function_consistent : (ds : Declared) (n : Name) (sc : Scope) (a : PlainAst) (w : Option PlainTy) (r : Typed) → IsConsistent ds → typed ds in_function a sc w ≡ ok r → IsConsistent (with_function ds n sc r)
function_consistent ds n sc a w r good is = record {
  colours_of = good.colours_of;
  coloured = good.coloured;
  numbered = λ m x t e. ⊎_elim (λ g. good.numbered m x t g) (λ g. let no_variable = meant_alone m (a_variable x t) new g in absurd (cc)) (among_more m (a_variable x t) ds.names (new ∷ []) e);
  kept = λ sets funs more b time h are.
      let begin = are ∙ append_assoc ds.functions (body ∷ []) more in
      let there = ap (λ fs. slice_get fs (length ds.functions)) begin ∙ get_at ds.functions body more in
      subst (λ count. AreKeptBelow sets funs b time count (ds.names ++ new ∷ [])) (sym one_longer)
      (kept_with_function sets ds funs b time n a sc w r (good.kept sets funs (body ∷ more) b time h begin) is there);
}
  where
    new : NamedMeaning
    new = record { name = n; meant = a_function (length ds.functions) (types_of_scope sc) r.type_of }

    body : PlainFunction
    body = record { parameters = length sc; body = r.expr }

    one_longer : length (ds.functions ++ record { parameters = length sc; body = r.expr } ∷ []) ≡ suc (length ds.functions)
    one_longer = let more = length_more ds.functions (record { parameters = length sc; body = r.expr } ∷ []) in omega arith

-- ---- declarations

-- what a body brings is no variable
shape_brings : (ds : Declared) (n : Name) (body : PlainBody) (new : Shaped) → IsConsistent ds → shape_of_body ds n body ≡ ok new → Brings ds new
shape_brings ds n body new good is sets h =
    accepts_at (λ m. HasSets sets (ds.enumerations ++ m.enumerations) (ds.unions ++ m.unions) → IsShapeOf sets m) (shape_of_body ds n body) new
    (body_has sets ds n body (good.colours_of sets (fewer_sets sets ds.enumerations new.enumerations ds.unions new.unions h))) is h

-- with sets of its own, no name that a body brings is a variable's
brings_none : (ds : Declared) (new : Shaped) → Brings ds new → BringsNoVariable new
brings_none ds new brings n x t e = (brings (sets_of_lists (ds.enumerations ++ new.enumerations) (ds.unions ++ new.unions)) (their_own (ds.enumerations ++ new.enumerations) (ds.unions ++ new.unions))).names_of n (a_variable x t) e

colour_named_is : (ds : Declared) (n : Name) (colour : PlainColour) → colour_of ds n ≡ ok colour → colour_named n ds ≡ Some colour
colour_named_is ds n colour is = required_is (colour_named n ds) (unknown n) colour is

form_consistent : (ds : Declared) (form : PlainDeclForm) (now : Declared) → IsConsistent ds → declared_form ds form ≡ ok now → IsConsistent now
form_consistent ds (colour_set n body timed) now good is =
    let named = accepted_parts (with_new n (colour_names ds)) _ now is in
    let shaped = accepted_parts (shape_of_body ds n body) _ now named.2 in
    let small = accepted_parts (limited shaped.0.shape) _ now shaped.2 in
    let brings = shape_brings ds n body shaped.0 good shaped.1 in
    subst IsConsistent (same_accepted (with_colour ds n timed shaped.0) now small.2) (colour_consistent ds n timed shaped.0 good brings (brings_none ds shaped.0 brings))
form_consistent ds (variables ns colour_name) now good is =
    let named = accepted_parts (with_all_new ns (other_names ds)) _ now is in
    let coloured = accepted_parts (colour_of ds colour_name) _ now named.2 in
    subst IsConsistent (same_accepted (with_variables ds ns coloured.0) now coloured.2)
    (variables_consistent ds ns coloured.0 good (λ sets h. good.colours_of sets h colour_name coloured.0 (colour_named_is ds colour_name coloured.0 coloured.1)))
form_consistent ds (value n e) now good is =
    let named = accepted_parts (with_new_name ds n) _ now is in
    let body = accepted_parts (typed ds in_function e [] None) _ now named.2 in
    subst IsConsistent (same_accepted (with_function ds n [] body.0) now body.2) (function_consistent ds n [] e None body.0 good body.1)
form_consistent ds (function n parameters result e) now good is =
    let named = accepted_parts (with_new_name ds n) _ now is in
    let scope = accepted_parts (scope_of ds parameters []) _ now named.2 in
    let wanted = accepted_parts (type_named ds result) _ now scope.2 in
    let body = accepted_parts (typed ds in_function e scope.0 (Some wanted.0)) _ now wanted.2 in
    subst IsConsistent (same_accepted (with_function ds n scope.0 body.0) now body.2) (function_consistent ds n scope.0 e (Some wanted.0) body.0 good body.1)

pub declared_consistent : (ds : Declared) (d : PlainDecl) (now : Declared) → IsConsistent ds → declared ds d ≡ ok now → IsConsistent now
declared_consistent ds (decl at form) now good is = form_consistent ds form now good is

pub all_consistent : (ds : Declared) (decls : List PlainDecl) (now : Declared) → IsConsistent ds → all_declared ds decls ≡ ok now → IsConsistent now
all_consistent ds [] now good is = subst IsConsistent (same_accepted ds now is) good
all_consistent ds (d ∷ later) now good is =
    let first = accepted_parts (declared ds d) _ now is in
    all_consistent first.0 later now (declared_consistent ds d first.0 good first.1) first.2

-- What declarations declare holds together.
pub declarations_consistent : (decls : List PlainDecl) (ds : Declared) → all_declared nothing_declared decls ≡ ok ds → IsConsistent ds
declarations_consistent decls ds is = all_consistent nothing_declared decls ds nothing_consistent is
