-- What is declared has short integers: those of each colour set, and of the colour set of each variable, have bounds of 64 bits, where
-- the bounds that declarations write have.
use Rattle.std.proofs.Common.{◌≡◌, ℤ, Bool, true, false, cond, List, [], ◌∷◌, map, Option, Some, None, refl, subst}
use Rattle.std.specs.List.{AllByRecursion}
use Rattle.std.specs.Str.{bytes_eq}
use Rattle.std.proofs.lemmas.Bool.{and_from}
use Rattle.cpn_definitions.specs.Colour.{PlainShape, PlainShapes, PlainColour}
use Rattle.cpn_definitions.specs.Integers.{has_64_bits, has_short_integers, have_short_integers, arguments_have_short_integers, is_short}
use Rattle.cpn_definitions.specs.Net.{Coloured}
use Rattle.cpn_definitions.proofs.RisingLists.{each_appended}
use Rattle.cpn_trees.specs.DeclTrees.{PlainAlternative, PlainBody, unit, bool, int, int_range, string, enumeration, product, list, union, named, PlainDeclForm, colour_set, variables, value, function, PlainDecl, decl}
use Rattle.cpn_trees.specs.DeclaredBounds.{bounds_in_body, bounds_in_form, declared_bounds}
use Rattle.cpn_typing.specs.Names.{Name, NamedColour, Declared, nothing_declared, colour_among, colour_named, unknown, empty_colour, Scope, ok, required}
use Rattle.cpn_typing.specs.ColourSets.{with_new, with_all_new, colour_names, other_names, component, components, Alternatives, alternative_of, alternatives_of, Shaped, limited, shape_of_body, with_colour}
use Rattle.cpn_typing.specs.Contexts.{in_function}
use Rattle.cpn_typing.specs.Rules.{Typed}
use Rattle.cpn_typing.specs.Expressions.{typed}
use Rattle.cpn_typing.specs.Declarations.{colour_of, coloured_as, with_variables, scope_of, type_named, with_function, with_new_name, declared_form, declared}
use Rattle.cpn_typing.proofs.Outcomes.{Accepts, accepts_then, accepts_at, accepts_if}
use Rattle.cpn_typing.proofs.SetsDeclared.{component_of, anything}

-- short integers of a shape, of shapes, and of the arguments of constructors
abbrev IsShort : PlainShape → Type 0
IsShort s = has_short_integers s ≡ true

abbrev AreShort : PlainShapes → Type 0
AreShort ss = have_short_integers ss ≡ true

abbrev HaveShort : Alternatives → Type 0
HaveShort a = arguments_have_short_integers a.shapes ≡ true

-- an integer of 64 bits; short integers of a colour set that is declared, and of that of a variable or a place
abbrev pub Has64Bits : ℤ → Type 0
Has64Bits z = has_64_bits z ≡ true

abbrev pub IsShortNamed : NamedColour → Type 0
IsShortNamed c = has_short_integers c.colour.shape ≡ true

abbrev pub IsShortColoured : Coloured → Type 0
IsShortColoured v = is_short v ≡ true

-- what is declared has short integers
pub record DeclaresShort (ds : Declared) : Type 0 where
  pub colours : AllByRecursion IsShortNamed ds.colours
  pub variables : AllByRecursion IsShortColoured ds.variables

-- ---- colour sets that are declared

among_short : (n : Name) (cs : List NamedColour) → AllByRecursion IsShortNamed cs → (colour : PlainColour) → colour_among n cs ≡ Some colour → IsShort colour.shape
among_short n [] all colour e = absurd (cc)
among_short n (c ∷ cs) all colour e = by (bytes_eq n c.name) (among_short n cs all.1 colour) e
  where
    by : (b : Bool) → (colour_among n cs ≡ Some colour → IsShort colour.shape) → cond b (Some c.colour) (colour_among n cs) ≡ Some colour → IsShort colour.shape
    by true later is = let same : c.colour ≡ colour = cc in subst (λ (x : PlainColour). IsShort x.shape) same all.0
    by false later is = later is

module _ (ds : Declared) (good : DeclaresShort ds) where
  component_short : (n : Name) → Accepts IsShort (component ds n)
  component_short n = component_of IsShort (colour_named n ds) (unknown n) (among_short n ds.colours good.colours)

  components_short : (ns : List Name) → Accepts AreShort (components ds ns)
  components_short [] = refl
  components_short (n ∷ ns) =
      accepts_then IsShort AreShort (component ds n) _ (component_short n)
      (λ s h. accepts_then AreShort AreShort (components ds ns) _ (components_short ns) (λ ss k. and_from (has_short_integers s) (have_short_integers ss) h k))

  -- the colour set of a name
  of_colour : (n : Name) → Accepts (λ (c : PlainColour). IsShort c.shape) (colour_of ds n)
  of_colour n = of (colour_named n ds) (among_short n ds.colours good.colours)
    where
      of : (o : Option PlainColour) → ((c : PlainColour) → o ≡ Some c → IsShort c.shape) → Accepts (λ (c : PlainColour). IsShort c.shape) (required o (unknown n))
      of None p = tt
      of (Some c) p = p c refl

  -- The colour set of a name has short integers.
  pub colour_short : (n : Name) (c : PlainColour) → colour_of ds n ≡ ok c → has_short_integers c.shape ≡ true
  colour_short n c is = accepts_at (λ (x : PlainColour). IsShort x.shape) (colour_of ds n) c (of_colour n) is

  -- ---- bodies

  alternative_short : (n : Name) (o : Option Name) → Accepts (λ f. (a : Alternatives) → HaveShort a → HaveShort (f a)) (alternative_of ds n o)
  alternative_short n None = λ a h. h
  alternative_short n (Some colour) =
      accepts_then IsShort (λ f. (a : Alternatives) → HaveShort a → HaveShort (f a)) (component ds colour) _ (component_short colour)
      (λ s g a h. and_from (has_short_integers s) (arguments_have_short_integers a.shapes) g h)

  alternatives_short : (alternatives : List PlainAlternative) (taken : List Name) → Accepts HaveShort (alternatives_of ds alternatives taken)
  alternatives_short [] taken = refl
  alternatives_short (x ∷ rest) taken =
      accepts_then (λ now. Unit {0}) HaveShort (with_new x.constructor taken) _ (anything (with_new x.constructor taken))
      (λ now u. accepts_then (λ f. (a : Alternatives) → HaveShort a → HaveShort (f a)) HaveShort (alternative_of ds x.constructor x.argument) _ (alternative_short x.constructor x.argument)
      (λ first g. accepts_then HaveShort HaveShort (alternatives_of ds rest now) _ (alternatives_short rest now) (λ later h. g later h)))

  body_short : (n : Name) (body : PlainBody) → AllByRecursion Has64Bits (bounds_in_body body) → Accepts (λ (new : Shaped). IsShort new.shape) (shape_of_body ds n body)
  body_short n unit all = refl
  body_short n bool all = refl
  body_short n int all = refl
  body_short n (int_range low high) all = accepts_if (λ (new : Shaped). IsShort new.shape) _ (empty_colour n) _ (λ e. and_from (has_64_bits low) (has_64_bits high) all.0 all.1.0)
  body_short n string all = refl
  body_short n (enumeration ns) all =
      accepts_then (λ taken. Unit {0}) (λ (new : Shaped). IsShort new.shape) (with_all_new ns (other_names ds)) _ (anything (with_all_new ns (other_names ds))) (λ taken u. refl)
  body_short n (product ns) all = accepts_then AreShort (λ (new : Shaped). IsShort new.shape) (components ds ns) _ (components_short ns) (λ ss h. h)
  body_short n (list item) all = accepts_then IsShort (λ (new : Shaped). IsShort new.shape) (component ds item) _ (component_short item) (λ s h. h)
  body_short n (union alternatives) all =
      accepts_then HaveShort (λ (new : Shaped). IsShort new.shape) (alternatives_of ds alternatives (other_names ds)) _ (alternatives_short alternatives (other_names ds)) (λ a h. h)
  body_short n (named other) all = accepts_then IsShort (λ (new : Shaped). IsShort new.shape) (component ds other) _ (component_short other) (λ s h. h)

  -- ---- declarations

  colour_added : (n : Name) (timed : Bool) (new : Shaped) → IsShort new.shape → DeclaresShort (with_colour ds n timed new)
  colour_added n timed new h = record { colours = each_appended IsShortNamed ds.colours _ good.colours (h, tt); variables = good.variables }

  coloured_short : (c : PlainColour) → IsShort c.shape → (ns : List Name) → AllByRecursion IsShortColoured (map (coloured_as c) ns)
  coloured_short c h [] = tt
  coloured_short c h (n ∷ ns) = (h, coloured_short c h ns)

  variables_added : (ns : List Name) (c : PlainColour) → IsShort c.shape → DeclaresShort (with_variables ds ns c)
  variables_added ns c h = record { colours = good.colours; variables = each_appended IsShortColoured ds.variables _ good.variables (coloured_short c h ns) }

  function_added : (n : Name) (sc : Scope) (body : Typed) → DeclaresShort (with_function ds n sc body)
  function_added n sc body = record { colours = good.colours; variables = good.variables }

  form_short : (form : PlainDeclForm) → AllByRecursion Has64Bits (bounds_in_form form) → Accepts DeclaresShort (declared_form ds form)
  form_short (colour_set n body timed) all =
      accepts_then (λ taken. Unit {0}) DeclaresShort (with_new n (colour_names ds)) _ (anything (with_new n (colour_names ds)))
      (λ taken u. accepts_then (λ (new : Shaped). IsShort new.shape) DeclaresShort (shape_of_body ds n body) _ (body_short n body all)
      (λ new h. accepts_then (λ s. Unit {0}) DeclaresShort (limited new.shape) _ (anything (limited new.shape)) (λ s v. colour_added n timed new h)))
  form_short (variables ns colour) all =
      accepts_then (λ taken. Unit {0}) DeclaresShort (with_all_new ns (other_names ds)) _ (anything (with_all_new ns (other_names ds)))
      (λ taken u. accepts_then (λ (c : PlainColour). IsShort c.shape) DeclaresShort (colour_of ds colour) _ (of_colour colour) (λ c h. variables_added ns c h))
  form_short (value n e) all =
      accepts_then (λ taken. Unit {0}) DeclaresShort (with_new_name ds n) _ (anything (with_new_name ds n))
      (λ taken u. accepts_then (λ body. Unit {0}) DeclaresShort (typed ds in_function e [] None) _ (anything (typed ds in_function e [] None)) (λ body v. function_added n [] body))
  form_short (function n parameters result e) all =
      accepts_then (λ taken. Unit {0}) DeclaresShort (with_new_name ds n) _ (anything (with_new_name ds n))
      (λ taken u. accepts_then (λ sc. Unit {0}) DeclaresShort (scope_of ds parameters []) _ (anything (scope_of ds parameters []))
      (λ sc v. accepts_then (λ t. Unit {0}) DeclaresShort (type_named ds result) _ (anything (type_named ds result))
      (λ t w. accepts_then (λ body. Unit {0}) DeclaresShort (typed ds in_function e sc (Some t)) _ (anything (typed ds in_function e sc (Some t))) (λ body x. function_added n sc body))))

-- What is declared has short integers after each declaration.
pub declared_short : (ds : Declared) (d : PlainDecl) (now : Declared) → DeclaresShort ds → AllByRecursion Has64Bits (declared_bounds d) → declared ds d ≡ ok now → DeclaresShort now
declared_short ds (decl at form) now good all is = accepts_at DeclaresShort (declared_form ds form) now (form_short ds good form all) is

-- before the first declaration
pub nothing_short : DeclaresShort nothing_declared
nothing_short = record { colours = tt; variables = tt }
