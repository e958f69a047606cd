-- The names of what is declared: no two variables, no two constants of an enumeration and no two constructors of a union have one
-- name, what holds of each name that declarations bring holds of all of these, and there are no more variables than such names.
use Rattle.std.proofs.Common.{◌≡◌, ℕ, ◌+◌, ◌≤◌, ◌∙◌, Bool, true, false, cond, ◌||◌, List, [], ◌∷◌, ◌++◌, length, map, Option, Some, None, refl, sym, ap, subst, arith}
use Rattle.std.specs.List.{AllByRecursion, IsDistinct, list_any}
use Rattle.std.specs.Str.{bytes_eq}
use Rattle.std.proofs.Math.Bool.{or-true}
use Rattle.std.proofs.lemmas.List.{length-append, length-map, map-append}
use Rattle.std.proofs.lemmas.Map.Keys.{IsDistinct-cons}
use Rattle.cpn_definitions.specs.Colour.{PlainColour}
use Rattle.cpn_definitions.specs.DistinctNames.{AreDistinct}
use Rattle.cpn_definitions.specs.Net.{Coloured}
use Rattle.cpn_definitions.proofs.DistinctLists.{bytes_of_itself, apart_bytes, each_also, distinct_behind}
use Rattle.cpn_definitions.proofs.RisingLists.{each_appended}
use Rattle.cpn_trees.specs.DeclTrees.{PlainAlternative, PlainBody, unit, bool, int, int_range, string, enumeration, product, list, union, named, PlainDeclForm, colour_set, variables, value, function, PlainDecl, decl}
use Rattle.cpn_trees.specs.DeclaredNames.{names_in_body, names_in_form, declared_names}
use Rattle.cpn_typing.specs.Types.{PlainTy}
use Rattle.cpn_typing.specs.Names.{Name, NamedMeaning, NamedConstructor, Declared, nothing_declared, predeclared_named, duplicate, Scope, ok, accepted_if}
use Rattle.cpn_typing.specs.ColourSets.{is_there, with_new, with_all_new, colour_names, other_names, component, components, Alternatives, alternative_of, alternatives_of, Shaped, limited, shape_of_body, with_colour}
use Rattle.cpn_typing.specs.Contexts.{in_function}
use Rattle.cpn_typing.specs.Rules.{Typed}
use Rattle.cpn_typing.specs.Expressions.{typed}
use Rattle.cpn_typing.specs.Declarations.{colour_of, coloured_as, variables_from, with_variables, scope_of, type_named, with_function, with_new_name, declared_form, declared}
use Rattle.cpn_typing.proofs.Consistent.{accepted_parts, same_accepted}

-- the names of variables, and of constructors
abbrev pub names_of_variables : List Coloured → List Name
names_of_variables vs = map (λ v. v.name) vs

abbrev pub names_of_constructors : List NamedConstructor → List Name
names_of_constructors cs = map (λ c. c.name) cs

-- ---- new names

-- none of the names is among those that are taken, and no two are the same
record AreNew (ns taken : List Name) : Type 0 where
  pub distinct : AreDistinct ns
  pub none : AllByRecursion (λ n. list_any (bytes_eq n) taken ≡ false) ns

or_false : (a b : Bool) → (a || b) ≡ false → (a ≡ false) × (b ≡ false)
or_false false b h = (refl, h)
or_false true b h = cc

new_is : (n : Name) (taken now : List Name) → with_new n taken ≡ ok now → (list_any (bytes_eq n) taken ≡ false) × (now ≡ n ∷ taken)
new_is n taken now h = by (is_there (predeclared_named n)) (list_any (bytes_eq n) taken) h
  where
    by : (a b : Bool) → accepted_if (cond (a || b) false true) (duplicate n) (n ∷ taken) ≡ ok now → (b ≡ false) × (now ≡ n ∷ taken)
    by false false e = (refl, same_accepted now (n ∷ taken) (sym e))
    by false true e = cc
    by true b e = cc

none_new : (taken : List Name) → AreNew [] taken
unfolding IsDistinct
none_new taken = record { distinct = tt; none = tt }

one_new : (n : Name) (ns taken : List Name) → list_any (bytes_eq n) taken ≡ false → AreNew ns (n ∷ taken) → AreNew (n ∷ ns) taken
one_new n ns taken new rest = record {
  distinct = IsDistinct-cons bytes_eq n ns
      (each_also (λ m. list_any (bytes_eq m) (n ∷ taken) ≡ false) (λ m. bytes_eq n m ≡ false) (λ m h. apart_bytes n m (λ same. other m h (sym same))) ns rest.none) rest.distinct;
  none = (new, each_also (λ m. list_any (bytes_eq m) (n ∷ taken) ≡ false) (λ m. list_any (bytes_eq m) taken ≡ false) (λ m h. (or_false (bytes_eq m n) (list_any (bytes_eq m) taken) h).1) ns rest.none);
}
  where
    other : (m : Name) → list_any (bytes_eq m) (n ∷ taken) ≡ false → m ≡ n → ⊥
    other m h same =
        let no = (or_false (bytes_eq m n) (list_any (bytes_eq m) taken) h).0 in
        let yes : bytes_eq m n ≡ true = subst (λ k. bytes_eq m k ≡ true) same (bytes_of_itself m) in
        absurd cc

all_new : (ns taken now : List Name) → with_all_new ns taken ≡ ok now → AreNew ns taken
all_new [] taken now h = none_new taken
all_new (n ∷ ns) taken now h =
    let first = accepted_parts (with_new n taken) (with_all_new ns) now h in
    let is = new_is n taken first.0 first.1 in
    one_new n ns taken is.0 (subst (AreNew ns) is.1 (all_new ns first.0 now first.2))

-- ---- constructors

-- constructors have the names of their alternatives
record AreConstructors (alternatives : List PlainAlternative) (taken : List Name) (a : Alternatives) : Type 0 where
  pub named : names_of_constructors a.constructors ≡ map (λ x. x.constructor) alternatives
  pub new : AreNew (map (λ x. x.constructor) alternatives) taken

first_named : (ds : Declared) (n : Name) (argument : Option Name) (first : Alternatives → Alternatives) (later : Alternatives) → alternative_of ds n argument ≡ ok first
    → names_of_constructors (first later).constructors ≡ n ∷ names_of_constructors later.constructors
first_named ds n None first later h = ap (λ f. names_of_constructors (f later).constructors) (sym (same_accepted _ first h))
first_named ds n (Some colour) first later h =
    let shape = accepted_parts (component ds colour) _ first h in
    ap (λ f. names_of_constructors (f later).constructors) (sym (same_accepted _ first shape.2))

constructors_named : (ds : Declared) (alternatives : List PlainAlternative) (taken : List Name) (a : Alternatives) → alternatives_of ds alternatives taken ≡ ok a → AreConstructors alternatives taken a
constructors_named ds [] taken a h = record { named = ap (λ (x : Alternatives). names_of_constructors x.constructors) (sym (same_accepted _ a h)); new = none_new taken }
constructors_named ds (x ∷ rest) taken a h =
    let name = accepted_parts (with_new x.constructor taken) _ a h in
    let first = accepted_parts (alternative_of ds x.constructor x.argument) _ a name.2 in
    let later = accepted_parts (alternatives_of ds rest name.0) _ a first.2 in
    let is = new_is x.constructor taken name.0 name.1 in
    let others = constructors_named ds rest name.0 later.0 later.1 in
    record {
      named = ap (λ (y : Alternatives). names_of_constructors y.constructors) (sym (same_accepted _ a later.2)) ∙ first_named ds x.constructor x.argument first.0 later.0 first.1 ∙ ap (λ ns. x.constructor ∷ ns) others.named;
      new = one_new x.constructor (map (λ y. y.constructor) rest) taken is.0 (subst (AreNew (map (λ y. y.constructor) rest)) is.1 others.new);
    }

-- ---- what is declared

-- no two variables, constants of an enumeration or constructors of a union have one name; all these names are as is told; and the
-- names of variables are among all names
pub record AreNamed (P : Name → Type 0) (ds : Declared) : Type 0 where
  pub variables : AreDistinct (names_of_variables ds.variables)
  pub known : AllByRecursion (λ n. list_any (bytes_eq n) (other_names ds) ≡ true) (names_of_variables ds.variables)
  pub constants : AllByRecursion AreDistinct ds.enumerations
  pub constructors : AllByRecursion AreDistinct (map names_of_constructors ds.unions)
  pub of_variables : AllByRecursion P (names_of_variables ds.variables)
  pub of_constants : AllByRecursion (AllByRecursion P) ds.enumerations
  pub of_constructors : AllByRecursion (AllByRecursion P) (map names_of_constructors ds.unions)

still_known : (n : Name) (names more : List NamedMeaning) → list_any (bytes_eq n) (map (λ d. d.name) names) ≡ true → list_any (bytes_eq n) (map (λ d. d.name) (names ++ more)) ≡ true
still_known n [] more h = cc
still_known n (x ∷ names) more h = by (bytes_eq n x.name) (still_known n names more) h
  where
    by : (b : Bool) → (list_any (bytes_eq n) (map (λ d. d.name) names) ≡ true → list_any (bytes_eq n) (map (λ d. d.name) (names ++ more)) ≡ true)
        → (b || list_any (bytes_eq n) (map (λ d. d.name) names)) ≡ true → (b || list_any (bytes_eq n) (map (λ d. d.name) (names ++ more))) ≡ true
    by true rest e = refl
    by false rest e = rest e

known_behind : (n : Name) (names more : List NamedMeaning) → list_any (bytes_eq n) (map (λ d. d.name) more) ≡ true → list_any (bytes_eq n) (map (λ d. d.name) (names ++ more)) ≡ true
known_behind n [] more h = h
known_behind n (x ∷ names) more h = ap (λ b. bytes_eq n x.name || b) (known_behind n names more h) ∙ or-true (bytes_eq n x.name)

in_itself : (ns : List Name) → AllByRecursion (λ n. list_any (bytes_eq n) ns ≡ true) ns
in_itself [] = tt
in_itself (x ∷ ns) = (
  ap (λ b. b || list_any (bytes_eq x) ns) (bytes_of_itself x),
  each_also (λ n. list_any (bytes_eq n) ns ≡ true) (λ n. list_any (bytes_eq n) (x ∷ ns) ≡ true) (λ n h. ap (λ b. bytes_eq n x || b) h ∙ or-true (bytes_eq n x)) ns (in_itself ns),
)

their_names : (k : ℕ) (t : PlainTy) (ns : List Name) → map (λ d. d.name) (variables_from k t ns) ≡ ns
their_names k t [] = refl
their_names k t (n ∷ ns) = ap (λ ms. n ∷ ms) (their_names (k + 1) t ns)

names_coloured : (colour : PlainColour) (ns : List Name) → names_of_variables (map (coloured_as colour) ns) ≡ ns
names_coloured colour [] = refl
names_coloured colour (n ∷ ns) = ap (λ ms. n ∷ ms) (names_coloured colour ns)

module _ (P : Name → Type 0) where
  -- what a body brings
  record Brings (new : Shaped) : Type 0 where
    pub constants : AllByRecursion AreDistinct new.enumerations
    pub constructors : AllByRecursion AreDistinct (map names_of_constructors new.unions)
    pub of_constants : AllByRecursion (AllByRecursion P) new.enumerations
    pub of_constructors : AllByRecursion (AllByRecursion P) (map names_of_constructors new.unions)

  brings_nothing : (new : Shaped) → new.enumerations ≡ [] → new.unions ≡ [] → Brings new
  brings_nothing new es us = record {
    constants = subst (AllByRecursion AreDistinct) (sym es) tt;
    constructors = subst (λ unions. AllByRecursion AreDistinct (map names_of_constructors unions)) (sym us) tt;
    of_constants = subst (AllByRecursion (AllByRecursion P)) (sym es) tt;
    of_constructors = subst (λ unions. AllByRecursion (AllByRecursion P) (map names_of_constructors unions)) (sym us) tt;
  }

  -- a shape that is accepted alone brings nothing
  alone : (made new : Shaped) → made.enumerations ≡ [] → made.unions ≡ [] → ok made ≡ ok new → Brings new
  alone made new es us h = subst Brings (same_accepted made new h) (brings_nothing made es us)

  body_brings : (ds : Declared) (n : Name) (body : PlainBody) (new : Shaped) → shape_of_body ds n body ≡ ok new → AllByRecursion P (names_in_body body) → Brings new
  body_brings ds n unit new h all = alone _ new refl refl h
  body_brings ds n bool new h all = alone _ new refl refl h
  body_brings ds n int new h all = alone _ new refl refl h
  body_brings ds n (int_range low high) new h all = alone _ new refl refl (range_is _ _ _ h)
    where
      range_is : (b : Bool) (r : _) (made : Shaped) → accepted_if b r made ≡ ok new → ok made ≡ ok new
      range_is true r made e = e
      range_is false r made e = cc
  body_brings ds n string new h all = alone _ new refl refl h
  body_brings ds n (enumeration constants) new h all =
      let named = accepted_parts (with_all_new constants (other_names ds)) _ new h in
      subst Brings (same_accepted _ new named.2) (record { constants = ((all_new constants (other_names ds) named.0 named.1).distinct, tt); constructors = tt; of_constants = (all, tt); of_constructors = tt })
  body_brings ds n (product ns) new h all = let shapes = accepted_parts (components ds ns) _ new h in alone _ new refl refl shapes.2
  body_brings ds n (list item) new h all = let shape = accepted_parts (component ds item) _ new h in alone _ new refl refl shape.2
  body_brings ds n (union alternatives) new h all =
      let made = accepted_parts (alternatives_of ds alternatives (other_names ds)) _ new h in
      let are = constructors_named ds alternatives (other_names ds) made.0 made.1 in
      subst Brings (same_accepted _ new made.2) (record {
        constants = tt;
        constructors = (subst AreDistinct (sym are.named) are.new.distinct, tt);
        of_constants = tt;
        of_constructors = (subst (AllByRecursion P) (sym are.named) all, tt);
      })
  body_brings ds n (named other) new h all = let shape = accepted_parts (component ds other) _ new h in alone _ new refl refl shape.2

  unions_behind : (Q : List Name → Type 0) (us vs : List (List NamedConstructor)) → AllByRecursion Q (map names_of_constructors us) → AllByRecursion Q (map names_of_constructors vs) → AllByRecursion Q (map names_of_constructors (us ++ vs))
  unions_behind Q us vs h k = subst (AllByRecursion Q) (sym (map-append names_of_constructors us vs)) (each_appended Q (map names_of_constructors us) (map names_of_constructors vs) h k)

  colour_named : (ds : Declared) (n : Name) (timed : Bool) (new : Shaped) → AreNamed P ds → Brings new → AreNamed P (with_colour ds n timed new)
  colour_named ds n timed new good brings = record {
    variables = good.variables;
    known = each_also (λ m. list_any (bytes_eq m) (other_names ds) ≡ true) (λ m. list_any (bytes_eq m) (map (λ d. d.name) (ds.names ++ new.names)) ≡ true) (λ m h. still_known m ds.names new.names h) (names_of_variables ds.variables) good.known;
    constants = each_appended AreDistinct ds.enumerations new.enumerations good.constants brings.constants;
    constructors = unions_behind AreDistinct ds.unions new.unions good.constructors brings.constructors;
    of_variables = good.of_variables;
    of_constants = each_appended (AllByRecursion P) ds.enumerations new.enumerations good.of_constants brings.of_constants;
    of_constructors = unions_behind (AllByRecursion P) ds.unions new.unions good.of_constructors brings.of_constructors;
  }

  variables_named : (ds : Declared) (ns : List Name) (colour : PlainColour) → AreNamed P ds → AreNew ns (other_names ds) → AllByRecursion P ns → AreNamed P (with_variables ds ns colour)
  variables_named ds ns colour good new all = record {
    variables = subst AreDistinct (sym names_are) (distinct_behind (other_names ds) (names_of_variables ds.variables) ns good.variables new.distinct good.known new.none);
    known = subst (AllByRecursion Known) (sym names_are) (each_appended Known (names_of_variables ds.variables) ns
        (each_also (λ m. list_any (bytes_eq m) (other_names ds) ≡ true) Known (λ m h. still_known m ds.names _ h) (names_of_variables ds.variables) good.known)
        (each_also (λ m. list_any (bytes_eq m) ns ≡ true) Known (λ m h. known_behind m ds.names _ (subst (λ ms. list_any (bytes_eq m) ms ≡ true) (sym (their_names (length ds.variables) _ ns)) h)) ns (in_itself ns)));
    constants = good.constants;
    constructors = good.constructors;
    of_variables = subst (AllByRecursion P) (sym names_are) (each_appended P (names_of_variables ds.variables) ns good.of_variables all);
    of_constants = good.of_constants;
    of_constructors = good.of_constructors;
  }
    where
      Known : Name → Type 0
      Known m = list_any (bytes_eq m) (other_names (with_variables ds ns colour)) ≡ true

      names_are : names_of_variables (with_variables ds ns colour).variables ≡ names_of_variables ds.variables ++ ns
      names_are = map-append (λ (v : Coloured). v.name) ds.variables (map (coloured_as colour) ns) ∙ ap (λ ms. names_of_variables ds.variables ++ ms) (names_coloured colour ns)

  function_named : (ds : Declared) (n : Name) (sc : Scope) (body : Typed) → AreNamed P ds → AreNamed P (with_function ds n sc body)
  function_named ds n sc body good = record {
    variables = good.variables;
    known = each_also (λ m. list_any (bytes_eq m) (other_names ds) ≡ true) (λ m. list_any (bytes_eq m) (other_names (with_function ds n sc body)) ≡ true) (λ m h. still_known m ds.names _ h) (names_of_variables ds.variables) good.known;
    constants = good.constants;
    constructors = good.constructors;
    of_variables = good.of_variables;
    of_constants = good.of_constants;
    of_constructors = good.of_constructors;
  }

  -- after a declaration more
  pub record IsNamedWith (ds : Declared) (form : PlainDeclForm) (now : Declared) : Type 0 where
    pub named : AreNamed P now
    pub few : length now.variables ≤ length ds.variables + length (names_in_form form)

  form_named : (ds : Declared) (form : PlainDeclForm) (now : Declared) → AreNamed P ds → AllByRecursion P (names_in_form form) → declared_form ds form ≡ ok now → IsNamedWith ds form now
  form_named ds (colour_set n body timed) now good all is =
      let name = accepted_parts (with_new n (colour_names ds)) _ now is in
      let shaped = accepted_parts (shape_of_body ds n body) _ now name.2 in
      let small = accepted_parts (limited shaped.0.shape) _ now shaped.2 in
      subst (IsNamedWith ds (colour_set n body timed)) (same_accepted (with_colour ds n timed shaped.0) now small.2)
      (record { named = colour_named ds n timed shaped.0 good (body_brings ds n body shaped.0 shaped.1 all); few = omega arith })
  form_named ds (variables ns colour_name) now good all is =
      let names = accepted_parts (with_all_new ns (other_names ds)) _ now is in
      let coloured = accepted_parts (colour_of ds colour_name) _ now names.2 in
      let long = length-append ds.variables (map (coloured_as coloured.0) ns) in
      let as_many = length-map ns (coloured_as coloured.0) in
      subst (IsNamedWith ds (variables ns colour_name)) (same_accepted (with_variables ds ns coloured.0) now coloured.2)
      (record { named = variables_named ds ns coloured.0 good (all_new ns (other_names ds) names.0 names.1) all; few = omega (arith, long, as_many) })
  form_named ds (value n e) now good all is =
      let name = accepted_parts (with_new_name ds n) _ now is in
      let body = accepted_parts (typed ds in_function e [] None) _ now name.2 in
      subst (IsNamedWith ds (value n e)) (same_accepted (with_function ds n [] body.0) now body.2) (record { named = function_named ds n [] body.0 good; few = omega arith })
  form_named ds (function n parameters result e) now good all is =
      let name = accepted_parts (with_new_name ds n) _ now is in
      let scope = accepted_parts (scope_of ds parameters []) _ now name.2 in
      let wanted = accepted_parts (type_named ds result) _ now scope.2 in
      let body = accepted_parts (typed ds in_function e scope.0 (Some wanted.0)) _ now wanted.2 in
      subst (IsNamedWith ds (function n parameters result e)) (same_accepted (with_function ds n scope.0 body.0) now body.2) (record { named = function_named ds n scope.0 body.0 good; few = omega arith })

  -- What is declared is named after each declaration.
  pub declared_named : (ds : Declared) (d : PlainDecl) (now : Declared) → AreNamed P ds → AllByRecursion P (declared_names d) → declared ds d ≡ ok now
      → AreNamed P now × (length now.variables ≤ length ds.variables + length (declared_names d))
  declared_named ds (decl at form) now good all is = let after = form_named ds form now good all is in (after.named, after.few)

  -- before the first declaration
  pub nothing_named : AreNamed P nothing_declared
  unfolding IsDistinct
  nothing_named = record { variables = tt; known = tt; constants = tt; constructors = tt; of_variables = tt; of_constants = tt; of_constructors = tt }
