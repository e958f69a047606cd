-- The names that a declaration brings are tokens of its text: there are no more of them than tokens, and what holds of each name
-- among the tokens holds of each of them.
use Rattle.std.proofs.Common.{ℕ, ◌<◌, ◌≤◌, List, [], ◌∷◌, ◌++◌, length, map, arith}
use Rattle.std.specs.List.{AllByRecursion}
use Rattle.std.proofs.lemmas.List.{length-append, length-map}
use Rattle.cpn_lex.specs.Token.{PlainToken}
use Rattle.cpn_lex.specs.declared.symbols.Symbol.{Symbol}
use Rattle.cpn_trees.specs.DeclTrees.{PlainAlternative, PlainBody, PlainDecl}
use Rattle.cpn_trees.specs.DeclaredNames.{names_in_body, declared_names}
use Rattle.cpn_syntax.specs.Texts.{Text, IsName}
use Rattle.cpn_syntax.specs.Phrases.{One, one, Each, last_one, next_one, Names}
use Rattle.cpn_syntax.specs.Declarations.{SpellsAlternative, bare_line, applied_line, SpellsBody, unit_line, bool_line, int_line, string_line, range_line, with_line, product_line, list_line, union_line, named_line, SpellsForm, colour_set_line, variables_line, value_line, function_line, SpellsDecl, decl_line}

-- ---- how many

each_few : {A : Type 0} (Part : A → Text → Type 0) (s : Symbol) → ((a : A) (u : Text) → Part a u → 0 < length u) → (xs : List A) (u : Text) → Each Part s xs u → length xs ≤ length u
each_few Part s some xs u (last_one {a} u' h) = let one = some a u' h in omega (arith, one)
each_few Part s some xs u (next_one t {a} {rest} u' v h is later) =
    let few = each_few Part s some rest v later in
    let all = length-append u' (t ∷ v) in
    omega (arith, few, all)

some_name : (n : List ℕ) (u : Text) → One IsName n u → 0 < length u
some_name n u (one t is) = omega arith

some_alternative : (a : PlainAlternative) (u : Text) → SpellsAlternative a u → 0 < length u
some_alternative a u (bare_line n is) = omega arith
some_alternative a u (applied_line n t m is colon colour) = omega arith

body_few : (body : PlainBody) (u : Text) → SpellsBody body u → length (names_in_body body) ≤ length u
body_few body u (unit_line t is) = omega arith
body_few body u (bool_line t is) = omega arith
body_few body u (int_line t is) = omega arith
body_few body u (string_line t is) = omega arith
body_few body u (range_line t1 t2 m t3 n is1 is2 is3 is4 is5) = omega arith
body_few body u (with_line t {names} v is h) = let few = each_few (One IsName) _ some_name names v h in omega (arith, few)
body_few body u (product_line t1 n t2 v is1 is2 is3 h) = omega arith
body_few body u (list_line t n is1 is2) = omega arith
body_few body u (union_line t {alternatives} v is h) =
    let few = each_few SpellsAlternative _ some_alternative alternatives v h in
    let all = length-map alternatives (λ (a : PlainAlternative). a.constructor) in
    omega (arith, few, all)
body_few body u (named_line n is) = omega arith

form_few : (d : PlainDecl) (u : Text) → SpellsForm d u → length (declared_names d) ≤ length u
form_few d u (colour_set_line t1 n t2 {name} {body} {timed} v w is1 is2 is3 h timed_is) =
    let few = body_few body v h in
    let all = length-append v w in
    omega (arith, few, all)
form_few d u (variables_line t1 t2 n {names} {colour} v is1 h is2 is3) =
    let few = each_few (One IsName) _ some_name names v h in
    let all = length-append v (t2 ∷ n ∷ []) in
    omega (arith, few, all)
form_few d u (value_line t1 n t2 v is1 is2 is3 h) = omega arith
form_few d u (function_line t1 n t2 t3 t4 m t5 v w is1 is2 is3 h is4 is5 is6 is7 h2) = omega arith

-- No more names than tokens.
pub names_few : (d : PlainDecl) (u : Text) → SpellsDecl d u → length (declared_names d) ≤ length u
names_few d u (decl_line t v h is) =
    let few = form_few d v h in
    let all = length-append v (t ∷ []) in
    omega (arith, few, all)

-- ---- what holds of each

-- what holds of each of these tokens holds of those in front, and of those after them
pub front : (Q : PlainToken → Type 0) (u v : Text) → AllByRecursion Q (u ++ v) → AllByRecursion Q u
front Q [] v h = tt
front Q (t ∷ u) v h = (h.0, front Q u v h.1)

later : (Q : PlainToken → Type 0) (u v : Text) → AllByRecursion Q (u ++ v) → AllByRecursion Q v
later Q [] v h = h
later Q (t ∷ u) v h = later Q u v h.1

module _ (P : List ℕ → Type 0) where
  -- of a token, where it is a name
  abbrev Holds : PlainToken → Type 0
  Holds t = (n : List ℕ) → IsName n t → P n

  each_holds : {A : Type 0} (Part : A → Text → Type 0) (s : Symbol) (name : A → List ℕ) → ((a : A) (u : Text) → Part a u → AllByRecursion Holds u → P (name a))
      → (xs : List A) (u : Text) → Each Part s xs u → AllByRecursion Holds u → AllByRecursion P (map name xs)
  each_holds Part s name of_part xs u (last_one {a} u' part) h = (of_part a u' part h, tt)
  each_holds Part s name of_part xs u (next_one t {a} {rest} u' v part is others) h =
      (of_part a u' part (front Holds u' (t ∷ v) h), each_holds Part s name of_part rest v others (later Holds u' (t ∷ v) h).1)

  name_holds : (n : List ℕ) (u : Text) → One IsName n u → AllByRecursion Holds u → P n
  name_holds n u (one t is) h = h.0 n is

  alternative_holds : (a : PlainAlternative) (u : Text) → SpellsAlternative a u → AllByRecursion Holds u → P a.constructor
  alternative_holds a u (bare_line n {name} is) h = h.0 name is
  alternative_holds a u (applied_line n t m {name} {colour} is colon of_colour) h = h.0 name is

  as_they_are : (xs : List (List ℕ)) → AllByRecursion P (map (λ x. x) xs) → AllByRecursion P xs
  as_they_are [] h = tt
  as_they_are (x ∷ xs) h = (h.0, as_they_are xs h.1)

  names_hold : (s : Symbol) (names : List (List ℕ)) (u : Text) → Names s names u → AllByRecursion Holds u → AllByRecursion P names
  names_hold s names u spelled h = as_they_are names (each_holds (One IsName) s (λ n. n) name_holds names u spelled h)

  body_holds : (body : PlainBody) (u : Text) → SpellsBody body u → AllByRecursion Holds u → AllByRecursion P (names_in_body body)
  body_holds body u (unit_line t is) h = tt
  body_holds body u (bool_line t is) h = tt
  body_holds body u (int_line t is) h = tt
  body_holds body u (string_line t is) h = tt
  body_holds body u (range_line t1 t2 m t3 n is1 is2 is3 is4 is5) h = tt
  body_holds body u (with_line t {names} v is spelled) h = names_hold _ names v spelled h.1
  body_holds body u (product_line t1 n t2 v is1 is2 is3 spelled) h = tt
  body_holds body u (list_line t n is1 is2) h = tt
  body_holds body u (union_line t {alternatives} v is spelled) h = each_holds SpellsAlternative _ (λ a. a.constructor) alternative_holds alternatives v spelled h.1
  body_holds body u (named_line n is) h = tt

  form_holds : (d : PlainDecl) (u : Text) → SpellsForm d u → AllByRecursion Holds u → AllByRecursion P (declared_names d)
  form_holds d u (colour_set_line t1 n t2 {name} {body} {timed} v w is1 is2 is3 spelled timed_is) h = body_holds body v spelled (front Holds v w h.1.1.1)
  form_holds d u (variables_line t1 t2 n {names} {colour} v is1 spelled is2 is3) h = names_hold _ names v spelled (front Holds v (t2 ∷ n ∷ []) h.1)
  form_holds d u (value_line t1 n t2 {name} v is1 is2 is3 spelled) h = (h.1.0 name is2, tt)
  form_holds d u (function_line t1 n t2 t3 t4 m t5 {name} v w is1 is2 is3 spelled is4 is5 is6 is7 spelled2) h = (h.1.0 name is2, tt)

  -- What holds of each name among the tokens holds of each name that the declaration brings.
  pub names_all : (d : PlainDecl) (u : Text) → SpellsDecl d u → AllByRecursion Holds u → AllByRecursion P (declared_names d)
  names_all d u (decl_line t v spelled is) h = form_holds d v spelled (front Holds v (t ∷ []) h)
