-- What is declared with more grows what was declared.
use Rattle.std.proofs.Common.{◌≡◌, ◌∙◌, ◌≤◌, List, [], ◌∷◌, ◌++◌, length, take, sym, ap, arith}
use Rattle.std.proofs.lemmas.List.{take_all, take-append-le, take-take, length-take}
use Rattle.cpn_definitions.specs.Colour.{PlainColour}
use Rattle.cpn_definitions.specs.Inscription.{PlainFunction}
use Rattle.cpn_definitions.specs.Net.{Coloured}
use Rattle.cpn_typing.specs.Names.{Name, NamedMeaning, NamedConstructor, Declared}
use Rattle.cpn_typing.proofs.Grown.{same_parts}
use Rattle.cpn_declared.specs.Additions.{with_names, with_more_variables, with_one_colour, with_one_enumeration, with_one_union, with_one_function, counts_of, first_of, Grows}

-- the first so many, where there are that many alone
alone : {X : Type 0} (xs : List X) → take (length xs) xs ≡ xs
alone xs = take_all (length xs) xs (omega arith)

-- and where there are more
before : {X : Type 0} (xs more : List X) → take (length xs) (xs ++ more) ≡ xs
before xs more = take-append-le (length xs) xs more (omega arith) ∙ alone xs

pub grows_same : (ds new : Declared) → new ≡ ds → Grows ds new
grows_same ds new is =
    ap (first_of (counts_of ds)) is
    ∙ same_parts _ _ _ _ _ _ _ _ _ _ _ _ (alone ds.colours) (alone ds.names) (alone ds.variables) (alone ds.enumerations) (alone ds.unions) (alone ds.functions)

pub grows_names : (ds new : Declared) (more : List NamedMeaning) → new ≡ with_names ds more → Grows ds new
grows_names ds new more is =
    ap (first_of (counts_of ds)) is
    ∙ same_parts _ _ _ _ _ _ _ _ _ _ _ _ (alone ds.colours) (before ds.names more) (alone ds.variables) (alone ds.enumerations) (alone ds.unions) (alone ds.functions)

pub grows_variables : (ds new : Declared) (more : List Coloured) → new ≡ with_more_variables ds more → Grows ds new
grows_variables ds new more is =
    ap (first_of (counts_of ds)) is
    ∙ same_parts _ _ _ _ _ _ _ _ _ _ _ _ (alone ds.colours) (alone ds.names) (before ds.variables more) (alone ds.enumerations) (alone ds.unions) (alone ds.functions)

-- what grows what grew has grown
longer : {X : Type 0} (xs ys zs : List X) → take (length xs) ys ≡ xs → take (length ys) zs ≡ ys → take (length xs) zs ≡ xs
longer xs ys zs h k =
    let few : length xs ≤ length ys = omega (arith, ap length h, length-take (length xs) ys) in
    sym (take-take (length xs) (length ys) zs few) ∙ ap (take (length xs)) k ∙ h

pub grows_on : (ds now new : Declared) → Grows ds now → Grows now new → Grows ds new
grows_on ds now new h k =
    same_parts _ _ _ _ _ _ _ _ _ _ _ _
    (longer ds.colours now.colours new.colours (ap (λ d. d.colours) h) (ap (λ d. d.colours) k))
    (longer ds.names now.names new.names (ap (λ d. d.names) h) (ap (λ d. d.names) k))
    (longer ds.variables now.variables new.variables (ap (λ d. d.variables) h) (ap (λ d. d.variables) k))
    (longer ds.enumerations now.enumerations new.enumerations (ap (λ d. d.enumerations) h) (ap (λ d. d.enumerations) k))
    (longer ds.unions now.unions new.unions (ap (λ d. d.unions) h) (ap (λ d. d.unions) k))
    (longer ds.functions now.functions new.functions (ap (λ d. d.functions) h) (ap (λ d. d.functions) k))

-- ---- one thing more

pub grows_colour : (ds now new : Declared) (n : Name) (colour : PlainColour) → Grows ds now → new ≡ with_one_colour now n colour → Grows ds new
grows_colour ds now new n colour h is =
    grows_on ds now new h (ap (first_of (counts_of now)) is
    ∙ same_parts _ _ _ _ _ _ _ _ _ _ _ _ (before now.colours (record { name = n; colour = colour } ∷ [])) (alone now.names) (alone now.variables) (alone now.enumerations) (alone now.unions) (alone now.functions))

pub grows_enumeration : (ds now new : Declared) (constants : List Name) → Grows ds now → new ≡ with_one_enumeration now constants → Grows ds new
grows_enumeration ds now new constants h is =
    grows_on ds now new h (ap (first_of (counts_of now)) is
    ∙ same_parts _ _ _ _ _ _ _ _ _ _ _ _ (alone now.colours) (alone now.names) (alone now.variables) (before now.enumerations (constants ∷ [])) (alone now.unions) (alone now.functions))

pub grows_union : (ds now new : Declared) (constructors : List NamedConstructor) → Grows ds now → new ≡ with_one_union now constructors → Grows ds new
grows_union ds now new constructors h is =
    grows_on ds now new h (ap (first_of (counts_of now)) is
    ∙ same_parts _ _ _ _ _ _ _ _ _ _ _ _ (alone now.colours) (alone now.names) (alone now.variables) (alone now.enumerations) (before now.unions (constructors ∷ [])) (alone now.functions))

pub grows_function : (ds now new : Declared) (function : PlainFunction) → Grows ds now → new ≡ with_one_function now function → Grows ds new
grows_function ds now new function h is =
    grows_on ds now new h (ap (first_of (counts_of now)) is
    ∙ same_parts _ _ _ _ _ _ _ _ _ _ _ _ (alone now.colours) (alone now.names) (alone now.variables) (alone now.enumerations) (alone now.unions) (before now.functions (function ∷ [])))
