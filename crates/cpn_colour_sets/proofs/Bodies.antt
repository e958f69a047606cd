-- Bodies of colour sets, and what they bring.
use Rattle.std.proofs.Common.{◌≡◌, ◌∙◌, ℕ, ℤ, int_le, true, List, ◌++◌, length, refl, sym, ap, ap₂, rules}
use Rattle.std.proofs.lemmas.List.{append-nil}
use Rattle.cpn_definitions.specs.Colour.{PlainShape, PlainShapes, tuple_shape, list_shape, unit_shape, boolean_shape, int_shape, text_shape, constant_shape, union_shape}
use Rattle.cpn_core.specs.Colours.{shape_view}
use Rattle.cpn_core.specs.declared.colours.Shape.{the_lemmas}
use Rattle.cpn_core.specs.declared.colours.Shape.TheBlock.{Int, Enum, Unit, Bool, Text}
use Rattle.cpn_trees.specs.DeclTrees.{PlainAlternative, body_view, enumeration, union, product, list, named, int_range}
use Rattle.cpn_trees.specs.declared.declaration_trees.Body.{Body}
use Rattle.cpn_typing.specs.ColourSets.{only_shape, new_enumeration, new_union, Alternatives, constants_from, constructors_from, shape_of_body, with_all_new, alternatives_of, other_names, component, components}
use Rattle.cpn_typing.specs.Names.{Name, a_constant, Declared, ok, ◌>>=◌, accepted_if, empty_colour}
use Rattle.cpn_declared.specs.Additions.{with_shaped, with_names, named_from, with_one_enumeration, with_one_union}
use Rattle.cpn_colour_sets.specs.Bodies.{AddsBody}
use Rattle.cpn_typing.proofs.Grown.{same_parts}
use Rattle.cpn_colour_sets.proofs.NameLists.{constants_are}

nothing_brought : (ds : Declared) (s : PlainShape) → ds ≡ with_shaped ds (only_shape s)
nothing_brought ds s = same_parts _ _ _ _ _ _ _ _ _ _ _ _ refl (sym (append-nil ds.names)) refl (sym (append-nil ds.enumerations)) (sym (append-nil ds.unions)) refl

-- a body that brings nothing
pub alone : (ds : Declared) (n : Name) (program : Body) (body : Body) (shape s : PlainShape) → program ≡ body → shape_of_body ds n (body_view body) ≡ ok (only_shape s) → shape ≡ s → AddsBody ds n (body_view program) shape ds
alone ds n program body shape s is accepted same = record { new = only_shape s; accepted = ap (λ b. shape_of_body ds n (body_view b)) is ∙ accepted; shape_is = same; declared_is = nothing_brought ds s }

pub shape_unit : shape_view Unit ≡ unit_shape
shape_unit = search (rules, the_lemmas)

pub shape_bool : shape_view Bool ≡ boolean_shape
shape_bool = search (rules, the_lemmas)

pub shape_text : shape_view Text ≡ text_shape
shape_text = search (rules, the_lemmas)

pub shape_int : (low high : ℤ) → shape_view (Int low high) ≡ int_shape low high
shape_int low high = search (rules, the_lemmas)

pub shape_enum : (number count : ℕ) → shape_view (Enum number count) ≡ constant_shape number count
shape_enum number count = search (rules, the_lemmas)

-- ---- enumerations and unions

-- an enumeration, whose constants are new
pub enumeration_added : (ds d1 d2 : Declared) (n : Name) (constants copies taken : List Name) (shape : PlainShape) (number count : ℕ)
    → with_all_new constants (other_names ds) ≡ ok taken
    → d1 ≡ with_names ds (named_from (a_constant number) 0 constants)
    → d2 ≡ with_one_enumeration d1 copies
    → copies ≡ constants → number ≡ length ds.enumerations → count ≡ length constants → shape ≡ constant_shape number count
    → AddsBody ds n (enumeration constants) shape d2
enumeration_added ds d1 d2 n constants copies taken shape number count new called added copied numbered counted is = record {
  new = new_enumeration (length ds.enumerations) constants;
  accepted = ap (λ c. c >>= λ names. ok (new_enumeration (length ds.enumerations) constants)) new;
  shape_is = is ∙ ap (λ k. constant_shape k count) numbered ∙ ap (constant_shape (length ds.enumerations)) counted;
  declared_is = added ∙ ap (λ d. with_one_enumeration d copies) called ∙ ap (with_one_enumeration (with_names ds (named_from (a_constant number) 0 constants))) copied
      ∙ same_parts _ _ _ _ _ _ _ _ _ _ _ _ refl (ap (λ more. ds.names ++ more) (constants_are number 0 constants ∙ ap (λ k. constants_from k 0 constants) numbered)) refl refl (sym (append-nil ds.unions)) refl;
}

-- a union, whose alternatives are accepted
pub union_added : (ds d1 d2 : Declared) (n : Name) (alternatives : List PlainAlternative) (a : Alternatives) (shape : PlainShape) (number : ℕ)
    → alternatives_of ds alternatives (other_names ds) ≡ ok a
    → d1 ≡ with_names ds (constructors_from number 0 a.constructors)
    → d2 ≡ with_one_union d1 a.constructors
    → number ≡ length ds.unions → shape ≡ union_shape number a.shapes
    → AddsBody ds n (union alternatives) shape d2
union_added ds d1 d2 n alternatives a shape number accepted called added numbered is = record {
  new = new_union (length ds.unions) a;
  accepted = ap (λ c. c >>= λ b. ok (new_union (length ds.unions) b)) accepted;
  shape_is = is ∙ ap (λ k. union_shape k a.shapes) numbered;
  declared_is = added ∙ ap (λ d. with_one_union d a.constructors) called
      ∙ same_parts _ _ _ _ _ _ _ _ _ _ _ _ refl (ap (λ k. ds.names ++ constructors_from k 0 a.constructors) numbered) refl (sym (append-nil ds.enumerations)) refl refl;
}

-- ---- bodies of components

pub product_accepted : (ds : Declared) (n : Name) (names : List Name) (ss : PlainShapes) → components ds names ≡ ok ss → shape_of_body ds n (product names) ≡ ok (only_shape (tuple_shape ss))
product_accepted ds n names ss h = ap (λ c. c >>= λ shapes. ok (only_shape (tuple_shape shapes))) h

pub list_accepted : (ds : Declared) (n item : Name) (s : PlainShape) → component ds item ≡ ok s → shape_of_body ds n (list item) ≡ ok (only_shape (list_shape s))
list_accepted ds n item s h = ap (λ c. c >>= λ shape. ok (only_shape (list_shape shape))) h

pub named_accepted : (ds : Declared) (n other : Name) (s : PlainShape) → component ds other ≡ ok s → shape_of_body ds n (named other) ≡ ok (only_shape s)
named_accepted ds n other s h = ap (λ c. c >>= λ shape. ok (only_shape shape)) h

pub range_accepted : (ds : Declared) (n : Name) (low high : ℤ) → int_le low high ≡ true → shape_of_body ds n (int_range low high) ≡ ok (only_shape (int_shape low high))
range_accepted ds n low high h = ap (λ b. accepted_if b (empty_colour n) (only_shape (int_shape low high))) h

pub le_same : (a b c d : ℤ) → a ≡ c → b ≡ d → int_le a b ≡ true → int_le c d ≡ true
le_same a b c d e f h = ap₂ int_le (sym e) (sym f) ∙ h
