-- Components, one after another.
use Rattle.std.proofs.Common.{◌≡◌, ◌∙◌, ℕ, ◌+◌, ◌<◌, ◌≤◌, List, [], ◌∷◌, ◌++◌, length, map, drop, get_or, refl, sym, ap, String, string_bytes}
use Rattle.std.specs.declared.alloc.Global.{Global}
use Rattle.std.proofs.lemmas.List.{drop_all}
use Rattle.cpn_definitions.specs.Colour.{PlainShape, PlainShapes, no_shapes, more_shapes}
use Rattle.cpn_core.specs.Colours.{shapes_of}
use Rattle.cpn_typing.specs.ColourSets.{component, components}
use Rattle.cpn_typing.specs.Names.{Name, Declared, Refusal, Checked, ok, refused, ◌>>=◌}
use Rattle.cpn_colour_sets.proofs.NameLists.{left_is}

-- shapes before others
abbrev pub ahead : List PlainShape → PlainShapes → PlainShapes
ahead [] rest = rest
ahead (s ∷ ss) rest = more_shapes s (ahead ss rest)

abbrev pub with_front : List PlainShape → Checked PlainShapes → Checked PlainShapes
with_front front (ok rest) = ok (ahead front rest)
with_front front (refused r) = refused r

ahead_more : (front : List PlainShape) (s : PlainShape) (rest : PlainShapes) → ahead (front ++ s ∷ []) rest ≡ ahead front (more_shapes s rest)
ahead_more [] s rest = refl
ahead_more (t ∷ front) s rest = ap (more_shapes t) (ahead_more front s rest)

ahead_none : (front : List PlainShape) → ahead front no_shapes ≡ shapes_of front
ahead_none [] = refl
ahead_none (t ∷ front) = ap (more_shapes t) (ahead_none front)

front_more : (front : List PlainShape) (s : PlainShape) (rest : Checked PlainShapes) → with_front (front ++ s ∷ []) rest ≡ with_front front (rest >>= λ ss. ok (more_shapes s ss))
front_more front s (ok rest) = ap ok (ahead_more front s rest)
front_more front s (refused r) = refl

pub front_none : (rest : Checked PlainShapes) → with_front [] rest ≡ rest
front_none (ok rest) = refl
front_none (refused r) = refl

-- the next component is there, or refused with all
pub component_more : (ds : Declared) (front : List PlainShape) (n : Name) (ns : List Name) (s : PlainShape) → component ds n ≡ ok s → with_front (front ++ s ∷ []) (components ds ns) ≡ with_front front (components ds (n ∷ ns))
component_more ds front n ns s h = front_more front s (components ds ns) ∙ ap (with_front front) (ap (λ c. c >>= λ t. components ds ns >>= λ ss. ok (more_shapes t ss)) (sym h))

pub components_done : (front : List PlainShape) → with_front front (ok no_shapes) ≡ ok (shapes_of front)
components_done front = ap ok (ahead_none front)

-- ---- over the names of the program

module _ (ds : Declared) (names : List (String Global)) (i : ℕ) (front : List PlainShape) where
  pub component_next : (name : String Global) → i < length names → name ≡ get_or names i name → (n : Name) → n ≡ string_bytes name → (s : PlainShape) → component ds n ≡ ok s
      → with_front (front ++ s ∷ []) (components ds (map string_bytes (drop (i + 1) names))) ≡ with_front front (components ds (map string_bytes (drop i names)))
  component_next name lt at n is s h =
      component_more ds front n (map string_bytes (drop (i + 1) names)) s h
      ∙ ap (λ m. with_front front (components ds (m ∷ map string_bytes (drop (i + 1) names)))) is
      ∙ ap (λ ns. with_front front (components ds ns)) (sym (left_is names i name lt at))

  pub components_end : length names ≤ i → with_front front (components ds (map string_bytes (drop i names))) ≡ components ds (map string_bytes names) → components ds (map string_bytes names) ≡ ok (shapes_of front)
  components_end past inv = sym inv ∙ ap (λ ns. with_front front (components ds (map string_bytes ns))) (drop_all i names past) ∙ components_done front

  pub component_refused : (name : String Global) → i < length names → name ≡ get_or names i name → (n : Name) → n ≡ string_bytes name → (r : Refusal) → component ds n ≡ refused r
      → with_front front (components ds (map string_bytes (drop i names))) ≡ components ds (map string_bytes names) → components ds (map string_bytes names) ≡ refused r
  component_refused name lt at n is r h inv =
      sym inv ∙ ap (λ ns. with_front front (components ds ns)) (left_is names i name lt at)
      ∙ ap (λ m. with_front front (components ds (m ∷ map string_bytes (drop (i + 1) names)))) (sym is)
      ∙ ap (λ c. with_front front (c >>= λ s. components ds (map string_bytes (drop (i + 1) names)) >>= λ ss. ok (more_shapes s ss))) h
