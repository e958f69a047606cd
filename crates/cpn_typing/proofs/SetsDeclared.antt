-- The sets behind the types, as colour sets are declared one after another: what is there stays, and each colour set that is
-- declared is of these sets.
use Rattle.std.proofs.Common.{◌≡◌, ℕ, zero, suc, ◌+◌, ◌<◌, ◌∙◌, List, [], ◌∷◌, ◌++◌, length, slice_get, slice_index_or, Option, Some, None, option_map, refl, ap, subst, arith}
use Rattle.std.proofs.Math.Nat.{zero-add}
use Rattle.cpn_definitions.specs.Colour.{PlainShape, PlainColour, constructor_at}
use Rattle.cpn_trees.specs.DeclTrees.{PlainAlternative, PlainBody, unit, bool, int, int_range, string, enumeration, product, list, union, named}
use Rattle.cpn_typing.specs.Names.{Name, Meant, a_variable, a_constant, a_constructor, a_function, Refusal, NamedConstructor, Declared, colour_named, meant_among, unknown, empty_colour, Checked, ok, refused, required}
use Rattle.cpn_typing.specs.TypedValues.{Sets, argument_of, argument_types, HasSetsOf, HasSetsOfEach, HasSetsOfArguments}
use Rattle.cpn_typing.specs.ColourSets.{with_new, with_all_new, component, components, Alternatives, bare_before, taking_before, alternative_of, alternatives_of, Shaped, only_shape, new_enumeration, new_union, shape_of_body, other_names}
use Rattle.cpn_typing.specs.Consistency.{HasSets, ColoursOf}
use Rattle.cpn_typing.proofs.Outcomes.{Accepts, accepts_then, accepts_if}
use Rattle.cpn_typing.proofs.NamesDeclared.{length_more, index_before, index_at, IsConstant, constant_is, IsConstructor, constructor_is}

pub fewer_sets : (sets : Sets) (es es2 : List (List Name)) (us us2 : List (List NamedConstructor)) → HasSets sets (es ++ es2) (us ++ us2) → HasSets sets es us
fewer_sets sets es es2 us us2 h = record {
  constants = λ id lt. h.constants id (shorter id (length es) (length es2) (length (es ++ es2)) (length_more es es2) lt) ∙ ap length (index_before es es2 id [] lt);
  constructors = λ id k lt. h.constructors id k (shorter id (length us) (length us2) (length (us ++ us2)) (length_more us us2) lt) ∙ ap (λ cs. option_map argument_of (slice_get cs k)) (index_before us us2 id [] lt);
}
  where
    shorter : (id a b c : ℕ) → c ≡ a + b → id < a → id < c
    shorter id a b c e lt = omega arith

-- the sets of lists of enumerations and unions
abbrev pub sets_of_lists : List (List Name) → List (List NamedConstructor) → Sets
sets_of_lists es us = record { constants = λ id. length (slice_index_or es id []); constructor = λ id k. option_map argument_of (slice_get (slice_index_or us id []) k) }

pub their_own : (es : List (List Name)) (us : List (List NamedConstructor)) → HasSets (sets_of_lists es us) es us
their_own es us = record { constants = λ id lt. refl; constructors = λ id k lt. refl }

-- the new ones
last_constants : (sets : Sets) (es : List (List Name)) (ns : List Name) (us : List (List NamedConstructor)) → HasSets sets (es ++ ns ∷ []) us → sets.constants (length es) ≡ length ns
last_constants sets es ns us h = h.constants (length es) (one_longer (length es) (length (es ++ ns ∷ [])) (length_more es (ns ∷ []))) ∙ ap length (index_at es ns [] [])
  where
    one_longer : (a b : ℕ) → b ≡ a + 1 → a < b
    one_longer a b e = omega arith

last_constructors : (sets : Sets) (es : List (List Name)) (us : List (List NamedConstructor)) (cs : List NamedConstructor) (k : ℕ) → HasSets sets es (us ++ cs ∷ []) → sets.constructor (length us) k ≡ option_map argument_of (slice_get cs k)
last_constructors sets es us cs k h =
    h.constructors (length us) k (one_longer (length us) (length (us ++ cs ∷ [])) (length_more us (cs ∷ []))) ∙ ap (λ ds. option_map argument_of (slice_get ds k)) (index_at us cs [] [])
  where
    one_longer : (a b : ℕ) → b ≡ a + 1 → a < b
    one_longer a b e = omega arith

-- ---- components

pub component_of : (P : PlainShape → Type 0) (o : Option PlainColour) (r : Refusal) → ((c : PlainColour) → o ≡ Some c → P c.shape) → Accepts P (required (option_map (λ colour. colour.shape) o) r)
component_of P None r p = tt
component_of P (Some c) r p = p c refl

component_has : (sets : Sets) (ds : Declared) (n : Name) → ColoursOf sets ds → Accepts (HasSetsOf sets) (component ds n)
component_has sets ds n p = component_of (HasSetsOf sets) (colour_named n ds) (unknown n) (p n)

components_have : (sets : Sets) (ds : Declared) (ns : List Name) → ColoursOf sets ds → Accepts (HasSetsOfEach sets) (components ds ns)
components_have sets ds [] p = tt
components_have sets ds (n ∷ ns) p =
    accepts_then (HasSetsOf sets) (HasSetsOfEach sets) (component ds n) _ (component_has sets ds n p)
    (λ s h. accepts_then (HasSetsOfEach sets) (HasSetsOfEach sets) (components ds ns) _ (components_have sets ds ns p) (λ ss k. (h, k)))

-- ---- alternatives

-- the names of the constructors and their shapes have the same arguments
pub record AreAlternatives (sets : Sets) (a : Alternatives) : Type 0 where
  pub arguments : HasSetsOfArguments sets a.shapes
  pub same : (k : ℕ) → option_map argument_of (slice_get a.constructors k) ≡ argument_types (constructor_at a.shapes k)

bare_alternatives : (sets : Sets) (n : Name) (a : Alternatives) → AreAlternatives sets a → AreAlternatives sets (bare_before n a)
bare_alternatives sets n a h = record { arguments = h.arguments; same = same_at }
  where
    same_at : (k : ℕ) → option_map argument_of (slice_get (bare_before n a).constructors k) ≡ argument_types (constructor_at (bare_before n a).shapes k)
    same_at zero = refl
    same_at (suc k) = h.same k

taking_alternatives : (sets : Sets) (n : Name) (s : PlainShape) (a : Alternatives) → HasSetsOf sets s → AreAlternatives sets a → AreAlternatives sets (taking_before n s a)
taking_alternatives sets n s a g h = record { arguments = (g, h.arguments); same = same_at }
  where
    same_at : (k : ℕ) → option_map argument_of (slice_get (taking_before n s a).constructors k) ≡ argument_types (constructor_at (taking_before n s a).shapes k)
    same_at zero = refl
    same_at (suc k) = h.same k

pub anything : {A : Type 0} (c : Checked A) → Accepts (λ x. Unit {0}) c
anything (ok x) = tt
anything (refused r) = tt

alternative_has : (sets : Sets) (ds : Declared) (n : Name) (o : Option Name) → ColoursOf sets ds → Accepts (λ f. (a : Alternatives) → AreAlternatives sets a → AreAlternatives sets (f a)) (alternative_of ds n o)
alternative_has sets ds n None p = λ a h. bare_alternatives sets n a h
alternative_has sets ds n (Some colour) p =
    accepts_then (HasSetsOf sets) (λ f. (a : Alternatives) → AreAlternatives sets a → AreAlternatives sets (f a)) (component ds colour) _ (component_has sets ds colour p)
    (λ s g a h. taking_alternatives sets n s a g h)

alternatives_have : (sets : Sets) (ds : Declared) (alternatives : List PlainAlternative) (taken : List Name) → ColoursOf sets ds → Accepts (AreAlternatives sets) (alternatives_of ds alternatives taken)
alternatives_have sets ds [] taken p = record { arguments = tt; same = λ k. refl }
alternatives_have sets ds (a ∷ rest) taken p =
    accepts_then (λ now. Unit {0}) (AreAlternatives sets) (with_new a.constructor taken) _ (anything (with_new a.constructor taken))
    (λ now u. accepts_then (λ f. (b : Alternatives) → AreAlternatives sets b → AreAlternatives sets (f b)) (AreAlternatives sets) (alternative_of ds a.constructor a.argument) _ (alternative_has sets ds a.constructor a.argument p)
    (λ first g. accepts_then (AreAlternatives sets) (AreAlternatives sets) (alternatives_of ds rest now) _ (alternatives_have sets ds rest now p) (λ later h. g later h)))

-- ---- bodies

-- a constant or a constructor of the sets
abbrev pub IsOfSets : Sets → Meant → Type 0
IsOfSets sets (a_variable x t) = ⊥
IsOfSets sets (a_constant id k) = k < sets.constants id
IsOfSets sets (a_constructor id k t) = sets.constructor id k ≡ Some t
IsOfSets sets (a_function k ts t) = ⊥

-- the shape is of the sets, and so are the names that it brings
pub record IsShapeOf (sets : Sets) (new : Shaped) : Type 0 where
  pub shape_of : HasSetsOf sets new.shape
  pub names_of : (n : Name) (m : Meant) → meant_among n new.names ≡ Some m → IsOfSets sets m

abbrev BodyHas : Sets → Declared → Shaped → Type 0
BodyHas sets ds new = HasSets sets (ds.enumerations ++ new.enumerations) (ds.unions ++ new.unions) → IsShapeOf sets new

only_has : (sets : Sets) (s : PlainShape) → HasSetsOf sets s → IsShapeOf sets (only_shape s)
only_has sets s h = record { shape_of = h; names_of = λ n m e. absurd (cc) }

enumeration_has : (sets : Sets) (ds : Declared) (ns : List Name) → BodyHas sets ds (new_enumeration (length ds.enumerations) ns)
enumeration_has sets ds ns h = record {
  shape_of = last_constants sets ds.enumerations ns (ds.unions ++ []) h;
  names_of = λ n m e. constant_of n m (constant_is n m (length ds.enumerations) 0 ns e);
}
  where
    below : (k a b : ℕ) → b ≡ a → k < a → 0 + k < b
    below k a b e lt = omega arith

    constant_of : (n : Name) (m : Meant) → IsConstant (length ds.enumerations) 0 ns m → IsOfSets sets m
    constant_of n m c = subst (IsOfSets sets) c.is (below c.position (length ns) (sets.constants (length ds.enumerations)) (last_constants sets ds.enumerations ns (ds.unions ++ []) h) c.is_there)

union_has : (sets : Sets) (ds : Declared) (a : Alternatives) → AreAlternatives sets a → BodyHas sets ds (new_union (length ds.unions) a)
union_has sets ds a p h = record {
  shape_of = (λ k. last_constructors sets (ds.enumerations ++ []) ds.unions a.constructors k h ∙ p.same k, p.arguments);
  names_of = λ n m e. constructor_of n m (constructor_is n m (length ds.unions) 0 a.constructors e);
}
  where
    constructor_of : (n : Name) (m : Meant) → IsConstructor (length ds.unions) 0 a.constructors m → IsOfSets sets m
    constructor_of n m c =
        subst (IsOfSets sets) c.is
        (ap (λ k. sets.constructor (length ds.unions) k) (zero-add c.position) ∙ last_constructors sets (ds.enumerations ++ []) ds.unions a.constructors c.position h ∙ ap (option_map argument_of) c.is_there)

pub body_has : (sets : Sets) (ds : Declared) (n : Name) (body : PlainBody) → ColoursOf sets ds → Accepts (BodyHas sets ds) (shape_of_body ds n body)
body_has sets ds n unit p = λ h. only_has sets _ tt
body_has sets ds n bool p = λ h. only_has sets _ tt
body_has sets ds n int p = λ h. only_has sets _ tt
body_has sets ds n (int_range low high) p = accepts_if (BodyHas sets ds) _ (empty_colour n) _ (λ e h. only_has sets _ tt)
body_has sets ds n string p = λ h. only_has sets _ tt
body_has sets ds n (enumeration ns) p =
    accepts_then (λ taken. Unit {0}) (BodyHas sets ds) (with_all_new ns (other_names ds)) _ (anything (with_all_new ns (other_names ds))) (λ taken u. enumeration_has sets ds ns)
body_has sets ds n (product ns) p =
    accepts_then (HasSetsOfEach sets) (BodyHas sets ds) (components ds ns) _ (components_have sets ds ns p) (λ ss g h. only_has sets _ g)
body_has sets ds n (list item) p =
    accepts_then (HasSetsOf sets) (BodyHas sets ds) (component ds item) _ (component_has sets ds item p) (λ s g h. only_has sets _ g)
body_has sets ds n (union alternatives) p =
    accepts_then (AreAlternatives sets) (BodyHas sets ds) (alternatives_of ds alternatives (other_names ds)) _ (alternatives_have sets ds alternatives (other_names ds) p) (λ a g. union_has sets ds a g)
body_has sets ds n (named other) p =
    accepts_then (HasSetsOf sets) (BodyHas sets ds) (component ds other) _ (component_has sets ds other p) (λ s g h. only_has sets s g)
