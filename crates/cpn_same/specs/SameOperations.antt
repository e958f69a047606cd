-- When two operations are the same, and two heads.
use Rattle.std.proofs.Common.{◌≡◌, ℕ, ◌==◌, Bool, true, false, ◌&&◌, [], ◌∷◌, get_or, refl, sym, ap, ap₂, ◌∙◌}
use Rattle.std.specs.Cmp.{unsigned_Decides}
use Rattle.std.proofs.lemmas.Bool.{and_parts, and_from}
use Rattle.cpn_definitions.specs.Inscription.{Operation, addition, subtraction, multiplication, division, remainder, negation, concatenation, equality, inequality, less_than, at_most, greater_than, at_least, complement, cons, appending, head, tail, list_length, reversal, membership, string_size, component, Head, operation, tupling, listing, constructing, calling}
use Rattle.cpn_same.specs.Equality.{DecidesEquality, decides_from}

-- an operation's place among all of them, and the number of the component that it takes, if it takes one
abbrev pub place_of : Operation → ℕ
place_of addition = 0
place_of subtraction = 1
place_of multiplication = 2
place_of division = 3
place_of remainder = 4
place_of negation = 5
place_of concatenation = 6
place_of equality = 7
place_of inequality = 8
place_of less_than = 9
place_of at_most = 10
place_of greater_than = 11
place_of at_least = 12
place_of complement = 13
place_of cons = 14
place_of appending = 15
place_of head = 16
place_of tail = 17
place_of list_length = 18
place_of reversal = 19
place_of membership = 20
place_of string_size = 21
place_of (component k) = 22

abbrev pub component_of : Operation → ℕ
component_of (component k) = k
component_of o = 0

-- whether two operations are the same: at one index, and of the same component
abbrev pub same_operation : Operation → Operation → Bool
same_operation o other = (place_of o == place_of other) && (component_of o == component_of other)

-- whether the same is done with the values of all parts
abbrev pub same_head : Head → Head → Bool
same_head (operation o) (operation other) = same_operation o other
same_head tupling tupling = true
same_head listing listing = true
same_head (constructing k) (constructing m) = k == m
same_head (calling k) (calling m) = k == m
same_head h g = false

-- ---- laws

-- the operation at an index, with the number of its component
abbrev operation_at : ℕ → ℕ → Operation
operation_at place k =
    get_or
    (addition ∷ subtraction ∷ multiplication ∷ division ∷ remainder ∷ negation ∷ concatenation ∷ equality ∷ inequality ∷ less_than ∷ at_most ∷ greater_than ∷ at_least ∷ complement ∷ cons ∷ appending ∷ head ∷ tail ∷ list_length ∷ reversal ∷ membership ∷ string_size ∷ component k ∷ [])
    place
    addition

found_again : (o : Operation) → operation_at (place_of o) (component_of o) ≡ o
found_again addition = refl
found_again subtraction = refl
found_again multiplication = refl
found_again division = refl
found_again remainder = refl
found_again negation = refl
found_again concatenation = refl
found_again equality = refl
found_again inequality = refl
found_again less_than = refl
found_again at_most = refl
found_again greater_than = refl
found_again at_least = refl
found_again complement = refl
found_again cons = refl
found_again appending = refl
found_again head = refl
found_again tail = refl
found_again list_length = refl
found_again reversal = refl
found_again membership = refl
found_again string_size = refl
found_again (component k) = refl

operation_itself : (o : Operation) → same_operation o o ≡ true
operation_itself o = and_from (place_of o == place_of o) (component_of o == component_of o) ((unsigned_Decides (place_of o) (place_of o)).1 refl) ((unsigned_Decides (component_of o) (component_of o)).1 refl)

operation_one : (o other : Operation) → same_operation o other ≡ true → o ≡ other
operation_one o other h =
    let both = and_parts (place_of o == place_of other) (component_of o == component_of other) h in
    sym (found_again o)
    ∙ ap₂ operation_at ((unsigned_Decides (place_of o) (place_of other)).0 both.0) ((unsigned_Decides (component_of o) (component_of other)).0 both.1)
    ∙ found_again other

head_itself : (h : Head) → same_head h h ≡ true
head_itself (operation o) = operation_itself o
head_itself tupling = refl
head_itself listing = refl
head_itself (constructing k) = (unsigned_Decides k k).1 refl
head_itself (calling k) = (unsigned_Decides k k).1 refl

head_one : (h g : Head) → same_head h g ≡ true → h ≡ g
head_one (operation o) (operation other) is = ap operation (operation_one o other is)
head_one tupling tupling is = refl
head_one listing listing is = refl
head_one (constructing k) (constructing m) is = ap constructing ((unsigned_Decides k m).0 is)
head_one (calling k) (calling m) is = ap calling ((unsigned_Decides k m).0 is)
head_one h g is = cc

pub heads_decide : DecidesEquality same_head
heads_decide = decides_from same_head head_itself head_one
