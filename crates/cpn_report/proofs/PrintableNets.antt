-- Binding elements of a net whose pairs are of its variables, and places that hold their tokens: what a list has, each of
-- its items has.
use Rattle.std.proofs.Common.{◌≡◌, sym, ap, ◌∙◌, subst, refl, ℕ, zero, suc, ◌<◌, Bool, true, ◌&&◌, ◌==◌, nat_lt, List, [], ◌∷◌, length, map, get_or, arith}
use Rattle.std.proofs.lemmas.Bool.{and_parts, and_from, eqb-true, ltb-true}
use Rattle.std.proofs.lemmas.List.{get_or-map}
use Rattle.std.specs.List.{list_all, AllByRecursion}
use Rattle.cpn_definitions.specs.Colour.{admits}
use Rattle.cpn_definitions.specs.Marking.{Marking}
use Rattle.cpn_definitions.specs.Meaning.{PlainBinding}
use Rattle.cpn_definitions.specs.Net.{Coloured, PlainNet, no_transition, variable_at, transition_at}
use Rattle.cpn_definitions.specs.Occurrence.{PlainElement, binds}
use Rattle.cpn_definitions.specs.Sound.{IsSound, IsSoundTransition, IsMarking, may_hold}
use Rattle.cpn_report.specs.Printable.{is_bound, is_binding_element}

-- ---- one item of a list

-- what was read at an index, among the items as they are seen
pub seen_at : {X Y : Type 0} (view : X → Y) (xs : List X) (i : ℕ) (x : X) (d : Y) → i < length xs → x ≡ get_or xs i x → get_or (map view xs) i d ≡ view x
seen_at view xs i x d lt is = get_or-map view xs i x d lt ∙ ap view (sym is)

-- an item as it is seen passes the test that all items pass
pub passes_seen : {X Y : Type 0} (test : Y → Bool) (view : X → Y) (xs : List X) (i : ℕ) (x : X) → i < length xs → x ≡ get_or xs i x → list_all test (map view xs) ≡ true → test (view x) ≡ true
passes_seen test view [] i x lt is all = absurd (omega arith)
passes_seen test view (y ∷ xs) zero x lt is all = subst (λ z. test (view z) ≡ true) (sym is) (and_parts (test (view y)) (list_all test (map view xs)) all).0
passes_seen test view (y ∷ xs) (suc i) x lt is all = passes_seen test view xs i x (omega arith) is (and_parts (test (view y)) (list_all test (map view xs)) all).1

has_at : {X : Type 0} (P : X → Type 0) (xs : List X) (i : ℕ) (d : X) → i < length xs → AllByRecursion P xs → P (get_or xs i d)
has_at P [] i d lt all = absurd (omega arith)
has_at P (x ∷ xs) zero d lt all = all.0
has_at P (x ∷ xs) (suc i) d lt all = has_at P xs i d (omega arith) all.1

-- ---- bindings

-- the pairs of a binding of declared variables
pairs_bound : (n : PlainNet) (xs : List ℕ) (b : PlainBinding) → list_all (λ x. nat_lt x (length n.variables)) xs ≡ true → binds n xs b ≡ true → list_all (is_bound n) b ≡ true
pairs_bound n [] [] declared bound = refl
pairs_bound n [] (pair ∷ pairs) declared bound = cc
pairs_bound n (x ∷ xs) [] declared bound = cc
pairs_bound n (x ∷ xs) (pair ∷ pairs) declared bound =
    let known = and_parts (nat_lt x (length n.variables)) (list_all (λ y. nat_lt y (length n.variables)) xs) declared in
    let parts = and_parts ((x == pair.0) && admits (variable_at n x).colour pair.1) (binds n xs pairs) bound in
    let this = and_parts (x == pair.0) (admits (variable_at n x).colour pair.1) parts.0 in
    let same : x ≡ pair.0 = eqb-true x pair.0 this.0 in
    let first : is_bound n pair ≡ true = subst (λ y. (nat_lt y (length n.variables) && admits (variable_at n y).colour pair.1) ≡ true) same (and_from _ _ known.0 this.1) in
    and_from _ _ first (pairs_bound n xs pairs known.1 parts.1)

-- the variables of a transition of a sound net are variables of the net
pub variables_declared : (n : PlainNet) (t : ℕ) → IsSound n → t < length n.transitions → list_all (λ x. nat_lt x (length n.variables)) (transition_at n t).vars ≡ true
variables_declared n t sound lt = let is = has_at (IsSoundTransition n) n.transitions t no_transition lt sound.transitions_sound in is.declared

-- the pairs of a binding element of a sound net
pub element_bound : (n : PlainNet) (e : PlainElement) → IsSound n → is_binding_element n e ≡ true → list_all (is_bound n) e.binding ≡ true
element_bound n e sound bound =
    let parts = and_parts (nat_lt e.transition (length n.transitions)) (binds n (transition_at n e.transition).vars e.binding) bound in
    pairs_bound n (transition_at n e.transition).vars e.binding (variables_declared n e.transition sound (ltb-true _ _ parts.0)) parts.1

-- ---- markings

-- each place of a marking holds its tokens
pub held_at : (places : List Coloured) (m : Marking) (i : ℕ) (d : Coloured) → IsMarking places m → i < length places → list_all (may_hold (get_or places i d).colour) (get_or m i []) ≡ true
held_at [] m i d held lt = absurd (omega arith)
held_at (place ∷ places) [] i d held lt = absurd held
held_at (place ∷ places) (tokens ∷ m) zero d held lt = held.1
held_at (place ∷ places) (tokens ∷ m) (suc i) d held lt = held_at places m i d held.2 (omega arith)
