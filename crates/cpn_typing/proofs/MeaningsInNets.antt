-- What is accepted has a meaning in a net: under each binding of the transition's variables at each time the inscription of an
-- arc has terms or a fault, a guard's conjunct is a truth value or a fault, a delay and what a monitor measures are an
-- integer or a fault; so has an initial marking.
use Rattle.std.proofs.Common.{◌≡◌, ℕ, ℤ, pos, negsuc, nat_le, ◌<◌, ◌==◌, ◌∙◌, Bool, true, false, cond, ◌&&◌, List, [], ◌∷◌, ◌++◌, length, slice_index_or, Option, Some, refl, sym, ap, subst, inl, inr, eq-eqb, eqb-true}
use Rattle.std.specs.List.{AllByRecursion}
use Rattle.std.proofs.lemmas.Bool.{and_parts}
use Rattle.cpn_definitions.specs.Value.{PlainValue, boolean, int}
use Rattle.cpn_definitions.specs.Colour.{PlainColour, admits}
use Rattle.cpn_definitions.specs.Outcome.{Outcome, gives, faults, no_meaning, given, HasMeaning, bad_delay}
use Rattle.cpn_definitions.specs.Inscription.{PlainExpr, ArcInscription, Functions}
use Rattle.cpn_definitions.specs.Bindable.{variables_of}
use Rattle.cpn_definitions.specs.Meaning.{PlainBinding, bound_value, meaning}
use Rattle.cpn_definitions.specs.Net.{PlainNet, variable_at, nothing}
use Rattle.cpn_definitions.specs.Occurrence.{binds, transition_delay}
use Rattle.cpn_definitions.specs.Terms.{delay_of, terms_of}
use Rattle.cpn_definitions.specs.Times.{last_time}
use Rattle.cpn_definitions.proofs.RisingLists.{IsIn}
use Rattle.cpn_trees.specs.Trees.{PlainAst, PlainAsts, no_ast, more_asts}
use Rattle.cpn_typing.specs.Types.{PlainTy, bool_type, int_type}
use Rattle.cpn_typing.specs.Names.{Declared, Scope, ok}
use Rattle.cpn_typing.specs.Contexts.{Context, in_guard, in_delay, in_monitor}
use Rattle.cpn_typing.specs.Rules.{Typed}
use Rattle.cpn_typing.specs.Expressions.{typed}
use Rattle.cpn_typing.specs.TypedValues.{Sets, sets_of, HasType, of_bool, of_int}
use Rattle.cpn_typing.specs.Law.{Means, World, IsBound, IsReadable}
use Rattle.cpn_typing.specs.Multisets.{Side, inside, checked_arc, checked_init}
use Rattle.cpn_typing.specs.GuardsAndDelays.{checked_guard, checked_delay, checked_value}
use Rattle.cpn_typing.specs.InscriptionVariables.{inscription_variables}
use Rattle.cpn_typing.specs.AcceptedTransitions.{IsNetOf}
use Rattle.cpn_typing.specs.Consistency.{HasSets, IsConsistent}
use Rattle.cpn_typing.proofs.Outcomes.{means_then, chosen}
use Rattle.cpn_typing.proofs.Acceptance.{accepted}
use Rattle.cpn_typing.proofs.ColourTypes.{admitted_has_type}
use Rattle.cpn_typing.proofs.Functions.{world_below}
use Rattle.cpn_typing.proofs.TermsOfForms.{there_is_meaning}
use Rattle.cpn_typing.proofs.AcceptedMultisets.{arc_has_terms, arc_is_readable, init_has_terms}
use Rattle.cpn_typing.proofs.SetsDeclared.{their_own}
use Rattle.cpn_typing.proofs.Consistent.{accepted_parts, same_accepted}

-- each variable of an inscription is one of the transition's
abbrev pub AreAmong : List ℕ → List ℕ → Type 0
AreAmong xs vars = (x : ℕ) → IsIn x xs → IsIn x vars

-- ---- a binding gives each of the variables a value of its colour set

pub record HasValue (n : PlainNet) (b : PlainBinding) (x : ℕ) : Type 0 where
  pub value : PlainValue
  pub is_bound : bound_value x b ≡ Some value
  pub is_admitted : admits (variable_at n x).colour value ≡ true

pub bound_has_value : (n : PlainNet) (vars : List ℕ) (b : PlainBinding) (x : ℕ) → binds n vars b ≡ true → IsIn x vars → HasValue n b x
bound_has_value n [] b x is h = absurd h
bound_has_value n (y ∷ ys) [] x is h = absurd (cc)
bound_has_value n (y ∷ ys) (pair ∷ pairs) x is h = split (x == pair.0) refl (bound_has_value n ys pairs x rest.1)
  where
    rest : (((y == pair.0) && admits (variable_at n y).colour pair.1) ≡ true) × (binds n ys pairs ≡ true)
    rest = and_parts ((y == pair.0) && admits (variable_at n y).colour pair.1) (binds n ys pairs) is

    here : ((y == pair.0) ≡ true) × (admits (variable_at n y).colour pair.1 ≡ true)
    here = and_parts (y == pair.0) (admits (variable_at n y).colour pair.1) (and_parts ((y == pair.0) && admits (variable_at n y).colour pair.1) (binds n ys pairs) is).0

    first : (x == pair.0) ≡ true → HasValue n (pair ∷ pairs) x
    first e = record {
      value = pair.1;
      is_bound = ap (λ c. cond c (Some pair.1) (bound_value x pairs)) e;
      is_admitted = subst (λ z. admits (variable_at n z).colour pair.1 ≡ true) (eqb-true y pair.0 here.0 ∙ sym (eqb-true x pair.0 e)) here.1;
    }

    later : (x == pair.0) ≡ false → HasValue n pairs x → HasValue n (pair ∷ pairs) x
    later e v = record { value = v.value; is_bound = ap (λ c. cond c (Some pair.1) (bound_value x pairs)) e ∙ v.is_bound; is_admitted = v.is_admitted }

    other : (x == pair.0) ≡ false → IsIn x (y ∷ ys) → IsIn x ys
    other e (inl same) = absurd (let both : (x == pair.0) ≡ true = eq-eqb x pair.0 (sym same ∙ eqb-true y pair.0 here.0) in cc)
    other e (inr g) = g

    split : (c : Bool) → (x == pair.0) ≡ c → (IsIn x ys → HasValue n pairs x) → HasValue n (pair ∷ pairs) x
    split true e k = first e
    split false e k = later e (k (other e h))

-- ---- the world of a net

pub append_nothing : (funs : Functions) → funs ≡ funs ++ []
append_nothing [] = refl
append_nothing (f ∷ funs) = ap (λ fs. f ∷ fs) (append_nothing funs)

pub own_sets : (ds : Declared) → HasSets (sets_of ds) ds.enumerations ds.unions
own_sets ds = their_own ds.enumerations ds.unions

abbrev pub world_of : (ds : Declared) → IsConsistent ds → PlainBinding → ℕ → World
world_of ds good b time = world_below (sets_of ds) ds ds.functions b time (length ds.functions) (good.kept (sets_of ds) ds.functions [] b time (own_sets ds) (append_nothing ds.functions))

given_means : (sets : Sets) (t : PlainTy) (o : Option PlainValue) (v : PlainValue) → o ≡ Some v → HasType sets v t → Means (λ w. HasType sets w t) (given o)
given_means sets t o v is h = subst (λ p. Means (λ w. HasType sets w t) (given p)) (sym is) h

-- a variable of the transition is bound to a value of its type
one_is_bound : (ds : Declared) (good : IsConsistent ds) (n : PlainNet) (vars : List ℕ) (b : PlainBinding) (x : ℕ) → IsNetOf ds n → binds n vars b ≡ true → IsIn x vars → IsBound (sets_of ds) ds.names b x
one_is_bound ds good n vars b x of is h name t e =
    let v = bound_has_value n vars b x is h in
    let number = good.numbered name x t e in
    let admitted = subst (λ vs. admits (slice_index_or vs x nothing).colour v.value ≡ true) of.variables_are v.is_admitted in
    given_means (sets_of ds) t (bound_value x b) v.value v.is_bound
    (subst (HasType (sets_of ds) v.value) (sym number.type_is)
    (admitted_has_type (sets_of ds) (slice_index_or ds.variables x nothing).colour v.value (good.coloured (sets_of ds) (own_sets ds) x number.is_below) admitted))

pub are_bound : (ds : Declared) (good : IsConsistent ds) (n : PlainNet) (vars : List ℕ) (b : PlainBinding) (xs : List ℕ) → IsNetOf ds n → binds n vars b ≡ true → AreAmong xs vars → AllByRecursion (IsBound (sets_of ds) ds.names b) xs
are_bound ds good n vars b [] of is among = tt
are_bound ds good n vars b (x ∷ xs) of is among = (one_is_bound ds good n vars b x of is (among x (inl refl)), are_bound ds good n vars b xs of is (λ y h. among y (inr h)))

-- ---- arcs

-- What is accepted as the inscription of an arc has terms or a fault.
pub arc_means : (ds : Declared) → IsConsistent ds → (n : PlainNet) → IsNetOf ds n → (side : Side) (colour : PlainColour) (a : PlainAst) (m : ArcInscription) → checked_arc ds side colour a ≡ ok m
    → (vars : List ℕ) → AreAmong (inscription_variables m) vars → (at : PlainColour) (b : PlainBinding) (time : ℕ) → binds n vars b ≡ true → HasMeaning (terms_of n.functions m at b time)
arc_means ds good n of side colour a m is vars among at b time bound =
    subst (λ funs. HasMeaning (terms_of funs m at b time)) (sym of.functions_are)
    (arc_has_terms (world_of ds good b time) side colour a m is (are_bound ds good n vars b (inscription_variables m) of bound among) at)

-- So has an initial marking, which reads neither a binding nor the time.
pub init_means : (ds : Declared) → IsConsistent ds → (funs : Functions) → funs ≡ ds.functions → (colour : PlainColour) (a : PlainAst) (m : ArcInscription) → checked_init ds colour a ≡ ok m
    → (b : PlainBinding) (time : ℕ) → HasMeaning (terms_of funs m colour b time)
init_means ds good funs are colour a m is b time =
    subst (λ fs. HasMeaning (terms_of fs m colour b time)) (sym are) (init_has_terms (world_of ds good b time) colour a m is)

-- ---- inscriptions of one value

abbrev pub IsTruth : PlainValue → Type 0
IsTruth v = (t : Bool) × (v ≡ boolean t)

abbrev pub IsInteger : PlainValue → Type 0
IsInteger v = (z : ℤ) × (v ≡ int z)

truth_of : (sets : Sets) (v : PlainValue) → HasType sets v bool_type → IsTruth v
truth_of sets v (of_bool t) = (t, refl)

integer_of : (sets : Sets) (v : PlainValue) → HasType sets v int_type → IsInteger v
integer_of sets v (of_int z) = (z, refl)

means_so : (P Q : PlainValue → Type 0) (o : Outcome PlainValue) → ((v : PlainValue) → P v → Q v) → Means P o → Means Q o
means_so P Q (gives v) f h = f v h
means_so P Q (faults k) f h = tt
means_so P Q no_meaning f h = absurd h

-- an inscription that is accepted at a wanted type
value_means : (ds : Declared) (good : IsConsistent ds) (n : PlainNet) → IsNetOf ds n → (context : Context) (a : PlainAst) (t : PlainTy) (r : Typed) → typed ds context a [] (Some t) ≡ ok r
    → (vars : List ℕ) → AreAmong (variables_of r.expr) vars → (b : PlainBinding) (time : ℕ) → binds n vars b ≡ true → Means (λ v. HasType (sets_of ds) v t) (meaning n.functions r.expr b time)
value_means ds good n of context a t r is vars among b time bound =
    let sound = accepted (world_of ds good b time) context a [] (Some t) r is in
    subst (λ funs. Means (λ v. HasType (sets_of ds) v t) (meaning funs r.expr b time)) (sym of.functions_are)
    (subst (λ u. Means (λ v. HasType (sets_of ds) v u) (meaning ds.functions r.expr b time)) sound.wanted
    (sound.meaningful.means [] tt (are_bound ds good n vars b (variables_of r.expr) of bound among)))

-- What is accepted as a conjunct of a guard is a truth value or a fault.
pub guard_means : (ds : Declared) → IsConsistent ds → (n : PlainNet) → IsNetOf ds n → (parts : PlainAsts) (guard : List PlainExpr) → checked_guard ds parts ≡ ok guard
    → (vars : List ℕ) → AllByRecursion (λ e. AreAmong (variables_of e) vars) guard → (b : PlainBinding) (time : ℕ) → binds n vars b ≡ true → AllByRecursion (λ e. Means IsTruth (meaning n.functions e b time)) guard
guard_means ds good n of no_ast guard is vars among b time bound =
    subst (λ es. AllByRecursion (λ e. Means IsTruth (meaning n.functions e b time)) es) (same_accepted [] guard is) tt
guard_means ds good n of (more_asts a parts) guard is vars among b time bound =
    let first = accepted_parts (typed ds in_guard a [] (Some bool_type)) _ guard is in
    let others = accepted_parts (checked_guard ds parts) _ guard first.2 in
    let all = same_accepted (first.0.expr ∷ others.0) guard others.2 in
    let each = subst (AllByRecursion (λ e. AreAmong (variables_of e) vars)) (sym all) among in
    subst (AllByRecursion (λ e. Means IsTruth (meaning n.functions e b time))) all (
      means_so (λ v. HasType (sets_of ds) v bool_type) IsTruth (meaning n.functions first.0.expr b time) (truth_of (sets_of ds)) (value_means ds good n of in_guard a bool_type first.0 first.1 vars each.0 b time bound),
      guard_means ds good n of parts others.0 others.1 vars each.1 b time bound,
    )

-- What is accepted as a delay is an integer or a fault.
pub delay_means : (ds : Declared) → IsConsistent ds → (n : PlainNet) → IsNetOf ds n → (a : PlainAst) (delay : PlainExpr) → checked_delay ds a ≡ ok delay
    → (vars : List ℕ) → AreAmong (variables_of delay) vars → (b : PlainBinding) (time : ℕ) → binds n vars b ≡ true → Means IsInteger (meaning n.functions delay b time)
delay_means ds good n of a delay is vars among b time bound =
    let first = accepted_parts (typed ds in_delay a [] (Some int_type)) _ delay is in
    let same = same_accepted first.0.expr delay first.2 in
    subst (λ e. Means IsInteger (meaning n.functions e b time)) same
    (means_so (λ v. HasType (sets_of ds) v int_type) IsInteger (meaning n.functions first.0.expr b time) (integer_of (sets_of ds))
    (value_means ds good n of in_delay a int_type first.0 first.1 vars (subst (λ e. AreAmong (variables_of e) vars) (sym same) among) b time bound))

-- What is accepted as what a monitor measures is an integer or a fault.
pub monitor_means : (ds : Declared) → IsConsistent ds → (n : PlainNet) → IsNetOf ds n → (a : PlainAst) (value : PlainExpr) → checked_value ds a ≡ ok value
    → (vars : List ℕ) → AreAmong (variables_of value) vars → (b : PlainBinding) (time : ℕ) → binds n vars b ≡ true → Means IsInteger (meaning n.functions value b time)
monitor_means ds good n of a value is vars among b time bound =
    let first = accepted_parts (typed ds in_monitor a [] (Some int_type)) _ value is in
    let same = same_accepted first.0.expr value first.2 in
    subst (λ e. Means IsInteger (meaning n.functions e b time)) same
    (means_so (λ v. HasType (sets_of ds) v int_type) IsInteger (meaning n.functions first.0.expr b time) (integer_of (sets_of ds))
    (value_means ds good n of in_monitor a int_type first.0 first.1 vars (subst (λ e. AreAmong (variables_of e) vars) (sym same) among) b time bound))

-- ---- what a sound transition asks for

means_something : (P : PlainValue → Type 0) (o : Outcome PlainValue) → Means P o → HasMeaning o
means_something P o h = there_is_meaning P o h

each_means_something : (n : PlainNet) (b : PlainBinding) (time : ℕ) (guard : List PlainExpr) → AllByRecursion (λ e. Means IsTruth (meaning n.functions e b time)) guard → AllByRecursion (λ e. HasMeaning (meaning n.functions e b time)) guard
each_means_something n b time [] h = tt
each_means_something n b time (e ∷ es) h = (means_something IsTruth (meaning n.functions e b time) h.0, each_means_something n b time es h.1)

pub guard_has_meaning : (ds : Declared) → IsConsistent ds → (n : PlainNet) → IsNetOf ds n → (parts : PlainAsts) (guard : List PlainExpr) → checked_guard ds parts ≡ ok guard
    → (vars : List ℕ) → AllByRecursion (λ e. AreAmong (variables_of e) vars) guard → (b : PlainBinding) → binds n vars b ≡ true → AllByRecursion (λ e. HasMeaning (meaning n.functions e b 0)) guard
guard_has_meaning ds good n of parts guard is vars among b bound = each_means_something n b 0 guard (guard_means ds good n of parts guard is vars among b 0 bound)

-- an integer is a delay, or there is a fault
delay_of_integer : (v : PlainValue) → IsInteger v → Means (λ d. Unit {0}) (delay_of v)
delay_of_integer v h = subst (λ w. Means (λ d. Unit {0}) (delay_of w)) (sym h.1) (of_number h.0)
  where
    of_number : (z : ℤ) → Means (λ d. Unit {0}) (delay_of (int z))
    of_number (pos k) = chosen (Means (λ d. Unit {0})) (nat_le k last_time) (gives k) (faults bad_delay) tt tt
    of_number (negsuc k) = tt

pub delay_has_meaning : (ds : Declared) → IsConsistent ds → (n : PlainNet) → IsNetOf ds n → (a : PlainAst) (delay : PlainExpr) → checked_delay ds a ≡ ok delay
    → (vars : List ℕ) → AreAmong (variables_of delay) vars → (b : PlainBinding) (time : ℕ) → binds n vars b ≡ true → HasMeaning (transition_delay n.functions (Some delay) b time)
delay_has_meaning ds good n of a delay is vars among b time bound =
    there_is_meaning (λ d. Unit {0}) (transition_delay n.functions (Some delay) b time)
    (means_then IsInteger (λ d. Unit {0}) (meaning n.functions delay b time) delay_of (delay_means ds good n of a delay is vars among b time bound) delay_of_integer)

-- ---- what is read is declared

numbered_below : (ds : Declared) → IsConsistent ds → (context : Context) (xs : List ℕ) → AllByRecursion (IsReadable ds context) xs → AllByRecursion (λ x. x < length ds.variables) xs
numbered_below ds good context [] h = tt
numbered_below ds good context (x ∷ xs) h = ((good.numbered h.0.1.0 x h.0.1.1.0 h.0.1.1.1).is_below, numbered_below ds good context xs h.1)

-- the variables of an arc's inscription are variables that are declared
pub arc_reads_declared : (ds : Declared) → IsConsistent ds → (side : Side) (colour : PlainColour) (a : PlainAst) (m : ArcInscription) → checked_arc ds side colour a ≡ ok m → AllByRecursion (λ x. x < length ds.variables) (inscription_variables m)
arc_reads_declared ds good side colour a m is = numbered_below ds good (inside side) (inscription_variables m) (arc_is_readable (world_of ds good [] 0) side colour a m is)

-- and so are those of an inscription of one value
pub text_reads_declared : (ds : Declared) → IsConsistent ds → (context : Context) (a : PlainAst) (sc : Scope) (w : Option PlainTy) (r : Typed) → typed ds context a sc w ≡ ok r → AllByRecursion (λ x. x < length ds.variables) (variables_of r.expr)
text_reads_declared ds good context a sc w r is = numbered_below ds good context (variables_of r.expr) (accepted (world_of ds good [] 0) context a sc w r is).meaningful.reads
