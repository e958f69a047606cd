-- Sound nets: those that the calls of the program take. Source: own choice.
use Rattle.std.specs.Prelude.{◌≡◌, ◌||◌, ◌&&◌, ℕ, ◌+◌, ◌<◌, ◌≤◌, ◌==◌, ◌^◌, Bool, true, false, nat_lt, List, [], ◌∷◌, length, Contains}
use Rattle.std.specs.List.{flat_map, list_all, AllByRecursion}
use Rattle.std.specs.Ordering.{nat_cmp}
use Rattle.cpn_definitions.specs.Colour.{PlainColour, admits}
use Rattle.cpn_definitions.specs.Lists.{Rises}
use Rattle.cpn_definitions.specs.Marking.{PlainToken, Marking, tokens_at, AreSorted}
use Rattle.cpn_definitions.specs.Outcome.{HasMeaning}
use Rattle.cpn_definitions.specs.Net.{PlainArc, PlainTransition, Coloured, PlainNet, place_at, is_timed}
use Rattle.cpn_definitions.specs.Meaning.{PlainBinding, meaning}
use Rattle.cpn_definitions.specs.Terms.{terms_of}
use Rattle.cpn_definitions.specs.Inscription.{PlainExpr}
use Rattle.cpn_definitions.specs.Bindable.{binding_terms, variables_of, AreClosed, IsBindable, IsEquated}
use Rattle.cpn_definitions.specs.Occurrence.{binds, transition_delay}
use Rattle.cpn_definitions.specs.Times.{last_time}

-- Sound arc: its place is one of the net, whose colour set it carries; and its inscription has a meaning under each
-- binding of the transition's variables, at each time from 0 to the last time.
pub record IsSoundArc (n : PlainNet) (t : PlainTransition) (arc : PlainArc) : Type 0 where
  pub place_known : arc.place < length n.places
  pub colour_is : arc.colour ≡ (place_at n arc.place).colour
  pub means : (b : PlainBinding) (time : ℕ) → binds n t.vars b ≡ true → time ≤ last_time → HasMeaning (terms_of n.functions arc.expr arc.colour b time)

-- Sound input arc: it is sound, and carries just the binding terms of its inscription.
pub record IsSoundInput (n : PlainNet) (t : PlainTransition) (arc : PlainArc) : Type 0 where
  pub sound : IsSoundArc n t arc
  pub terms_are : arc.terms ≡ binding_terms arc.expr

-- Solvable guard: its variables are among the transition's; and what it makes a variable equal to has a meaning under each
-- binding of its own variables, so that a search may go by it.
pub record IsSolvable (n : PlainNet) (t : PlainTransition) : Type 0 where
  pub guard_listed : (x : ℕ) → Contains (flat_map variables_of t.guard) x → Contains t.vars x
  pub equations_mean : (x : ℕ) (e : PlainExpr) → IsEquated t x e → (xs : List ℕ) (b : PlainBinding) → binds n xs b ≡ true
      → ((y : ℕ) → Contains (variables_of e) y → Contains xs y) → HasMeaning (meaning n.functions e b 0)

-- Sound transition: its variables are listed once, in declaration order, and are variables of the net, each bindable; its
-- guard and its delay have a meaning under each binding of them; its guard is solvable; it has at most 64 arcs, which are sound.
pub record IsSoundTransition (n : PlainNet) (t : PlainTransition) : Type 0 where
  pub listed : Rises nat_cmp t.vars
  pub declared : list_all (λ x. nat_lt x (length n.variables)) t.vars ≡ true
  pub bindable : (x : ℕ) → Contains t.vars x → IsBindable n t x
  pub guard_means : (b : PlainBinding) → binds n t.vars b ≡ true → AllByRecursion (λ e. HasMeaning (meaning n.functions e b 0)) t.guard
  pub guard_solvable : IsSolvable n t
  pub delay_means : (b : PlainBinding) (time : ℕ) → binds n t.vars b ≡ true → time ≤ last_time → HasMeaning (transition_delay n.functions t.delay b time)
  pub few_arcs : length t.inputs + length t.outputs ≤ 64
  pub inputs_sound : AllByRecursion (IsSoundInput n t) t.inputs
  pub outputs_sound : AllByRecursion (IsSoundArc n t) t.outputs

-- Sound: each transition is sound; the functions are closed; and places, transitions and variables each have a number of
-- 32 bits.
pub record IsSound (n : PlainNet) : Type 0 where
  pub transitions_sound : AllByRecursion (IsSoundTransition n) n.transitions
  pub functions_closed : AreClosed n.functions
  pub few_places : length n.places < 2 ^ 32
  pub few_transitions : length n.transitions < 2 ^ 32
  pub few_variables : length n.variables < 2 ^ 32

-- Untimed: no place of the net keeps time stamps.
abbrev pub IsUntimed : PlainNet → Type 0
IsUntimed n = (p : ℕ) → is_timed n p ≡ false

-- whether a place of the colour set may hold the token: its value is admitted, and its stamp is 0 where the
-- place is untimed
abbrev pub may_hold : PlainColour → PlainToken → Bool
may_hold colour t = admits colour t.value && (colour.timed || (t.stamp == 0))

-- Stamped as the net is timed: on a place that keeps no time stamps each token has stamp 0.
abbrev pub IsStamped : PlainNet → Marking → Type 0
IsStamped n m = (p : ℕ) → is_timed n p ≡ false → list_all (λ t. t.stamp == 0) (tokens_at m p) ≡ true

-- A marking of places: for each place, in order, sorted tokens that the place may hold.
abbrev pub IsMarking : List Coloured → Marking → Type 0
IsMarking [] [] = Unit {0}
IsMarking (place ∷ places) (tokens ∷ m) = AreSorted tokens × (list_all (may_hold place.colour) tokens ≡ true) × IsMarking places m
IsMarking [] (tokens ∷ m) = ⊥
IsMarking (place ∷ places) [] = ⊥
