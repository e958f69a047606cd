-- How many tries a search of a transition makes, stage by stage. Source: own choice.
use Rattle.std.specs.Prelude.{◌≡◌, ℕ, ◌+◌, ◌*◌, ◌==◌, ◌↔◌, if◌then◌else◌, List, [], ◌∷◌, ◌++◌, length, Contains}
use Rattle.cpn_definitions.specs.Value.{PlainValue}
use Rattle.cpn_definitions.specs.Marking.{Marking}
use Rattle.cpn_definitions.specs.Net.{PlainTransition, PlainNet, transition_at}
use Rattle.cpn_stages.specs.Stages.{Stage, by_term, by_equation, by_size, by_value, AreStages}
use Rattle.cpn_stages.specs.Reached.{StandsOn, IsAdmitted, IsReached}

-- no item of the list stands in it twice
abbrev pub AllDiffer : {A : Type 0} → List A → Type 0
AllDiffer [] = Unit {0}
AllDiffer (x ∷ xs) = (Contains xs x → ⊥) × AllDiffer xs

-- the list has each thing with a property once, and nothing else
pub record AreJust {A : Type 0} (P : A → Type 0) (xs : List A) : Type 0 where
  pub differ : AllDiffer xs
  pub all : (x : A) → P x ↔ Contains xs x

-- so many things have a property: a list of just them is so long
abbrev pub AreSoMany : {A : Type 0} → (A → Type 0) → ℕ → Type 0
AreSoMany {A} P k = (xs : List A) × AreJust P xs × (length xs ≡ k)

-- the tries of a stage: the different values on the term's place; one for an equation; the values of a small colour set
abbrev pub IsTries : PlainNet → Marking → Stage → ℕ → Type 0
IsTries n m (by_term place p) k = AreSoMany (StandsOn m place) k
IsTries n m (by_equation x e) k = k ≡ 1
IsTries n m (by_size x) k = AreSoMany (IsAdmitted n x) k
IsTries n m (by_value place p v) k = k ≡ 1

-- the tries at the stages that follow some: each stage is tried at each partial binding that those before it reach; and each
-- that all of them reach counts one more
abbrev pub AreTries : PlainNet → Marking → PlainTransition → List Stage → List Stage → ℕ → Type 0
AreTries n m t done [] k = AreSoMany (IsReached n m t done) k
AreTries n m t done (stage ∷ stages) k =
    (reached tries later : ℕ) × AreSoMany (IsReached n m t done) reached × IsTries n m stage tries × AreTries n m t (done ++ stage ∷ []) stages later × (k ≡ reached * tries + later)

-- Full: the tries at all the stages of a transition, over all the partial bindings that are reached, and one for each binding
-- that all of them reach.
pub record IsFull (n : PlainNet) (m : Marking) (t : ℕ) (k : ℕ) : Type 0 where
  pub stages : List Stage
  pub are : AreStages n (transition_at n t) stages
  pub tries : AreTries n m (transition_at n t) [] stages k

-- ---- with a value at one of the binding terms

-- the list of stages with a stage in front, held to the value: where it is a binding term on an arc from the place
abbrev pub pulled_at : ℕ → PlainValue → List Stage → Stage → List Stage → List (List Stage)
pulled_at place v before (by_term q p) behind = if place == q then (by_value place p v ∷ before ++ behind) ∷ [] else []
pulled_at place v before stage behind = []

-- The lists of stages in which one binding term on an arc from the place is pulled to the front and held to the value: one for each
-- such term behind those before, in their order.
abbrev pub pulled : ℕ → PlainValue → List Stage → List Stage → List (List Stage)
pulled place v before [] = []
pulled place v before (stage ∷ behind) = pulled_at place v before stage behind ++ pulled place v (before ++ stage ∷ []) behind

-- the tries at several lists of stages, one after another
abbrev pub AreAllTries : PlainNet → Marking → PlainTransition → List (List Stage) → ℕ → Type 0
AreAllTries n m t [] k = k ≡ 0
AreAllTries n m t (stages ∷ others) k = (own later : ℕ) × AreTries n m t [] stages own × AreAllTries n m t others later × (k ≡ own + later)

-- Pinned: for each binding term on an arc from the place, the tries at all the stages of a transition with that term as the first
-- stage and the value as its one try; summed.
pub record IsPinned (n : PlainNet) (m : Marking) (t place : ℕ) (v : PlainValue) (k : ℕ) : Type 0 where
  pub stages : List Stage
  pub are : AreStages n (transition_at n t) stages
  pub tries : AreAllTries n m (transition_at n t) (pulled place v [] stages) k
