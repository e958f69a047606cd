-- What is tried at the stages of a plan: the trials of a transition, which find all, in so many tries.
use Rattle.std.proofs.Common.{◌≡◌, ℕ, ◌<◌, List, length, sym, subst}
use Rattle.std.specs.List.{AllByRecursion}
use Rattle.cpn_definitions.specs.Marking.{Marking}
use Rattle.cpn_definitions.specs.Net.{PlainNet, transition_at}
use Rattle.cpn_definitions.specs.Enabled.{PlainFound}
use Rattle.cpn_definitions.specs.Sound.{IsSound, IsMarking}
use Rattle.cpn_definitions.proofs.Markings.{held_at}
use Rattle.cpn_definitions.proofs.SoundElements.{sound_transition}
use Rattle.cpn_core.specs.declared.nets.Net.{Net}
use Rattle.cpn_core.specs.Nets.{net_view}
use Rattle.cpn_stages.specs.Partial.{unbound}
use Rattle.cpn_stages.specs.Trials.{Trial, tried, AreTrialsOf}
use Rattle.cpn_stages.specs.Work.{IsFull}
use Rattle.cpn_stages.proofs.CountedTries.{full_is_tried, one_full}
use Rattle.cpn_search.specs.declared.plan.Plan.{Plan}
use Rattle.cpn_search.specs.StageViews.{stages_view}
use Rattle.cpn_search.specs.PlannedNets.{IsPlan}
use Rattle.cpn_search.specs.TriedStages.{IsPlaced, trials_at}
use Rattle.cpn_search.specs.Searches.{AreTrials, AllFound, FoundAtEnds}
use Rattle.cpn_search.proofs.KnownTransitions.{in_range}
use Rattle.cpn_search.proofs.TriedPlans.{tried_are_of, stages_placed}
use Rattle.cpn_search.proofs.TurnSteps.{vars_listed}
use Rattle.cpn_search.proofs.TurnedSearches.{trials_of_all, all_found_at}

-- the places of the terms of a plan are some of the marking's
pub plan_of : (n : Net) (m : Marking) (t : ℕ) (plan : Plan) → IsSound (net_view n) → IsMarking (net_view n).places m → t < length n.transitions.items → IsPlan (net_view n) t plan → AllByRecursion (IsPlaced (length m)) (stages_view plan.stages.items)
plan_of n m t plan sound marking lt planned =
    stages_placed (net_view n) m (transition_at (net_view n) t) (stages_view plan.stages.items) (sound_transition (net_view n) t sound (in_range n t lt)) marking planned.stages

of_stages : (n : PlainNet) (m : Marking) (t : ℕ) (plan : Plan) (trials : List Trial) → IsMarking n.places m → IsPlan n t plan → trials ≡ trials_at m plan.stages.items → AreTrialsOf n m (stages_view plan.stages.items) trials
of_stages n m t plan trials marking planned are =
    subst (AreTrialsOf n m (stages_view plan.stages.items)) (sym are) (tried_are_of n m plan.stages.items (λ p. (held_at n.places m marking p).0) planned.values)

pub plan_trials : (n : PlainNet) (m : Marking) (t : ℕ) (plan : Plan) (trials : List Trial) → IsMarking n.places m → IsPlan n t plan → trials ≡ trials_at m plan.stages.items → AreTrials n m t trials
plan_trials n m t plan trials marking planned are = trials_of_all n m t (stages_view plan.stages.items) trials planned.stages (of_stages n m t plan trials marking planned are)

module _ (n : Net) (m : Marking) (t : ℕ) (plan : Plan) (trials : List Trial) where
  pub all_found_by : (found : List PlainFound) → IsSound (net_view n) → IsMarking (net_view n).places m → t < length n.transitions.items → IsPlan (net_view n) t plan → trials ≡ trials_at m plan.stages.items
      → FoundAtEnds (net_view n) m t trials found → AllFound (net_view n) m t found
  all_found_by found sound marking lt planned are is =
      all_found_at (net_view n) m t (stages_view plan.stages.items) trials found sound.functions_closed (vars_listed n t sound lt) planned.stages (of_stages (net_view n) m t plan trials marking planned are) is

  -- each number of tries is theirs
  pub full_by : IsSound (net_view n) → IsMarking (net_view n).places m → t < length n.transitions.items → IsPlan (net_view n) t plan → trials ≡ trials_at m plan.stages.items
      → (k : ℕ) → IsFull (net_view n) m t k → tried (net_view n) trials (unbound (transition_at (net_view n) t).vars) ≡ k
  full_by sound marking lt planned are k full =
      one_full (net_view n) m t (tried (net_view n) trials (unbound (transition_at (net_view n) t).vars)) k
      (full_is_tried (net_view n) m t (stages_view plan.stages.items) trials sound.functions_closed (vars_listed n t sound lt) planned.stages (of_stages (net_view n) m t plan trials marking planned are))
      full
