-- What a turn of a search has of its trials and its transition.
use Rattle.std.proofs.Common.{◌≡◌, ℕ, zero, suc, ◌+◌, ◌<◌, ◌≤◌, nat_lt, List, [], ◌∷◌, ◌++◌, map, drop, length, get_or, refl, sym, ap, ◌∙◌, subst, arith, nat_cmp, Option, Some}
use Rattle.std.specs.Option.{option_to_list}
use Rattle.std.proofs.lemmas.List.{map-append, length-map}
use Rattle.std.specs.List.{list_all}
use Rattle.cpn_definitions.specs.Lists.{Rises}
use Rattle.cpn_definitions.specs.Marking.{Marking}
use Rattle.cpn_definitions.specs.Net.{PlainTransition, PlainNet, transition_at}
use Rattle.cpn_definitions.specs.Enabled.{PlainFound}
use Rattle.cpn_definitions.specs.Sound.{IsSound, IsSolvable}
use Rattle.cpn_definitions.proofs.SoundElements.{sound_transition}
use Rattle.cpn_core.specs.declared.entries.EnabledElement.{EnabledElement}
use Rattle.cpn_core.specs.declared.nets.Transition.{Transition}
use Rattle.cpn_core.specs.declared.nets.Net.{Net}
use Rattle.cpn_core.specs.Nets.{net_view}
use Rattle.cpn_stages.specs.Partial.{PlainPartial, unbound, variables_in}
use Rattle.cpn_stages.specs.Trials.{Trial, next, tried}
use Rattle.cpn_search.specs.declared.trials.Trial as program
use Rattle.cpn_search.specs.declared.extending.UnderWay.{UnderWay}
use Rattle.cpn_search.specs.TrialViews.{PlainUnderWay, trial_view, trials_view, under_way_view, all_under_way, after}
use Rattle.cpn_search.specs.Searches.{AreDeclared, AreTrials, IsTurn, SearchState, still_tried}
use Rattle.cpn_search.proofs.KnownTransitions.{transition_is, in_range}
use Rattle.cpn_search.specs.FoundViews.{found_view}
use Rattle.cpn_search.proofs.TurnedSearches.{state_begins}

-- ---- the trials that are left

pub trials_over : (ts : List program.Trial) (k : ℕ) → length ts ≤ k → drop k (trials_view ts) ≡ []
trials_over [] zero lt = refl
trials_over [] (suc k) lt = refl
trials_over (t ∷ ts) zero lt = absurd (omega arith)
trials_over (t ∷ ts) (suc k) lt = trials_over ts k (omega arith)

pub trials_go_on : (ts : List program.Trial) (k : ℕ) (trial : program.Trial) → k < length ts → trial ≡ get_or ts k trial → drop k (trials_view ts) ≡ trial_view trial ∷ drop (k + 1) (trials_view ts)
trials_go_on [] k trial lt is = absurd (omega arith)
trials_go_on (t ∷ ts) zero trial lt is = ap (λ (s : program.Trial). trial_view s ∷ trials_view ts) (sym is)
trials_go_on (t ∷ ts) (suc k) trial lt is =
    trials_go_on ts k trial (omega arith) is ∙ ap (λ (rest : List Trial). trial_view trial ∷ rest) (deeper k)
  where
    deeper : (k : ℕ) → drop (k + 1) (trials_view ts) ≡ drop (suc k + 1) (trials_view (t ∷ ts))
    deeper k = let more : suc k + 1 ≡ suc (k + 1) = omega arith in ap (λ (j : ℕ). drop j (trials_view (t ∷ ts))) (sym more)

-- ---- the transition

pub vars_listed : (n : Net) (t : ℕ) → IsSound (net_view n) → t < length n.transitions.items → Rises nat_cmp (transition_at (net_view n) t).vars
vars_listed n t sound lt = (sound_transition (net_view n) t sound (in_range n t lt)).listed

pub solvable_at : (n : Net) (t : ℕ) → IsSound (net_view n) → t < length n.transitions.items → IsSolvable (net_view n) (transition_at (net_view n) t)
solvable_at n t sound lt = (sound_transition (net_view n) t sound (in_range n t lt)).guard_solvable

pub declared_at : (n : Net) (t : ℕ) (b : PlainPartial) → IsSound (net_view n) → t < length n.transitions.items → variables_in b ≡ (transition_at (net_view n) t).vars → AreDeclared (length n.variables.items) b
declared_at n t b sound lt same = record {
  all =
      ap (list_all (λ x. nat_lt x (length n.variables.items))) same
      ∙ ap (λ (k : ℕ). list_all (λ x. nat_lt x k) (transition_at (net_view n) t).vars) (sym (length-map n.variables.items _))
      ∙ (sound_transition (net_view n) t sound (in_range n t lt)).declared;
}

-- ---- the turn

pub turn_goes_on : (n : PlainNet) (m : Marking) (t : ℕ) (left rest : List Trial) (trial : Trial) (o : PlainUnderWay) (old new : List PlainUnderWay) (found now : List PlainFound) → left ≡ trial ∷ rest → new ≡ old ++ after (o.1 + 1) (next n trial o.0) → now ≡ found → IsTurn n m t left o old new found now
turn_goes_on n m t left rest trial o old new found now is added same = subst (λ (ts : List Trial). IsTurn n m t ts o old new found now) (sym is) (added, same)

-- ---- the last of those that are under way

pub last_taken : (before after' : List UnderWay) (o : UnderWay) (r : Option UnderWay) → before ≡ after' ++ option_to_list r → r ≡ Some o → all_under_way before ≡ all_under_way after' ++ under_way_view o ∷ []
last_taken before after' o r are is = ap all_under_way (are ∙ ap (λ (k : Option UnderWay). after' ++ option_to_list k) is) ∙ map-append under_way_view after' (o ∷ [])

pub none_taken : (before : List UnderWay) → length before ≡ 0 → all_under_way before ≡ []
none_taken [] is = refl
none_taken (o ∷ before) is = absurd (omega arith)

-- ---- the beginning

-- all the tries are still to be made
pub begun_tries
    : (n : Net) (t : ℕ) (trials : List Trial) (tr : Transition) (vars : List ℕ) (b : PlainPartial) (ahead : List UnderWay)
    → t < length n.transitions.items → tr ≡ get_or n.transitions.items t tr → vars ≡ tr.vars.items → b ≡ unbound vars → ahead ≡ record { partial = b; tried = 0 } ∷ []
    → still_tried (net_view n) trials (all_under_way ahead) ≡ tried (net_view n) trials (unbound (transition_at (net_view n) t).vars)
begun_tries n t trials tr vars b ahead lt is of_it nothing first =
    let start : b ≡ unbound (transition_at (net_view n) t).vars = nothing ∙ ap unbound (of_it ∙ sym (ap (λ (k : PlainTransition). k.vars) (transition_is n t tr lt is))) in
    ap (λ (os : List UnderWay). still_tried (net_view n) trials (all_under_way os)) first ∙ alone (tried (net_view n) trials b) ∙ ap (tried (net_view n) trials) start
  where
    alone : (k : ℕ) → k + 0 ≡ k
    alone k = omega arith

pub begun
    : (n : Net) (m : Marking) (t : ℕ) (trials : List Trial) (tr : Transition) (vars : List ℕ) (b : PlainPartial) (ahead : List UnderWay) (found : List EnabledElement)
    → AreTrials (net_view n) m t trials → t < length n.transitions.items → tr ≡ get_or n.transitions.items t tr → vars ≡ tr.vars.items → b ≡ unbound vars → ahead ≡ record { partial = b; tried = 0 } ∷ [] → found ≡ []
    → SearchState (net_view n) m t trials (all_under_way ahead) (map found_view found)
begun n m t trials tr vars b ahead found are lt is of_it nothing first none_found =
    let start : b ≡ unbound (transition_at (net_view n) t).vars = nothing ∙ ap unbound (of_it ∙ sym (ap (λ (k : PlainTransition). k.vars) (transition_is n t tr lt is))) in
    let begin : (unbound (transition_at (net_view n) t).vars, 0) ∷ [] ≡ all_under_way ahead = ap (λ (c : PlainPartial). (c, 0) ∷ []) (sym start) ∙ sym (ap all_under_way first) in
    subst (λ (fs : List EnabledElement). SearchState (net_view n) m t trials (all_under_way ahead) (map found_view fs)) (sym none_found)
    (subst (λ (os : List PlainUnderWay). SearchState (net_view n) m t trials os []) begin (state_begins (net_view n) m t trials are))
