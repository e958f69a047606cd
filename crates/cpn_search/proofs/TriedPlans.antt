-- Stage by stage, what is tried at a plan; and it is the trials of the plan's stages.
use Rattle.std.proofs.Common.{◌≡◌, ℕ, zero, suc, ◌+◌, ◌<◌, List, [], ◌∷◌, ◌++◌, map, take, drop, length, get_or, refl, sym, ap, ◌∙◌, subst, arith, add-one, append_assoc}
use Rattle.std.specs.List.{flat_map, AllByRecursion}
use Rattle.std.proofs.lemmas.List.{map-append}
use Rattle.cpn_definitions.specs.Marking.{Marking, tokens_at, AreSorted}
use Rattle.cpn_definitions.specs.Net.{BindingTerm, PlainArc, PlainNet, PlainTransition}
use Rattle.cpn_definitions.specs.Bindable.{binding_terms}
use Rattle.cpn_definitions.proofs.Markings.{marking_length}
use Rattle.cpn_definitions.proofs.RisingLists.{each_appended}
use Rattle.cpn_definitions.specs.Sound.{IsSoundInput, IsSoundTransition, IsMarking}
use Rattle.cpn_stages.specs.Stages.{Stage, by_term, by_equation, by_size, by_value, terms_at, term_stages, those_without, Further, none_left, next_equation, next_small, AreStages}
use Rattle.cpn_stages.specs.Trials.{Trial, IsTrialOf, AreTrialsOf}
use Rattle.cpn_core.specs.Views.{value_view}
use Rattle.cpn_search.specs.declared.plan.Stage as program
use Rattle.cpn_search.specs.declared.plan.Stage.TheVariants as stages
use Rattle.cpn_search.specs.declared.trials.Trial as trial
use Rattle.cpn_search.specs.StageViews.{stage_view, stages_view, HasAllValues}
use Rattle.cpn_search.specs.TrialViews.{trial_view, trials_view}
use Rattle.cpn_search.proofs.ValuesOfTokens.{rising_differ, values_just}
use Rattle.cpn_search.specs.TriedStages.{IsPlaced, trial_at, trials_at}

-- what is tried at the stages from a number on
tried_from : (m : Marking) (ss : List program.Stage) (i : ℕ) (s : program.Stage) → i < length ss → s ≡ get_or ss i s → trials_at m (drop i ss) ≡ trial_at m s ∷ trials_at m (drop (suc i) ss)
tried_from m [] i s lt is = absurd (omega arith)
tried_from m (r ∷ ss) zero s lt is = ap (λ (k : program.Stage). trial_at m k ∷ trials_at m ss) (sym is)
tried_from m (r ∷ ss) (suc i) s lt is = tried_from m ss i s (omega arith) is

left_placed : (k : ℕ) (ss : List program.Stage) (i : ℕ) → AllByRecursion (IsPlaced k) (stages_view (drop i ss)) → AllByRecursion (IsPlaced k) (stages_view (drop (suc i) ss))
left_placed k [] zero placed = tt
left_placed k [] (suc i) placed = tt
left_placed k (s ∷ ss) zero placed = placed.1
left_placed k (s ∷ ss) (suc i) placed = left_placed k ss i placed

pub one_tried
    : (m : Marking) (ss : List program.Stage) (ts now : List trial.Trial) (i : ℕ) (s : program.Stage) (t : trial.Trial)
    → i < length ss → s ≡ get_or ss i s → trial_view t ≡ trial_at m s → now ≡ ts ++ t ∷ [] → trials_view now ++ trials_at m (drop (i + 1) ss) ≡ trials_view ts ++ trials_at m (drop i ss)
one_tried m ss ts now i s t lt is new are =
    rw add-one
    (ap (λ (k : List trial.Trial). trials_view k ++ trials_at m (drop (suc i) ss)) are ∙ ap (λ ks. ks ++ trials_at m (drop (suc i) ss)) (map-append trial_view ts (t ∷ []))
    ∙ append_assoc (trials_view ts) (trial_view t ∷ []) (trials_at m (drop (suc i) ss))
    ∙ ap (λ (k : Trial). trials_view ts ++ k ∷ trials_at m (drop (suc i) ss)) new ∙ ap (λ ks. trials_view ts ++ ks) (sym (tried_from m ss i s lt is)))

pub rest_placed : (k : ℕ) (ss : List program.Stage) (i : ℕ) → AllByRecursion (IsPlaced k) (stages_view (drop i ss)) → AllByRecursion (IsPlaced k) (stages_view (drop (i + 1) ss))
rest_placed k ss i placed = rw add-one (left_placed k ss i placed)

-- some of the stages
placed_taken : (k : ℕ) (ss : List program.Stage) (i : ℕ) → AllByRecursion (IsPlaced k) (stages_view ss) → AllByRecursion (IsPlaced k) (stages_view (take i ss))
placed_taken k [] zero placed = tt
placed_taken k [] (suc i) placed = tt
placed_taken k (s ∷ ss) zero placed = tt
placed_taken k (s ∷ ss) (suc i) placed = (placed.0, placed_taken k ss i placed.1)

placed_dropped : (k : ℕ) (ss : List program.Stage) (i : ℕ) → AllByRecursion (IsPlaced k) (stages_view ss) → AllByRecursion (IsPlaced k) (stages_view (drop i ss))
placed_dropped k [] zero placed = tt
placed_dropped k [] (suc i) placed = tt
placed_dropped k (s ∷ ss) zero placed = placed
placed_dropped k (s ∷ ss) (suc i) placed = placed_dropped k ss i placed.1

pub placed_before : (k : ℕ) (ss xs : List program.Stage) (i : ℕ) → xs ≡ ss → AllByRecursion (IsPlaced k) (stages_view ss) → AllByRecursion (IsPlaced k) (stages_view (take i xs))
placed_before k ss xs i same placed = placed_taken k xs i (subst (λ (ys : List program.Stage). AllByRecursion (IsPlaced k) (stages_view ys)) (sym same) placed)

pub placed_behind : (k : ℕ) (ss xs : List program.Stage) (i j : ℕ) → xs ≡ ss → AllByRecursion (IsPlaced k) (stages_view ss) → AllByRecursion (IsPlaced k) (stages_view (take j (drop i xs)))
placed_behind k ss xs i j same placed = placed_taken k (drop i xs) j (placed_dropped k xs i (subst (λ (ys : List program.Stage). AllByRecursion (IsPlaced k) (stages_view ys)) (sym same) placed))

-- ---- as the trials of the stages

tried_is_of : (n : PlainNet) (m : Marking) (s : program.Stage) → ((p : ℕ) → AreSorted (tokens_at m p)) → HasAllValues n s → IsTrialOf n m (stage_view s) (trial_at m s)
tried_is_of n m (stages.Term place term) sorted full = (refl, values_just m place (sorted place))
tried_is_of n m (stages.Equation variable equation) sorted full = (refl, refl)
tried_is_of n m (stages.Small variable values) sorted full = (refl, record { differ = rising_differ (map value_view values.items) full.in_order; all = full.all })

pub tried_are_of : (n : PlainNet) (m : Marking) (ss : List program.Stage) → ((p : ℕ) → AreSorted (tokens_at m p)) → AllByRecursion (HasAllValues n) ss → AreTrialsOf n m (stages_view ss) (trials_at m ss)
tried_are_of n m [] sorted full = tt
tried_are_of n m (s ∷ ss) sorted full = (tried_is_of n m s sorted full.0, tried_are_of n m ss sorted full.1)

-- ---- the places of the terms

terms_placed : (n : PlainNet) (t : PlainTransition) (arcs : List PlainArc) → AllByRecursion (IsSoundInput n t) arcs → AllByRecursion (IsPlaced (length n.places)) (flat_map terms_at arcs)
terms_placed n t [] sound = tt
terms_placed n t (arc ∷ arcs) sound = each_appended (IsPlaced (length n.places)) (terms_at arc) (flat_map terms_at arcs) (of_arc (binding_terms arc.expr)) (terms_placed n t arcs sound.1)
  where
    of_arc : (terms : List BindingTerm) → AllByRecursion (IsPlaced (length n.places)) (map (λ (term : BindingTerm). by_term arc.place term.pattern) terms)
    of_arc [] = tt
    of_arc (term ∷ terms) = (sound.0.sound.place_known, of_arc terms)

further_placed : (n : PlainNet) (t : PlainTransition) (k : ℕ) (left : List ℕ) (ss : List Stage) → Further n t left ss → AllByRecursion (IsPlaced k) ss
further_placed n t k [] [] none_left = tt
further_placed n t k (x ∷ left) [] d = elim d [ ]
further_placed n t k left (by_term place p ∷ ss) d = elim d [ ]
further_placed n t k left (by_value place p v ∷ ss) d = elim d [ ]
further_placed n t k left (by_equation x e ∷ ss) (next_equation left' x' e' ss' found further) = (tt, further_placed n t k (those_without (x ∷ []) left) ss further)
further_placed n t k left (by_size x ∷ ss) (next_small left' x' ss' unsolved small further) = (tt, further_placed n t k (those_without (x ∷ []) left) ss further)

pub stages_placed : (n : PlainNet) (m : Marking) (t : PlainTransition) (ss : List Stage) → IsSoundTransition n t → IsMarking n.places m → AreStages n t ss → AllByRecursion (IsPlaced (length m)) ss
stages_placed n m t ss sound marking are =
    subst (λ (k : ℕ). AllByRecursion (IsPlaced k) ss) (sym (marking_length n.places m marking))
    (subst (AllByRecursion (IsPlaced (length n.places))) (sym are.are) (each_appended (IsPlaced (length n.places)) (term_stages t) are.further (terms_placed n t t.inputs sound.inputs_sound) (further_placed n t (length n.places) _ are.further are.follow)))
