-- A net with another guard and other variables of one transition: what is the same there, and so for the other transitions.
use Rattle.std.proofs.Common.{◌≡◌, ◌≢◌, ℕ, ◌+◌, ◌<◌, Bool, ◌==◌, ◌&&◌, nat_lt, List, [], ◌∷◌, length, get_or, Vec, Contains, refl, sym, ap, ap₂, ◌∙◌, subst}
use Rattle.std.specs.declared.alloc.Global.{Global}
use Rattle.std.proofs.lemmas.List.{length-set, get_or-set_other}
use Rattle.std.proofs.Math.ListN.{get_or-map}
use Rattle.std.proofs.Math.Seq.{map-set_same}
use Rattle.cpn_definitions.specs.Colour.{admits}
use Rattle.cpn_definitions.specs.Inscription.{PlainExpr}
use Rattle.cpn_definitions.specs.Marking.{Marking}
use Rattle.cpn_definitions.specs.Net.{PlainArc, PlainTransition, PlainNet, no_transition, transition_at, variable_at}
use Rattle.cpn_definitions.specs.Meaning.{PlainBinding}
use Rattle.cpn_definitions.specs.Outcome.{Outcome, gives, gives_and, ◌>>=◌}
use Rattle.cpn_definitions.specs.Lists.{in_order}
use Rattle.cpn_definitions.specs.Occurrence.{PlainElement, Needed, needed_cmp, gather, needed_by, needs_of, threshold_in, are_covered, binds, guard_holds, may_occur, covered}
use Rattle.cpn_definitions.specs.Enabled.{PlainEntry, IsEarliest}
use Rattle.cpn_definitions.proofs.RisingLists.{each_implied}
use Rattle.cpn_stages.specs.Reading.{ReadsOtherwise, HasTermOn}
use Rattle.cpn_stages.specs.Stages.{Stage, IsFirstSmall, Further, none_left, next_equation, next_small, AreStages}
use Rattle.cpn_search.specs.StageViews.{stages_view, HasAllValues}
use Rattle.cpn_search.specs.PlannedNets.{IsPlan, ArePlansFrom, ArePlansBut, IsPlanned, IsPlannedBut}
use Rattle.cpn_search.specs.declared.plan.Plan.{Plan}
use Rattle.cpn_search.specs.declared.plan.Stage as program
use Rattle.cpn_search.specs.declared.plan.Stage.TheVariants as stages
use Rattle.cpn_search.specs.declared.plans.Plans.{Plans}
use Rattle.cpn_due.specs.Due.{PlainEnabled}
use Rattle.cpn_index.specs.Index.{with_guard_at}
use Rattle.cpn_index.specs.Readers.{AreListed, AreReaders}
use Rattle.cpn_index.specs.declared.readers.Readers.{Readers}
use Rattle.cpn_index.specs.Retimed.{IsOfNet}

module _ (old : PlainNet) (t : ℕ) (guard : List PlainExpr) (vars : List ℕ) where
  abbrev new : PlainNet
  new = with_guard_at old t guard vars

  abbrev edited : PlainTransition
  edited = record (transition_at old t) { guard = guard; vars = vars }

  as_many : length new.transitions ≡ length old.transitions
  as_many = length-set old.transitions t edited

  other_transition : (k : ℕ) → k ≢ t → transition_at new k ≡ transition_at old k
  other_transition k other = get_or-set_other old.transitions t k edited no_transition other

  -- its input arcs stay too
  same_inputs : (k : ℕ) → (transition_at new k).inputs ≡ (transition_at old k).inputs
  same_inputs k =
      let inputs = λ (u : PlainTransition). u.inputs in
      sym (get_or-map inputs new.transitions k no_transition) ∙ ap (λ (lists : List (List PlainArc)). get_or lists k []) (map-set_same inputs old.transitions t edited no_transition refl) ∙ get_or-map inputs old.transitions k no_transition

  -- ---- elements

  same_needs : (e : PlainElement) → needs_of new e ≡ needs_of old e
  unfolding needs_of
  same_needs e = ap (λ (arcs : List PlainArc). gather (needed_by old.functions e.binding) arcs >>= (λ needs. gives (in_order needed_cmp needs))) (same_inputs e.transition)

  same_binds : (xs : List ℕ) (b : PlainBinding) → binds new xs b ≡ binds old xs b
  same_binds [] [] = refl
  same_binds [] (pair ∷ pairs) = refl
  same_binds (x ∷ xs) [] = refl
  same_binds (x ∷ xs) (pair ∷ pairs) = ap (λ rest. (x == pair.0) && admits (variable_at old x).colour pair.1 && rest) (same_binds xs pairs)

  other_may : (e : PlainElement) → e.transition ≢ t → may_occur new e ≡ may_occur old e
  other_may e other =
      ap (λ (u : PlainTransition). nat_lt e.transition (length new.transitions) && binds new u.vars e.binding && guard_holds old.functions u.guard e.binding) (other_transition e.transition other)
      ∙ ap₂ (λ (k : ℕ) (b : Bool). nat_lt e.transition k && b && guard_holds old.functions (transition_at old e.transition).guard e.binding) as_many (same_binds (transition_at old e.transition).vars e.binding)

  pub other_of_net : (x : PlainEnabled) → x.entry.element.transition ≢ t → IsOfNet old x → IsOfNet new x
  other_of_net x other is = record { may = other_may x.entry.element other ∙ is.may; needs = same_needs x.entry.element ∙ is.needs }

  other_covered : (m : Marking) (e : PlainElement) (time : ℕ) → e.transition ≢ t → covered new m time e ≡ covered old m time e
  unfolding covered
  other_covered m e time other = ap₂ (λ (b : Bool) (o : Outcome (List Needed)). b && gives_and o (are_covered (threshold_in old time) m)) (other_may e other) (same_needs e)

  pub other_earliest : (m : Marking) (x : PlainEntry) → x.element.transition ≢ t → IsEarliest old m 0 x → IsEarliest new m 0 x
  other_earliest m x other is = record {
    not_before = is.not_before;
    is_covered = other_covered m x.element x.earliest other ∙ is.is_covered;
    not_earlier = λ s from below. other_covered m x.element s other ∙ is.not_earlier s from below;
  }

  pub earliest_other : (m : Marking) (x : PlainEntry) → x.element.transition ≢ t → IsEarliest new m 0 x → IsEarliest old m 0 x
  earliest_other m x other is = record {
    not_before = is.not_before;
    is_covered = sym (other_covered m x.element x.earliest other) ∙ is.is_covered;
    not_earlier = λ s from below. sym (other_covered m x.element s other) ∙ is.not_earlier s from below;
  }

  -- ---- plans

  same_small : (xs : List ℕ) (x : ℕ) → IsFirstSmall old xs x → IsFirstSmall new xs x
  same_small xs x is = record { before = is.before; behind = is.behind; stands = is.stands; not_before = is.not_before; small = is.small }

  same_further : (u : PlainTransition) (left : List ℕ) (ss : List Stage) → Further old u left ss → Further new u left ss
  same_further u _ _ none_left = none_left
  same_further u _ _ (next_equation left x e ss solving rest) = next_equation left x e ss solving (same_further u _ ss rest)
  same_further u _ _ (next_small left x ss none small rest) = next_small left x ss none (same_small left x small) (same_further u _ ss rest)

  same_values : (stage : program.Stage) → HasAllValues old stage → HasAllValues new stage
  same_values (stages.Term place term) all = all
  same_values (stages.Equation variable equation) all = all
  same_values (stages.Small variable values) all = all

  other_plan : (k : ℕ) (plan : Plan) → k ≢ t → IsPlan old k plan → IsPlan new k plan
  other_plan k plan other is = record {
    stages = subst (λ (u : PlainTransition). AreStages new u (stages_view plan.stages.items)) (sym (other_transition k other)) (record { further = is.stages.further; are = is.stages.are; follow = same_further _ _ _ is.stages.follow });
    values = each_implied (HasAllValues old) (HasAllValues new) plan.stages.items same_values is.values;
  }

  other_plans : (k : ℕ) (plans : List Plan) → ArePlansFrom old k plans → ArePlansBut t new k plans
  other_plans k [] are = tt
  other_plans k (plan ∷ plans) are = (λ other. other_plan k plan other are.0, other_plans (k + 1) plans are.1)

  pub planned_but : (plans : Plans) → IsPlanned old plans → IsPlannedBut t new plans
  planned_but plans planned = record { each = planned.each ∙ sym as_many; are = other_plans 0 plans.plans.items planned.are }

  -- ---- readers

  same_readers_of : (Bears : PlainTransition → ℕ → Type 0) → ((u v : PlainTransition) (p : ℕ) → u.inputs ≡ v.inputs → Bears u p → Bears v p) → (lists : List (Vec ℕ Global)) → AreListed old Bears lists → AreListed new Bears lists
  same_readers_of Bears by_inputs lists are = record {
    as_many = are.as_many;
    rising = are.rising;
    exact = λ p lt k. (
      λ h. let is = (are.exact p lt k).0 h in (subst (λ (many : ℕ). k < many) (sym as_many) is.0, by_inputs (transition_at old k) (transition_at new k) p (sym (same_inputs k)) is.1),
      λ is. (are.exact p lt k).1 (subst (λ (many : ℕ). k < many) as_many is.0, by_inputs (transition_at new k) (transition_at old k) p (same_inputs k) is.1),
    );
  }

  pub same_readers : (readers : Readers) → AreReaders old readers → AreReaders new readers
  same_readers readers are = record {
    with_term = same_readers_of HasTermOn (λ u v p same has. record { arc = has.arc; is_input = subst (λ (arcs : List PlainArc). Contains arcs has.arc) same has.is_input; from_it = has.from_it; carries = has.carries }) readers.with_term.items are.with_term;
    otherwise = same_readers_of ReadsOtherwise (λ u v p same reads. record { arc = reads.arc; is_input = subst (λ (arcs : List PlainArc). Contains arcs reads.arc) same reads.is_input; from_it = reads.from_it; otherwise = reads.otherwise }) readers.otherwise.items are.otherwise;
  }
