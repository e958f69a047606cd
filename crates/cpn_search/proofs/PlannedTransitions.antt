-- Plans of transitions: one more, and the one of a number.
use Rattle.std.proofs.Common.{◌≡◌, ℕ, zero, suc, ◌+◌, ◌<◌, List, [], ◌∷◌, ◌++◌, length, get_or, slice_set, refl, sym, ap, ◌∙◌, subst, arith}
use Rattle.std.proofs.lemmas.List.{length-map}
use Rattle.cpn_definitions.specs.Net.{PlainNet}
use Rattle.cpn_core.specs.Nets.{transition_view, net_view}
use Rattle.cpn_core.specs.declared.nets.Net.{Net}
use Rattle.cpn_search.specs.PlannedNets.{IsPlan, ArePlansFrom, ArePlansBut, IsPlanned, IsPlannedBut}
use Rattle.cpn_search.specs.declared.plan.Plan.{Plan}
use Rattle.cpn_search.specs.declared.plans.Plans.{Plans}

-- the plan of the next transition behind those before
plans_more : (n : PlainNet) (k : ℕ) (plans : List Plan) (plan : Plan) → ArePlansFrom n k plans → IsPlan n (k + length plans) plan → ArePlansFrom n k (plans ++ plan ∷ [])
plans_more n k [] plan are is = (subst (λ (t : ℕ). IsPlan n t plan) (omega arith) is, tt)
plans_more n k (p ∷ plans) plan are is = (are.0, plans_more n (k + 1) plans plan are.1 (subst (λ (t : ℕ). IsPlan n t plan) (omega arith) is))

pub one_more : (n : PlainNet) (t : ℕ) (plans new : List Plan) (plan : Plan) → ArePlansFrom n 0 plans → length plans ≡ t → IsPlan n t plan → new ≡ plans ++ plan ∷ [] → ArePlansFrom n 0 new
one_more n t plans new plan are number is now = subst (ArePlansFrom n 0) (sym now) (plans_more n 0 plans plan are (subst (λ (i : ℕ). IsPlan n i plan) (omega (arith, number)) is))

plan_from : (n : PlainNet) (k : ℕ) (plans : List Plan) (t : ℕ) (plan : Plan) → t < length plans → plan ≡ get_or plans t plan → ArePlansFrom n k plans → IsPlan n (k + t) plan
plan_from n k [] t plan lt is are = absurd (omega arith)
plan_from n k (p ∷ plans) zero plan lt is are = subst (λ (t : ℕ). IsPlan n t plan) (omega arith) (subst (IsPlan n k) (sym is) are.0)
plan_from n k (p ∷ plans) (suc t) plan lt is are = subst (λ (i : ℕ). IsPlan n i plan) (omega arith) (plan_from n (k + 1) plans t plan (omega arith) is are.1)

-- the plan of a transition
pub plan_at : (n : PlainNet) (plans : List Plan) (t : ℕ) (plan : Plan) → t < length plans → plan ≡ get_or plans t plan → ArePlansFrom n 0 plans → IsPlan n t plan
plan_at n plans t plan lt is are = subst (λ (i : ℕ). IsPlan n i plan) (omega arith) (plan_from n 0 plans t plan lt is are)

-- ---- the plan of one transition is made anew

-- plans behind the one that may be any
plans_behind : (n : PlainNet) (but k : ℕ) (plans : List Plan) → but < k → ArePlansBut but n k plans → ArePlansFrom n k plans
plans_behind n but k [] lt are = tt
plans_behind n but k (p ∷ plans) lt are = (are.0 (λ same. absurd (omega (arith, same, lt))), plans_behind n but (k + 1) plans (omega (arith, lt)) are.1)

plans_with : (n : PlainNet) (k : ℕ) (plans : List Plan) (t : ℕ) (plan : Plan) → ArePlansBut (k + t) n k plans → IsPlan n (k + t) plan → ArePlansFrom n k (slice_set plans t plan)
plans_with n k [] t plan are is = tt
plans_with n k (p ∷ plans) zero plan are is = (subst (λ (i : ℕ). IsPlan n i plan) (omega arith) is, plans_behind n (k + 0) (k + 1) plans (omega arith) are.1)
plans_with n k (p ∷ plans) (suc t) plan are is =
    let number : k + suc t ≡ k + 1 + t = omega arith in
    (are.0 (λ same. absurd (omega (arith, same))), plans_with n (k + 1) plans t plan (subst (λ (i : ℕ). ArePlansBut i n (k + 1) plans) number are.1) (subst (λ (i : ℕ). IsPlan n i plan) number is))

renewed : (n : PlainNet) (plans : List Plan) (t : ℕ) (plan : Plan) → ArePlansBut t n 0 plans → IsPlan n t plan → ArePlansFrom n 0 (slice_set plans t plan)
renewed n plans t plan are is =
    let number : t ≡ 0 + t = omega arith in
    plans_with n 0 plans t plan (subst (λ (i : ℕ). ArePlansBut i n 0 plans) number are) (subst (λ (i : ℕ). IsPlan n i plan) number is)

as_many : (plans : List Plan) (t : ℕ) (plan : Plan) → length (slice_set plans t plan) ≡ length plans
as_many [] t plan = refl
as_many (p ∷ plans) zero plan = refl
as_many (p ∷ plans) (suc t) plan = ap suc (as_many plans t plan)

pub planned_anew : (n : PlainNet) (plans new : Plans) (t : ℕ) (plan : Plan) → IsPlannedBut t n plans → IsPlan n t plan → new.plans.items ≡ slice_set plans.plans.items t plan → IsPlanned n new
planned_anew n plans new t plan planned is now = record {
  each = ap length now ∙ as_many plans.plans.items t plan ∙ planned.each;
  are = subst (ArePlansFrom n 0) (sym now) (renewed n plans.plans.items t plan planned.are is);
}

-- there are as many plans as transitions
pub planned_number : (n : Net) (plans : Plans) → IsPlanned (net_view n) plans → length plans.plans.items ≡ length n.transitions.items
planned_number n plans planned = planned.each ∙ length-map n.transitions.items transition_view
