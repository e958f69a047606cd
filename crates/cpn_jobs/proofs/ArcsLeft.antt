-- What the arcs that are left make, by the next of them; and what a refusal tells of what follows.
use Rattle.std.proofs.Common.{◌≡◌, ℕ, suc, ◌+◌, ◌<◌, List, ◌∷◌, ◌++◌, length, get_or, drop, refl, sym, ap, ◌∙◌, add-one, drop-cons}
use Rattle.cpn_definitions.specs.Lists.{with_items}
use Rattle.cpn_definitions.specs.Outcome.{Outcome, gives, faults, no_meaning, Fault, HasMeaning, ◌>>=◌}
use Rattle.cpn_definitions.specs.Occurrence.{Made, made_cmp}
use Rattle.cpn_definitions.proofs.Outcomes.{first_means}
use Rattle.cpn_core.specs.Faults.{fault_view}
use Rattle.cpn_eval.specs.declared.refusals.Refused.{Refused}
use Rattle.cpn_eval.specs.declared.refusals.Refused.TheVariants as refused
use Rattle.cpn_eval.specs.Answers.{Refuses}
use Rattle.cpn_jobs.specs.declared.work.WorkArc.{WorkArc}
use Rattle.cpn_jobs.specs.Views.{work_arc_view, work_arcs_view}
use Rattle.cpn_jobs.specs.Work.{PlainWorkArc, made_by_all}
use Rattle.cpn_jobs.specs.Gathered.{and_made}
use Rattle.cpn_jobs.proofs.AddedTokens.{with_items_append}

-- a refusal of the first part is one of the whole
pub refused_then : {A B : Type 0} (refusal : Refused) (o : Outcome A) (f : A → Outcome B) → Refuses refusal o → Refuses refusal (o >>= f)
refused_then refused.Memory o f told = tt
refused_then (refused.Fault fault) o f told = ap (λ p. p >>= f) told

-- ---- the outcome of the first arc and that of the others

abbrev joint : Outcome (List Made) → Outcome (List Made) → Outcome (List Made)
joint first rest = do
  xs ← first
  ys ← rest
  gives (xs ++ ys)

joint_gives : (first rest : Outcome (List Made)) (front new : List Made) → and_made front first ≡ gives new → and_made front (joint first rest) ≡ and_made new rest
joint_gives (gives xs) (gives ys) front new is = let same : with_items made_cmp xs front ≡ new = cc in ap gives (with_items_append made_cmp xs ys front ∙ ap (with_items made_cmp ys) same)
joint_gives (gives xs) (faults fault) front new is = refl
joint_gives (gives xs) no_meaning front new is = refl
joint_gives (faults fault) rest front new is = cc
joint_gives no_meaning rest front new is = cc

joint_faults : (first rest : Outcome (List Made)) (front : List Made) (fault : Fault) → and_made front first ≡ faults fault → and_made front (joint first rest) ≡ faults fault
joint_faults (gives xs) rest front fault is = cc
joint_faults (faults other) rest front fault is = is
joint_faults no_meaning rest front fault is = cc

module _ (f : PlainWorkArc → Outcome (List Made)) where
  pub next_means : (arc : PlainWorkArc) (arcs : List PlainWorkArc) (front : List Made) → HasMeaning (and_made front (made_by_all f (arc ∷ arcs))) → HasMeaning (f arc)
  next_means arc arcs front means = first_means (f arc) _ (first_means (made_by_all f (arc ∷ arcs)) _ means)

  module _ (arcs : List WorkArc) (i : ℕ) (arc : WorkArc) (front : List Made) (whole : Outcome (List Made)) where
    next_left : i < length arcs → arc ≡ get_or arcs i arc → work_arcs_view (drop i arcs) ≡ work_arc_view arc ∷ work_arcs_view (drop (i + 1) arcs)
    next_left lt is =
        let left : drop i arcs ≡ arc ∷ drop (i + 1) arcs = rw add-one (drop-cons arcs i arc lt ∙ ap (λ a. a ∷ drop (suc i) arcs) (sym is)) in
        ap work_arcs_view left

    -- with what the next arc makes, the others make the whole
    pub more_made : (new : List Made) → i < length arcs → arc ≡ get_or arcs i arc → and_made front (made_by_all f (work_arcs_view (drop i arcs))) ≡ whole → and_made front (f (work_arc_view arc)) ≡ gives new → and_made new (made_by_all f (work_arcs_view (drop (i + 1) arcs))) ≡ whole
    more_made new lt is so_far next =
        sym (joint_gives (f (work_arc_view arc)) (made_by_all f (work_arcs_view (drop (i + 1) arcs))) front new next)
        ∙ sym (ap (λ left. and_made front (made_by_all f left)) (next_left lt is))
        ∙ so_far

    -- a refusal at the next arc is one of the whole
    pub refused_made : (refusal : Refused) → i < length arcs → arc ≡ get_or arcs i arc → and_made front (made_by_all f (work_arcs_view (drop i arcs))) ≡ whole → Refuses refusal (and_made front (f (work_arc_view arc))) → Refuses refusal whole
    refused_made refused.Memory lt is so_far told = tt
    refused_made (refused.Fault fault) lt is so_far told =
        sym so_far
        ∙ ap (λ left. and_made front (made_by_all f left)) (next_left lt is)
        ∙ joint_faults (f (work_arc_view arc)) (made_by_all f (work_arcs_view (drop (i + 1) arcs))) front (fault_view fault) told
