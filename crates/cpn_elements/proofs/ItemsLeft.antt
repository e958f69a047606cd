-- What the arcs and the conjuncts that are left give, by the next of them.
use Rattle.std.proofs.Common.{◌≡◌, ℕ, ◌+◌, ◌<◌, Bool, true, false, ◌&&◌, List, ◌∷◌, map, length, get_or, drop, sym, ap, ◌∙◌, subst, Ordering}
use Rattle.cpn_definitions.specs.Net.{PlainArc}
use Rattle.cpn_definitions.specs.Inscription.{PlainExpr, Functions}
use Rattle.cpn_definitions.specs.Outcome.{Outcome, gives, gives_and}
use Rattle.cpn_definitions.specs.Meaning.{PlainBinding, meaning, is_true}
use Rattle.cpn_definitions.specs.Occurrence.{gather, guard_holds}
use Rattle.cpn_definitions.proofs.ListItems.{next_left}
use Rattle.cpn_core.specs.declared.inscriptions.Expr.{Expr}
use Rattle.cpn_core.specs.Inscriptions.{expr_view}
use Rattle.cpn_core.specs.declared.nets.PlaceArc.{PlaceArc}
use Rattle.cpn_core.specs.Nets.{arc_view, arcs_view}
use Rattle.cpn_eval.specs.declared.refusals.Refused.{Refused}
use Rattle.cpn_eval.specs.declared.refusals.Refused.TheVariants as refused
use Rattle.cpn_core.specs.Faults.{fault_view}
use Rattle.cpn_eval.specs.Answers.{Refuses}
use Rattle.cpn_elements.specs.Guards.{GuardHasMeaning}
use Rattle.cpn_elements.specs.Summed.{and_these}
use Rattle.cpn_elements.proofs.GatheredTerms.{gather_gives, gather_faults}

module _ {X : Type 0} (c : X → X → Ordering) (f : PlainArc → Outcome (List X)) (arcs : List PlaceArc) (i : ℕ) (arc : PlaceArc) (front : List X) (whole : Outcome (List X)) where
  -- with what the next arc gives, the others give the whole
  pub more_gathered : (new : List X) → i < length arcs → arc ≡ get_or arcs i arc → and_these c front (gather f (arcs_view (drop i arcs))) ≡ whole → and_these c front (f (arc_view arc)) ≡ gives new → and_these c new (gather f (arcs_view (drop (i + 1) arcs))) ≡ whole
  more_gathered new lt is so_far next =
      sym (gather_gives c f (arc_view arc) (arcs_view (drop (i + 1) arcs)) front new next)
      ∙ sym (ap (λ left. and_these c front (gather f left)) (next_left arc_view arcs i arc lt is))
      ∙ so_far

  -- a refusal at the next arc is one of the whole
  pub refused_gathered : (refusal : Refused) → i < length arcs → arc ≡ get_or arcs i arc → and_these c front (gather f (arcs_view (drop i arcs))) ≡ whole → Refuses refusal (and_these c front (f (arc_view arc))) → Refuses refusal whole
  refused_gathered refused.Memory lt is so_far told = tt
  refused_gathered (refused.Fault fault) lt is so_far told =
      sym so_far
      ∙ ap (λ left. and_these c front (gather f left)) (next_left arc_view arcs i arc lt is)
      ∙ gather_faults c f (arc_view arc) (arcs_view (drop (i + 1) arcs)) front (fault_view fault) told

-- ---- guards

module _ (funs : Functions) (b : PlainBinding) (es : List Expr) (i : ℕ) (e : Expr) (lt : i < length es) (is : e ≡ get_or es i e) where
  -- the next conjunct and those behind it
  left : guard_holds funs (map expr_view (drop i es)) b ≡ (gives_and (meaning funs (expr_view e) b 0) is_true && guard_holds funs (map expr_view (drop (i + 1) es)) b)
  left = ap (λ (conjuncts : List PlainExpr). guard_holds funs conjuncts b) (next_left expr_view es i e lt is)

  -- where the next one is true, the guard holds as those behind it do
  pub true_conjunct : true ≡ gives_and (meaning funs (expr_view e) b 0) is_true → guard_holds funs (map expr_view (drop i es)) b ≡ guard_holds funs (map expr_view (drop (i + 1) es)) b
  true_conjunct holds = left ∙ ap (λ (x : Bool). x && guard_holds funs (map expr_view (drop (i + 1) es)) b) (sym holds)

  -- and else it does not hold
  pub false_conjunct : false ≡ gives_and (meaning funs (expr_view e) b 0) is_true → guard_holds funs (map expr_view (drop i es)) b ≡ false
  false_conjunct fails = left ∙ ap (λ (x : Bool). x && guard_holds funs (map expr_view (drop (i + 1) es)) b) (sym fails)

  -- the next one has a meaning, and so have those behind it
  left_mean : GuardHasMeaning funs (map expr_view (drop i es)) b → GuardHasMeaning funs (expr_view e ∷ map expr_view (drop (i + 1) es)) b
  left_mean all = subst (λ (conjuncts : List PlainExpr). GuardHasMeaning funs conjuncts b) (next_left expr_view es i e lt is) all

  pub others_mean : GuardHasMeaning funs (map expr_view (drop i es)) b → GuardHasMeaning funs (map expr_view (drop (i + 1) es)) b
  others_mean all = (left_mean all).1
