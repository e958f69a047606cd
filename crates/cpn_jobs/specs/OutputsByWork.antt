-- Law: the work of a transition makes the tokens that its element makes in the net.
use Rattle.std.proofs.Common.{◌≡◌, ℕ, List, [], ◌∷◌, ◌++◌, map, refl, ap}
use Rattle.cpn_definitions.specs.Net.{PlainArc, PlainNet, transition_at}
use Rattle.cpn_definitions.specs.Outcome.{Outcome, gives, faults, no_meaning, ◌>>=◌}
use Rattle.cpn_definitions.specs.Lists.{in_order}
use Rattle.cpn_definitions.specs.Meaning.{PlainBinding}
use Rattle.cpn_definitions.specs.Occurrence.{PlainElement, Made, made_cmp, gather, made_by, transition_delay, outputs_of}
use Rattle.cpn_jobs.specs.Work.{work_arc, work_of, made_by_arc, made_by_all, outputs_by}

module _ (n : PlainNet) (b : PlainBinding) (time : ℕ) where
  -- the arcs of the work make what those of the transition do
  all_made : (delay : ℕ) (arcs : List PlainArc) → made_by_all (made_by_arc n.functions b time delay) (map (work_arc n) arcs) ≡ gather (made_by n b time delay) arcs
  all_made delay [] = refl
  all_made delay (arc ∷ arcs) =
      let behind = λ (xs : List Made) (rest : Outcome (List Made)). rest >>= (λ ys. gives (xs ++ ys)) in
      ap (λ (rest : Outcome (List Made)). made_by n b time delay arc >>= (λ xs. behind xs rest)) (all_made delay arcs)

  behind_delay : (o : Outcome ℕ) (arcs : List PlainArc)
      → (o >>= (λ delay. made_by_all (made_by_arc n.functions b time delay) (map (work_arc n) arcs) >>= (λ made. gives (in_order made_cmp made))))
      ≡ (o >>= (λ delay. gather (made_by n b time delay) arcs >>= (λ made. gives (in_order made_cmp made))))
  behind_delay (gives delay) arcs = ap (λ (o : Outcome (List Made)). o >>= (λ made. gives (in_order made_cmp made))) (all_made delay arcs)
  behind_delay (faults fault) arcs = refl
  behind_delay no_meaning arcs = refl

-- what the work of an element's transition makes is what the element makes
pub work_makes : (n : PlainNet) (e : PlainElement) (time : ℕ) → outputs_by (work_of n e.transition) e.binding time ≡ outputs_of n e time
unfolding outputs_by outputs_of
work_makes n e time = behind_delay n e.binding time (transition_delay n.functions (transition_at n e.transition).delay e.binding time) (transition_at n e.transition).outputs
