-- Each value in turn is covered and taken.
use Rattle.std.proofs.Common.{◌≤◌, ℕ, ◌-◌, sym, ap, subst, ◌∙◌}
use Rattle.std.proofs.lemmas.Map.Iter.{rest_more}
use Rattle.std.specs.Map.Iter.{deref_pair}
use Rattle.cpn_definitions.specs.Value.{PlainValue}
use Rattle.cpn_core.specs.Views.{value_view}
use Rattle.cpn_mset.specs.MSets.{PlainMSet, IsMSet, appearances}
use Rattle.cpn_mset.specs.Views.{counts_view}
use Rattle.cpn_mset.proofs.CoveredMSets.{first_appears, rest_is, still_covered, still_left}
use Rattle.cpn_mset.proofs.msets.MSet.subtract.Goals as goal

pub take-requires : goal.take-requires
take-requires c =
    let first = rest_more deref_pair c.loop-value.value-iterator c.next.new.self c.next.result (c.in-Some.value, c.in-Some.number) c.in-Some.is c.next.ensures.steps in
    let number = ap (λ es. appearances (value_view c.in-Some.value.now) (counts_view es)) first ∙ first_appears (value_view c.in-Some.value.now, c.in-Some.number.now) (counts_view c.next.new.self) in
    record { held = subst (λ k. k ≤ appearances (value_view c.in-Some.value.now) c.loop-value.self) number (c.loop-value.invariant.covered (value_view c.in-Some.value.now)) }

pub loop-value-preserved : goal.loop-value-preserved
loop-value-preserved c =
    let first = rest_more deref_pair c.loop-value.value-iterator c.next.new.self c.next.result (c.in-Some.value, c.in-Some.number) c.in-Some.is c.next.ensures.steps in
    let seen = ap counts_view first in
    let e : PlainValue × ℕ = (value_view c.in-Some.value.now, c.in-Some.number.now) in
    let es = counts_view c.next.new.self in
    let is = subst IsMSet seen c.loop-value.invariant.is in
    record {
      is = rest_is e es is;
      covered = still_covered c.loop-value.self c.take.new.self e es is c.take.ensures.left (λ v. subst (λ (m : PlainMSet). appearances v m ≤ appearances v c.loop-value.self) seen (c.loop-value.invariant.covered v));
      left = λ v.
          still_left c.loop-value.self c.take.new.self e es is c.take.ensures.left v
          ∙ sym (ap (λ (m : PlainMSet). appearances v c.loop-value.self - appearances v m) seen)
          ∙ c.loop-value.invariant.left v;
    }
