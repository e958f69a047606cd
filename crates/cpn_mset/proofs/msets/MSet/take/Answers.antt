-- The value appears less often, or no more.
use Rattle.std.proofs.Common.{◌≡◌, ℕ, ◌-◌, ◌∙◌, ap, sym, subst, arith, List, refl}
use Rattle.std.specs.List.Sorted.{IsStrictlySortedBy}
use Rattle.std.specs.Map.{keys_of}
use Rattle.std.specs.Option.{unwrap_or}
use Rattle.cpn_core.specs.declared.values.Value.{Value}
use Rattle.cpn_core.specs.Same.{value_order}
use Rattle.cpn_core.specs.Views.{value_view}
use Rattle.cpn_mset.specs.MSets.{appearances}
use Rattle.cpn_mset.specs.Views.{counts_view}
use Rattle.cpn_mset.proofs.Appearances.{in_entries, removed, removed_is, numbered, numbered_is, with_fewer}
use Rattle.cpn_mset.proofs.msets.MSet.take.Goals as goal

pub invariant_of-self : goal.invariant_of-self
invariant_of-self c =
    rw c.remove.ensures.entries
    (removed_is c.args.value.now c.self.inside.counts.entries (subst (λ (es : List (Value × ℕ)). IsStrictlySortedBy value_order (keys_of es)) c.remove.ensures.entries c.remove.ensures.ordered) c.self.invariant)

pub invariant_of-self-in-Some : goal.invariant_of-self-in-Some
invariant_of-self-in-Some c =
    let left = c.count.result - c.args.number in
    let written = c.get_mut.follows.holds left in
    rw written.0
    (numbered_is c.args.value.now c.self.inside.counts.entries left (omega arith) (subst (λ (es : List (Value × ℕ)). IsStrictlySortedBy value_order (keys_of es)) written.0 written.4) c.self.invariant)

pub returns-then-left-eq0 : goal.returns-then-left-eq0
returns-then-left-eq0 c = record {
  left = λ v.
      rw (c.remove.ensures.entries, ← c.self.view_is)
      (removed c.args.value.now c.self.inside.counts.entries c.self.invariant v
      ∙ with_fewer v (value_view c.args.value.now) (counts_view c.self.inside.counts.entries) c.count.result c.args.number 0 (c.count.ensures.number ∙ ap (appearances (value_view c.args.value.now)) (sym c.self.view_is)) (omega arith));
}

pub returns-in-Some : goal.returns-in-Some
returns-in-Some c = record {
  left = λ v.
      let left = c.count.result - c.args.number in
      let written = c.get_mut.follows.holds left in
      rw (written.0, ← c.self.view_is)
      (numbered c.args.value.now c.self.inside.counts.entries left c.in-Some.count.now (sym c.in-Some.ensures.value) v
      ∙ with_fewer v (value_view c.args.value.now) (counts_view c.self.inside.counts.entries) c.count.result c.args.number left (c.count.ensures.number ∙ ap (appearances (value_view c.args.value.now)) (sym c.self.view_is)) refl);
}

pub returns-in_default : goal.returns-in_default
returns-in_default c =
    let none : c.count.result ≡ 0 =
    c.count.ensures.number ∙ ap (appearances (value_view c.args.value.now)) (sym c.self.view_is) ∙ in_entries (value_view c.args.value.now) c.self.inside.counts.entries ∙ ap (λ o. unwrap_or o 0) (sym c.in_default.ensures.value) in
    absurd (omega arith)
