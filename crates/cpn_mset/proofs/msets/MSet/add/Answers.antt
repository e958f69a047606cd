-- The value appears as often as it did, and so many times more.
use Rattle.std.proofs.Common.{ℕ, ◌+◌, ◌∙◌, ap, sym, subst, arith, List}
use Rattle.std.specs.List.Sorted.{IsStrictlySortedBy}
use Rattle.std.specs.Map.{keys_of}
use Rattle.cpn_core.specs.declared.values.Value.{Value}
use Rattle.cpn_core.specs.Same.{value_order}
use Rattle.cpn_core.specs.Views.{value_view}
use Rattle.cpn_mset.specs.MSets.{appearances}
use Rattle.cpn_mset.specs.Views.{counts_view}
use Rattle.cpn_mset.proofs.Appearances.{inserted, inserted_is, with_more}
use Rattle.cpn_mset.proofs.msets.MSet.add.Goals as goal

pub invariant_of-self-2 : goal.invariant_of-self-2
invariant_of-self-2 c =
    rw c.in_ok-insert.ensures.entries
    (inserted_is c.args.value _ c.self.inside.counts.entries (omega arith) (subst (λ (es : List (Value × ℕ)). IsStrictlySortedBy value_order (keys_of es)) c.in_ok-insert.ensures.entries c.in_ok-insert.ensures.ordered) c.self.invariant)

pub returns-clause-added : goal.returns-clause-added
returns-clause-added c = λ v.
    rw (c.in_ok-insert.ensures.entries, ← c.self.view_is)
    (inserted c.args.value (c.count.result + c.args.number) c.self.inside.counts.entries v
    ∙ with_more v (value_view c.args.value) (counts_view c.self.inside.counts.entries) c.count.result c.args.number (c.count.ensures.number ∙ ap (appearances (value_view c.args.value)) (sym c.self.view_is)))
