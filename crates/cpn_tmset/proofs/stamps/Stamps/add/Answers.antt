-- One token more has the stamp, and the stamps stay counted.
use Rattle.std.proofs.Common.{ℕ, ◌+◌, ◌<◌, List, length, sym, ap, subst, ◌∙◌, arith, nat_cmp}
use Rattle.std.specs.List.Sorted.{IsStrictlySortedBy}
use Rattle.std.specs.Map.{keys_of}
use Rattle.cpn_tmset.specs.StampCounts.{repeated}
use Rattle.cpn_definitions.proofs.KeyedEntries.{rises_from, each_inserted}
use Rattle.cpn_tmset.proofs.RepeatedStamps.{added, few_held, length-with_item}
use Rattle.cpn_tmset.proofs.stamps.Stamps.add.Goals as goal

pub overflow_add-held : goal.overflow_add-held
overflow_add-held c =
    let few = few_held c.args.stamp c.self.inside.counts.entries in
    let held = c.count_at-held.ensures.count in
    let long = ap (λ (ss : List ℕ). length ss) c.self.view_is in
    omega (arith, few, held, long, c.requires.room)

pub invariant_of-self-2 : goal.invariant_of-self-2
invariant_of-self-2 c =
    rw c.in_ok-insert.ensures.entries (
      (
        rises_from nat_cmp _ (subst (λ (es : List (ℕ × ℕ)). IsStrictlySortedBy nat_cmp (keys_of es)) c.in_ok-insert.ensures.entries c.in_ok-insert.ensures.ordered),
        each_inserted nat_cmp (λ n. 0 < n) c.args.stamp _ c.self.inside.counts.entries (omega arith) c.self.invariant.0.1,
      ),
      ap (λ n. n + 1) c.self.invariant.1
          ∙ sym (length-with_item c.args.stamp (repeated c.self.inside.counts.entries))
          ∙ ap (λ (ss : List ℕ). length ss) (sym (added c.args.stamp c.count_at-held.result c.self.inside.counts.entries c.self.invariant.0 c.count_at-held.ensures.count)),
    )

pub returns-clause-added : goal.returns-clause-added
returns-clause-added c = rw (c.in_ok-insert.ensures.entries, ← c.self.view_is) (added c.args.stamp c.count_at-held.result c.self.inside.counts.entries c.self.invariant.0 c.count_at-held.ensures.count)
