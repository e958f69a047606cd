-- The entry goes where it counts one token, and counts one less otherwise.
use Rattle.std.proofs.Common.{◌≡◌, ℕ, ◌-◌, ◌<◌, List, ap, subst, ◌∙◌, arith, nat_cmp}
use Rattle.std.specs.List.Sorted.{IsStrictlySortedBy}
use Rattle.std.specs.Map.{keys_of, set_value}
use Rattle.std.specs.BTreeMap.{is_at}
use Rattle.cpn_tmset.specs.StampCounts.{repeated}
use Rattle.cpn_definitions.proofs.KeyedEntries.{rises_from, each_left, each_set, of_found}
use Rattle.cpn_tmset.proofs.LatestStamps.{removed_none}
use Rattle.cpn_tmset.proofs.stamps.take_one.Goals as goal

pub overflow_sub-held : goal.overflow_sub-held
overflow_sub-held c = let some = of_found nat_cmp (λ n. 0 < n) c.args.stamp c.args.count c.args.counts.now.entries c.requires.counted.1 c.requires.held in omega (arith, some)

pub returns-then-count-eq1-clause-counted : goal.returns-then-count-eq1-clause-counted
returns-then-count-eq1-clause-counted c =
    rw c.remove.ensures.entries (
      rises_from nat_cmp _ (subst (λ (es : List (ℕ × ℕ)). IsStrictlySortedBy nat_cmp (keys_of es)) c.remove.ensures.entries c.remove.ensures.ordered),
      each_left nat_cmp (λ n. 0 < n) c.args.stamp c.args.counts.now.entries c.requires.counted.1,
    )

pub returns-then-count-eq1-clause-left : goal.returns-then-count-eq1-clause-left
returns-then-count-eq1-clause-left c =
    let none : 0 ≡ c.args.count - 1 = omega arith in
    ap repeated c.remove.ensures.entries ∙ removed_none c.args.stamp c.args.counts.now.entries ∙ ap (λ n. repeated (set_value (is_at (nat_cmp c.args.stamp)) c.args.counts.now.entries n)) none

pub returns-in-Some-clause-counted : goal.returns-in-Some-clause-counted
returns-in-Some-clause-counted c =
    let written = c.get_mut.follows.holds (c.args.count - 1) in
    let some = of_found nat_cmp (λ n. 0 < n) c.args.stamp c.args.count c.args.counts.now.entries c.requires.counted.1 c.requires.held in
    rw written.0 (
      rises_from nat_cmp _ (subst (λ (es : List (ℕ × ℕ)). IsStrictlySortedBy nat_cmp (keys_of es)) written.0 written.4),
      each_set nat_cmp (λ n. 0 < n) c.args.stamp (c.args.count - 1) c.args.counts.now.entries (omega arith) c.requires.counted.1,
    )
