-- The first stamp that is left makes the next group.
use Rattle.std.proofs.Common.{ℕ, ◌++◌, ◌∷◌, map, sym, ap, subst, ◌∙◌, append_assoc}
use Rattle.std.specs.Map.Iter.{deref_pair}
use Rattle.std.proofs.lemmas.List.{map-append}
use Rattle.std.proofs.lemmas.Map.Iter.{rest_more}
use Rattle.cpn_definitions.specs.Marking.{token_at}
use Rattle.cpn_core.specs.Views.{value_view}
use Rattle.cpn_tmset.specs.Listed.{groups}
use Rattle.cpn_tmset.specs.ListedViews.{groups_view, group_view}
use Rattle.cpn_tmset.specs.StampCounts.{repeated, IsCounted}
use Rattle.cpn_tmset.proofs.RepeatedStamps.{rest_is}
use Rattle.cpn_tmset.proofs.CountedTokens.{counted_group}
use Rattle.cpn_tmset.proofs.tmsets.push_groups.Goals as goal

pub loop-stamp-preserved : goal.loop-stamp-preserved
loop-stamp-preserved c =
    let v = value_view c.args.value.now in
    let e : ℕ × ℕ = (c.in-Some.stamp.now, c.in-Some.count.now) in
    let first = rest_more deref_pair c.loop-stamp.stamp-iterator c.next.new.self c.next.result (c.in-Some.stamp, c.in-Some.count) c.in-Some.is c.next.ensures.steps in
    let counted : IsCounted (e ∷ c.next.new.self) = subst IsCounted first c.loop-stamp.invariant.counted in
    let rest = groups (map (token_at v) (repeated c.next.new.self)) in
    record {
      counted = rest_is e c.next.new.self counted;
      pushed = ap (λ gs. groups_view gs ++ rest) c.in_ok-push.ensures.items
          ∙ ap (λ gs. gs ++ rest) (map-append group_view c.loop-stamp.found.items _)
          ∙ append_assoc (groups_view c.loop-stamp.found.items) _ rest
          ∙ ap (λ gs. groups_view c.loop-stamp.found.items ++ gs) (sym (counted_group v e c.next.new.self counted) ∙ sym (ap (λ es. groups (map (token_at v) (repeated es))) first))
          ∙ c.loop-stamp.invariant.pushed;
    }
