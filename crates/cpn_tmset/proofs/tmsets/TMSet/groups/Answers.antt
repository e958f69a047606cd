-- The tokens of the first entry that is left have groups of their own.
use Rattle.std.proofs.Common.{ℕ, ◌++◌, List, ◌∷◌, map, sym, ap, subst, ◌∙◌, append_assoc}
use Rattle.std.specs.Map.Iter.{deref_pair}
use Rattle.std.proofs.lemmas.Map.Iter.{rest_more}
use Rattle.cpn_definitions.specs.Value.{PlainValue}
use Rattle.cpn_definitions.specs.Marking.{token_at}
use Rattle.cpn_core.specs.Views.{value_view}
use Rattle.cpn_core.specs.declared.values.Value.{Value}
use Rattle.cpn_tmset.specs.Listed.{groups}
use Rattle.cpn_tmset.specs.ListedViews.{groups_view}
use Rattle.cpn_tmset.specs.TMSets.{AreKept}
use Rattle.cpn_tmset.specs.Views.{entries_view, tokens_view}
use Rattle.cpn_tmset.proofs.KeptTokens.{rest_kept, seen_sorted}
use Rattle.cpn_tmset.proofs.CountedTokens.{groups_of_value}
use Rattle.cpn_tmset.proofs.tmsets.TMSet.groups.Goals as goal

pub loop-value-preserved : goal.loop-value-preserved
loop-value-preserved c =
    let e : PlainValue × List ℕ = (value_view c.in-Some.value.now, c.in-Some.stamps.now) in
    let es = entries_view c.next.new.self in
    let first = rest_more deref_pair c.loop-value.value-iterator c.next.new.self c.next.result (c.in-Some.value, c.in-Some.stamps) c.in-Some.is c.next.ensures.steps in
    let kept : AreKept (e ∷ es) = subst (λ (fs : List (Value × List ℕ)). AreKept (entries_view fs)) first c.loop-value.invariant.kept in
    record {
      kept = rest_kept e es kept;
      found = ap (λ gs. gs ++ groups (tokens_view c.next.new.self)) c.in_ok-push_groups.ensures.pushed
          ∙ append_assoc (groups_view c.loop-value.found.items) (groups (map (token_at e.0) e.1)) (groups (tokens_view c.next.new.self))
          ∙ ap (λ gs. groups_view c.loop-value.found.items ++ gs) (sym (groups_of_value e es kept) ∙ sym (ap (λ (fs : List (Value × List ℕ)). groups (tokens_view fs)) first))
          ∙ c.loop-value.invariant.found;
    }

pub returns-in_err-push_groups-clause-sorted : goal.returns-in_err-push_groups-clause-sorted
returns-in_err-push_groups-clause-sorted c = seen_sorted c.self.inside.entries.entries c.args.self.now c.self.invariant.0 c.self.view_is

pub returns-clause-sorted : goal.returns-clause-sorted
returns-clause-sorted c = seen_sorted c.self.inside.entries.entries c.args.self.now c.self.invariant.0 c.self.view_is
