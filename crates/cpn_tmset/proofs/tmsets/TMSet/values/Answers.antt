-- The entries have the different values of the tokens, in order.
use Rattle.std.proofs.Common.{ℕ, ◌++◌, List, map, sym, ap, ◌∙◌}
use Rattle.cpn_definitions.specs.Value.{PlainValue}
use Rattle.cpn_core.specs.declared.values.Value.{Value}
use Rattle.cpn_tmset.specs.Listed.{values_of}
use Rattle.cpn_tmset.specs.ListedViews.{pointed_view}
use Rattle.cpn_tmset.specs.Views.{entries_view}
use Rattle.cpn_tmset.proofs.KeptTokens.{seen_sorted}
use Rattle.cpn_tmset.proofs.CountedTokens.{values_kept}
use Rattle.cpn_tmset.proofs.tmsets.TMSet.values.Goals as goal

pub loop-value-init : goal.loop-value-init
loop-value-init c =
    ap (λ (bs : List _). pointed_view bs ++ map (λ (e : PlainValue × List ℕ). e.0) (entries_view c.into_iter-value-iterator.result)) c.new-values.ensures.items
    ∙ ap (λ (es : List (Value × List ℕ)). map (λ (e : PlainValue × List ℕ). e.0) (entries_view es)) c.into_iter-value-iterator.ensures.into_iter_gives.0
    ∙ sym (values_kept (entries_view c.self.inside.entries.entries) c.self.invariant.0) ∙ ap values_of c.self.view_is

pub returns-in_err-push-clause-sorted : goal.returns-in_err-push-clause-sorted
returns-in_err-push-clause-sorted c = seen_sorted c.self.inside.entries.entries c.args.self.now c.self.invariant.0 c.self.view_is

pub returns-clause-sorted : goal.returns-clause-sorted
returns-clause-sorted c = seen_sorted c.self.inside.entries.entries c.args.self.now c.self.invariant.0 c.self.view_is
