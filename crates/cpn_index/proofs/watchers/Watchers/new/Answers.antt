-- One place more on which nothing waits.
use Rattle.std.proofs.Common.{◌+◌, List, [], ◌∷◌, length, subst, sym, ap, ◌∙◌}
use Rattle.std.specs.List.{AllByRecursion}
use Rattle.std.proofs.lemmas.List.{length-append}
use Rattle.cpn_index.specs.declared.waiting.Waiting.{Waiting}
use Rattle.cpn_index.proofs.WatchedPlaces.{IsUnwatched, unwatched_more}
use Rattle.cpn_index.proofs.watchers.Watchers.new.Goals as goal

pub loop-place-init : goal.loop-place-init
loop-place-init c = record {
  empty = subst (AllByRecursion IsUnwatched) (sym c.in_ok-empty.ensures.items) tt;
  count = ap (λ (places : List Waiting). length places) c.in_ok-empty.ensures.items;
}

pub loop-place-preserved : goal.loop-place-preserved
loop-place-preserved c =
    let grown = c.in_ok-push.ensures.items in
    record {
      empty = subst (AllByRecursion IsUnwatched) (sym grown) (unwatched_more c.loop-place.empty.items c.new.result c.loop-place.invariant.empty c.new.ensures.none);
      count = ap (λ (places : List Waiting). length places) grown ∙ length-append c.loop-place.empty.items (c.new.result ∷ []) ∙ ap (λ n. n + 1) c.loop-place.invariant.count;
    }
