-- The list of its class has one more.
use Rattle.std.proofs.Common.{◌∙◌, [], ◌∷◌, ◌++◌, ap}
use Rattle.std.proofs.lemmas.List.{map-append}
use Rattle.cpn_flat.specs.WrittenViews.{referred_view, written_view}
use Rattle.cpn_flat.proofs.WrittenLists.{pushed_at}
use Rattle.cpn_flat.proofs.written.push_written.Goals as goal

pub returns-in_ok-push-in-Some-clause-pushed : goal.returns-in_ok-push-in-Some-clause-pushed
returns-in_ok-push-in-Some-clause-pushed c =
    rw c.in-Some.is (pushed_at (λ list. written_view list.items) c.args.lists.now.items c.args.class c.index_mut.result.now c.push.new.self (referred_view c.in-Some.initial) c.requires.class
    (ap written_view c.in_ok-push-in-Some.ensures.items ∙ map-append referred_view c.index_mut.result.now.items (c.in-Some.initial ∷ []) ∙ ap (λ list. written_view list.items ++ referred_view c.in-Some.initial ∷ []) c.index_mut.ensures.value))
