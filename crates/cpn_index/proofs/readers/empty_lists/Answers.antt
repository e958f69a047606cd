-- One empty list more.
use Rattle.std.proofs.Common.{ℕ, ◌+◌, List, [], ◌∷◌, length, Vec, Global, ap, ◌∙◌}
use Rattle.std.proofs.lemmas.List.{length-append}
use Rattle.cpn_index.specs.Readers.{numbers_at}
use Rattle.cpn_index.proofs.ReaderLists.{empty_more}
use Rattle.cpn_index.proofs.readers.empty_lists.Goals as goal

pub loop-place-init : goal.loop-place-init
loop-place-init c = record {
  as_many = ap (λ (lists : List (Vec ℕ Global)). length lists) c.new-lists.ensures.items;
  empty = λ p. ap (λ (lists : List (Vec ℕ Global)). numbers_at lists p) c.new-lists.ensures.items;
}

pub loop-place-preserved : goal.loop-place-preserved
loop-place-preserved c =
    let grown = c.in_ok-push.ensures.items in
    record {
      as_many = ap (λ (lists : List (Vec ℕ Global)). length lists) grown ∙ length-append c.loop-place.lists.items (c.new.result ∷ []) ∙ ap (λ n. n + 1) c.loop-place.invariant.as_many;
      empty = λ p. ap (λ (lists : List (Vec ℕ Global)). numbers_at lists p) grown ∙ empty_more c.loop-place.lists.items c.new.result c.new.ensures.items c.loop-place.invariant.empty p;
    }
