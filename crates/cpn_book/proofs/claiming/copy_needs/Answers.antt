-- One more is put where the order has it; and what is in order stays as it is.
use Rattle.std.proofs.Common.{◌∙◌, ap, arith}
use Rattle.std.proofs.lemmas.List.{take_all}
use Rattle.cpn_core.specs.NeedsViews.{needed_views}
use Rattle.cpn_core.specs.Views.{value_view}
use Rattle.cpn_definitions.specs.Lists.{in_order}
use Rattle.cpn_definitions.specs.Occurrence.{needed_cmp}
use Rattle.cpn_book.proofs.CopiedNeeds.{copied_more, copied_all}
use Rattle.cpn_book.proofs.claiming.copy_needs.Goals as goal

pub loop-need-preserved : goal.loop-need-preserved
loop-need-preserved c =
    copied_more c.tokens-tokens.result.now c.loop-need.need-index c.need-item.result (record { place = c.need-item.result.place; value = value_view c.in_ok-copy.field-0; offset = c.need-item.result.offset }) c.loop-need.copied c.add.new.self (omega arith) c.need-item.is
    c.loop-need.invariant (ap (λ v. record { place = c.need-item.result.place; value = v; offset = c.need-item.result.offset }) c.in_ok-copy.ensures.same) c.in_ok-add.ensures.added

pub returns : goal.returns
returns c = record {
  copied =
      copied_all c.args.needs.now c.loop-need.copied c.tokens-tokens.result.now c.tokens-tokens.ensures.items c.tokens-tokens.ensures.in_order
      (c.loop-need.invariant ∙ ap (λ xs. in_order needed_cmp (needed_views xs)) (take_all c.loop-need.need-index c.tokens-tokens.result.now (omega arith)));
}
