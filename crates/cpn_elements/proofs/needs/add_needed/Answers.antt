-- Each turn adds one of the tokens that are left, and the last takes the value itself.
use Rattle.std.proofs.Common.{◌≡◌, ap, ◌∙◌, arith}
use Rattle.cpn_definitions.specs.Lists.{with_item}
use Rattle.cpn_definitions.specs.Occurrence.{Needed, needed_cmp}
use Rattle.cpn_core.specs.Views.{value_view}
use Rattle.cpn_elements.proofs.GatheredTerms.{one_of, last_of}
use Rattle.cpn_elements.proofs.needs.add_needed.Goals as goal

pub loop-token-preserved : goal.loop-token-preserved
loop-token-preserved c =
    let need : Needed = record { place = c.args.place; value = value_view c.args.term.value; offset = c.args.term.delay } in
    let added : c.add.new.self ≡ with_item needed_cmp need c.loop-token.needs =
    c.in_ok-add.ensures.added ∙ ap (λ v. with_item needed_cmp (record { place = c.args.place; value = v; offset = c.args.term.delay }) c.loop-token.needs) (c.in_ok-copy.ensures.same ∙ c.loop-token.invariant.value) in
    record {
      value = c.loop-token.invariant.value;
      added = one_of needed_cmp need c.args.term.count c.loop-token._token c.loop-token.needs c.add.new.self (omega arith) (omega arith) added ∙ c.loop-token.invariant.added;
    }

pub returns-in_ok-add-2 : goal.returns-in_ok-add-2
returns-in_ok-add-2 c =
    let need : Needed = record { place = c.args.place; value = value_view c.args.term.value; offset = c.args.term.delay } in
    let added : c.add-then-count-gt0.new.self ≡ with_item needed_cmp need c.loop-token.needs =
    c.in_ok-add-2.ensures.added ∙ ap (λ v. with_item needed_cmp (record { place = c.args.place; value = v; offset = c.args.term.delay }) c.loop-token.needs) c.loop-token.invariant.value in
    record { added = added ∙ last_of needed_cmp need c.args.term.count c.loop-token._token c.loop-token.needs (omega arith) (omega arith) ∙ c.loop-token.invariant.added }
