-- Each turn adds one of the tokens that are left.
use Rattle.std.proofs.Common.{◌≡◌, ap, ◌∙◌, arith}
use Rattle.cpn_definitions.specs.Lists.{with_item}
use Rattle.cpn_definitions.specs.Occurrence.{Made, made_cmp}
use Rattle.cpn_core.specs.Views.{value_view}
use Rattle.cpn_jobs.proofs.AddedTokens.{one_added}
use Rattle.cpn_jobs.proofs.outputs.add_made.Goals as goal

pub loop-token-preserved : goal.loop-token-preserved
loop-token-preserved c =
    let made : Made = record { place = c.args.place; value = value_view c.args.term.value; stamp = c.args.stamp } in
    let added : c.add.new.self ≡ with_item made_cmp made c.loop-token.outputs =
    c.in_ok-add.ensures.added ∙ ap (λ v. with_item made_cmp (record { place = c.args.place; value = v; stamp = c.args.stamp }) c.loop-token.outputs) (c.in_ok-copy.ensures.same ∙ c.loop-token.invariant.value) in
    record {
      value = c.loop-token.invariant.value;
      added = one_added made c.args.term.count c.loop-token._token c.loop-token.outputs c.add.new.self (omega arith) (omega arith) added ∙ c.loop-token.invariant.added;
    }
