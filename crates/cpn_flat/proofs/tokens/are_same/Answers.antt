-- Tokens are known by their groups.
use Rattle.std.proofs.Common.{◌∙◌, sym, ap}
use Rattle.cpn_tmset.specs.Listed.{groups}
use Rattle.cpn_tmset.specs.ListedViews.{groups_view}
use Rattle.cpn_flat.proofs.EqualGroups.{same_tokens}
use Rattle.cpn_flat.proofs.tokens.are_same.Goals as goal

pub returns : goal.returns
returns c =
    let ours = ap groups_view c.as_slice.ensures.value ∙ c.in_ok-tokens.ensures.groups in
    let theirs = ap groups_view c.as_slice-2.ensures.value ∙ c.in_ok-others.ensures.groups in
    record {
      exact = (
        λ e. same_tokens c.args.tokens.now c.args.others.now (sym ours ∙ c.are_same_groups.ensures.exact.0 e ∙ theirs),
        λ e. c.are_same_groups.ensures.exact.1 (ours ∙ ap groups e ∙ sym theirs),
      );
    }
