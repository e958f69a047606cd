-- The tokens with one more, by the stamps of each value.
use Rattle.std.proofs.Common.{◌+◌, length, sym, ap, ◌∙◌, arith}
use Rattle.cpn_definitions.specs.Marking.{Tokens}
use Rattle.cpn_core.specs.Views.{value_view}
use Rattle.cpn_tmset.specs.Views.{entries_view}
use Rattle.cpn_tmset.proofs.KeptTokens.{few_stamps}
use Rattle.cpn_tmset.proofs.ChangedTokens.{one_more, one_longer}
use Rattle.cpn_tmset.proofs.tmsets.TMSet.add.Goals as goal

pub add_stamp-requires-clause-room : goal.add_stamp-requires-clause-room
add_stamp-requires-clause-room c =
    let few = few_stamps (value_view c.args.value) (entries_view c.self.inside.entries.entries) in
    let long = ap (λ (ks : Tokens). length ks) c.self.view_is in
    let room = c.requires.room in
    omega (arith, few, long, room)

pub invariant_of-self-2 : goal.invariant_of-self-2
invariant_of-self-2 c = (
  c.in_ok-add_stamp.ensures.kept,
  ap (λ n. n + 1) c.self.invariant.1 ∙ sym (one_longer (value_view c.args.value) c.args.stamp (entries_view c.self.inside.entries.entries) (entries_view c.add_stamp.new.entries.entries) c.self.invariant.0 c.in_ok-add_stamp.ensures.kept c.in_ok-add_stamp.ensures.added),
)

pub returns-clause-added : goal.returns-clause-added
returns-clause-added c =
    rw (← c.self.view_is) (one_more (value_view c.args.value) c.args.stamp (entries_view c.self.inside.entries.entries) (entries_view c.add_stamp.new.entries.entries) c.self.invariant.0 c.in_ok-add_stamp.ensures.kept c.in_ok-add_stamp.ensures.added)
