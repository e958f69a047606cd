-- The tokens with one fewer, by the stamps of each value.
use Rattle.std.proofs.Common.{◌≡◌, ◌+◌, length, sym, ap, subst, ◌∙◌, arith}
use Rattle.cpn_definitions.specs.Marking.{Tokens, AreSorted, without_token, stamps}
use Rattle.cpn_core.specs.Views.{value_view}
use Rattle.cpn_tmset.specs.Stamps.{latest_of}
use Rattle.cpn_tmset.specs.Views.{entries_view, tokens_view}
use Rattle.cpn_tmset.proofs.KeptTokens.{stamps_kept, tokens_sorted}
use Rattle.cpn_tmset.proofs.ChangedTokens.{one_fewer, one_shorter, none_fewer}
use Rattle.cpn_tmset.proofs.tmsets.TMSet.take_latest.Goals as goal
use Rattle.cpn_tmset.proofs.tmsets.TMSet.take_latest.Goals.{After-take_stamp, In_ok-stamp}

named : (c : After-take_stamp) → c.take_stamp.result ≡ latest_of c.args.latest (stamps (value_view c.args.value.now) c.args.self.now)
named c = rw (← c.self.view_is) (c.take_stamp.ensures.stamp ∙ ap (latest_of c.args.latest) (sym (stamps_kept (value_view c.args.value.now) (entries_view c.self.inside.entries.entries) c.self.invariant.0.rise)))

left_is : (c : After-take_stamp) → tokens_view c.take_stamp.new.entries.entries ≡ without_token (value_view c.args.value.now) c.args.latest c.args.self.now
left_is c = rw (← c.self.view_is) (one_fewer (value_view c.args.value.now) c.args.latest (entries_view c.self.inside.entries.entries) (entries_view c.take_stamp.new.entries.entries) c.self.invariant.0 c.take_stamp.ensures.kept c.take_stamp.ensures.taken)

were_sorted : (c : After-take_stamp) → AreSorted c.args.self.now
were_sorted c = subst AreSorted c.self.view_is (tokens_sorted (entries_view c.self.inside.entries.entries) c.self.invariant.0)

shorter : (c : In_ok-stamp) → length (tokens_view c.take_stamp.new.entries.entries) + 1 ≡ c.self.inside.total
shorter c =
    one_shorter (value_view c.args.value.now) c.args.latest (entries_view c.self.inside.entries.entries) (entries_view c.take_stamp.new.entries.entries) c.self.invariant.0 c.take_stamp.ensures.kept c.in_ok-stamp.stamp (sym c.in_ok-stamp.ensures.stamp) c.take_stamp.ensures.taken
    ∙ sym c.self.invariant.1

-- ---- no token is taken

pub returns-in_err-stamp-clause-stamp : goal.returns-in_err-stamp-clause-stamp
returns-in_err-stamp-clause-stamp c = c.from_residual.ensures ∙ sym c.in_err-stamp.was ∙ named (goal.at.returns-in_err-stamp-clause-stamp c).After-take_stamp

pub returns-in_err-stamp-clause-taken : goal.returns-in_err-stamp-clause-taken
returns-in_err-stamp-clause-taken c = left_is (goal.at.returns-in_err-stamp-clause-taken c).After-take_stamp

pub returns-in_err-stamp-clause-sorted : goal.returns-in_err-stamp-clause-sorted
returns-in_err-stamp-clause-sorted c = were_sorted (goal.at.returns-in_err-stamp-clause-sorted c).After-take_stamp

pub invariant_of-self : goal.invariant_of-self
invariant_of-self c = (
  c.take_stamp.ensures.kept,
  c.self.invariant.1
      ∙ sym
      (ap (λ (ks : Tokens). length ks)
      (none_fewer (value_view c.args.value.now) c.args.latest (entries_view c.self.inside.entries.entries) (entries_view c.take_stamp.new.entries.entries) c.self.invariant.0 c.take_stamp.ensures.kept (sym c.in_err-stamp.ensures.stamp) c.take_stamp.ensures.taken)),
)

-- ---- a token is taken

pub overflow_sub-self : goal.overflow_sub-self
overflow_sub-self c = let fewer = shorter c in omega (arith, fewer)

pub invariant_of-self-2 : goal.invariant_of-self-2
invariant_of-self-2 c = let fewer = shorter (goal.at.invariant_of-self-2 c).In_ok-stamp in (c.take_stamp.ensures.kept, omega (arith, fewer))

pub returns-clause-stamp : goal.returns-clause-stamp
returns-clause-stamp c = sym c.in_ok-stamp.was ∙ named (goal.at.returns-clause-stamp c).After-take_stamp

pub returns-clause-taken : goal.returns-clause-taken
returns-clause-taken c = left_is (goal.at.returns-clause-taken c).After-take_stamp

pub returns-clause-sorted : goal.returns-clause-sorted
returns-clause-sorted c = were_sorted (goal.at.returns-clause-sorted c).After-take_stamp
