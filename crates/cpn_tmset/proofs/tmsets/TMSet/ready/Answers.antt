-- The stamp at the last rank decides.
use Rattle.std.proofs.Common.{◌≡◌, ℕ, nat_le, Bool, false, replicate, Option, Some, None, sym, ap, ◌∙◌, arith}
use Rattle.std.specs.Prelude.{MatchOption}
use Rattle.cpn_definitions.specs.Marking.{covers, stamps}
use Rattle.cpn_core.specs.Views.{value_view}
use Rattle.cpn_tmset.proofs.CoveredNeeds.{covered_by_rank, meets}
use Rattle.cpn_tmset.proofs.tmsets.TMSet.ready.Goals as goal

by_stamp : (covered : ℕ → Bool) (o : Option ℕ) → ((t : ℕ) → covered t ≡ meets t o) → MatchOption o ((t : ℕ) → covered t ≡ false) (λ first. (t : ℕ) → covered t ≡ nat_le first t)
by_stamp covered None so = so
by_stamp covered (Some first) so = so

pub returns : goal.returns
returns c =
    let ss = stamps (value_view c.args.value.now) c.args.self.now in
    record {
      ready = by_stamp (λ t. covers ss (replicate c.args.number t)) c.stamp.result
          (λ t. covered_by_rank (value_view c.args.value.now) c.args.self.now c.args.number t c.stamp.ensures.sorted (omega arith) ∙ ap (meets t) (sym c.stamp.ensures.stamp));
    }
