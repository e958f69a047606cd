-- The copy of the first entry that is left goes to the end of the copies.
use Rattle.std.proofs.Common.{◌≡◌, ◌++◌}
use Rattle.std.specs.Map.Iter.{deref_pair}
use Rattle.std.proofs.lemmas.Map.Iter.{rest_more}
use Rattle.cpn_tmset.specs.Views.{entries_view}
use Rattle.cpn_tmset.proofs.CopiedEntries.{copied}
use Rattle.cpn_tmset.proofs.tmsets.TMSet.copy.Goals as goal
use Rattle.cpn_tmset.proofs.tmsets.TMSet.copy.Goals.{In_ok-insert}

step : (c : In_ok-insert) → entries_view c.insert.new.self.entries ++ entries_view c.next.new.self ≡ entries_view c.self.inside.entries.entries
step c =
    copied c.loop-value.entries.entries c.insert.new.self.entries c.next.new.self c.loop-value.value-iterator (entries_view c.self.inside.entries.entries) c.in-Some.value.now c.in_ok-copy.field-0 c.in-Some.stamps.now c.in_ok-copy-2.field-0
    c.in_ok-insert.ensures.entries c.in_ok-copy.ensures.same c.in_ok-copy-2.ensures.same
    (rest_more deref_pair c.loop-value.value-iterator c.next.new.self c.next.result (c.in-Some.value, c.in-Some.stamps) c.in-Some.is c.next.ensures.steps)
    c.loop-value.invariant c.self.invariant.0.rise

pub loop-value-preserved-in_ok-insert : goal.loop-value-preserved-in_ok-insert
loop-value-preserved-in_ok-insert c = step (goal.at.loop-value-preserved-in_ok-insert c).In_ok-insert

pub loop-value-preserved : goal.loop-value-preserved
loop-value-preserved c = step (goal.at.loop-value-preserved c).In_ok-insert
