-- The stamps of the value are those of its entry, if it has one.
use Rattle.std.proofs.Common.{ℕ, List, [], sym, ap, ◌∙◌}
use Rattle.std.specs.List.{slice_get}
use Rattle.std.specs.Option.{unwrap_or}
use Rattle.cpn_core.specs.Views.{value_view}
use Rattle.cpn_tmset.specs.Views.{entries_view}
use Rattle.cpn_tmset.proofs.KeptTokens.{stamps_kept, seen_sorted}
use Rattle.cpn_tmset.proofs.EntryStamps.{in_entries}
use Rattle.cpn_tmset.proofs.tmsets.TMSet.stamp.Goals as goal

pub returns-in_err-stamps : goal.returns-in_err-stamps
returns-in_err-stamps c = record {
  stamp =
      rw (← c.self.view_is)
      (c.from_residual.ensures
      ∙ sym
      (ap (λ (ss : List ℕ). slice_get ss c.args.rank)
      (stamps_kept (value_view c.args.value.now) (entries_view c.self.inside.entries.entries) c.self.invariant.0.rise
      ∙ in_entries (value_view c.args.value.now) c.self.inside.entries.entries ∙ ap (λ o. unwrap_or o []) (sym c.in_err-stamps.ensures.value))));
  sorted = seen_sorted c.self.inside.entries.entries c.args.self.now c.self.invariant.0 c.self.view_is;
}

pub returns : goal.returns
returns c = record {
  stamp =
      rw (← c.self.view_is)
      (c.at.ensures.stamp
      ∙ sym
      (ap (λ (ss : List ℕ). slice_get ss c.args.rank)
      (stamps_kept (value_view c.args.value.now) (entries_view c.self.inside.entries.entries) c.self.invariant.0.rise
      ∙ in_entries (value_view c.args.value.now) c.self.inside.entries.entries ∙ ap (λ o. unwrap_or o []) (sym c.in_ok-stamps.ensures.value))));
  sorted = seen_sorted c.self.inside.entries.entries c.args.self.now c.self.invariant.0 c.self.view_is;
}
