-- The number that was found, or none.
use Rattle.std.proofs.Common.{sym, ap, ◌∙◌}
use Rattle.std.specs.Option.{unwrap_or}
use Rattle.cpn_core.specs.Views.{value_view}
use Rattle.cpn_mset.proofs.Appearances.{in_entries}
use Rattle.cpn_mset.proofs.msets.MSet.count.Goals as goal

pub returns-in-Some : goal.returns-in-Some
returns-in-Some c = record { number = rw (← c.self.view_is) (sym (in_entries (value_view c.args.value.now) c.self.inside.counts.entries ∙ ap (λ o. unwrap_or o 0) (sym c.in-Some.ensures.value))) }

pub returns-in-None : goal.returns-in-None
returns-in-None c = record { number = rw (← c.self.view_is) (sym (in_entries (value_view c.args.value.now) c.self.inside.counts.entries ∙ ap (λ o. unwrap_or o 0) (sym c.in-None.ensures.value))) }
