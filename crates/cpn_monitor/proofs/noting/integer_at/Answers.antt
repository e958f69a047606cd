-- The value of the inscription is an integer.
use Rattle.std.proofs.Common.{◌∙◌, sym, ap, subst}
use Rattle.cpn_core.specs.Inscriptions.{expr_view, funs_view}
use Rattle.cpn_core.specs.declared.bindings.Element.{Element}
use Rattle.cpn_definitions.specs.Meaning.{meaning}
use Rattle.cpn_monitor.specs.Fitting.{MeansInteger}
use Rattle.cpn_monitor.proofs.noting.integer_at.Goals as goal

pub integer_of-requires : goal.integer_of-requires
integer_of-requires c = record { integer = subst MeansInteger (ap (λ (e : Element). meaning (funs_view c.args.funs.now) (expr_view c.args.inscription.now) e.binding c.args.occurrence.now.time) (sym c.deref.ensures) ∙ c.in-Ok.ensures.value) c.requires.integer }
