-- The plain terms that those of the program stand for, and the terms of an inscription in a machine.
use Rattle.std.specs.Prelude.{ℕ, ℤ, Bool, List, ◌++◌, map, Vec}
use Rattle.std.specs.declared.alloc.Global.{Global}
use Rattle.cpn_definitions.specs.Value.{PlainValue, int}
use Rattle.cpn_definitions.specs.Outcome.{Outcome, ◌>>=◌}
use Rattle.cpn_definitions.specs.Inscription.{PlainExpr, ArcInscription, ArcInscriptions}
use Rattle.cpn_definitions.specs.Operations.{truth_in}
use Rattle.cpn_definitions.specs.Terms.{PlainTerm, written_delay, all_delayed, then_delayed, counted, terms_behind, terms_of_each}
use Rattle.cpn_core.specs.Views.{value_view}
use Rattle.cpn_core.specs.Colours.{colour_view}
use Rattle.cpn_eval.specs.declared.term.Term.{Term}
use Rattle.cpn_eval.specs.declared.frames.Machine.{Machine}
use Rattle.cpn_eval.specs.declared.lone_terms.Arc.{Arc}
use Rattle.cpn_eval.specs.Frames.{setting_in, locals_of, meant_at}

abbrev pub term_view : Term → PlainTerm
term_view term = record { value = value_view term.value; count = term.count; delay = term.delay }

abbrev pub terms_view : List Term → List PlainTerm
terms_view terms = map term_view terms

abbrev pub items_view : Vec Term Global → List PlainTerm
items_view terms = terms_view terms.items

-- terms with a time stamp behind them
abbrev pub stamped_terms : ℤ → List PlainTerm → Outcome (List PlainTerm)
stamped_terms stamp terms = written_delay (int stamp) >>= all_delayed terms

-- terms with the delay that is written behind them, evaluated among the locals of a machine, behind so many tokens
abbrev pub delayed_at : Arc → Machine → PlainExpr → List PlainTerm → ℕ → Outcome (List PlainTerm)
delayed_at arc m delay terms before = then_delayed delay (setting_in arc.world m.visible) (locals_of m) terms >>= counted before

-- whether a condition holds among the locals of a machine
abbrev pub holds_at : Arc → Machine → PlainExpr → Outcome Bool
holds_at arc m condition = meant_at arc.world m.visible (locals_of m) condition >>= truth_in

-- the terms of an inscription, of the parts of a sum and of an arm, among the locals of a machine and more locals, behind
-- so many tokens
abbrev pub terms_with : Arc → Machine → List PlainValue → ArcInscription → ℕ → Outcome (List PlainTerm)
terms_with arc m more tokens before = terms_behind tokens (colour_view arc.colour.now) (setting_in arc.world m.visible) (locals_of m ++ more) before

abbrev pub terms_at : Arc → Machine → ArcInscription → ℕ → Outcome (List PlainTerm)
terms_at arc m tokens before = terms_behind tokens (colour_view arc.colour.now) (setting_in arc.world m.visible) (locals_of m) before

abbrev pub sum_at : Arc → Machine → ArcInscriptions → ℕ → Outcome (List PlainTerm)
sum_at arc m parts before = terms_of_each parts (colour_view arc.colour.now) (setting_in arc.world m.visible) (locals_of m) before
