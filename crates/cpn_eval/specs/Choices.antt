-- Which arm of a `case` is taken.
use Rattle.std.specs.Prelude.{◌≡◌, List, ◌++◌, map, Result, Ok, Err}
use Rattle.cpn_definitions.specs.Value.{PlainValue}
use Rattle.cpn_definitions.specs.Inscription.{PlainArms}
use Rattle.cpn_definitions.specs.Meaning.{Setting, meant, meant_among}
use Rattle.cpn_core.specs.Views.{value_view}
use Rattle.cpn_core.specs.Inscriptions.{expr_view}
use Rattle.cpn_eval.specs.Answers.{Stops}
use Rattle.cpn_eval.specs.declared.refusals.NoValue.{NoValue}
use Rattle.cpn_eval.specs.declared.choices.Choice.{Choice}

-- the arms give what the one that the value fits gives with what its pattern binds, or they stop for the reason
abbrev pub Chooses : PlainArms → PlainValue → Result Choice NoValue → Type 0
Chooses arms v (Ok choice) = (s : Setting) (locals : List PlainValue) → meant_among arms v s locals ≡ meant (expr_view choice.body.now) s (locals ++ map value_view choice.bound.items)
Chooses arms v (Err reason) = (s : Setting) (locals : List PlainValue) → Stops reason (meant_among arms v s locals)
