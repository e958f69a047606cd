-- How the call that reads the body of a colour set answers: with the shape of the body, and what it brings is declared.
use Rattle.std.specs.Prelude.{◌≡◌, Result, Ok, Err}
use Rattle.cpn_definitions.specs.Colour.{PlainShape}
use Rattle.cpn_core.specs.Colours.{shape_view}
use Rattle.cpn_core.specs.declared.colours.Shape.{Shape}
use Rattle.cpn_trees.specs.DeclTrees.{PlainBody}
use Rattle.cpn_typing.specs.ColourSets.{Shaped, shape_of_body}
use Rattle.cpn_typing.specs.Names.{Name, Declared, ok}
use Rattle.cpn_declared.specs.Additions.{with_shaped}
use Rattle.cpn_declared.specs.Answers.{refusal_of}
use Rattle.cpn_typing.specs.Answers.{Refuses}
use Rattle.cpn_declared.specs.declared.refusals.TypeError.{TypeError}

pub record AddsBody (ds : Declared) (n : Name) (body : PlainBody) (shape : PlainShape) (now : Declared) : Type 0 where
  pub new : Shaped
  pub accepted : shape_of_body ds n body ≡ ok new
  pub shape_is : shape ≡ new.shape
  pub declared_is : now ≡ with_shaped ds new

abbrev pub AnswersBody : Declared → Name → PlainBody → Declared → Result Shape TypeError → Type 0
AnswersBody ds n body now (Ok shape) = AddsBody ds n body (shape_view shape) now
AnswersBody ds n body now (Err e) = Refuses (refusal_of e) (shape_of_body ds n body)
