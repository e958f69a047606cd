-- The steps of reading an inscription.
use Rattle.cpn_syntax.specs.declared.refusals.SyntaxError.{SyntaxError}
use Rattle.cpn_syntax.specs.declared.refusals.SyntaxError.TheVariants as errors
use Rattle.cpn_syntax.specs.declared.open_forms.Next.{Next}
use Rattle.cpn_syntax.specs.declared.open_forms.Part.{Part}
use Rattle.cpn_syntax.specs.declared.following_tokens.Step.{Step}
use Rattle.cpn_syntax.specs.Texts.{Text}
use Rattle.cpn_trees.specs.Trees.{PlainAst}
use Rattle.cpn_trees.specs.AstViews.{ast_view}
use Rattle.cpn_syntax.specs.Progress.{Agrees, Leads, Stops}
use Rattle.cpn_syntax.specs.OpenForms.{PlainOpen, terms, Opens, wanted}
use Rattle.cpn_syntax.specs.Completions.{Closing, Closes}
use Rattle.cpn_syntax.specs.ReadForms.{State, want, have, Read, Takes, IsInscription}
use Rattle.cpn_syntax.specs.Joints.{NothingJoins}
use Rattle.cpn_syntax.specs.OpenViews.{open_view, part_state}
use Rattle.std.specs.Prelude.{ℕ, ◌+◌, ◌*◌, ◌<◌, ◌≡◌, ◌≢◌, [], ◌∷◌, ◌++◌, length}

-- from a state before a text to another before its rest
abbrev pub Comes : State → Text → State → Text → Type 0
Comes = Leads Read Takes

-- from a state before a text to a token with which nothing goes on
abbrev pub BreaksOff : State → Text → SyntaxError → Type 0
BreaksOff = Stops Read Takes IsInscription

-- where the reading stands, with the forms around
abbrev pub next_state : Next → Opens → State
next_state (Next.Part part) st = part_state part st
next_state (Next.Form form) st = want (open_view form ∷ st)

-- how far a state before a text is from the end: each token may open a form, and each form is closed
abbrev pub steps_left : State → Text → ℕ
steps_left (want st) text = 2 * length text + length st
steps_left (have at k c st) text = 2 * length text + length st

-- from a state before a text to another before its rest, which is nearer to the end
pub record ComesOn (old : State) (from : Text) (new : State) (to : Text) : Type 0 where
  pub comes : Comes old from new to
  pub nearer : steps_left new to < steps_left old from

-- The part is all that was read: nothing is open, and what completes it there completes nothing larger.
pub record IsAll (part : Part) (st : Opens) (text : Text) : Type 0 where
  pub none_open : st ≡ []
  pub only : (r : Closing × PlainAst) (w : Text) → Agrees text w → Takes (part_state part []) r w → (ast_view part.tree ≡ r.1) × Closes r.0 w

-- where the reading stands behind a step from a part
abbrev pub StepIs : Part → Opens → Text → Step → Opens → Text → Type 0
StepIs part st from (Step.Next next) new to = ComesOn (part_state part st) from (next_state next new) to
StepIs part st from (Step.Whole tree) new to = IsAll part st from × (ast_view tree ≡ ast_view part.tree) × (to ≡ from)

-- the sum of the innermost form with a further term, or else a sum inside that form with its first one
abbrev pub with_term : ℕ → PlainAst → Opens → Opens
with_term at c (terms start parts ∷ st) = terms start (parts ++ c ∷ []) ∷ st
with_term at c st = terms at (c ∷ []) ∷ st

-- where nothing else takes the part: the form with the part behind it goes on, or is complete
abbrev pub Closed : Part → PlainOpen → Text → Next → Text → Type 0
Closed part form from next to = NothingJoins part.precedence (wanted form) from → (st : Opens) → ComesOn (part_state part (form ∷ st)) from (next_state next st) to

-- where nothing else takes the part: the form does neither
abbrev pub Unclosed : Part → PlainOpen → Text → SyntaxError → Type 0
Unclosed part form from e = e ≢ errors.Memory → NothingJoins part.precedence (wanted form) from → (st : Opens) → BreaksOff (part_state part (form ∷ st)) from e
