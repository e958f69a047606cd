-- The plain open forms that those of the program stand for.
use Rattle.std.specs.Prelude.{ℕ, map, reverse, string_bytes}
use Rattle.cpn_trees.specs.PatViews.{pat_view}
use Rattle.cpn_trees.specs.AstViews.{ast_view, arm_view, local_view}
use Rattle.cpn_syntax.specs.OpenForms.{PlainOpen, condition, consequence, alternative, subject, arm, fold_list, fold_start, fold_body, terms, behind, front, group, items, arguments, local, body, Opens}
use Rattle.cpn_syntax.specs.declared.open_forms.Open.{Open}
use Rattle.cpn_syntax.specs.declared.open_forms.OpenFold.{OpenFold}
use Rattle.cpn_syntax.specs.declared.open_forms.OpenForms.{OpenForms}
use Rattle.cpn_syntax.specs.declared.open_forms.Part.{Part}
use Rattle.cpn_syntax.specs.ReadForms.{State, have}

abbrev pub fold_view : ℕ → OpenFold → PlainOpen
fold_view at (OpenFold.List item total) = fold_list at (string_bytes item) (string_bytes total)
fold_view at (OpenFold.Start item total a) = fold_start at (string_bytes item) (string_bytes total) (ast_view a)
fold_view at (OpenFold.Body item total a s) = fold_body at (string_bytes item) (string_bytes total) (ast_view a) (ast_view s)

abbrev pub open_view : Open → PlainOpen
open_view (Open.Condition at) = condition at
open_view (Open.Consequence at c) = consequence at (ast_view c)
open_view (Open.Alternative at c a) = alternative at (ast_view c) (ast_view a)
open_view (Open.Subject at) = subject at
open_view (Open.Arm at a arms p) = arm at (ast_view a) (map arm_view arms.items) (pat_view p)
open_view (Open.Fold at f) = fold_view at f
open_view (Open.Terms at parts) = terms at (map ast_view parts.items)
open_view (Open.Behind at o s a) = behind at o s (ast_view a)
open_view (Open.Front at o) = front at o
open_view (Open.Group at parts) = group at (map ast_view parts.items)
open_view (Open.Items at parts) = items at (map ast_view parts.items)
open_view (Open.Arguments at n parts) = arguments at (string_bytes n) (map ast_view parts.items)
open_view (Open.Local at values n) = local at (map local_view values.items) (string_bytes n)
open_view (Open.Body at values) = body at (map local_view values.items)

-- the innermost first
abbrev pub opens_view : OpenForms → Opens
opens_view f = reverse (map open_view f.forms.items)

-- a part that was read, and the forms around it
abbrev pub part_state : Part → Opens → State
part_state p st = have p.start p.precedence (ast_view p.tree) st
