-- What is found of a transition: the plain found bindings that enabled elements stand for; and what they are from a clock on.
use Rattle.std.specs.Prelude.{◌≡◌, ℕ, max, Bool, false, if◌then◌else◌, List, [], ◌∷◌, ◌++◌}
use Rattle.std.specs.List.{AllByRecursion}
use Rattle.std.specs.Ordering.{is_eq}
use Rattle.cpn_definitions.specs.Enabled.{PlainFound, binding_cmp}
use Rattle.cpn_definitions.specs.Net.{PlainNet}
use Rattle.cpn_core.specs.Elements.{enabled_view, HasItsNeeds}
use Rattle.cpn_core.specs.declared.entries.EnabledElement.{EnabledElement}

abbrev pub found_view : EnabledElement → PlainFound
found_view x = record { binding = (enabled_view x).element.binding; earliest = (enabled_view x).earliest }

-- Each is an element of the transition, with what it needs.
abbrev pub AreOf : PlainNet → ℕ → List EnabledElement → Type 0
AreOf n t found = AllByRecursion (λ x. ((enabled_view x).element.transition ≡ t) × HasItsNeeds n x) found

-- the enabled element, not before the clock
abbrev pub from_clock : ℕ → EnabledElement → EnabledElement
from_clock clock x = record x { entry = record x.entry { earliest = max clock x.entry.earliest } }

-- whether the last of several elements has the binding of one more
abbrev pub repeats : List EnabledElement → EnabledElement → Bool
repeats [] x = false
repeats (y ∷ []) x = is_eq (binding_cmp (found_view y).binding (found_view x).binding)
repeats (y ∷ (z ∷ ys)) x = repeats (z ∷ ys) x

-- several with one more, unless the last one has its binding; and with others, one after another
abbrev pub once_more : List EnabledElement → EnabledElement → List EnabledElement
once_more ys x = if repeats ys x then ys else ys ++ x ∷ []

abbrev pub once_of : List EnabledElement → List EnabledElement → List EnabledElement
once_of ys [] = ys
once_of ys (x ∷ xs) = once_of (once_more ys x) xs
