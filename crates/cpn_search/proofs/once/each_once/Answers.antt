-- One element alone stands once.
use Rattle.std.proofs.Common.{◌≡◌, ◌≤◌, List, [], ◌∷◌, length, refl, arith}
use Rattle.cpn_core.specs.declared.entries.EnabledElement.{EnabledElement}
use Rattle.cpn_search.specs.FoundViews.{once_of}
use Rattle.cpn_search.proofs.once.each_once.Goals as goal

one_stands_once : (xs : List EnabledElement) → length xs ≤ 1 → xs ≡ once_of [] xs
one_stands_once [] few = refl
one_stands_once (x ∷ []) few = refl
one_stands_once (x ∷ y ∷ xs) few = absurd (omega arith)

pub returns-then-len-le1 : goal.returns-then-len-le1
returns-then-len-le1 c = record { once = one_stands_once c.args.found.items (omega (arith, c.len.ensures, c.if-len-le1.true)) }
