-- Rules that something has to keep, in the order in which they count: the first that is broken is the refusal.
-- Source: own choice.
use Rattle.std.specs.Prelude.{◌≡◌, ℕ, suc, Bool, if◌then◌else◌, List, [], ◌∷◌, ◌++◌, Option, Some, None}
use Rattle.std.specs.Option.{option_or}
use Rattle.cpn_readings.specs.Reading.{Reading, read, refused}

-- A rule: whether it is kept, and the refusal where it is not.
pub record Rule (R : Type 0) : Type 0 where
  pub kept : Bool
  pub refusal : R

-- the refusal of the first broken rule, where one is broken
unfoldable pub first_broken : {R : Type 0} → List (Rule R) → Option R
first_broken [] = None
first_broken (rule ∷ rules) = if rule.kept then first_broken rules else Some rule.refusal

-- the rules of each item of a list, by its number from a number on
unfoldable pub each_item : {R A : Type 0} → (ℕ → A → List (Rule R)) → ℕ → List A → List (Rule R)
each_item rules i [] = []
each_item rules i (x ∷ xs) = rules i x ++ each_item rules (suc i) xs

-- a value, where no rule is broken
abbrev pub unless_broken : {R A : Type 0} → A → Option R → Reading R A
unless_broken x None = read x
unless_broken x (Some refusal) = refused refusal

-- what a refusal says of rules: that it is that of the first of them that is broken; none says nothing
abbrev pub Breaks : {R : Type 0} → Option R → List (Rule R) → Type 0
Breaks refusal rules = option_or refusal (first_broken rules) ≡ first_broken rules
