-- The rule of the variables of a transition: there are at most 32, and each is bindable. Source: our own profile of CPN ML.
use Rattle.std.specs.Prelude.{◌≡◌, ℕ, ◌<◌, ◌≤◌, List, ◌∷◌, ◌++◌, length, Option, Some, None}
use Rattle.std.specs.List.{AllByRecursion}
use Rattle.cpn_definitions.specs.Net.{PlainTransition, PlainNet, variable_at}
use Rattle.cpn_definitions.specs.Bindable.{IsBindable}
use Rattle.cpn_typing.specs.Names.{too_many, variables, not_bindable, Checked, ok, refused}

-- the most variables of a transition
abbrev pub most_variables : ℕ
most_variables = 32

-- the first variable of several, in declaration order, that is not bindable
pub record IsFirstNotBindable (n : PlainNet) (t : PlainTransition) (xs : List ℕ) (x : ℕ) : Type 0 where
  pub before : List ℕ
  pub behind : List ℕ
  pub stands : xs ≡ before ++ x ∷ behind
  pub bindable_before : AllByRecursion (IsBindable n t) before
  pub not_bindable : IsBindable n t x → ⊥

-- the first of several variables, in declaration order, that is not bindable, or none
abbrev pub FirstIs : PlainNet → PlainTransition → List ℕ → Option ℕ → Type 0
FirstIs n t xs None = AllByRecursion (IsBindable n t) xs
FirstIs n t xs (Some x) = IsFirstNotBindable n t xs x

-- The answer for the variables of a transition: too many of them; else the first that is not bindable; else they are
-- accepted.
pub data IsBindableAnswer (n : PlainNet) (t : PlainTransition) : Checked (Unit {0}) → Type 0 where
  too_many_are_there : most_variables < length t.vars → IsBindableAnswer n t (refused (too_many variables))
  one_is_not : length t.vars ≤ most_variables → (x : ℕ) → IsFirstNotBindable n t t.vars x → IsBindableAnswer n t (refused (not_bindable (variable_at n x).name))
  all_are : length t.vars ≤ most_variables → AllByRecursion (IsBindable n t) t.vars → IsBindableAnswer n t (ok tt)
