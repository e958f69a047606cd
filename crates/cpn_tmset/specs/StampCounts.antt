-- Sorted time stamps, kept as how many tokens have each.
-- Source: timed multisets of Jensen and Kristensen, chapter 11.
use Rattle.std.specs.Prelude.{◌≡◌, ℕ, ◌<◌, ◌≤◌, List, [], ◌∷◌, ◌++◌, replicate, Some, None, IsSome}
use Rattle.std.specs.List.{AllByRecursion}
use Rattle.std.specs.Ordering.{nat_cmp}
use Rattle.std.specs.Map.{lookup}
use Rattle.std.specs.BTreeMap.{is_at}
use Rattle.cpn_definitions.specs.Lists.{Rises}

-- the list of the stamps, each as often as tokens have it
abbrev pub repeated : List (ℕ × ℕ) → List ℕ
repeated [] = []
repeated (e ∷ es) = replicate e.1 e.0 ++ repeated es

-- the stamps rise, and some token has each
abbrev pub IsCounted : List (ℕ × ℕ) → Type 0
IsCounted es = Rises (λ d e. nat_cmp d.0 e.0) es × AllByRecursion (λ e. 0 < e.1) es

-- no stamp is up to the threshold
abbrev pub AreAllAbove : ℕ → List (ℕ × ℕ) → Type 0
AreAllAbove t es = (s : ℕ) → s ≤ t → lookup (is_at (nat_cmp s)) es ≡ None

-- a stamp that is up to the threshold, with its number of tokens, and no stamp up to the threshold is above it
abbrev pub IsLatestEntry : ℕ → List (ℕ × ℕ) → ℕ × ℕ → Type 0
IsLatestEntry t es e = (e.0 ≤ t) × (lookup (is_at (nat_cmp e.0)) es ≡ Some e.1) × ((s : ℕ) → s ≤ t → IsSome (lookup (is_at (nat_cmp s)) es) → s ≤ e.0)
