-- Which trials have the values that they try as lists, and how many values these lists have.
use Rattle.std.specs.Prelude.{ℕ, zero, suc, List, [], ◌∷◌, map, length}
use Rattle.cpn_stages.specs.Trials.{sum_of}
use Rattle.cpn_search.specs.declared.trials.Trial as program
use Rattle.cpn_search.specs.declared.trials.Trial.TheVariants as trials

-- Listed: the trial has all that it tries; no list of values is still to be made.
abbrev pub IsListed : program.Trial → Type 0
IsListed (trials.Unlisted pattern tokens) = ⊥
IsListed (trials.Matching pattern values) = Unit {0}
IsListed (trials.Solving variable inscription) = Unit {0}
IsListed (trials.Choosing variable values) = Unit {0}

-- the trial of a number is listed, if there is one
abbrev pub IsListedAt : ℕ → List program.Trial → Type 0
IsListedAt k [] = Unit {0}
IsListedAt zero (trial ∷ trials) = IsListed trial
IsListedAt (suc k) (trial ∷ trials) = IsListedAt k trials

-- how many values were listed for a trial; those of a small colour set stand in the plan
abbrev pub listed_by : program.Trial → ℕ
listed_by (trials.Unlisted pattern tokens) = 0
listed_by (trials.Matching pattern values) = length values.items
listed_by (trials.Solving variable inscription) = 0
listed_by (trials.Choosing variable values) = 0

-- how many for several
abbrev pub listed_in : List program.Trial → ℕ
listed_in ts = sum_of (map listed_by ts)
