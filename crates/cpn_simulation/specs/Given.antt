-- What is known of the matches of a parse by the command line.
use Rattle.std.specs.Prelude.{◌≡◌, ℕ, ◌^◌, ◌-◌, List, codes, Some}
use Rattle.cpn_definitions.specs.Times.{last_time}
use Rattle.cpn_runs.specs.Bounds.{most_steps}
use Rattle.clap.specs.Words.{IsUnsignedIn, first_value, found_of, one_text}
use Rattle.clap.specs.declared.parser.matches.ArgMatches.{ArgMatches}

-- the option has a value
abbrev pub HasValue : ArgMatches → List ℕ → Type 0
HasValue m name = (text : List ℕ) × (first_value (found_of m) name ≡ Some text)

-- the option has a value, which is read as it is written and is a number in the range
abbrev pub IsNumberIn : ℕ → ℕ → ArgMatches → List ℕ → Type 0
IsNumberIn least most m name =
    (text : List ℕ) × (first_value (found_of m) name ≡ Some text) × (one_text (found_of m) name ≡ Some text) × IsUnsignedIn least most text

-- each option has a value, and those that are numbers are in their ranges
pub record HasValues (m : ArgMatches) : Type 0 where
  pub mode : HasValue m (codes "mode")
  pub seed : IsNumberIn 0 (2 ^ 64 - 1) m (codes "seed")
  pub workers : IsNumberIn 1 64 m (codes "workers")
  pub steps : IsNumberIn 1 most_steps m (codes "steps")
  pub until : IsNumberIn 0 last_time m (codes "until")
  pub trace : HasValue m (codes "trace")
