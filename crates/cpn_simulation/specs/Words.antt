-- Why words give no options. Source: own choice.
use Rattle.std.specs.Prelude.{◌≡◌, ℕ, List, None}
use Rattle.cpn_simulation.specs.Options.{options_from}
use Rattle.cpn_simulation.specs.declared.no_options.NoOptions.{NoOptions}
use Rattle.cpn_simulation.specs.declared.no_options.NoOptions.TheVariants.{Refused, Memory}

-- words that are refused give none; want of memory says nothing of them
abbrev pub IsOfWords : NoOptions → List (List ℕ) → Type 0
IsOfWords Refused words = options_from words ≡ None
IsOfWords Memory words = Unit {0}
