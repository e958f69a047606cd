mod GatheredTerms
mod ItemsLeft
