-- Tokens that are added to others in order, and what the delay of a value tells.
use Rattle.std.specs.Prelude.{◌≡◌, ℕ, List, replicate, Result, Ok, Err}
use Rattle.std.specs.List.{flat_map}
use Rattle.cpn_definitions.specs.Lists.{with_items}
use Rattle.cpn_definitions.specs.Outcome.{Outcome, gives, faults, ◌>>=◌}
use Rattle.cpn_definitions.specs.Terms.{PlainTerm}
use Rattle.cpn_definitions.specs.Occurrence.{Made, made_cmp}
use Rattle.cpn_core.specs.declared.faults.EvalFault.{EvalFault}
use Rattle.cpn_core.specs.Faults.{fault_view}
use Rattle.cpn_jobs.specs.Work.{PlainWorkArc, made_token}

-- tokens in order with all the tokens of an outcome more, or its fault
abbrev pub and_made : List Made → Outcome (List Made) → Outcome (List Made)
and_made xs these = do
  ys ← these
  gives (with_items made_cmp ys xs)

-- the tokens of terms that an arc makes at a time, each as many times as its count says
abbrev pub made_of_terms : PlainWorkArc → ℕ → List PlainTerm → List Made
made_of_terms arc time terms = flat_map (λ term. replicate term.count (made_token arc time term)) terms

-- a token of the term's value on the place, with a stamp
abbrev pub made_of : ℕ → ℕ → PlainTerm → Made
made_of place stamp term = record { place = place; value = term.value; stamp = stamp }

-- what the delay of a value tells: the delay, or the fault
abbrev pub DelayAnswers : Result ℕ EvalFault → Outcome ℕ → Type 0
DelayAnswers (Ok delay) outcome = outcome ≡ gives delay
DelayAnswers (Err fault) outcome = outcome ≡ faults (fault_view fault)
