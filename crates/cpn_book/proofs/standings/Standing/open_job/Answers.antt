-- A claim that stands open is not committed, and the log has so many.
use Rattle.std.proofs.Common.{◌≡◌, Some, refl, sym, ap, ◌∙◌, arith}
use Rattle.cpn_log.specs.Logs.{stands_open}
use Rattle.cpn_log.specs.LogViews.{log_view}
use Rattle.cpn_log.specs.States.{state_view}
use Rattle.cpn_log.specs.declared.states.ClaimState.{ClaimState}
use Rattle.cpn_log.specs.declared.states.ClaimState.TheVariants as states
use Rattle.cpn_log.proofs.JobNumbers.{open_behind, open_made}
use Rattle.cpn_book.proofs.standings.Standing.open_job.Goals as goal

-- it does not stand open
not_open : (state : ClaimState) → (state ≡ states.Open → ⊥) → state_view state ≡ stands_open → ⊥
not_open states.Open other is = other refl
not_open states.Done other is = cc
not_open (states.Failed fault) other is = cc

-- what stands there
some_is : {A : Type 0} (x y : A) → Some x ≡ Some y → x ≡ y
some_is x y is = cc

pub returns-then-len-number : goal.returns-then-len-number
returns-then-len-number c = record {
  job = λ is. (let made = open_made (log_view c.args.self.now.log) c.args.number is in let past = c.if-len-number.true in absurd (omega (arith, made, past, c.len.ensures)));
}

pub returns-in_default : goal.returns-in_default
returns-in_default c = record { job = λ is. not_open c.state.result c.in_default.not-Open (some_is (state_view c.state.result) stands_open (sym c.state.ensures ∙ is)) }

pub job-requires-clause-behind : goal.job-requires-clause-behind
job-requires-clause-behind c = open_behind (log_view c.args.self.now.log) c.args.number (c.state.ensures ∙ ap (λ state. Some (state_view state)) c.in-Open.is)

pub returns : goal.returns
returns c = record { job = (c.state.ensures ∙ ap (λ state. Some (state_view state)) c.in-Open.is, c.job.ensures) }
