-- What is told goes on from one event to the next.
use Rattle.std.proofs.Common.{◌≡◌, Bool, true, false, cond, List, [], ◌∷◌, ◌++◌, refl, sym, ap, ◌∙◌, subst}
use Rattle.cpn_definitions.specs.Marking.{Marking}
use Rattle.cpn_log.specs.Logs.{PlainLog, next_committed, next_committed_of, with_committed}
use Rattle.cpn_log.specs.LogViews.{log_view}
use Rattle.cpn_log.specs.declared.logs.Log.{Log}
use Rattle.cpn_runs.specs.HoleRun.{PlainClaim, is_done}
use Rattle.cpn_tmset.specs.Changed.{PlainChange, OthersStay}
use Rattle.cpn_tmset.proofs.ToldChanges.{others_joined}
use Rattle.cpn_book.specs.Telling.{TellsOn}
use Rattle.cpn_book.specs.declared.standings.Standing.{Standing}

-- more is told of one change more
pub tells_more : (was_told told more : List PlainChange) (before after : Marking) → told ≡ was_told ++ more → OthersStay more before after → TellsOn was_told told before after
tells_more was_told told more before after is stay = λ m stayed. subst (λ (ts : List PlainChange). OthersStay ts m after) (sym is) (others_joined was_told more m before after stayed stay)

-- nothing more is told of none
pub tells_same : (told : List PlainChange) (before after : Marking) → after ≡ before → TellsOn told told before after
tells_same told before after same = λ m stayed. subst (λ (x : Marking). OthersStay told m x) (sym same) stayed

-- ---- a commit changes nothing

next_unclaimed_of : (log : PlainLog) (claims : List PlainClaim) → (next_committed_of log claims).unclaimed ≡ log.unclaimed
next_unclaimed_of log [] = refl
next_unclaimed_of log (claim ∷ claims) = split (is_done claim.status)
  where
    split : (b : Bool) → (cond b (with_committed log claim claims) log).unclaimed ≡ log.unclaimed
    split true = refl
    split false = refl

pub still_unclaimed : (old log : Log) (new : Standing) → new.log ≡ log → log_view log ≡ next_committed (log_view old) → (log_view new.log).unclaimed ≡ (log_view old).unclaimed
still_unclaimed old log new same next = ap (λ (l : Log). (log_view l).unclaimed) same ∙ ap (λ (l : PlainLog). l.unclaimed) next ∙ next_unclaimed_of (log_view old) (log_view old).claims
