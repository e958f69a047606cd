-- What goes on alone goes on so with further events after it, and gives no claim back.
use Rattle.std.proofs.Common.{◌≡◌, ℕ, suc, ◌≤◌, List, [], ◌∷◌, ◌++◌, Option, Some, None, refl, sym, ap, ◌∙◌, arith, append_assoc}
use Rattle.std.proofs.lemmas.List.{append-nil}
use Rattle.cpn_runs.specs.State.{PlainSetup, PlainState, PlainEvent, PlainCut, claim_made, claim_completed, clock_moved, cut_made, first_state, owed_cut, IsState}
use Rattle.cpn_runs.specs.GivingBack.{NoneIsGivenBack}
use Rattle.cpn_runs.proofs.NoneGivenBack.{none_of_both}
use Rattle.cpn_runs.proofs.States.{leads_more}
use Rattle.cpn_book.specs.GoingAlone.{AreCompletions, AreRounds, GoesOnAlone, GivesNoneBack}
use Rattle.cpn_book.specs.States.{cut_events}

-- ---- completions

-- from a lower number
from_lower : (low least limit : ℕ) (events : List PlainEvent) → low ≤ least → AreCompletions least limit events → AreCompletions low limit events
from_lower low least limit [] le are = omega (arith, le, are)
from_lower low least limit (claim_completed seat number ∷ events) le are = (let first = are.0 in omega (arith, le, first), are.1)
from_lower low least limit (cut_made number ∷ events) le are = from_lower low least limit events le are
from_lower low least limit (claim_made seat number ∷ events) le are = absurd are
from_lower low least limit (clock_moved time ∷ events) le are = absurd are

pub completions_joined : (least mid limit : ℕ) (events more : List PlainEvent) → AreCompletions least mid events → AreCompletions mid limit more → AreCompletions least limit (events ++ more)
completions_joined least mid limit [] more are rest = from_lower least mid limit more are rest
completions_joined least mid limit (claim_completed seat number ∷ events) more are rest = (are.0, completions_joined (suc number) mid limit events more are.1 rest)
completions_joined least mid limit (cut_made number ∷ events) more are rest = completions_joined least mid limit events more are rest
completions_joined least mid limit (claim_made seat number ∷ events) more are rest = absurd are
completions_joined least mid limit (clock_moved time ∷ events) more are rest = absurd are

-- a completion, and the cut that it makes owed, if it makes one
pub one_completion : (seat number : ℕ) (cut : Option PlainCut) → AreCompletions number (suc number) (claim_completed seat number ∷ cut_events cut)
one_completion seat number None = (omega arith, omega arith)
one_completion seat number (Some cut) = (omega arith, omega arith)

-- ---- rounds

pub rounds_joined : (events more : List PlainEvent) → AreRounds events → AreRounds more → AreRounds (events ++ more)
rounds_joined [] more are rest = rest
rounds_joined (claim_made seat number ∷ []) more are rest = absurd are
rounds_joined (claim_made seat number ∷ event ∷ events) more are rest = (are.0, are.1, rounds_joined events more are.2 rest)
rounds_joined (claim_completed seat number ∷ events) more are rest = absurd are
rounds_joined (clock_moved time ∷ events) more are rest = rounds_joined events more are rest
rounds_joined (cut_made number ∷ events) more are rest = rounds_joined events more are rest

-- a claim with its completion, and the cut that it makes owed, if it makes one
pub one_round : (number : ℕ) (cut : Option PlainCut) → AreRounds (claim_made 0 number ∷ claim_completed 0 number ∷ cut_events cut)
one_round number None = (refl, refl, tt)
one_round number (Some cut) = (refl, refl, tt)

-- ---- both

pub goes_on_from : (limit : ℕ) (events : List PlainEvent) → AreCompletions 0 limit events → GoesOnAlone events
goes_on_from limit events are = record { completions = events; rounds = []; are = sym (append-nil events); limit = limit; in_order = are; alone = tt }

pub goes_on_by : (events more : List PlainEvent) → GoesOnAlone events → AreRounds more → GoesOnAlone (events ++ more)
goes_on_by events more goes rounds = record {
  completions = goes.completions;
  rounds = goes.rounds ++ more;
  are = ap (λ es. es ++ more) goes.are ∙ append_assoc goes.completions goes.rounds more;
  limit = goes.limit;
  in_order = goes.in_order;
  alone = rounds_joined goes.rounds more goes.alone rounds;
}

-- ---- none gives a claim back

-- a cut that is owed does not
cut_gives_none : (setup : PlainSetup) (state : PlainState) (owed : Option PlainCut) → owed_cut setup state ≡ owed → NoneIsGivenBack setup state (cut_events owed)
cut_gives_none setup state None is = tt
cut_gives_none setup state (Some cut) is = ((λ none. let e : Some cut ≡ None = sym is ∙ none in cc), λ mid happens. tt)

-- nor do events with the cut that is owed after them, if one is
gives_none_with_cut
    : (setup : PlainSetup) (journal first : List PlainEvent) (owed : Option PlainCut)
    → ((state : PlainState) → NoneIsGivenBack setup state first)
    → ((after : PlainState) → IsState setup (journal ++ first) after → owed_cut setup after ≡ owed)
    → GivesNoneBack setup journal (first ++ cut_events owed)
gives_none_with_cut setup journal first owed none owed_is = λ state is.
    none_of_both setup state first (cut_events owed) (none state) (λ mid leads. cut_gives_none setup mid owed (owed_is mid (leads_more setup (first_state setup) journal first state mid is leads)))

pub completion_gives_none
    : (setup : PlainSetup) (journal : List PlainEvent) (seat number : ℕ) (owed : Option PlainCut)
    → ((after : PlainState) → IsState setup (journal ++ claim_completed seat number ∷ []) after → owed_cut setup after ≡ owed)
    → GivesNoneBack setup journal (claim_completed seat number ∷ cut_events owed)
completion_gives_none setup journal seat number owed owed_is = gives_none_with_cut setup journal (claim_completed seat number ∷ []) owed (λ state. (tt, λ mid happens. tt)) owed_is

pub round_gives_none
    : (setup : PlainSetup) (journal : List PlainEvent) (seat number : ℕ) (owed : Option PlainCut)
    → ((after : PlainState) → IsState setup (journal ++ claim_made seat number ∷ claim_completed seat number ∷ []) after → owed_cut setup after ≡ owed)
    → GivesNoneBack setup journal (claim_made seat number ∷ claim_completed seat number ∷ cut_events owed)
round_gives_none setup journal seat number owed owed_is = gives_none_with_cut setup journal (claim_made seat number ∷ claim_completed seat number ∷ []) owed (λ state. (tt, λ mid happens. (tt, λ after completes. tt))) owed_is

pub nothing_gives_none : (setup : PlainSetup) (journal : List PlainEvent) → GivesNoneBack setup journal []
nothing_gives_none setup journal = λ state is. tt

-- of two parts neither does
pub both_give_none : (setup : PlainSetup) (journal first more : List PlainEvent) → GivesNoneBack setup journal first → GivesNoneBack setup (journal ++ first) more → GivesNoneBack setup journal (first ++ more)
both_give_none setup journal first more none rest = λ state is.
    none_of_both setup state first more (none state is) (λ mid leads. rest mid (leads_more setup (first_state setup) journal first state mid is leads))
