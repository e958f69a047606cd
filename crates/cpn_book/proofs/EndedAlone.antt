-- A run that is taken to its end alone ends for want of memory only where a cut for that stood before.
use Rattle.std.proofs.Common.{◌≡◌, List, ◌++◌, subst}
use Rattle.cpn_runs.specs.GivingBack.{IsCutForMemory}
use Rattle.cpn_runs.specs.Run.{PlainFinished, IsRun}
use Rattle.cpn_runs.specs.State.{PlainSetup, PlainState, PlainEvent, wants_memory, first_state, IsState}
use Rattle.cpn_runs.proofs.NoneGivenBack.{ends_for_memory}
use Rattle.cpn_book.specs.GoingAlone.{GoesOnAloneTo}
use Rattle.cpn_book.proofs.AnsweredBooks.{leads_rest}

pub ends_alone_for_memory
    : (setup : PlainSetup) (journal : List PlainEvent) (run : PlainFinished)
    → GoesOnAloneTo setup journal run.journal
    → IsRun setup run
    → run.cause ≡ wants_memory
    → (state : PlainState)
    → IsState setup journal state
    → IsCutForMemory state.cut
ends_alone_for_memory setup journal run goes_on is memory state reached =
    let after : IsState setup (journal ++ goes_on.more) is.state = subst (λ es. IsState setup es is.state) goes_on.whole_is is.reached in
    ends_for_memory setup state goes_on.more is.state run.cause (goes_on.gives_none_back state reached) (leads_rest setup (first_state setup) journal goes_on.more state is.state reached after) is.ends memory
