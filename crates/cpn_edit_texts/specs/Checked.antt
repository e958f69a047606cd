-- What the edits of a document are in its net, or the first refusal: of each phase the edits one after another, each in the net as those
-- before it have left it. Source: own choice.
use Rattle.std.specs.Prelude.{◌≡◌, ℕ, suc, List, [], ◌∷◌}
use Rattle.cpn_definitions.specs.Inscription.{PlainExpr, Functions}
use Rattle.cpn_definitions.specs.Marking.{Tokens}
use Rattle.cpn_definitions.specs.Net.{PlainTransition, Coloured, PlainNet, transition_at, place_at}
use Rattle.cpn_definitions.specs.Terms.{terms_of}
use Rattle.cpn_document.specs.Phases.{RawEdit, guard, initial, RawPhase, at_edit}
use Rattle.cpn_document.specs.declared.pointers.EditPart.TheVariants as of_edit
use Rattle.cpn_document.specs.declared.pointers.Pointer.{Pointer}
use Rattle.cpn_flat.specs.InitialMarking.{tokens_of}
use Rattle.cpn_accepted.specs.Completed.{IsCompleted}
use Rattle.cpn_module_trees.specs.Parsing.{IsGuard, IsInscription}
use Rattle.cpn_monitor.specs.Monitors.{PlainMonitor}
use Rattle.cpn_monitor_texts.specs.Named.{transition_named, place_named}
use Rattle.cpn_readings.specs.Relations.{just, such_that, ◌>>=◌}
use Rattle.cpn_typing.specs.BindableRule.{IsBindableAnswer}
use Rattle.cpn_typing.specs.Names.{Declared, Checked}
use Rattle.cpn_edit_texts.specs.Edits.{PlainEdit, edits_guard, edits_initial, net_after, net_after_all, EditedPhase, with_guard}
use Rattle.cpn_edit_texts.specs.Reading.{Reading, read}
use Rattle.cpn_edit_texts.specs.Measured.{measured_over}
use Rattle.cpn_edit_texts.specs.Texts.{known, accepted_at, guard_of, initial_of, terms_so}

-- what a rule that relates answers, read at a pointer
abbrev pub answered_at : {A : Type 0} → Pointer → (Checked A → Type 0) → Reading A → Type 0
answered_at {A} at Answers reading = (answer : Checked A) × Answers answer × (reading ≡ accepted_at at answer)

-- The transition of a number with another guard: its variables are listed again, and have to be bindable; and what monitors measure at its
-- occurrences has to have no other variables.
unfoldable pub transition_so : Declared → PlainNet → List PlainMonitor → Pointer → ℕ → List PlainExpr → Reading PlainTransition → Type 0
transition_so ds n monitors at t conjuncts = do
  edited ← such_that (IsCompleted (with_guard (transition_at n t) conjuncts))
  bindable ← answered_at at (IsBindableAnswer n edited)
  measured ← just (accepted_at at (measured_over ds t edited.vars monitors))
  just (read edited)

-- The tokens that a text puts on a place in the initial marking: it is evaluated at time 0 under no binding.
unfoldable pub tokens_so : Declared → Functions → Pointer → Coloured → List ℕ → Reading Tokens → Type 0
tokens_so ds funs at place text = do
  parsing ← such_that (IsInscription text)
  expr ← just (initial_of ds at place.colour parsing)
  terms ← terms_so at (terms_of funs expr place.colour [] 0)
  just (read (tokens_of place.colour.timed terms))

-- What an edit is that is written in a net with these monitors, by the pointers of itself and of its text: first its name, then its text.
unfoldable pub edit_so : Declared → PlainNet → List PlainMonitor → Pointer → Pointer → RawEdit → Reading PlainEdit → Type 0
edit_so ds n monitors whole at (guard transition text) = do
  t ← just (known whole (transition_named n transition))
  parsing ← such_that (IsGuard text)
  conjuncts ← just (guard_of ds at parsing)
  edited ← transition_so ds n monitors at t conjuncts
  just (read (edits_guard t edited))
edit_so ds n monitors whole at (initial place text) = do
  p ← just (known whole (place_named n place))
  tokens ← tokens_so ds n.functions at (place_at n p) text
  just (read (edits_initial p tokens))

-- The edits of the phase of a number, which are numbered from e on, one after another.
unfoldable pub edits_so : Declared → List PlainMonitor → ℕ → ℕ → PlainNet → List RawEdit → Reading (List PlainEdit) → Type 0
edits_so ds monitors p e n [] = just (read [])
edits_so ds monitors p e n (written ∷ others) = do
  edit ← edit_so ds n monitors (at_edit p e of_edit.Whole) (at_edit p e of_edit.Text) written
  edits ← edits_so ds monitors p (suc e) (net_after n edit) others
  just (read (edit ∷ edits))

-- The phase of a number.
unfoldable pub phase_so : Declared → List PlainMonitor → PlainNet → ℕ → RawPhase → Reading EditedPhase → Type 0
phase_so ds monitors n p written = do
  edits ← edits_so ds monitors p 0 n written.edits
  just (read (record { start = written.start; edits = edits }))

-- The phases of a document, which are numbered from p on, one after another.
unfoldable pub phases_so : Declared → List PlainMonitor → ℕ → PlainNet → List RawPhase → Reading (List EditedPhase) → Type 0
phases_so ds monitors p n [] = just (read [])
phases_so ds monitors p n (written ∷ others) = do
  phase ← phase_so ds monitors n p written
  phases ← phases_so ds monitors (suc p) (net_after_all n phase.edits) others
  just (read (phase ∷ phases))
