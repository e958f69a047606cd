-- Events of which none gives a claim back: one part after another, and how a run ends by them.
use Rattle.std.proofs.Common.{◌≡◌, ◌≢◌, List, [], ◌∷◌, ◌++◌, Some, None, Option, ◌⊎◌, refl, sym, ◌∙◌, subst, inl, inr, ⊎_elim}
use Rattle.std.specs.Option.{MatchOption}
use Rattle.cpn_runs.specs.State.{PlainSetup, PlainEvent, claim_made, claim_completed, clock_moved, cut_made, PlainEnd, dead, steps_made, until_passed, fault_end, stopped_by, wants_memory, PlainCut, PlainState, IsDue, Happens, Leads, HasCause, EndsBy}
use Rattle.cpn_runs.specs.GivingBack.{IsCutForMemory, IsOwedIfCut, NoneIsGivenBack}
use Rattle.cpn_runs.proofs.Cuts.{owed_is_not_for_memory}

-- of two parts of which none does
pub none_of_both
    : (setup : PlainSetup) (old : PlainState) (first more : List PlainEvent)
    → NoneIsGivenBack setup old first
    → ((mid : PlainState) → Leads setup old first mid → NoneIsGivenBack setup mid more)
    → NoneIsGivenBack setup old (first ++ more)
none_of_both setup old [] more none rest = rest old refl
none_of_both setup old (event ∷ first) more none rest = (none.0, λ mid happens. none_of_both setup mid first more (none.1 mid happens) (λ new leads. rest new (mid, happens, leads)))

-- no cut stands for want of memory
abbrev NoneForMemory : Option PlainCut → Type 0
NoneForMemory None = Unit {0}
NoneForMemory (Some cut) = cut.cause ≢ wants_memory

event_for_other : (setup : PlainSetup) (old : PlainState) (event : PlainEvent) (new : PlainState) → IsOwedIfCut setup old event → NoneForMemory old.cut → Happens setup old event new → NoneForMemory new.cut
event_for_other setup old (claim_made seat number) new owed none happens = subst (λ (s : PlainState). NoneForMemory s.cut) (sym happens.new_is) none
event_for_other setup old (claim_completed seat number) new owed none happens = subst (λ (s : PlainState). NoneForMemory s.cut) (sym happens.new_is) none
event_for_other setup old (clock_moved time) new owed none happens = subst (λ (s : PlainState). NoneForMemory s.cut) (sym happens.new_is) none
event_for_other setup old (cut_made number) new owed none happens = subst (λ (s : PlainState). NoneForMemory s.cut) (sym happens.new_is) (by happens.due)
  where
    by : IsDue setup old happens.cut → happens.cut.cause ≢ wants_memory
    by (inl is) = owed_is_not_for_memory setup old happens.cut is
    by (inr back) = absurd (owed back.none_owed)

events_for_other : (setup : PlainSetup) (old : PlainState) (events : List PlainEvent) (new : PlainState) → NoneIsGivenBack setup old events → NoneForMemory old.cut → Leads setup old events new → NoneForMemory new.cut
events_for_other setup old [] new back none leads = subst (λ (s : PlainState). NoneForMemory s.cut) (sym leads) none
events_for_other setup old (event ∷ events) new back none leads = events_for_other setup leads.0 events new (back.1 leads.0 leads.1) (event_for_other setup old event leads.0 back.0 none leads.1) leads.2

-- whether a cause is want of memory
by_memory_or_not : (cause : PlainEnd) → (cause ≡ wants_memory) ⊎ (cause ≢ wants_memory)
by_memory_or_not dead = inr (λ is. let e : dead ≡ wants_memory = is in cc)
by_memory_or_not steps_made = inr (λ is. let e : steps_made ≡ wants_memory = is in cc)
by_memory_or_not (until_passed time) = inr (λ is. let e : until_passed time ≡ wants_memory = is in cc)
by_memory_or_not (fault_end e fault) = inr (λ is. let e : fault_end e fault ≡ wants_memory = is in cc)
by_memory_or_not (stopped_by monitor) = inr (λ is. let e : stopped_by monitor ≡ wants_memory = is in cc)
by_memory_or_not wants_memory = inl refl

stood : (cut : Option PlainCut) → (NoneForMemory cut → ⊥) → IsCutForMemory cut
stood None never = never tt
stood (Some cut) never = ⊎_elim (λ is. is) (λ other. absurd (never other)) (by_memory_or_not cut.cause)

-- where no claim is given back from a state on, an end for want of memory is by a cut that stood there already
pub ends_for_memory
    : (setup : PlainSetup) (old : PlainState) (events : List PlainEvent) (new : PlainState) (cause : PlainEnd)
    → NoneIsGivenBack setup old events
    → Leads setup old events new
    → EndsBy setup new cause
    → cause ≡ wants_memory
    → IsCutForMemory old.cut
ends_for_memory setup old events new cause back leads ends memory = stood old.cut (λ none. otherwise new.cut ends.has_cause (events_for_other setup old events new back none leads) memory)
  where
    otherwise : (cut : Option PlainCut) → MatchOption cut (HasCause setup new cause) (λ c. cause ≡ c.cause) → NoneForMemory cut → cause ≢ wants_memory
    otherwise None has none = λ for_memory. subst (HasCause setup new) for_memory has
    otherwise (Some cut) is none = λ for_memory. none (sym is ∙ for_memory)
