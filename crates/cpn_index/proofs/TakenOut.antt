-- An element taken out, and back at its time, if it was there.
use Rattle.std.proofs.Common.{◌≡◌, ℕ, Bool, false, List, Option, Some, None, refl, sym, ◌∙◌, subst}
use Rattle.cpn_definitions.specs.Lists.{Rises}
use Rattle.cpn_definitions.specs.Marking.{Marking}
use Rattle.cpn_definitions.specs.Occurrence.{PlainElement}
use Rattle.cpn_due.specs.Due.{PlainEnabled, enabled_cmp, is_kept, kept_of, without}
use Rattle.cpn_index.specs.Retimed.{at_time, retimed, IsBack, IsTakenAnew}
use Rattle.cpn_index.proofs.KeptLists.{none_kept, not_kept, rises_with, rises_without}
use Rattle.cpn_index.proofs.GoneEntries.{none_out}

-- nothing is taken out where there is nothing of the element
pub taken_none : (e : PlainElement) (old new : List PlainEnabled) → kept_of e old ≡ None → new ≡ without e old → new ≡ old
taken_none e old new none is = is ∙ none_out e old (λ x h. none_kept e old x none h)

pub none_taken : (m : Marking) (e : PlainElement) (old now new : List PlainEnabled) → old ≡ now → kept_of e old ≡ None → new ≡ without e old → IsTakenAnew m e now new false
none_taken m e old now new same none is = record {
  absent = λ _. (taken_none e old new none is ∙ same, refl);
  there = λ x kept. absurd (clash (kept_of e now) x (subst (λ (es : List PlainEnabled). kept_of e es ≡ None) same none) kept);
}
  where
    clash : (o : Option PlainEnabled) (x : PlainEnabled) → o ≡ None → o ≡ Some x → ⊥
    clash o x none some = cc

-- with the element back the list rises
pub rises_back
    : (m : Marking) (e : PlainElement) (old others new : List PlainEnabled) (x : PlainEnabled) (changed : Bool) → Rises enabled_cmp old → kept_of e old ≡ Some x → others ≡ without e old → IsBack m x others new changed → Rises enabled_cmp new
rises_back m e old others new x changed rising kept is back = subst (Rises enabled_cmp) (sym back.back) (split back.first)
  where
    rising_others : Rises enabled_cmp others
    rising_others = subst (Rises enabled_cmp) (sym is) (rises_without e old rising)

    split : (first : Option ℕ) → Rises enabled_cmp (retimed first x others)
    split None = rising_others
    split (Some time) = rises_with (at_time time x) others (subst (λ (es : List PlainEnabled). is_kept x.entry.element es ≡ false) (sym is) (not_kept e old x kept)) rising_others
