-- An edit that leaves all but guards and variables sets the guard of a transition.
use Rattle.std.proofs.Common.{◌≡◌, ℕ, ◌<◌, List, length, map, get_or, set, sym, ap, subst, ◌∙◌}
use Rattle.std.proofs.lemmas.List.{get_or-map, get_or-set_same, length-set}
use Rattle.cpn_definitions.specs.Net.{PlainTransition, PlainNet, no_transition, transition_at}
use Rattle.cpn_edit_texts.specs.Edits.{edits_guard, net_after, but_guard, AreAlikeButGuards}
use Rattle.cpn_definitions.specs.Marking.{Marking}
use Rattle.cpn_index.specs.Index.{with_guard_at, IsIndexOf, MaySetGuard}
use Rattle.cpn_index.specs.declared.index.Index.{Index}

-- a transition that is another but for its guard and its variables is that one with these
but_for_guard : (u t : PlainTransition) → but_guard u ≡ but_guard t → u ≡ record t { guard = u.guard; vars = u.vars }
but_for_guard u t same = ap (λ (x : PlainTransition). record x { guard = u.guard; vars = u.vars }) same

pub guard_is_set : (n : PlainNet) (t : ℕ) (u : PlainTransition) → t < length n.transitions → AreAlikeButGuards (net_after n (edits_guard t u)) n → net_after n (edits_guard t u) ≡ with_guard_at n t u.guard u.vars
guard_is_set n t u there alike =
    ap (λ (x : PlainTransition). record n { transitions = set n.transitions t x }) (but_for_guard u (transition_at n t) same)
  where
    us : List PlainTransition
    us = set n.transitions t u

    all_same : map but_guard us ≡ map but_guard n.transitions
    all_same = ap (λ (k : PlainNet). k.transitions) alike

    there_still : t < length us
    there_still = subst (λ (k : ℕ). t < k) (sym (length-set n.transitions t u)) there

    same : but_guard u ≡ but_guard (transition_at n t)
    same =
        ap but_guard (sym (get_or-set_same n.transitions t u no_transition there)) ∙ sym (get_or-map but_guard us t no_transition no_transition there_still)
        ∙ ap (λ (ts : List PlainTransition). get_or ts t no_transition) all_same ∙ get_or-map but_guard n.transitions t no_transition no_transition there

-- so the guard may be set in an index of the net
pub guard_may_be_set
    : (n new : PlainNet) (m : Marking) (t : ℕ) (u : PlainTransition) (index : Index)
    → new ≡ net_after n (edits_guard t u)
    → IsIndexOf n m index
    → t < length n.transitions
    → AreAlikeButGuards (net_after n (edits_guard t u)) n
    → MaySetGuard new m t index
guard_may_be_set n new m t u index made is there alike = record { old = n; was = is; guard = u.guard; vars = u.vars; is_set = made ∙ guard_is_set n t u there alike }
