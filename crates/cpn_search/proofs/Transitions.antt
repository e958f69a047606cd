-- The entries of the transitions of the program's net, one transition after another.
use Rattle.std.proofs.Common.{◌≡◌, ℕ, ◌+◌, List, ◌++◌, length, sym, ◌∙◌, subst}
use Rattle.std.proofs.lemmas.List.{length-map}
use Rattle.cpn_definitions.specs.Marking.{Marking}
use Rattle.cpn_definitions.specs.Net.{PlainNet}
use Rattle.cpn_definitions.specs.Enabled.{PlainFound, PlainEntry, EnabledOf, Enabled}
use Rattle.cpn_core.specs.declared.nets.Net.{Net}
use Rattle.cpn_core.specs.Nets.{transition_view, net_view}
use Rattle.cpn_search.specs.Found.{EnabledBelow, entries_at}
use Rattle.cpn_search.proofs.EnabledBelow.{enabled_more, enabled_all}

-- the entries of one transition more
pub entries_more
    : (n : PlainNet) (m : Marking) (clock t : ℕ) (old new : List PlainEntry) (found : List PlainFound)
    → EnabledBelow n m clock t old
    → EnabledOf n m t found
    → new ≡ old ++ entries_at clock t found
    → EnabledBelow n m clock (t + 1) new
entries_more n m clock t old new found below here is = subst (EnabledBelow n m clock (t + 1)) (sym is) (enabled_more n m clock t old found below here)

-- the entries of all transitions
pub entries_all : (n : Net) (m : Marking) (clock t : ℕ) (entries : List PlainEntry) → EnabledBelow (net_view n) m clock t entries → t ≡ length n.transitions.items → Enabled (net_view n) m clock entries
entries_all n m clock t entries below done =
    enabled_all (net_view n) m clock entries (subst (λ (k : ℕ). EnabledBelow (net_view n) m clock k entries) (done ∙ sym (length-map n.transitions.items transition_view)) below)
