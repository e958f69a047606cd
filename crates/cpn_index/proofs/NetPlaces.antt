-- What is found of a net is on its places, as many as the elements may wait on.
use Rattle.std.proofs.Common.{◌≡◌, ℕ, ◌<◌, List, length, vec_len, sym, subst, ◌∙◌}
use Rattle.std.proofs.lemmas.List.{length-map}
use Rattle.std.specs.List.{AllByRecursion}
use Rattle.cpn_definitions.specs.Sound.{IsSound}
use Rattle.cpn_core.specs.Nets.{place_view, transition_view, net_view}
use Rattle.cpn_core.specs.declared.nets.Net.{Net}
use Rattle.cpn_core.specs.declared.entries.EnabledElement.{EnabledElement}
use Rattle.cpn_search.specs.FoundViews.{AreOf}
use Rattle.cpn_index.proofs.AddedElements.{found_in_range}

-- the number of a transition of the program's net is one of the net
pub known_transition : (n : Net) (t : ℕ) → t < length n.transitions.items → t < length (net_view n).transitions
known_transition n t lt = subst (λ (k : ℕ). t < k) (sym (length-map n.transitions.items transition_view)) lt

pub of_the_program : (n : Net) (t : ℕ) → t < length (net_view n).transitions → t < length n.transitions.items
of_the_program n t lt = subst (λ (k : ℕ). t < k) (length-map n.transitions.items transition_view) lt

-- each needs tokens on these places alone
abbrev pub AreWithin : ℕ → List EnabledElement → Type 0
AreWithin places found = AllByRecursion (λ x. AllByRecursion (λ need. need.place < places) x.needs) found

pub found_within : (n : Net) (t places : ℕ) (found : List EnabledElement) → IsSound (net_view n) → t < length n.transitions.items → AreOf (net_view n) t found → places ≡ length (net_view n).places → AreWithin places found
found_within n t places found sound lt are is = subst (λ (k : ℕ). AreWithin k found) (sym is) (found_in_range (net_view n) t found sound (known_transition n t lt) are)

-- as many places as the program's net has
pub as_many_places : (n : Net) → vec_len n.places ≡ length (net_view n).places
as_many_places n = n.places.ok.0 ∙ sym (length-map n.places.items place_view)
