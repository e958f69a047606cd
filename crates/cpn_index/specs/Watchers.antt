-- Which elements wait for a value on a place: those that need a token of the value there. Source: own choice.
use Rattle.std.specs.Prelude.{ℕ, ◌==◌, Bool, ◌&&◌, List, [], length, slice_get, option_map}
use Rattle.std.specs.List.{list_any}
use Rattle.std.specs.Option.{unwrap_or}
use Rattle.cpn_definitions.specs.Value.{PlainValue}
use Rattle.cpn_definitions.specs.Order.{same_value}
use Rattle.cpn_definitions.specs.Occurrence.{PlainElement, Needed}
use Rattle.cpn_index.specs.Waiting.{Sets, waiting_for, has_watcher}
use Rattle.cpn_index.specs.declared.waiting.Waiting.{Waiting}
use Rattle.cpn_index.specs.declared.watchers.Watchers.{Watchers}

-- whether a token of the value on the place is among the needs
abbrev pub is_needed : ℕ → PlainValue → List Needed → Bool
is_needed p v needs = list_any (λ need. (p == need.place) && same_value v need.value) needs

-- the values that are waited for on the place, with those that wait
abbrev pub waiting_on : ℕ → List Waiting → Sets
waiting_on p places = unwrap_or (option_map (λ place. place.sets.entries) (slice_get places p)) []

-- Watched: the element is among those that wait for the value on the place.
abbrev pub is_watched : Watchers → ℕ → PlainValue → PlainElement → Bool
is_watched watchers p v e = has_watcher e (waiting_for v (waiting_on p watchers.places.items))

-- the number of places
abbrev pub places_of : Watchers → ℕ
places_of watchers = length watchers.places.items
