-- A place of the net, as plain data.
use Rattle.std.proofs.Common.{◌≡◌, ℕ, ◌<◌, length, get_or, sym, ap, ◌∙◌}
use Rattle.std.proofs.lemmas.List.{get_or-map}
use Rattle.cpn_definitions.specs.Net.{place_at, nothing}
use Rattle.cpn_core.specs.Nets.{place_view, net_view}
use Rattle.cpn_core.specs.declared.nets.Place.{Place}
use Rattle.cpn_core.specs.declared.nets.Net.{Net}

module _ (n : Net) (p : ℕ) (place : Place) (lt : p < length n.places.items) (at : place ≡ get_or n.places.items p place) where
  pub place_there : place_at (net_view n) p ≡ place_view place
  place_there = get_or-map place_view n.places.items p place nothing lt ∙ ap place_view (sym at)
