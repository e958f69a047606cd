-- The colour set of a place of a module.
use Rattle.std.proofs.Common.{◌≡◌, ℕ, ◌<◌, List, length, get_or, map, sym, ap}
use Rattle.std.proofs.lemmas.List.{get_or-map}
use Rattle.cpn_core.specs.Colours.{colour_view}
use Rattle.cpn_core.specs.Nets.{place_view}
use Rattle.cpn_core.specs.declared.nets.Place.{Place}
use Rattle.cpn_definitions.specs.Net.{Coloured, nothing}
use Rattle.cpn_accepted.specs.Nets.{colour_at}

pub colour_there : (places : List Place) (p : ℕ) (d : Place) → p < length places → colour_view (get_or places p d).colour ≡ colour_at (map place_view places) p
colour_there places p d lt = sym (ap (λ (x : Coloured). x.colour) (get_or-map place_view places p d nothing lt))
