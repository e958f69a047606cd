-- The plain picks that those of the program stand for, and what they were picked for.
use Rattle.std.specs.Prelude.{List, map}
use Rattle.cpn_core.specs.Views.{value_view}
use Rattle.cpn_tmset.specs.Picks.{Demand, PlainPick}
use Rattle.cpn_tmset.specs.declared.picks.Pick.{Pick}

abbrev pub pick_view : Pick → PlainPick
pick_view pick = record { value = value_view pick.value; threshold = pick.threshold; stamp = pick.stamp }

abbrev pub picks_view : List Pick → List PlainPick
picks_view picks = map pick_view picks

-- the demand that a pick answers
abbrev pub demand_of : Pick → Demand
demand_of pick = record { value = value_view pick.value; threshold = pick.threshold }

abbrev pub demands_of : List Pick → List Demand
demands_of picks = map demand_of picks
