-- The phases are no part of what holds of what is loaded.
use Rattle.cpn_test_simulation.proofs.edited_sessions.loaded_with.Goals as goal

pub returns-clause-well_loaded : goal.returns-clause-well_loaded
returns-clause-well_loaded c =
    let well = c.in_ok-loaded.ensures.well_loaded in
    record {
      sound = well.sound;
      marking = well.marking;
      places = well.places;
      bounded = well.bounded;
      in_time = well.in_time;
      named = well.named;
      declares = well.declares;
      accepted = well.accepted;
    }
