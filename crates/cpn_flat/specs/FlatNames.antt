-- The names of a flat net as monitors and edits give them. Source: own choice.
use Rattle.std.specs.Prelude.{◌≡◌, true}
use Rattle.std.specs.List.{list_all}
use Rattle.cpn_definitions.specs.DistinctNames.{place_names, transition_names}
use Rattle.cpn_definitions.specs.Net.{PlainNet}
use Rattle.cpn_document.specs.Texts.{is_flat_name}

-- The name of each place and of each transition is a flattened name.
pub record HasFlatNames (n : PlainNet) : Type 0 where
  pub places : list_all is_flat_name (place_names n) ≡ true
  pub transitions : list_all is_flat_name (transition_names n) ≡ true
