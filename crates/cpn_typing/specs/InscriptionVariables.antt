-- The variables of an inscription of an arc, as they stand in it. Source: own choice.
use Rattle.std.specs.Prelude.{ℕ, List, [], ◌++◌}
use Rattle.cpn_definitions.specs.Inscription.{ArcInscription, no_token, one, times, sum_of, later, stamped, chosen, selected, bound, ArcInscriptions, no_inscriptions, more_inscriptions, ArcArms, no_arc_arms, more_arc_arms}
use Rattle.cpn_definitions.specs.Bindable.{variables_of}

abbrev mutual
  pub inscription_variables : ArcInscription → List ℕ
  inscription_variables no_token = []
  inscription_variables (one e) = variables_of e
  inscription_variables (times k e) = variables_of k ++ variables_of e
  inscription_variables (sum_of ms) = each_variables ms
  inscription_variables (later m delay) = inscription_variables m ++ variables_of delay
  inscription_variables (stamped m stamp) = inscription_variables m
  inscription_variables (chosen c m n) = variables_of c ++ (inscription_variables m ++ inscription_variables n)
  inscription_variables (selected e arms) = variables_of e ++ arms_variables arms
  inscription_variables (bound e m) = variables_of e ++ inscription_variables m

  -- of the parts of a sum, and of the results of the arms of a `case`
  pub each_variables : ArcInscriptions → List ℕ
  each_variables no_inscriptions = []
  each_variables (more_inscriptions m ms) = inscription_variables m ++ each_variables ms

  pub arms_variables : ArcArms → List ℕ
  arms_variables no_arc_arms = []
  arms_variables (more_arc_arms p m arms) = inscription_variables m ++ arms_variables arms
