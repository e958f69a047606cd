-- The steps of the reading of the nets of modules, put together.
use Rattle.std.proofs.Common.{◌≡◌, ℕ, true, List, refl, sym}
use Rattle.std.specs.Prelude.{Option}
use Rattle.cpn_definitions.specs.Net.{PlainTransition, Coloured}
use Rattle.cpn_readings.specs.ItemByItem.{EachIs}
use Rattle.cpn_readings.specs.Relations.{just, such_that}
use Rattle.cpn_readings.proofs.RelatedReadings.{then_read, refused_first, refused_next, just_refused}
use Rattle.cpn_module.specs.Hierarchy.{PlainStructure}
use Rattle.cpn_module_trees.specs.Trees.{ModuleTrees}
use Rattle.cpn_typing.specs.Names.{Declared}
use Rattle.cpn_accepted.specs.Completed.{IsCompleted}
use Rattle.cpn_accepted.specs.Nets.{Initial, net_from}
use Rattle.cpn_module_nets.specs.Reading.{NetRefusal, Reading, read, each_from}
use Rattle.cpn_module_nets.specs.Accepted.{initial_of, bare_transition, Sides, arc_of, joined_from}
use Rattle.cpn_module_nets.specs.Transitions.{AreBindable}
use Rattle.cpn_module_nets.specs.Documents.{transitions_so, net_so}
use Rattle.cpn_module_nets.specs.Answers.{Refuses, RefusesBy}

-- ---- the transitions of a module

module _ (ds : Declared) (places : List Coloured) (m : ℕ) (s : PlainStructure) (trees : ModuleTrees) where
  -- the transitions without their arcs, and the arcs
  abbrev bares_read : Reading (List PlainTransition)
  bares_read = each_from (bare_transition ds m) 0 trees.transitions

  abbrev arcs_read : Reading (List Sides)
  arcs_read = each_from (arc_of ds places m s) 0 trees.arcs

  -- a guard or a delay is refused
  pub bares_refused : (o : Option NetRefusal) → Refuses o bares_read → RefusesBy (transitions_so ds places m s trees) o
  unfolding transitions_so
  bares_refused o h = refused_first (just bares_read) _ o (just_refused bares_read o h)

  module _ (bares : List PlainTransition) (bares_are : bares_read ≡ read bares) where
    -- the inscription of an arc is refused
    pub arcs_refused : (o : Option NetRefusal) → Refuses o arcs_read → RefusesBy (transitions_so ds places m s trees) o
    unfolding transitions_so
    arcs_refused o h = refused_next (just bares_read) _ bares o (sym bares_are) (refused_first (just arcs_read) _ o (just_refused arcs_read o h))

    module _ (arcs : List Sides) (arcs_are : arcs_read ≡ read arcs) (ts : List PlainTransition) (completed : EachIs IsCompleted (joined_from 0 bares arcs) ts) where
      -- the variables of a transition are refused
      pub variables_refused : (o : Option NetRefusal) → RefusesBy (AreBindable (net_from ds places ts) m 0 ts) o → RefusesBy (transitions_so ds places m s trees) o
      unfolding transitions_so
      variables_refused o h =
          refused_next (just bares_read) _ bares o (sym bares_are) (refused_next (just arcs_read) _ arcs o (sym arcs_are)
          (refused_next (such_that (EachIs IsCompleted (joined_from 0 bares arcs))) _ ts o (ts, completed, refl) (refused_first (AreBindable (net_from ds places ts) m 0 ts) _ o h)))

      -- all are read
      pub transitions_read : AreBindable (net_from ds places ts) m 0 ts (read true) → transitions_so ds places m s trees (read ts)
      unfolding transitions_so
      transitions_read h =
          then_read (just bares_read) _ bares (read ts) (sym bares_are) (then_read (just arcs_read) _ arcs (read ts) (sym arcs_are)
          (then_read (such_that (EachIs IsCompleted (joined_from 0 bares arcs))) _ ts (read ts) (ts, completed, refl) (then_read (AreBindable (net_from ds places ts) m 0 ts) _ true (read ts) h refl)))

-- ---- the net of a module

module _ (ds : Declared) (places : List Coloured) (m : ℕ) (s : PlainStructure) (trees : ModuleTrees) where
  abbrev initials_read : Reading (List (Option Initial))
  initials_read = each_from (initial_of ds places m) 0 trees.places

  -- an initial marking is refused
  pub initials_refused : (o : Option NetRefusal) → Refuses o initials_read → RefusesBy (net_so ds places m s trees) o
  unfolding net_so
  initials_refused o h = refused_first (just initials_read) _ o (just_refused initials_read o h)

  module _ (initials : List (Option Initial)) (initials_are : initials_read ≡ read initials) where
    -- the transitions are refused
    pub transitions_refused : (o : Option NetRefusal) → RefusesBy (transitions_so ds places m s trees) o → RefusesBy (net_so ds places m s trees) o
    unfolding net_so
    transitions_refused o h = refused_next (just initials_read) _ initials o (sym initials_are) (refused_first (transitions_so ds places m s trees) _ o h)

    -- all is read
    pub net_read : (ts : List PlainTransition) → transitions_so ds places m s trees (read ts) → net_so ds places m s trees (read (record { places = places; initials = initials; transitions = ts }))
    unfolding net_so
    net_read ts h = then_read (just initials_read) _ initials _ (sym initials_are) (then_read (transitions_so ds places m s trees) _ ts _ h refl)
