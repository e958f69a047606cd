-- What holds of each flat net and its initial marking.
use Rattle.std.specs.Prelude.{◌≡◌, length}
use Rattle.std.specs.List.{AllByRecursion}
use Rattle.cpn_definitions.specs.Bounds.{IsBounded, IsInTime}
use Rattle.cpn_definitions.specs.Named.{IsNamed}
use Rattle.cpn_definitions.specs.Sound.{IsSound, IsMarking}
use Rattle.cpn_definitions.specs.Terms.{most_tokens}
use Rattle.cpn_typing.specs.AcceptedTransitions.{IsAcceptedTransition}
use Rattle.cpn_typing.specs.DeclaresFor.{DeclaresFor}
use Rattle.cpn_flat.specs.Flat.{PlainLoaded}

-- The net is sound; the initial marking is one of its places, with at most 65,536 tokens on each, and time stamps in their
-- range; the net names what a report prints; what is declared is the net's; and its transitions are of accepted inscriptions.
pub record IsWellLoaded (loaded : PlainLoaded) : Type 0 where
  pub sound : IsSound loaded.net
  pub marking : IsMarking loaded.net.places loaded.initial
  pub places : length loaded.initial ≡ length loaded.net.places
  pub bounded : IsBounded most_tokens loaded.initial
  pub in_time : IsInTime loaded.initial
  pub named : IsNamed loaded.net
  pub declares : DeclaresFor loaded.declared loaded.net
  pub accepted : AllByRecursion (IsAcceptedTransition loaded.declared) loaded.net.transitions
