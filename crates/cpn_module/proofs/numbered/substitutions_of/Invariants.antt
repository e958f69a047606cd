-- What was seen is there by its numbers.
use Rattle.std.proofs.Common.{◌≡◌, take, map}
use Rattle.cpn_document.specs.Views.{sub_view}
use Rattle.cpn_module.specs.Names.{substitution_among}
use Rattle.cpn_module.specs.Views.{substitution_view}
use Rattle.cpn_module.proofs.numbered.substitutions_of.Given as goal

abbrev pub invariant-loop-sub : goal.invariant-loop-sub
invariant-loop-sub l = map substitution_view l.substitutions.items ≡ map (substitution_among l.names.modules l.names.places.items l.sockets) (map sub_view (take l.sub-index l.subs))
