-- The names of all modules were taken.
use Rattle.std.proofs.Common.{arith}
use Rattle.cpn_document.specs.Views.{module_view}
use Rattle.cpn_module.specs.Named.{place_names}
use Rattle.cpn_module.proofs.MappedLists.{mapped_all}
use Rattle.cpn_module.proofs.name_lists.places_of.Goals as goal

pub loop-module-init : goal.loop-module-init
loop-module-init c = c.in_ok-places.ensures.items

pub returns : goal.returns
returns c = record { names = mapped_all place_names module_view c.args.modules.now c.loop-module.module-index (omega arith) _ c.loop-module.invariant }
