-- The names that were seen are there.
use Rattle.std.proofs.Common.{◌≡◌, take, map}
use Rattle.cpn_document.specs.Views.{module_view}
use Rattle.cpn_module.specs.Names.{texts_of}
use Rattle.cpn_module.proofs.name_lists.Names.of_modules.Given as goal

abbrev pub invariant-loop-module : goal.invariant-loop-module
invariant-loop-module l = texts_of l.names.items ≡ map (λ m. m.name) (map module_view (take l.module-index l.modules))
