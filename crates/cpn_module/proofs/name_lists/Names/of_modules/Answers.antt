-- The next name is added, until all are.
use Rattle.std.proofs.Common.{ap, ◌∙◌, arith}
use Rattle.std.specs.Prelude.{string_bytes}
use Rattle.cpn_document.specs.declared.document.Module.{Module}
use Rattle.cpn_document.specs.Views.{module_view}
use Rattle.cpn_module.specs.Names.{texts_of}
use Rattle.cpn_module.proofs.NameNumbers.{names_more, names_all}
use Rattle.cpn_module.proofs.name_lists.Names.of_modules.Goals as goal

pub loop-module-preserved : goal.loop-module-preserved
loop-module-preserved c =
    rw c.in_ok-push.ensures.items (names_more (λ m. m.name) module_view c.args.modules.now c.loop-module.module-index c.module-item.result c.loop-module-test.true c.loop-module.names.items c.as_str.result (c.as_str.ensures.value ∙ ap (λ (m : Module). string_bytes m.name) c.module-item.is) c.loop-module.invariant)

pub loop-module-init : goal.loop-module-init
loop-module-init c = ap texts_of c.in_ok-names.ensures.items

pub returns : goal.returns
returns c = record { names = names_all (λ m. m.name) module_view c.args.modules.now c.loop-module.module-index (omega arith) c.loop-module.names.items c.loop-module.invariant c.of.result c.of.ensures.names }
