-- The next name is added, until all are.
use Rattle.std.proofs.Common.{ap, ◌∙◌, arith}
use Rattle.std.specs.Prelude.{string_bytes}
use Rattle.cpn_document.specs.declared.document.Sub.{Sub}
use Rattle.cpn_document.specs.Views.{sub_view}
use Rattle.cpn_module.specs.Names.{texts_of}
use Rattle.cpn_module.proofs.NameNumbers.{names_more, names_all}
use Rattle.cpn_module.proofs.name_lists.Names.of_subs.Goals as goal

pub loop-sub-preserved : goal.loop-sub-preserved
loop-sub-preserved c =
    rw c.in_ok-push.ensures.items (names_more (λ s. s.name) sub_view c.args.subs.now c.loop-sub.sub-index c.sub-item.result c.loop-sub-test.true c.loop-sub.names.items c.as_str.result (c.as_str.ensures.value ∙ ap (λ (s : Sub). string_bytes s.name) c.sub-item.is) c.loop-sub.invariant)

pub loop-sub-init : goal.loop-sub-init
loop-sub-init c = ap texts_of c.in_ok-names.ensures.items

pub returns : goal.returns
returns c = record { names = names_all (λ s. s.name) sub_view c.args.subs.now c.loop-sub.sub-index (omega arith) c.loop-sub.names.items c.loop-sub.invariant c.of.result c.of.ensures.names }
