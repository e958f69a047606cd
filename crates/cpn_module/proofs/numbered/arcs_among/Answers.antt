-- The names are those of the module.
use Rattle.std.proofs.Common.{◌∙◌, map, rules}
use Rattle.std.proofs.lemmas.Result.{IfOk-weaker}
use Rattle.cpn_document.specs.Views.{arc_view, module_view}
use Rattle.cpn_module.proofs.NamedHierarchy.{arcs_named}
use Rattle.cpn_module.proofs.numbered.arcs_among.Goals as goal

pub returns : goal.returns
returns c = record {
  ends = IfOk-weaker c.ends_of.result _ _ (λ ends h. h ∙ rw c.as_slice-2.ensures.value (arcs_named (module_view c.args.module.now) _ _ _ (map arc_view c.args.module.now.arcs.items) c.requires.places c.requires.transitions (search rules))) c.ends_of.ensures.ends;
}
