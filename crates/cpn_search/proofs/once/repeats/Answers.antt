-- The last one is that of the greatest number.
use Rattle.std.proofs.Common.{rules, sym, ◌∙◌, arith}
use Rattle.cpn_definitions.specs.Enabled.{binding_cmp}
use Rattle.cpn_search.proofs.BindingOrder.{binding_in}
use Rattle.cpn_search.proofs.OnceFound.{repeats_last, is_equal}
use Rattle.cpn_search.proofs.once.repeats.Goals as goal

pub returns : goal.returns
returns c = record {
  exact = is_equal c.compare.result (binding_cmp (binding_in c.index-found-count.result) (binding_in c.args.element.now)) c.eq.result (search rules) (search rules)
      ∙ sym (repeats_last c.args.found.now c.args.element.now c.index-found-count.result (omega arith) c.index-found-count.is);
}
