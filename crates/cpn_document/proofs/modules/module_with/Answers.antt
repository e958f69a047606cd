-- The rules are looked at one group behind the other.
use Rattle.std.proofs.Common.{refl}
use Rattle.cpn_document.specs.Views.{module_view}
use Rattle.cpn_document.proofs.BrokenRules.{breaks_here, breaks_later, both_kept, gives_error}
use Rattle.cpn_document.proofs.modules.module_with.Goals as goal

pub returns-in_err-transitions : goal.returns-in_err-transitions
returns-in_err-transitions c = record {
  gives = gives_error module_view c.from_residual.result _ _ c.in_err-transitions.field-0.0 c.from_residual.ensures.1
      (breaks_here _ _ _ (breaks_here _ _ _ c.in_err-transitions.ensures.gives));
}

pub returns-in_err-arcs : goal.returns-in_err-arcs
returns-in_err-arcs c =
    let broken = rw c.in_ok-transitions.ensures.names at c.in_err-arcs.ensures.gives in
    record {
      gives = gives_error module_view c.from_residual-in_err-arcs.result _ _ c.in_err-arcs.field-0.0 c.from_residual-in_err-arcs.ensures.1
          (breaks_here _ _ _ (breaks_later _ _ _ c.in_ok-transitions.ensures.gives.1 broken));
    }

pub returns-in_err-subs : goal.returns-in_err-subs
returns-in_err-subs c =
    let arcs = rw c.in_ok-transitions.ensures.names at c.in_ok-arcs.ensures.gives.1 in
    let broken = rw c.in_ok-transitions.ensures.names at c.in_err-subs.ensures.gives in
    record {
      gives = gives_error module_view c.from_residual-in_err-subs.result _ _ c.in_err-subs.field-0.0 c.from_residual-in_err-subs.ensures.1
          (breaks_later _ _ _ (both_kept _ _ c.in_ok-transitions.ensures.gives.1 arcs) broken);
    }

pub returns : goal.returns
returns c =
    let arcs = rw c.in_ok-transitions.ensures.names at c.in_ok-arcs.ensures.gives.1 in
    let subs = rw c.in_ok-transitions.ensures.names at c.in_ok-subs.ensures.gives.1 in
    record {
      gives = (
        rw (c.in_ok-copied.ensures.text, c.text_or_empty.ensures.exact, c.in_ok-transitions.ensures.gives.0, c.in_ok-arcs.ensures.gives.0, c.in_ok-subs.ensures.gives.0) refl,
        both_kept _ _ (both_kept _ _ c.in_ok-transitions.ensures.gives.1 arcs) subs,
      );
    }
