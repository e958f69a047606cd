-- The equations of two conjuncts are those of the first and then those of the second.
use Rattle.std.proofs.Common.{◌≡◌, Some, slice_get, sym, subst}
use Rattle.std.specs.Option.{option_map}
use Rattle.std.specs.List.{flat_map}
use Rattle.cpn_definitions.specs.Bindable.{conjuncts_of}
use Rattle.cpn_definitions.specs.Inscription.{PlainExpr}
use Rattle.cpn_core.specs.Inscriptions.{expr_view}
use Rattle.cpn_core.specs.declared.inscriptions.Expr.{Expr}
use Rattle.cpn_core.proofs.InscriptionLevels.{view_and}
use Rattle.cpn_stages.specs.Stages.{equations_at}
use Rattle.cpn_bindable.specs.Equations.{inscriptions_of, IsReached}
use Rattle.cpn_bindable.proofs.NumberedEquations.{in_first_conjunct, in_second_conjunct}
use Rattle.cpn_bindable.proofs.equations.+inscription_in.Goals as goal

pub returns-in-Some : goal.returns-in-Some
returns-in-Some t c =
    let g = expr_view c.in-Some.inscription.now in
    let k = c.args.passed.now in
    record {
      reached =
          subst (λ (e : Expr). slice_get (inscriptions_of (flat_map equations_at (conjuncts_of (expr_view e)))) k ≡ Some g) (sym c.in-And.is)
          (subst (λ (p : PlainExpr). slice_get (inscriptions_of (flat_map equations_at (conjuncts_of p))) k ≡ Some g) (sym (view_and c.in-And.first c.in-And.second))
          (in_first_conjunct (expr_view c.in-And.first.value) (expr_view c.in-And.second.value) k g (rw c.deref.ensures at c.in-Some.ensures.reached)));
    }

pub returns-in-None : goal.returns-in-None
returns-in-None t c =
    let o = option_map (λ e. expr_view e.now) c.inscription_in-in-None.result in
    let k = c.args.passed.now in
    let left = c.inscription_in-in-None.new.passed in
    record {
      reached =
          subst (λ (e : Expr). IsReached (inscriptions_of (flat_map equations_at (conjuncts_of (expr_view e)))) k left o) (sym c.in-And.is)
          (subst (λ (p : PlainExpr). IsReached (inscriptions_of (flat_map equations_at (conjuncts_of p))) k left o) (sym (view_and c.in-And.first c.in-And.second))
          (in_second_conjunct (expr_view c.in-And.first.value) (expr_view c.in-And.second.value) k c.inscription_in.new.passed left o (rw c.deref.ensures at c.in-None.ensures.reached) (rw c.deref-in-None.ensures at c.inscription_in-in-None.ensures.reached)));
    }
