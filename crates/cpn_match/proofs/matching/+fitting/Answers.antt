-- A pattern more fits what it fits among all of them; past the shorter row it is left to see whether both have ended.
use Rattle.std.proofs.Common.{◌≡◌, ℕ, length, nat_eq, refl, sym, subst, ◌∙◌, arith}
use Rattle.cpn_core.specs.Views.{values_view}
use Rattle.cpn_core.specs.Inscriptions.{patterns_view}
use Rattle.cpn_stages.specs.Fitting.{fitted_each}
use Rattle.cpn_stages.proofs.Partials.{extends_itself, extends_further}
use Rattle.cpn_match.specs.Answers.{BecomesIf}
use Rattle.cpn_match.proofs.Rows.{row_goes, row_end, becomes_if}
use Rattle.cpn_match.proofs.matching.+fitting.Goals as goal

pub fit_all-loop-i-init : goal.fit_all-loop-i-init
fit_all-loop-i-init t c = (refl, extends_itself c.args.partial.now)

pub fit_all-loop-i-preserved : goal.fit_all-loop-i-preserved
fit_all-loop-i-preserved t c = (
  row_goes c.args.patterns.now.items c.args.items.now c.loop-i.i c.index.result.now c.index-items-i.result c.loop-i.partial c.fit.new.partial _ c.in_ok-fit.field-0
      (omega arith)
      (omega arith)
      c.index.ensures
      c.index-items-i.is
      c.loop-i.invariant.0
      c.if-not-branch.false
      c.in_ok-fit.ensures.fitted,
  extends_further c.args.partial.now c.loop-i.partial c.fit.new.partial c.loop-i.invariant.1 c.in_ok-fit.ensures.extends,
)

pub fit_all-returns : goal.fit_all-returns
fit_all-returns t c =
    let patterns = c.args.patterns.now.items in
    let items = c.args.items.now in
    let as_many : c.len-2.result ≡ length patterns = omega arith in
    record {
      fitted =
          subst (λ (n : ℕ). BecomesIf (nat_eq n (length items)) c.loop-i.partial (fitted_each (patterns_view patterns) (values_view items) c.args.partial.now)) (sym as_many)
          (becomes_if (nat_eq (length patterns) (length items)) c.loop-i.partial _ (c.loop-i.invariant.0 ∙ row_end patterns items c.loop-i.i c.loop-i.partial (omega arith)));
      extends = c.loop-i.invariant.1;
    }
