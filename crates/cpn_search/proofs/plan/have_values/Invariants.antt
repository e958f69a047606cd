-- All have values exactly where those that are looked at later have.
use Rattle.std.proofs.Common.{◌≡◌, ◌&&◌, not, drop}
use Rattle.std.specs.List.{list_all}
use Rattle.cpn_stages.specs.Stages.{is_among}
use Rattle.cpn_search.proofs.plan.have_values.Given as goal

abbrev pub invariant-loop-number : goal.invariant-loop-number
invariant-loop-number l =
    list_all (λ x. is_among l.transition.vars.items x && not (is_among l.left x)) (drop l.number-index l.numbers)
    ≡ list_all (λ x. is_among l.transition.vars.items x && not (is_among l.left x)) l.numbers
