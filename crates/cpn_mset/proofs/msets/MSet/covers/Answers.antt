-- The first value that is left decides, or there is none left.
use Rattle.std.proofs.Common.{◌≡◌, true, false, ◌&&◌, nat_le, sym, ap, subst, ◌∙◌, arith}
use Rattle.std.proofs.lemmas.Bool.{lt-leb}
use Rattle.std.proofs.lemmas.Map.Iter.{rest_more, rest_all}
use Rattle.std.specs.Map.Iter.{deref_pair}
use Rattle.cpn_core.specs.Views.{value_view}
use Rattle.cpn_mset.specs.MSets.{IsMSet, appearances}
use Rattle.cpn_mset.specs.Views.{counts_view}
use Rattle.cpn_mset.proofs.CoveredMSets.{covers_each, covers_is}
use Rattle.cpn_mset.proofs.msets.MSet.covers.Goals as goal

pub returns-then-count-number : goal.returns-then-count-number
returns-then-count-number c =
    let this = c.args.self.now in
    let first = rest_more deref_pair c.loop-value.value-iterator c.next.new.self c.next.result (c.in-Some.value, c.in-Some.number) c.in-Some.is c.next.ensures.steps in
    let short : nat_le c.in-Some.number.now (appearances (value_view c.in-Some.value.now) this) ≡ false = lt-leb c.in-Some.number.now (appearances (value_view c.in-Some.value.now) this) (omega (arith, c.count.ensures.number)) in
    let no : false ≡ covers_each this c.args.other.now =
    sym (ap (λ b. b && covers_each this (counts_view c.next.new.self)) short) ∙ sym (ap (λ es. covers_each this (counts_view es)) first) ∙ c.loop-value.invariant in
    record { exact = covers_is this c.args.other.now false (subst IsMSet c.other.view_is c.other.invariant) no }

pub returns : goal.returns
returns c =
    let this = c.args.self.now in
    let none = rest_all deref_pair c.loop-value.value-iterator c.next.new.self c.next.result c.in-None.is c.next.ensures.steps in
    let yes : true ≡ covers_each this c.args.other.now = sym (ap (λ es. covers_each this (counts_view es)) none) ∙ c.loop-value.invariant in
    record { exact = covers_is this c.args.other.now true (subst IsMSet c.other.view_is c.other.invariant) yes }
