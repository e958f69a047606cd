-- One place instance more.
use Rattle.std.proofs.Common.{◌∙◌, ◌++◌, option_map, sym, ap₂, arith}
use Rattle.std.proofs.lemmas.List.{take_all}
use Rattle.cpn_flat.specs.InitialMarking.{added, written_in}
use Rattle.cpn_flat.specs.WrittenViews.{referred_view, optional_view}
use Rattle.cpn_flat.proofs.WrittenLists.{written_next}
use Rattle.cpn_flat.proofs.written.written_lists.Goals as goal

pub loop-number-preserved : goal.loop-number-preserved
loop-number-preserved c = record {
  each = c.in_ok-push_written.ensures.each ∙ c.loop-number.invariant.each;
  written = λ k lt.
      c.in_ok-push_written.ensures.pushed k
      ∙ ap₂ (λ xs ys. xs ++ ys) (c.loop-number.invariant.written k lt) (ap₂ (λ class initial. added k class (option_map referred_view initial)) c.number-class.ensures.number c.index-initials-number.is)
      ∙ sym (written_next (option_map referred_view) k c.args.classes.now.numbers c.args.initials.now c.loop-number.number c.index-initials-number.result (let e = c.requires.as_many in omega arith) c.loop-number-test.true);
}

pub loop-number-init : goal.loop-number-init
loop-number-init c = record { each = c.in_ok-lists.ensures.each ∙ c.classes.ensures.classes; written = λ k lt. c.in_ok-lists.ensures.empty k }

pub returns : goal.returns
returns c =
    let as_many = c.requires.as_many in
    record {
      each = c.loop-number.invariant.each;
      written = λ k lt. c.loop-number.invariant.written k lt ∙ ap₂ (λ numbers initials. written_in k numbers (optional_view initials)) (take_all c.loop-number.number c.args.classes.now.numbers (omega (arith, as_many))) (take_all c.loop-number.number c.args.initials.now (omega arith));
    }
