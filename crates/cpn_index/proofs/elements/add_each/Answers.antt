-- One element more.
use Rattle.std.proofs.Common.{[], ◌∷◌, map, sym, ◌∙◌, subst}
use Rattle.std.proofs.lemmas.List.{map-append}
use Rattle.cpn_due.specs.Due.{plain_enabled}
use Rattle.cpn_index.specs.Added.{AreAdded}
use Rattle.cpn_index.proofs.AddedElements.{added_then}
use Rattle.cpn_index.proofs.elements.add_each.Goals as goal

pub loop-element-preserved : goal.loop-element-preserved
loop-element-preserved c =
    let old = c.args.due.now.elements in
    let new = c.add.new.due.elements in
    let so_far = c.loop-element.yielded in
    let element = c.in-Some.element in
    record {
      added = subst (λ more. AreAdded old more new) (sym (map-append plain_enabled so_far (element ∷ []))) (added_then old c.loop-element.due.elements new (map plain_enabled so_far) (plain_enabled element ∷ []) c.loop-element.invariant.added c.in_ok-add.ensures.added);
      in_order = c.in_ok-add.ensures.in_order;
      watched = c.in_ok-add.ensures.watched;
      clock = c.add.ensures.clock ∙ c.loop-element.invariant.clock;
      places = c.add.ensures.places ∙ c.loop-element.invariant.places;
    }
