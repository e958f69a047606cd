-- A pattern binds what the definition says, form by form.
use Rattle.std.proofs.Common.{Some, None, if◌then◌else◌, map, refl, ap, sym, ◌∙◌, rules, arith}
use Rattle.std.proofs.lemmas.Grind.{common_steps}
use Rattle.cpn_core.specs.Views.{value_view, values_view}
use Rattle.cpn_core.specs.Inscriptions.{pattern_view}
use Rattle.cpn_core.proofs.InscriptionLevels.{view_cons_pattern}
use Rattle.cpn_definitions.specs.Value.{list}
use Rattle.cpn_definitions.specs.Inscription.{cons_pattern}
use Rattle.cpn_definitions.specs.Matching.{matched}
use Rattle.cpn_eval.specs.Answers.{with_front}
use Rattle.cpn_eval.proofs.Fronts.{if_true, front_fits, front_misses, list_goes, list_misses}
use Rattle.cpn_eval.proofs.matching.+matching.Goals as goal

pub all_match-loop-i-preserved : goal.all_match-loop-i-preserved
all_match-loop-i-preserved t c =
    front_fits c.args.patterns.now.items c.args.items.now c.loop-i.i c.index.result.now c.index-items-i.result (map value_view c.loop-i.found.items) (map value_view c.matches.new.found.items) _ c.in_ok-matches.field-0
    (grind (arith, common_steps))
    (grind (arith, common_steps))
    (search rules)
    c.index-items-i.is
    c.loop-i.invariant
    (search rules)
    c.in_ok-matches.ensures.bound

pub all_match-returns-then-not-branch : goal.all_match-returns-then-not-branch
all_match-returns-then-not-branch t c = record {
  bound = c.loop-i.invariant ∙ front_misses c.args.patterns.now.items c.args.items.now c.loop-i.i c.index.result.now c.index-items-i.result (map value_view c.loop-i.found.items) (map value_view c.matches.new.found.items) _ c.in_ok-matches.field-0
      (grind (arith, common_steps))
      (grind (arith, common_steps))
      (search rules)
      c.index-items-i.is
      refl
      (search rules)
      c.in_ok-matches.ensures.bound;
}

pub list_matches-returns-then-not-branch : goal.list_matches-returns-then-not-branch
list_matches-returns-then-not-branch t c = record {
  bound = ap (λ p. with_front (map value_view c.args.found.now.items) (matched p (list (values_view c.args.items.now))))
      (ap pattern_view c.in-Cons.is ∙ view_cons_pattern c.in-Cons.first c.in-Cons.rest
      ∙ ap (λ x. cons_pattern (pattern_view x) (pattern_view c.in-Cons.rest.value)) (sym c.deref.ensures))
      ∙ list_misses (pattern_view c.deref.result.now) (pattern_view c.in-Cons.rest.value) c.args.items.now c.item-item.result (map value_view c.args.found.now.items) (map value_view c.matches.new.found.items) c.in_ok-matches-in-len1-up.field-0
      c.in-len1-up.len_at_least
      c.item-item.is
      (search rules)
      c.in_ok-matches-in-len1-up.ensures.bound;
}

pub list_matches-returns-in_ok-all-in-len1-up : goal.list_matches-returns-in_ok-all-in-len1-up
list_matches-returns-in_ok-all-in-len1-up t c = record {
  bound = ap (λ p. with_front (map value_view c.args.found.now.items) (matched p (list (values_view c.args.items.now))))
      (ap pattern_view c.in-Cons.is ∙ view_cons_pattern c.in-Cons.first c.in-Cons.rest
      ∙ ap (λ x. cons_pattern (pattern_view x) (pattern_view c.in-Cons.rest.value)) (sym c.deref.ensures)
      ∙ ap (λ x. cons_pattern (pattern_view c.deref.result.now) (pattern_view x)) (sym c.deref-in-len1-up.ensures))
      ∙ list_goes (pattern_view c.deref.result.now) (pattern_view c.deref-in-len1-up.result.now) c.args.items.now c.item-item.result (map value_view c.args.found.now.items) (map value_view c.matches.new.found.items) (if c.in_ok-all-in-len1-up.all then Some (map value_view c.list_matches.new.found.items) else None)
      c.in-len1-up.len_at_least
      c.item-item.is
      (if_true c.in_ok-matches-in-len1-up.field-0 _ (Some (map value_view c.matches.new.found.items)) None (search rules) c.in_ok-matches-in-len1-up.ensures.bound)
      c.in_ok-all-in-len1-up.ensures.bound;
}
