-- The pattern around the parts is seen as the bracket of their plain patterns.
use Rattle.std.proofs.Common.{◌≡◌, ◌≢◌, ℕ, List, [], ◌∷◌, ◌++◌, refl, sym, map, length, arith}
use Rattle.std.proofs.lemmas.Bool.Decides.{nat_tests}
use Rattle.cpn_trees.specs.Trees.{PlainPat, pat, pat_tuple, pats_from}
use Rattle.cpn_trees.specs.PatViews.{pat_view}
use Rattle.cpn_syntax.specs.OpenPatterns.{round, bracketed}
use Rattle.cpn_syntax.specs.OpenPatViews.{parts_view}
use Rattle.cpn_trees.specs.declared.patterns.Pat.{Pat}
use Rattle.cpn_syntax.proofs.PatternViews.{view_pat, view_tuple, view_list, view_call}
use Rattle.cpn_syntax.proofs.open_patterns.Bracket.around.Goals as goal
use Rattle.cpn_syntax.proofs.open_patterns.Bracket.around.Goals.{in-Round+else-is_empty+in_ok-with_last-in-Round, in-Square+in_ok-with_last-in-Square, in-Call+in_ok-with_last-in-Call}

around_two : (at : ℕ) (parts : List PlainPat) (last : PlainPat) → parts ≢ [] → bracketed round at (pats_from (parts ++ last ∷ [])) ≡ pat at (pat_tuple (pats_from (parts ++ last ∷ [])))
around_two at [] last some = absurd (some refl)
around_two at (p ∷ []) last some = refl
around_two at (p ∷ q ∷ parts) last some = refl

none_in : (parts : List Pat) → map pat_view parts ≡ [] → length parts ≡ 0
none_in [] none = refl
none_in (p ∷ parts) none = cc

pub returns-clause-tree : goal.returns-clause-tree
returns-clause-tree c = elim c.match-self.branch [
  | in-Round+else-is_empty+in_ok-with_last-in-Round w ↦
      let some : parts_view c.args.parts ≢ [] = λ none. let empty : length c.args.parts.items ≡ 0 = none_in c.args.parts.items none in grind (arith, nat_tests) in
      rw (view_pat, w.form-is, view_tuple, w.in_ok-with_last-in-Round.ensures.parts, w.in-Round.is) (sym (around_two c.args.at (parts_view c.args.parts) (pat_view c.args.last) some))
  | in-Square+in_ok-with_last-in-Square w ↦ rw (view_pat, w.form-is, view_list, w.in_ok-with_last-in-Square.ensures.parts, w.in-Square.is) refl
  | in-Call+in_ok-with_last-in-Call w ↦ rw (view_pat, w.form-is, view_call, w.in_ok-with_last-in-Call.ensures.parts, w.in-Call.is) refl
]
