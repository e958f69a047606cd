-- The inscription of an arc, and when two of them are the same.
use Rattle.std.proofs.Common.{◌≡◌, ◌==◌, Bool, true, ◌&&◌, List, map, refl, ap, ap₂, ◌∙◌}
use Rattle.std.specs.Cmp.{unsigned_Decides}
use Rattle.std.proofs.lemmas.Bool.{and_parts, and_from}
use lib.Pointwise.{pointwise}
use Rattle.cpn_definitions.specs.Colour.{PlainColour}
use Rattle.cpn_definitions.specs.Inscription.{ArcInscription}
use Rattle.cpn_definitions.specs.Net.{BindingTerm}
use Rattle.cpn_core.specs.declared.inscriptions.ArcExpr.{ArcExpr}
use Rattle.cpn_core.specs.Colours.{colour_view}
use Rattle.cpn_core.specs.Inscriptions.{multiset_view, term_view}
use Rattle.cpn_same.specs.Equality.{DecidesEquality, decides_from, lists_decide}
use Rattle.cpn_same.specs.SameColours.{same_colour, colours_decide}
use Rattle.cpn_same.specs.SamePatterns.{same_pattern, patterns_decide}
use Rattle.cpn_same.specs.SameTokens.{same_tokens, tokens_decide}

-- The inscription of an arc: the colour set of its place, its tokens, and its binding terms.
pub record PlainArcExpr : Type 0 where
  pub colour : PlainColour
  pub expr : ArcInscription
  pub terms : List BindingTerm

abbrev pub arc_expr_view : ArcExpr → PlainArcExpr
arc_expr_view arc = record { colour = colour_view arc.colour; expr = multiset_view arc.expr; terms = map term_view arc.terms.items }

-- whether two binding terms are the same: as many tokens, and the same pattern
abbrev pub same_term : BindingTerm → BindingTerm → Bool
same_term term other = (term.count == other.count) && same_pattern term.pattern other.pattern

-- whether two inscriptions of arcs are the same: of one colour set, with the same tokens and the same binding terms
abbrev pub same_arc_expr : PlainArcExpr → PlainArcExpr → Bool
same_arc_expr arc other = same_colour arc.colour other.colour && (same_tokens arc.expr other.expr && pointwise same_term arc.terms other.terms)

-- ---- laws

pub terms_decide : DecidesEquality same_term
terms_decide = decides_from same_term itself one
  where
    itself : (term : BindingTerm) → same_term term term ≡ true
    itself term = and_from (term.count == term.count) (same_pattern term.pattern term.pattern) ((unsigned_Decides term.count term.count).1 refl) ((patterns_decide term.pattern term.pattern).1 refl)

    one : (term other : BindingTerm) → same_term term other ≡ true → term ≡ other
    one term other is = let both = and_parts (term.count == other.count) (same_pattern term.pattern other.pattern) is in ap₂ (λ count pattern. record { count = count; pattern = pattern }) ((unsigned_Decides term.count other.count).0 both.0) ((patterns_decide term.pattern other.pattern).0 both.1)

pub arc_exprs_decide : DecidesEquality same_arc_expr
arc_exprs_decide = decides_from same_arc_expr itself one
  where
    itself : (arc : PlainArcExpr) → same_arc_expr arc arc ≡ true
    itself arc = and_from (same_colour arc.colour arc.colour) (same_tokens arc.expr arc.expr && pointwise same_term arc.terms arc.terms)
        ((colours_decide arc.colour arc.colour).1 refl)
        (and_from (same_tokens arc.expr arc.expr) (pointwise same_term arc.terms arc.terms) ((tokens_decide arc.expr arc.expr).1 refl) ((lists_decide same_term terms_decide arc.terms arc.terms).1 refl))

    one : (arc other : PlainArcExpr) → same_arc_expr arc other ≡ true → arc ≡ other
    one arc other is =
        let all = and_parts (same_colour arc.colour other.colour) (same_tokens arc.expr other.expr && pointwise same_term arc.terms other.terms) is in
        let both = and_parts (same_tokens arc.expr other.expr) (pointwise same_term arc.terms other.terms) all.1 in
        ap (λ colour. record { colour = colour; expr = arc.expr; terms = arc.terms }) ((colours_decide arc.colour other.colour).0 all.0)
        ∙ ap₂ (λ expr terms. record { colour = other.colour; expr = expr; terms = terms }) ((tokens_decide arc.expr other.expr).0 both.0) ((lists_decide same_term terms_decide arc.terms other.terms).0 both.1)
