-- How many arcs the transitions of a module have, counted arc by arc.
use Rattle.std.proofs.Common.{◌≡◌, ℕ, ◌+◌, ◌*◌, ◌<◌, ◌≤◌, Bool, true, false, cond, nat_le, if◌then◌else◌, List, [], ◌∷◌, ◌&&◌, length, take, drop, get_or, map, refl, ◌∙◌, arith}
use Rattle.std.specs.Prelude.{slice_index_or}
use Rattle.std.specs.Str.{bytes_eq}
use Rattle.std.proofs.lemmas.Bool.{le-leb}
use Rattle.std.proofs.lemmas.Bool.Decides.{nat_tests}
use Rattle.std.proofs.lemmas.List.{take_more, drop_more, map-append}
use Rattle.std.proofs.lemmas.List.Sums.{sum_by-cons, sum_by_push}
use Rattle.cpn_document.specs.Document.{RawArc, arcs_on, arcs_at, have_few_arcs}
use Rattle.cpn_document.specs.Views.{arc_view}
use Rattle.cpn_document.specs.declared.document.Arc.{Arc}
use Rattle.cpn_document.specs.declared.document.Way.{Way}
use Rattle.cpn_document.specs.declared.document.Way.TheVariants as ways

-- how many an arc is at the transition of a name
abbrev pub arcs_here : List ℕ → RawArc → ℕ
arcs_here name arc = if bytes_eq name arc.transition then arcs_on arc.way else 0

module _ (arcs : List Arc) (i : ℕ) (d : Arc) (lt : i < length arcs) where
  -- one arc more
  pub arcs_more : (name : List ℕ) → arcs_at name (map arc_view (take (i + 1) arcs)) ≡ arcs_at name (map arc_view (take i arcs)) + arcs_here name (arc_view (get_or arcs i d))
  arcs_more name = rw (take_more arcs i d lt, map-append arc_view (take i arcs) (get_or arcs i d ∷ [])) (sum_by_push (arcs_here name) (map arc_view (take i arcs)) (arc_view (get_or arcs i d)))

pub two_at_most : (way : Way) → arcs_on way ≤ 2
two_at_most ways.ToTransition = omega arith
two_at_most ways.ToPlace = omega arith
two_at_most ways.Both = omega arith

here_at_most : (name : List ℕ) (arc : RawArc) → arcs_here name arc ≤ 2
here_at_most name arc = by (bytes_eq name arc.transition)
  where
    by : (b : Bool) → cond b (arcs_on arc.way) 0 ≤ 2
    by true = two_at_most arc.way
    by false = omega arith

-- there are at most twice as many as arcs
pub counted_at_most : (name : List ℕ) (arcs : List Arc) → arcs_at name (map arc_view arcs) ≤ 2 * length arcs
counted_at_most name [] = omega arith
counted_at_most name (arc ∷ arcs) = omega (arith, sum_by-cons (arcs_here name) (arc_view arc) (map arc_view arcs), here_at_most name (arc_view arc), counted_at_most name arcs)

-- ---- the transitions that are left

module _ (names : List (List ℕ)) (arcs : List RawArc) (i : ℕ) (lt : i < length names) (count : ℕ) (counted : count ≡ arcs_at (slice_index_or names i []) arcs) where
  next_decides : have_few_arcs (drop i names) arcs ≡ (nat_le count 64 && have_few_arcs (drop (i + 1) names) arcs)
  next_decides = rw (drop_more names i [] lt, counted) refl

  pub few_more : count ≤ 64 → have_few_arcs (drop i names) arcs ≡ have_few_arcs (drop (i + 1) names) arcs
  few_more few = next_decides ∙ rw (le-leb count 64 few) refl

  pub too_many : 64 < count → have_few_arcs (drop i names) arcs ≡ false
  too_many many =
      let no : nat_le count 64 ≡ false = grind (arith, nat_tests) in
      next_decides ∙ rw no refl
