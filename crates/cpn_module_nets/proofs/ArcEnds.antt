-- The ends of the arc of a number, as plain data.
use Rattle.std.proofs.Common.{◌≡◌, ℕ, ◌<◌, ◌≤◌, List, length, get_or, sym, ap, ◌∙◌, subst, arith}
use Rattle.std.specs.List.{AllByRecursion}
use Rattle.std.proofs.lemmas.List.{get_or-map, length-map}
use Rattle.cpn_module.specs.Hierarchy.{PlainEnds}
use Rattle.cpn_module.specs.Views.{ends_view, structure_view}
use Rattle.cpn_module.specs.declared.hierarchy.Ends.{Ends}
use Rattle.cpn_module.specs.declared.hierarchy.Structure.{Structure}
use Rattle.cpn_module_nets.specs.Accepted.{no_ends, ends_at}
use Rattle.cpn_module_nets.proofs.ListFacts.{all_below}

-- there are as many arcs as texts
pub arc_there : {X : Type 0} (s : Structure) (texts : List X) (i : ℕ) → i < length texts → length texts ≤ length (structure_view s).arcs → i < length s.arcs.items
arc_there s texts i lt few = let many = length-map s.arcs.items ends_view in omega (arith, many, lt, few)

pub ends_there : (s : Structure) (i : ℕ) (ends : Ends) → i < length s.arcs.items → ends ≡ get_or s.arcs.items i ends → ends_view ends ≡ ends_at (structure_view s) i
ends_there s i ends lt at = ap ends_view at ∙ sym (get_or-map ends_view s.arcs.items i ends no_ends lt)

pub ends_known : (n : ℕ) (s : Structure) (i : ℕ) (ends : Ends) → i < length s.arcs.items → ends ≡ get_or s.arcs.items i ends → AllByRecursion (λ (e : PlainEnds). e.place < n) (structure_view s).arcs → ends.place < n
ends_known n s i ends lt at known =
    subst (λ (e : PlainEnds). e.place < n) (sym (ends_there s i ends lt at)) (all_below (λ (e : PlainEnds). e.place < n) no_ends (structure_view s).arcs i (simp length-map lt) known)
