-- The numbers of a hierarchy tell places of the document that it is of.
use Rattle.std.proofs.Common.{◌≡◌, ℕ, ◌<◌, List, [], ◌∷◌, length, map, sym, ap, subst, ◌∙◌, All}
use Rattle.std.specs.Prelude.{Some, slice_get, slice_index_or}
use Rattle.std.proofs.lemmas.List.{get_or-map, get_or_default, length-map}
use Rattle.std.proofs.lemmas.List.Elements.{All-head, All-weaker}
use Rattle.cpn_document.specs.Document.{RawPlace, RawDocument}
use Rattle.cpn_module.specs.Hierarchy.{PlainSubstitution, PlainStructure, PlainMember, PlainHierarchy, no_structure, structure_at, places_in}
use Rattle.cpn_module.specs.Named.{no_module, structure_in, hierarchy_in}
use Rattle.cpn_module.specs.Ranges.{IsAssignment, IsSubstitution, IsStructure, IsMember, HasItsNumbers}
use Rattle.cpn_module.specs.Views.{fused_view}
use Rattle.cpn_module.specs.declared.hierarchy.FusedPlace.{FusedPlace}
use Rattle.cpn_module.specs.PlacesAt.{IsPlaceAt, IsMemberAt, AreAssignedAt, HasPlacesAt}

module _ (d : RawDocument) where
  in_document : (m : ℕ) → m < length (hierarchy_in d).modules → m < length d.modules
  in_document m lt = subst (λ n. m < n) (length-map d.modules (structure_in d)) lt

  -- a place of the hierarchy is one of the document
  place_at : (m p : ℕ) → m < length (hierarchy_in d).modules → p < places_in (structure_at (hierarchy_in d) m) → IsPlaceAt d m p
  place_at m p lt p_in =
      let its : structure_at (hierarchy_in d) m ≡ structure_in d (slice_index_or d.modules m no_module) = get_or-map (structure_in d) d.modules m no_module no_structure (in_document m lt) in
      record {
        of_module = in_document m lt;
        place = subst (λ n. p < n) (ap places_in its ∙ length-map (slice_index_or d.modules m no_module).places (λ (q : RawPlace). q.port)) p_in;
      }

  substitution_at_places : (m : ℕ) → m < length (hierarchy_in d).modules → (sub : PlainSubstitution) → IsSubstitution (hierarchy_in d) (structure_at (hierarchy_in d) m) sub → HasPlacesAt d m sub
  substitution_at_places m lt sub is = All-weaker (IsAssignment (structure_at (hierarchy_in d) m) (structure_at (hierarchy_in d) sub.submodule)) (AreAssignedAt d m sub) (λ a its. record { socket = place_at m a.socket lt its.socket; port = place_at sub.submodule a.port is.submodule its.port }) sub.assignments is.assignments

  -- those of the module of a number
  pub structure_places : (h : PlainHierarchy) → h ≡ hierarchy_in d → HasItsNumbers h → (m : ℕ) (s : PlainStructure) → m < length h.modules → s ≡ slice_index_or h.modules m s → All (HasPlacesAt d m) s.substitutions
  structure_places h is numbers m s lt at =
      let in_d : m < length (hierarchy_in d).modules = subst (λ (x : PlainHierarchy). m < length x.modules) is lt in
      let its : IsStructure (hierarchy_in d) (structure_at (hierarchy_in d) m) = (subst HasItsNumbers is numbers).modules m no_structure in_d in
      let same : structure_at (hierarchy_in d) m ≡ s = ap (λ (x : PlainHierarchy). structure_at x m) (sym is) ∙ get_or_default h.modules m no_structure s lt ∙ sym at in
      subst (λ (x : PlainStructure). All (HasPlacesAt d m) x.substitutions) same (All-weaker (IsSubstitution (hierarchy_in d) (structure_at (hierarchy_in d) m)) (HasPlacesAt d m) (substitution_at_places m in_d) (structure_at (hierarchy_in d) m).substitutions its.substitutions)

  -- those of the members of a fusion set
  pub fusion_places : (h : PlainHierarchy) → h ≡ hierarchy_in d → (members : List PlainMember) → All (IsMember h) members → All (IsMemberAt d) members
  fusion_places h is members its =
      All-weaker (IsMember (hierarchy_in d)) (IsMemberAt d) (λ member one. place_at member.of_module member.place one.of_module one.place) members (subst (λ (x : PlainHierarchy). All (IsMember x) members) is its)

-- what holds of each member holds of the first
pub first_at : (P : PlainMember → Type 0) (members : List FusedPlace) (first : FusedPlace) → Some first ≡ slice_get members 0 → All P (map fused_view members) → P (fused_view first)
first_at P [] first h all = cc
first_at P (m ∷ ms) first h all =
    let same : first ≡ m = cc h in
    subst (λ (x : FusedPlace). P (fused_view x)) (sym same) (All-head P (fused_view m) (map fused_view ms) all)
