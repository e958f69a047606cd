-- The hierarchy that a document names, from the lists of its names alone.
use Rattle.std.proofs.Common.{◌≡◌, ℕ, suc, ◌<◌, Bool, true, false, if◌then◌else◌, List, [], ◌∷◌, length, get_or, map, refl, sym, ap, ◌∙◌}
use Rattle.std.specs.Str.{bytes_eq}
use Rattle.std.proofs.lemmas.List.{get_or-map}
use Rattle.cpn_document.specs.Document.{RawArc, RawSub, RawModule, RawMember, RawFusion, RawDocument}
use Rattle.cpn_document.specs.Views.{module_view}
use Rattle.cpn_document.specs.declared.document.Module.{Module}
use Rattle.cpn_module.specs.Hierarchy.{PlainStructure, PlainMember}
use Rattle.cpn_module.specs.Named.{position, module_names, place_names, transition_names, sub_names, module_among, ends_among, ends_in, substitution_in, structure_in, member_by_number, fusion_by_number, hierarchy_in}
use Rattle.cpn_module.specs.Names.{names_at, substitution_among, structure_among, member_among, fusion_among}

-- the names of the places of the module of a name
pub names_of_module : (name : List ℕ) (ms : List RawModule) → names_at (map place_names ms) (position name (map (λ m. m.name) ms)) ≡ place_names (module_among name ms)
names_of_module name [] = refl
names_of_module name (m ∷ ms) = by (bytes_eq name m.name) (names_of_module name ms)
  where
    by : (b : Bool) → names_at (map place_names ms) (position name (map (λ m. m.name) ms)) ≡ place_names (module_among name ms) → names_at (place_names m ∷ map place_names ms) (if b then 0 else suc (position name (map (λ m. m.name) ms))) ≡ place_names (if b then m else module_among name ms)
    by true h = refl
    by false h = h

-- the names of the places of the module at a position
pub places_at : (places : List (List (List ℕ))) (ms : List Module) (i : ℕ) (m : Module) (d : List (List ℕ)) → i < length ms → m ≡ get_or ms i m → places ≡ map place_names (map module_view ms) → get_or places i d ≡ place_names (module_view m)
places_at places ms i m d lt at h =
    ap (λ xs. get_or xs i d) (h ∙ twice ms) ∙ get_or-map (λ n. place_names (module_view n)) ms i m d lt ∙ ap (λ n. place_names (module_view n)) (sym at)
  where
    twice : (ns : List Module) → map place_names (map module_view ns) ≡ map (λ n. place_names (module_view n)) ns
    twice [] = refl
    twice (n ∷ ns) = ap (λ xs. place_names (module_view n) ∷ xs) (twice ns)

-- the arcs of a module, among the names that it has
pub arcs_named : (m : RawModule) (places transitions subs : List (List ℕ)) (arcs : List RawArc) → places ≡ place_names m → transitions ≡ transition_names m → subs ≡ sub_names m → map (ends_among places transitions subs) arcs ≡ map (ends_in m) arcs
arcs_named m places transitions subs arcs p t s = rw (p, t, s) refl

-- functions that agree at each item
same_map : {A B : Type 0} (f g : A → B) → ((x : A) → f x ≡ g x) → (xs : List A) → map f xs ≡ map g xs
same_map f g same [] = refl
same_map f g same (x ∷ xs) = let first = same x in let rest = same_map f g same xs in cc

module _ (d : RawDocument) where
  substitution_same : (m : RawModule) (sub : RawSub) → substitution_among (module_names d) (map place_names d.modules) (place_names m) sub ≡ substitution_in d m sub
  substitution_same m sub = rw (names_of_module sub.submodule d.modules) refl

  structure_same : (m : RawModule) → structure_among (module_names d) (map place_names d.modules) m ≡ structure_in d m
  structure_same m = ap (λ subs. record { ports = map (λ p. p.port) m.places; transitions = length m.transitions; arcs = map (ends_in m) m.arcs; substitutions = subs }) (same_map _ _ (substitution_same m) m.subs)

  member_same : (member : RawMember) → member_among (module_names d) (map place_names d.modules) member ≡ member_by_number d member
  member_same member = rw (names_of_module member.of_module d.modules) refl

  fusion_same : (fusion : RawFusion) → fusion_among (module_names d) (map place_names d.modules) fusion ≡ fusion_by_number d fusion
  fusion_same fusion = same_map _ _ member_same fusion.members

  pub hierarchy_named : (modules : List (List ℕ)) (places : List (List (List ℕ))) (top : ℕ) (structures : List PlainStructure) (fusions : List (List PlainMember)) → modules ≡ module_names d → places ≡ map place_names d.modules → top ≡ position d.top modules → structures ≡ map (structure_among modules places) d.modules → fusions ≡ map (fusion_among modules places) d.fusions → record { top = top; modules = structures; fusions = fusions } ≡ hierarchy_in d
  hierarchy_named modules places top structures fusions m p t s f =
      let all : map (structure_among modules places) d.modules ≡ map (structure_in d) d.modules = rw (m, p) (same_map _ _ structure_same d.modules) in
      let fused : map (fusion_among modules places) d.fusions ≡ map (fusion_by_number d) d.fusions = rw (m, p) (same_map _ _ fusion_same d.fusions) in
      rw (s, f, all, fused, t, m) refl
