-- The places, the structure and the trees of each module of a document go together.
use Rattle.std.proofs.Common.{◌≡◌, ℕ, zero, suc, ◌+◌, ◌<◌, List, [], ◌∷◌, length, slice_index_or, refl, sym, ap, ◌∙◌, subst, arith}
use Rattle.std.specs.Prelude.{All}
use Rattle.std.specs.List.{AllByRecursion}
use Rattle.std.proofs.lemmas.List.{length-map, get_or-map}
use Rattle.std.proofs.Math.Nat.{zero-add}
use Rattle.cpn_definitions.specs.Net.{Coloured}
use Rattle.cpn_document.specs.Document.{RawPlace, RawDocument}
use Rattle.cpn_module.specs.Hierarchy.{PlainEnds, PlainStructure, PlainHierarchy, no_structure, structure_at}
use Rattle.cpn_module.specs.Named.{no_module, ends_in, structure_in, hierarchy_in}
use Rattle.cpn_module.specs.Ranges.{IsNode, AreEnds, HasItsNumbers}
use Rattle.cpn_module_trees.specs.Trees.{DocumentTrees, ArePlaceTrees, AreTransitionTrees, IsArcTree, AreModuleTrees, AreTrees}
use Rattle.cpn_readings.specs.ItemByItem.{EachIs}
use Rattle.cpn_typing.specs.Names.{Declared}
use Rattle.cpn_accepted.specs.AsWritten.{raw_module_at}
use Rattle.cpn_accepted.specs.Nets.{places_at}
use Rattle.cpn_module_nets.specs.Reading.{read, each_from}
use Rattle.cpn_module_nets.specs.Accepted.{net_place, places_of}
use Rattle.cpn_module_nets.specs.Fitting.{GoTogether, no_trees, trees_at}
use Rattle.cpn_module_nets.proofs.AcceptedTexts.{each_from_long, each_from_at}
use Rattle.cpn_module_nets.proofs.CheckedModules.{IsKept}

-- ---- lists

-- lists that correspond item by item are of one length, and their items at a number correspond
pub each_is_long : {A B : Type 0} (Is : A → B → Type 0) (xs : List A) (ys : List B) → EachIs Is xs ys → length ys ≡ length xs
each_is_long Is [] [] h = refl
each_is_long Is [] (y ∷ ys) h = absurd h
each_is_long Is (x ∷ xs) [] h = absurd h
each_is_long Is (x ∷ xs) (y ∷ ys) h = ap suc (each_is_long Is xs ys h.1)

pub each_is_at : {A B : Type 0} (Is : A → B → Type 0) (xs : List A) (ys : List B) (i : ℕ) (d : A) (e : B) → EachIs Is xs ys → i < length xs → Is (slice_index_or xs i d) (slice_index_or ys i e)
each_is_at Is [] ys i d e h lt = absurd (omega arith)
each_is_at Is (x ∷ xs) [] i d e h lt = absurd h
each_is_at Is (x ∷ xs) (y ∷ ys) zero d e h lt = h.0
each_is_at Is (x ∷ xs) (y ∷ ys) (suc i) d e h lt = each_is_at Is xs ys i d e h.1 (omega arith)

pub all_recursive : {X : Type 0} (P : X → Type 0) (xs : List X) → All P xs → AllByRecursion P xs
all_recursive P [] all = tt
all_recursive P (x ∷ xs) all = (all 0 x (omega arith), all_recursive P xs (λ i d lt. all (suc i) d (omega arith)))

-- ---- the module of a number

pub structure_is : (d : RawDocument) (m : ℕ) → m < length d.modules → structure_at (hierarchy_in d) m ≡ structure_in d (raw_module_at d m)
structure_is d m lt = get_or-map (structure_in d) d.modules m no_module no_structure lt

module _ (ds : Declared) (d : RawDocument) (trees : DocumentTrees) (are : AreTrees d trees) where
  pub as_many_trees : length trees.modules ≡ length d.modules
  as_many_trees = each_is_long AreModuleTrees d.modules trees.modules are.modules

  pub trees_are : (m : ℕ) → m < length d.modules → AreModuleTrees (raw_module_at d m) (trees_at trees.modules m)
  trees_are m lt = each_is_at AreModuleTrees d.modules trees.modules m no_module no_trees are.modules lt

  module _ (places : List (List Coloured)) (places_are : each_from (places_of ds) 0 trees.modules ≡ read places) where
    pub as_many_modules : length places ≡ length trees.modules
    as_many_modules = each_from_long (places_of ds) 0 trees.modules places places_are

    -- the places of a module
    pub places_read : (m : ℕ) → m < length trees.modules → each_from (net_place ds m) 0 (trees_at trees.modules m).places ≡ read (places_at places m)
    unfolding places_of
    places_read m lt =
        let at : places_of ds (0 + m) (trees_at trees.modules m) ≡ read (places_at places m) = each_from_at (places_of ds) 0 trees.modules places m no_trees [] places_are lt in
        subst (λ k. places_of ds k (trees_at trees.modules m) ≡ read (places_at places m)) (zero-add m) at

    pub as_many_places : (m : ℕ) → m < length trees.modules → length (places_at places m) ≡ length (trees_at trees.modules m).places
    as_many_places m lt = each_from_long (net_place ds m) 0 (trees_at trees.modules m).places (places_at places m) (places_read m lt)

    together : (m : ℕ) → m < length trees.modules → (s : PlainStructure) → s ≡ structure_in d (raw_module_at d m) → All (AreEnds s) s.arcs → GoTogether (places_at places m) s (trees_at trees.modules m)
    together m lt s is ends =
        let raw = raw_module_at d m in
        let below : m < length d.modules = subst (λ k. m < k) as_many_trees lt in
        let tree = trees_are m below in
        let many = as_many_places m lt in
        let written = each_is_long ArePlaceTrees raw.places (trees_at trees.modules m).places tree.places in
        let ports : length s.ports ≡ length raw.places = ap (λ (x : PlainStructure). length x.ports) is ∙ length-map raw.places (λ (p : RawPlace). p.port) in
        let texts = each_is_long IsArcTree raw.arcs (trees_at trees.modules m).arcs tree.arcs in
        let arcs : length s.arcs ≡ length raw.arcs = ap (λ (x : PlainStructure). length x.arcs) is ∙ length-map raw.arcs (ends_in raw) in
        record {
          as_many_places = many;
          as_many_transitions = each_is_long AreTransitionTrees raw.transitions (trees_at trees.modules m).transitions tree.transitions ∙ sym (ap (λ (x : PlainStructure). x.transitions) is);
          as_many_arcs = texts ∙ sym arcs;
          at_places = subst (λ n. AllByRecursion (λ (e : PlainEnds). e.place < n) s.arcs) (ports ∙ sym written ∙ sym many) (all_recursive (λ (e : PlainEnds). e.place < length s.ports) s.arcs (λ i e below. (ends i e below).place));
          at_nodes = all_recursive (λ (e : PlainEnds). IsNode s e.node) s.arcs (λ i e below. (ends i e below).node);
        }

    -- They go together, whatever the module.
    pub all_together : (h : PlainHierarchy) → IsKept ds d h → HasItsNumbers h → (m : ℕ) → m < length trees.modules → GoTogether (places_at places m) (structure_at h m) (trees_at trees.modules m)
    all_together h checked numbers m lt =
        let below : m < length d.modules = subst (λ k. m < k) as_many_trees lt in
        let many : length h.modules ≡ length d.modules = ap (λ (x : PlainHierarchy). length x.modules) checked.is ∙ length-map d.modules (structure_in d) in
        together m lt (structure_at h m) (ap (λ x. structure_at x m) checked.is ∙ structure_is d m below) (numbers.modules m no_structure (subst (λ k. m < k) (sym many) below)).arcs

  pub as_many_structures : (h : PlainHierarchy) → IsKept ds d h → length h.modules ≡ length trees.modules
  as_many_structures h checked = ap (λ (x : PlainHierarchy). length x.modules) checked.is ∙ length-map d.modules (structure_in d) ∙ sym as_many_trees
