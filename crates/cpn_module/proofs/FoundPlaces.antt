-- The place of a name in the module of a name: where it stands in the document.
use Rattle.std.proofs.Common.{◌≡◌, ℕ, suc, ◌<◌, Bool, true, false, ◌||◌, if◌then◌else◌, List, [], ◌∷◌, length, get_or, map, refl, sym, ap, subst, ◌∙◌}
use Rattle.std.specs.Prelude.{Some, None, slice_index_or}
use Rattle.std.specs.Str.{bytes_eq}
use Rattle.std.proofs.lemmas.List.{get_or-map, get_or_default, length-map}
use Rattle.cpn_document.specs.Document.{RawPlace, RawModule, RawDocument}
use Rattle.cpn_document.specs.Parts.{is_one_of}
use Rattle.cpn_document.specs.Views.{place_view, module_view, document_view}
use Rattle.cpn_document.specs.declared.document.Place.{Place}
use Rattle.cpn_document.specs.declared.document.Module.{Module}
use Rattle.cpn_document.specs.declared.document.Document.{Document}
use Rattle.cpn_module.specs.Named.{position, no_module, no_place, module_names, place_names, module_among, module_named, place_among, place_named, is_port}
use Rattle.cpn_module.specs.Names.{number_of, names_at}
use Rattle.cpn_module.proofs.NameNumbers.{told, found}
use Rattle.cpn_module.proofs.NamedHierarchy.{names_of_module}

-- what stands at the position of a name
module_is : (name : List ℕ) (ms : List RawModule) → slice_index_or ms (position name (map (λ m. m.name) ms)) no_module ≡ module_among name ms
module_is name [] = refl
module_is name (m ∷ ms) = by (bytes_eq name m.name) (module_is name ms)
  where
    by : (b : Bool) → slice_index_or ms (position name (map (λ m. m.name) ms)) no_module ≡ module_among name ms → slice_index_or (m ∷ ms) (if b then 0 else suc (position name (map (λ m. m.name) ms))) no_module ≡ (if b then m else module_among name ms)
    by true h = refl
    by false h = h

place_is : (name : List ℕ) (ps : List RawPlace) → slice_index_or ps (position name (map (λ p. p.name) ps)) no_place ≡ place_among name ps
place_is name [] = refl
place_is name (p ∷ ps) = by (bytes_eq name p.name) (place_is name ps)
  where
    by : (b : Bool) → slice_index_or ps (position name (map (λ p. p.name) ps)) no_place ≡ place_among name ps → slice_index_or (p ∷ ps) (if b then 0 else suc (position name (map (λ p. p.name) ps))) no_place ≡ (if b then p else place_among name ps)
    by true h = refl
    by false h = h

-- what no name names
module_missing : (name : List ℕ) (ms : List RawModule) → is_one_of name (map (λ m. m.name) ms) ≡ false → module_among name ms ≡ no_module
module_missing name [] h = refl
module_missing name (m ∷ ms) h = by (bytes_eq name m.name) h (module_missing name ms)
  where
    by : (b : Bool) → (b || is_one_of name (map (λ m. m.name) ms)) ≡ false → (is_one_of name (map (λ m. m.name) ms) ≡ false → module_among name ms ≡ no_module) → (if b then m else module_among name ms) ≡ no_module
    by true h rest = cc
    by false h rest = rest h

place_missing : (name : List ℕ) (ps : List RawPlace) → is_one_of name (map (λ p. p.name) ps) ≡ false → place_among name ps ≡ no_place
place_missing name [] h = refl
place_missing name (p ∷ ps) h = by (bytes_eq name p.name) h (place_missing name ps)
  where
    by : (b : Bool) → (b || is_one_of name (map (λ p. p.name) ps)) ≡ false → (is_one_of name (map (λ p. p.name) ps) ≡ false → place_among name ps ≡ no_place) → (if b then p else place_among name ps) ≡ no_place
    by true h rest = cc
    by false h rest = rest h

-- a place that is not there is no port
pub no_port : (m : RawModule) (name : List ℕ) → false ≡ is_one_of name (place_names m) → false ≡ is_port m name
no_port m name h = rw (place_missing name m.places (sym h)) refl

module _ (document : Document) (of_module : List ℕ) where
  abbrev d : RawDocument
  d = document_view document

  -- no module has the name, and so no place of it
  pub no_module_there : (name : List ℕ) → number_of of_module (module_names d) ≡ None → false ≡ is_one_of name (place_names (module_named d of_module))
  no_module_there name h = rw (module_missing of_module d.modules (sym (told of_module (module_names d)) ∙ rw h refl)) refl

  module _ (n : ℕ) (h : number_of of_module (module_names d) ≡ Some n) where
    pub in_modules : n < length document.modules.items
    in_modules = subst (λ k. n < k) (length-map d.modules (λ (m : RawModule). m.name) ∙ length-map document.modules.items module_view) (found of_module (module_names d) n h).2

    pub in_lists : (lists : List (List (List ℕ))) → lists ≡ map place_names d.modules → n < length lists
    in_lists lists is = subst (λ (xs : List (List (List ℕ))). n < length xs) (sym is) (subst (λ k. n < k) (sym (length-map d.modules place_names ∙ length-map document.modules.items module_view)) in_modules)

    -- the names of the places of the module
    pub names_there : (x : List (List ℕ)) → get_or (map place_names d.modules) n x ≡ place_names (module_named d of_module)
    names_there x =
        let in_names : n < length (map place_names d.modules) = subst (λ k. n < k) (sym (length-map d.modules place_names ∙ length-map document.modules.items module_view)) in_modules in
        get_or_default (map place_names d.modules) n x [] in_names ∙ ap (λ k. names_at (map place_names d.modules) k) (found of_module (module_names d) n h).1 ∙ names_of_module of_module d.modules

    module _ (m : Module) (m_at : m ≡ get_or document.modules.items n m) where
      module_there : module_view m ≡ module_named d of_module
      module_there = ap module_view m_at ∙ sym (get_or-map module_view document.modules.items n m no_module in_modules) ∙ ap (λ k. slice_index_or d.modules k no_module) (found of_module (module_names d) n h).1 ∙ module_is of_module d.modules

      module _ (name : List ℕ) (p : ℕ) (k : number_of name (place_names (module_named d of_module)) ≡ Some p) where
        here : number_of name (place_names (module_view m)) ≡ Some p
        here = subst (λ (x : RawModule). number_of name (place_names x) ≡ Some p) (sym module_there) k

        pub in_places : p < length m.places.items
        in_places = subst (λ q. p < q) (length-map (module_view m).places (λ (q : RawPlace). q.name) ∙ length-map m.places.items place_view) (found name (place_names (module_view m)) p here).2

        pub place_there : (place : Place) → place ≡ get_or m.places.items p place → place_view place ≡ place_named (module_named d of_module) name
        place_there place at =
            ap place_view at ∙ sym (get_or-map place_view m.places.items p place no_place in_places) ∙ ap (λ q. slice_index_or (module_view m).places q no_place) (found name (place_names (module_view m)) p here).1 ∙ place_is name (module_view m).places ∙ ap (λ x. place_named x name) module_there
