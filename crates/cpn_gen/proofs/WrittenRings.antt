-- A ring can be written: it has no float, and its arrays and objects nest five deep.
use Rattle.std.proofs.Common.{◌≡◌, ℕ, ◌≤◌, List, [], ◌∷◌, ◌++◌, map, false, ◌||◌, Some, refl, sym, ap, ap₂, ◌∙◌, subst, arith}
use Rattle.std.specs.List.{flat_map}
use Rattle.std.specs.Str.{IsUtf8}
use Rattle.serde_json.specs.Data.{Data, depth, items_depth}
use Rattle.serde_json.specs.Read.{read}
use Rattle.serde_json.specs.View.{items_of}
use Rattle.serde_json.specs.Written.{has_float, items_have_float, compact_text}
use Rattle.cpn_gen.specs.GeneratedNets.{numbers_below, place, transition, arcs_of, size_of, document, generated}

mapped_floats : (f : ℕ → Data) → ((i : ℕ) → has_float (f i) ≡ false) → (is : List ℕ) → items_have_float (items_of (map f is)) ≡ false
mapped_floats f none [] = refl
mapped_floats f none (i ∷ is) = ap (λ b. b || items_have_float (items_of (map f is))) (none i) ∙ mapped_floats f none is

arc_floats : (n : ℕ) (is : List ℕ) → items_have_float (items_of (flat_map (arcs_of n) is)) ≡ false
arc_floats n [] = refl
arc_floats n (i ∷ is) = arc_floats n is

pub no_float : (n : ℕ) → has_float (document n) ≡ false
no_float n = rw (arc_floats n (numbers_below n), mapped_floats place (λ i. refl) (numbers_below n), mapped_floats transition (λ i. refl) (numbers_below n)) refl

mapped_depth : (f : ℕ → Data) → ((i : ℕ) → depth (f i) ≡ 1) → (is : List ℕ) → items_depth (items_of (map f is)) ≤ 1
mapped_depth f one [] = omega arith
mapped_depth f one (i ∷ is) = omega (arith, one i, mapped_depth f one is)

arc_depth : (n : ℕ) (is : List ℕ) → items_depth (items_of (flat_map (arcs_of n) is)) ≤ 1
arc_depth n [] = omega arith
arc_depth n (i ∷ is) = omega (arith, arc_depth n is)

pub nests : (n : ℕ) → depth (document n) ≤ 127
nests n = omega (arith, arc_depth n (numbers_below n), mapped_depth place (λ i. refl) (numbers_below n), mapped_depth transition (λ i. refl) (numbers_below n))

-- ---- what is written of a ring, after nothing

module _ (number : ℕ) (net : Data) (bytes old new given : List ℕ) (is : net ≡ document (size_of number)) (none : old ≡ []) (same : given ≡ bytes) (pushed : new ≡ old ++ given) where
  -- is just what serde_json writes,
  just_written : new ≡ bytes
  just_written = pushed ∙ ap₂ (λ before after. before ++ after) none same

  -- the text of the net,
  pub written : (has_float net ≡ false → bytes ≡ compact_text net) → new ≡ generated number
  unfolding generated
  written text = just_written ∙ text (ap has_float is ∙ no_float (size_of number)) ∙ ap compact_text is

  pub written_text : IsUtf8 bytes → IsUtf8 new
  written_text utf8 = subst IsUtf8 (sym just_written) utf8

  -- and is read as the document
  pub read_back : (depth net ≤ 127 → read bytes ≡ Some net) → read new ≡ Some (document (size_of number))
  read_back reads = ap read just_written ∙ reads (rw is (nests (size_of number))) ∙ ap Some is
