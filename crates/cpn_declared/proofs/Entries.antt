-- What is found by a name among named things is what is declared under it.
use Rattle.std.proofs.Common.{◌≡◌, ◌∙◌, ℕ, Bool, true, false, cond, List, [], ◌∷◌, map, Option, Some, None, option_map, refl, ap}
use Rattle.std.specs.Borrow.{Bor}
use Rattle.std.specs.Map.{lookup}
use Rattle.std.specs.Option.{option_copied}
use Rattle.std.specs.Str.{bytes_eq}
use Rattle.cpn_core.specs.Colours.{colour_view}
use Rattle.cpn_core.specs.declared.colours.Colour.{Colour}
use Rattle.cpn_typing.specs.Names.{colour_among, meant_among}
use Rattle.cpn_declared.specs.DeclsViews.{colour_entry, meaning_entry, meaning_view}
use Rattle.cpn_declared.specs.declared.meanings.Meaning.{Meaning}

-- what stands behind a reference
behind : {X Y : Type 0} (f : X → Y) (o : Option (Bor X)) → option_map (λ x. f x.now) o ≡ option_map f (option_copied o)
behind f None = refl
behind f (Some x) = refl

-- the view of what a test finds, here or later
at_test : {X Y : Type 0} (f : X → Y) (b : Bool) (x : X) (o : Option X) (p : Option Y) → option_map f o ≡ p → option_map f (cond b (Some x) o) ≡ cond b (Some (f x)) p
at_test f true x o p h = refl
at_test f false x o p h = h

colours_found : (n : List ℕ) (es : List (List ℕ × Colour)) → option_map colour_view (lookup (bytes_eq n) es) ≡ colour_among n (map colour_entry es)
colours_found n [] = refl
colours_found n (e ∷ es) = at_test colour_view (bytes_eq n e.0) e.1 (lookup (bytes_eq n) es) (colour_among n (map colour_entry es)) (colours_found n es)

meanings_found : (n : List ℕ) (es : List (List ℕ × Meaning)) → option_map meaning_view (lookup (bytes_eq n) es) ≡ meant_among n (map meaning_entry es)
meanings_found n [] = refl
meanings_found n (e ∷ es) = at_test meaning_view (bytes_eq n e.0) e.1 (lookup (bytes_eq n) es) (meant_among n (map meaning_entry es)) (meanings_found n es)

pub colour_found : (n : List ℕ) (es : List (List ℕ × Colour)) (o : Option (Bor Colour)) → option_copied o ≡ lookup (bytes_eq n) es → option_map (λ colour. colour_view colour.now) o ≡ colour_among n (map colour_entry es)
colour_found n es o is = behind colour_view o ∙ ap (option_map colour_view) is ∙ colours_found n es

pub meaning_found : (n : List ℕ) (es : List (List ℕ × Meaning)) (o : Option (Bor Meaning)) → option_copied o ≡ lookup (bytes_eq n) es → option_map (λ meaning. meaning_view meaning.now) o ≡ meant_among n (map meaning_entry es)
meaning_found n es o is = behind meaning_view o ∙ ap (option_map meaning_view) is ∙ meanings_found n es
