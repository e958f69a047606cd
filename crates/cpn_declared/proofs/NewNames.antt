-- Names that are new, and what is there once one of them is added.
use Rattle.std.proofs.Common.{◌≡◌, ◌∙◌, Bool, true, false, not, cond, ◌&&◌, ◌||◌, List, [], ◌∷◌, ◌++◌, map, Option, Some, is_some, refl, sym, ap, if◌then◌else◌}
use Rattle.std.specs.List.{list_any}
use Rattle.std.proofs.lemmas.List.{map-append}
use Rattle.cpn_core.specs.Colours.{colour_view}
use Rattle.std.specs.Map.{lookup}
use Rattle.std.specs.Str.{bytes_eq}
use Rattle.cpn_core.specs.declared.colours.Colour.{Colour}
use Rattle.cpn_typing.specs.ColourSets.{is_there, is_new}
use Rattle.cpn_typing.specs.Names.{Name, predeclared_named}
use Rattle.cpn_declared.specs.DeclsViews.{colour_entry, meaning_entry, meaning_view}
use Rattle.cpn_declared.specs.declared.meanings.Meaning.{Meaning}

-- ---- what is told of a name

-- neither predeclared nor there
by_tests : (p q : Bool) → (not p && not q) ≡ (if p || q then false else true)
by_tests true q = refl
by_tests false true = refl
by_tests false false = refl

some_by : {X : Type 0} (b : Bool) (x : X) (o : Option X) → is_some (cond b (Some x) o) ≡ (b || is_some o)
some_by true x o = refl
some_by false x o = refl

colours_have : (n : Name) (es : List (Name × Colour)) → is_some (lookup (bytes_eq n) es) ≡ list_any (bytes_eq n) (map (λ c. c.name) (map colour_entry es))
colours_have n [] = refl
colours_have n (e ∷ es) = some_by (bytes_eq n e.0) e.1 (lookup (bytes_eq n) es) ∙ ap (λ b. bytes_eq n e.0 || b) (colours_have n es)

names_have : (n : Name) (es : List (Name × Meaning)) → is_some (lookup (bytes_eq n) es) ≡ list_any (bytes_eq n) (map (λ d. d.name) (map meaning_entry es))
names_have n [] = refl
names_have n (e ∷ es) = some_by (bytes_eq n e.0) e.1 (lookup (bytes_eq n) es) ∙ ap (λ b. bytes_eq n e.0 || b) (names_have n es)

pub new_colour_is : (n : Name) (es : List (Name × Colour)) → (not (is_there (predeclared_named n)) && not (is_some (lookup (bytes_eq n) es))) ≡ is_new n (map (λ c. c.name) (map colour_entry es))
new_colour_is n es =
    by_tests (is_there (predeclared_named n)) (is_some (lookup (bytes_eq n) es))
    ∙ ap (λ b. if is_there (predeclared_named n) || b then false else true) (colours_have n es)

pub new_name_is : (n : Name) (es : List (Name × Meaning)) → (not (is_there (predeclared_named n)) && not (is_some (lookup (bytes_eq n) es))) ≡ is_new n (map (λ d. d.name) (map meaning_entry es))
new_name_is n es =
    by_tests (is_there (predeclared_named n)) (is_some (lookup (bytes_eq n) es))
    ∙ ap (λ b. if is_there (predeclared_named n) || b then false else true) (names_have n es)

-- ---- as the calls tell it

second : (a b : Bool) → a ≡ true → (a && b) ≡ b
second true b h = refl
second false b h = cc

pub new_colour_told : (n : Name) (es : List (Name × Colour)) (p q : Bool) → p ≡ is_there (predeclared_named n) → p ≡ false → q ≡ is_some (lookup (bytes_eq n) es) → not q ≡ is_new n (map (λ c. c.name) (map colour_entry es))
new_colour_told n es p q a b c =
    ap not c ∙ sym (second (not (is_there (predeclared_named n))) (not (is_some (lookup (bytes_eq n) es))) (ap not (sym a ∙ b))) ∙ new_colour_is n es

pub new_name_told : (n : Name) (es : List (Name × Meaning)) (p q : Bool) → p ≡ is_there (predeclared_named n) → p ≡ false → q ≡ is_some (lookup (bytes_eq n) es) → not q ≡ is_new n (map (λ d. d.name) (map meaning_entry es))
new_name_told n es p q a b c =
    ap not c ∙ sym (second (not (is_there (predeclared_named n))) (not (is_some (lookup (bytes_eq n) es))) (ap not (sym a ∙ b))) ∙ new_name_is n es

pub colours_with : (n : Name) (colour : Colour) (es es2 : List (Name × Colour)) → es2 ≡ es ++ (n, colour) ∷ [] → map colour_entry es2 ≡ map colour_entry es ++ record { name = n; colour = colour_view colour } ∷ []
colours_with n colour es es2 added = ap (map colour_entry) added ∙ map-append colour_entry es ((n, colour) ∷ [])

pub names_with : (n : Name) (meaning : Meaning) (es es2 : List (Name × Meaning)) → es2 ≡ es ++ (n, meaning) ∷ [] → map meaning_entry es2 ≡ map meaning_entry es ++ record { name = n; meant = meaning_view meaning } ∷ []
names_with n meaning es es2 added = ap (map meaning_entry) added ∙ map-append meaning_entry es ((n, meaning) ∷ [])
