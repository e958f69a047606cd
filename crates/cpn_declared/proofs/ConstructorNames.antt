-- The names of the constructors of unions.
use Rattle.std.proofs.Common.{◌≡◌, List, [], ◌∷◌, map, refl, ap, string_bytes, Vec, Global}
use Rattle.cpn_declared.specs.DeclsViews.{constructor_names, constructor_view}
use Rattle.cpn_declared.specs.declared.decls.Constructor.{Constructor}

pub names_are : (cs : List Constructor) → map (λ c. string_bytes c.name) cs ≡ constructor_names (map constructor_view cs)
names_are [] = refl
names_are (c ∷ cs) = ap (λ rest. string_bytes c.name ∷ rest) (names_are cs)

pub all_names_are : (us : List (Vec Constructor Global)) → map (λ union. constructor_names (map constructor_view union.items)) us ≡ map constructor_names (map (λ constructors. map constructor_view constructors.items) us)
all_names_are [] = refl
all_names_are (u ∷ us) = ap (λ rest. constructor_names (map constructor_view u.items) ∷ rest) (all_names_are us)
