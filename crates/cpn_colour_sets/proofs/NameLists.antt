-- Several names, one after another, each of which is new beside those before it.
use Rattle.std.proofs.Common.{◌≡◌, ◌∙◌, ℕ, suc, ◌+◌, ◌<◌, Bool, true, false, ◌||◌, List, [], ◌∷◌, ◌++◌, length, map, take, drop, get_or, Some, None, refl, sym, ap, append_assoc, String, string_bytes, if◌then◌else◌, arith, add-zero}
use Rattle.std.specs.List.{list_any}
use Rattle.std.specs.Str.{bytes_eq}
use Rattle.std.specs.declared.alloc.Global.{Global}
use Rattle.std.proofs.lemmas.List.{drop_more, take_more, map-append, append-nil, length-map, length-take-le}
use Rattle.std.proofs.lemmas.List.Folds.{list_any-append}
use Rattle.cpn_typing.specs.ColourSets.{is_there, is_new, with_new, with_all_new, constants_from, other_names}
use Rattle.cpn_typing.specs.Declarations.{variables_from, coloured_as, with_variables, declared_form}
use Rattle.cpn_trees.specs.DeclTrees.{variables}
use Rattle.cpn_definitions.specs.Colour.{PlainColour}
use Rattle.cpn_definitions.specs.Net.{Coloured}
use Rattle.cpn_typing.specs.Names.{Name, Meant, a_variable, a_constant, NamedMeaning, Declared, colour_named, predeclared_named, unknown, duplicate, Refusal, Checked, ok, refused, ◌>>=◌, accepted_if, required}
use Rattle.cpn_typing.specs.Types.{PlainTy, type_of_shape}
use Rattle.cpn_colour_sets.specs.ColouredNames.{declared_with}
use Rattle.cpn_declared.specs.Additions.{named_from, all_before, with_names, with_more_variables}

-- ---- the same names, in any order

any_past : (p q r : Bool) → ((p || q) || r) ≡ (q || (p || r))
any_past true true r = refl
any_past true false r = refl
any_past false q r = refl

any_before : (f : Name → Bool) (ns taken : List Name) → list_any f (all_before ns taken) ≡ (list_any f ns || list_any f taken)
any_before f [] taken = refl
any_before f (n ∷ ns) taken = any_before f ns (n ∷ taken) ∙ sym (any_past (f n) (list_any f ns) (list_any f taken))

either : (a b : Bool) → (a || b) ≡ (b || a)
either true true = refl
either true false = refl
either false true = refl
either false false = refl

-- a name is new beside names in one order exactly where it is in another
pub new_behind : (n : Name) (ns taken : List Name) → is_new n (taken ++ ns) ≡ is_new n (all_before ns taken)
new_behind n ns taken =
    ap (λ b. if is_there (predeclared_named n) || b then false else true)
    (list_any-append (bytes_eq n) taken ns ∙ either (list_any (bytes_eq n) taken) (list_any (bytes_eq n) ns) ∙ sym (any_before (bytes_eq n) ns taken))

-- a name among others is not new beside them, and another one is new beside them where it is new without them
pub old_beside : (n : Name) (ns taken : List Name) → list_any (bytes_eq n) ns ≡ true → is_new n (all_before ns taken) ≡ false
old_beside n ns taken h = ap (λ b. if is_there (predeclared_named n) || b then false else true) (any_before (bytes_eq n) ns taken ∙ ap (λ b. b || list_any (bytes_eq n) taken) h) ∙ none_new (is_there (predeclared_named n))
  where
    none_new : (p : Bool) → (if p || true then false else true) ≡ false
    none_new true = refl
    none_new false = refl

pub new_beside : (n : Name) (ns taken : List Name) → list_any (bytes_eq n) ns ≡ false → is_new n taken ≡ is_new n (all_before ns taken)
new_beside n ns taken h = sym (ap (λ b. if is_there (predeclared_named n) || b then false else true) (any_before (bytes_eq n) ns taken ∙ ap (λ b. b || list_any (bytes_eq n) taken) h))

pub names_of_named : (kind : ℕ → Meant) (k : ℕ) (ns : List Name) → map (λ d. d.name) (named_from kind k ns) ≡ ns
names_of_named kind k [] = refl
names_of_named kind k (n ∷ ns) = ap (λ rest. n ∷ rest) (names_of_named kind (k + 1) ns)

-- the names of what is declared with more
pub names_with_more : (ds : Declared) (kind : ℕ → Meant) (k : ℕ) (ns : List Name) → other_names (with_names ds (named_from kind k ns)) ≡ other_names ds ++ ns
names_with_more ds kind k ns = map-append (λ d. d.name) ds.names (named_from kind k ns) ∙ ap (λ rest. other_names ds ++ rest) (names_of_named kind k ns)

pub accepted_new : (b : Bool) (r : Refusal) (x y : List Name) → accepted_if b r x ≡ ok y → b ≡ true
accepted_new true r x y h = refl
accepted_new false r x y h = cc

one_refusal : (c : Checked (List Name)) (r s : Refusal) → c ≡ refused r → c ≡ refused s → r ≡ s
one_refusal c r s a b = let both = sym a ∙ b in cc

refused_old : (b : Bool) (r s : Refusal) (x : List Name) → accepted_if b r x ≡ refused s → (b ≡ false) × (r ≡ s)
refused_old true r s x h = cc
refused_old false r s x h = (refl, one_refusal (accepted_if false r x) r s refl h)

pub all_before_more : (ns : List Name) (n : Name) (taken : List Name) → all_before (ns ++ n ∷ []) taken ≡ n ∷ all_before ns taken
all_before_more [] n taken = refl
all_before_more (m ∷ ns) n taken = all_before_more ns n (m ∷ taken)

named_more : (kind : ℕ → Meant) (k : ℕ) (ns : List Name) (n : Name) → named_from kind k (ns ++ n ∷ []) ≡ named_from kind k ns ++ record { name = n; meant = kind (k + length ns) } ∷ []
named_more kind k [] n = ap (λ j. record { name = n; meant = kind j } ∷ []) (sym (add-zero k))
named_more kind k (m ∷ ns) n = ap (λ rest. record { name = m; meant = kind k } ∷ rest) (named_more kind (k + 1) ns n ∙ ap (λ j. named_from kind (k + 1) ns ++ record { name = n; meant = kind j } ∷ []) (one_more k (length ns)))
  where
    one_more : (k j : ℕ) → (k + 1) + j ≡ k + suc j
    one_more k j = omega arith

-- ---- one name further

pub bytes_long : (names : List (String Global)) → length (map string_bytes names) ≡ length names
bytes_long names = simp length-map

module _ (names : List (String Global)) (i : ℕ) (name : String Global) (lt : i < length names) (at : name ≡ get_or names i name) where
  pub left_is : map string_bytes (drop i names) ≡ string_bytes name ∷ map string_bytes (drop (i + 1) names)
  left_is = ap (map string_bytes) (drop_more names i name lt ∙ ap (λ m. m ∷ drop (i + 1) names) (sym at))

  pub seen_is : map string_bytes (take (i + 1) names) ≡ map string_bytes (take i names) ++ string_bytes name ∷ []
  seen_is = ap (map string_bytes) (take_more names i name lt ∙ ap (λ m. take i names ++ m ∷ []) (sym at)) ∙ map-append string_bytes (take i names) (name ∷ [])

  module _ (n : Name) (is : n ≡ string_bytes name) (taken now : List Name) (same : is_new n now ≡ is_new n (all_before (map string_bytes (take i names)) taken)) where
    pub next_is_new : (x : List Name) → with_new n now ≡ ok x
        → with_all_new (map string_bytes (drop (i + 1) names)) (all_before (map string_bytes (take (i + 1) names)) taken) ≡ with_all_new (map string_bytes (drop i names)) (all_before (map string_bytes (take i names)) taken)
    next_is_new x h =
        let new : is_new n (all_before (map string_bytes (take i names)) taken) ≡ true = sym same ∙ accepted_new (is_new n now) (duplicate n) (n ∷ now) x h in
        ap (with_all_new (map string_bytes (drop (i + 1) names)))
        (ap (λ ns. all_before ns taken) seen_is ∙ all_before_more (map string_bytes (take i names)) (string_bytes name) taken ∙ ap (λ m. m ∷ all_before (map string_bytes (take i names)) taken) (sym is))
        ∙ sym (ap (λ b. accepted_if b (duplicate n) (n ∷ all_before (map string_bytes (take i names)) taken) >>= with_all_new (map string_bytes (drop (i + 1) names))) new)
        ∙ ap (λ m. with_all_new (m ∷ map string_bytes (drop (i + 1) names)) (all_before (map string_bytes (take i names)) taken)) is
        ∙ ap (λ ns. with_all_new ns (all_before (map string_bytes (take i names)) taken)) (sym left_is)

    pub next_is_old : (r : Refusal) → with_new n now ≡ refused r → with_all_new (map string_bytes (drop i names)) (all_before (map string_bytes (take i names)) taken) ≡ refused r
    next_is_old r h =
        let old = refused_old (is_new n now) (duplicate n) r (n ∷ now) h in
        ap (λ ns. with_all_new ns (all_before (map string_bytes (take i names)) taken)) left_is
        ∙ ap (λ m. with_all_new (m ∷ map string_bytes (drop (i + 1) names)) (all_before (map string_bytes (take i names)) taken)) (sym is)
        ∙ ap (λ b. accepted_if b (duplicate n) (n ∷ all_before (map string_bytes (take i names)) taken) >>= with_all_new (map string_bytes (drop (i + 1) names))) (sym same ∙ old.0)
        ∙ ap refused old.1

  pub named_next : (kind : ℕ → Meant) → named_from kind 0 (map string_bytes (take (i + 1) names)) ≡ named_from kind 0 (map string_bytes (take i names)) ++ record { name = string_bytes name; meant = kind i } ∷ []
  named_next kind =
      ap (named_from kind 0) seen_is ∙ named_more kind 0 (map string_bytes (take i names)) (string_bytes name)
      ∙ ap (λ j. named_from kind 0 (map string_bytes (take i names)) ++ record { name = string_bytes name; meant = kind j } ∷ []) (from_zero (length (map string_bytes (take i names))) (bytes_long (take i names) ∙ length-take-le i names (omega arith)))
    where
      from_zero : (j : ℕ) → j ≡ i → 0 + j ≡ i
      from_zero j h = omega arith

-- more names behind others
pub with_names_again : (ds : Declared) (some more : List NamedMeaning) → with_names (with_names ds some) more ≡ with_names ds (some ++ more)
with_names_again ds some more = ap (λ ns. record { colours = ds.colours; names = ns; variables = ds.variables; enumerations = ds.enumerations; unions = ds.unions; functions = ds.functions }) (append_assoc ds.names some more)

-- what is declared once the next name is
pub added_next : (ds now new : Declared) (some more : List NamedMeaning) (n m : Name) (k j : Meant) → new ≡ with_names now (record { name = n; meant = k } ∷ []) → now ≡ with_names ds some → n ≡ m → k ≡ j → more ≡ some ++ record { name = m; meant = j } ∷ [] → new ≡ with_names ds more
added_next ds now new some more n m k j e f g h all =
    e ∙ ap (λ d. with_names d (record { name = n; meant = k } ∷ [])) f ∙ with_names_again ds some (record { name = n; meant = k } ∷ [])
    ∙ ap (λ x. with_names ds (some ++ record { name = x; meant = k } ∷ [])) g ∙ ap (λ x. with_names ds (some ++ record { name = m; meant = x } ∷ [])) h ∙ ap (with_names ds) (sym all)

-- ---- constants and variables

pub constants_are : (id k : ℕ) (ns : List Name) → named_from (a_constant id) k ns ≡ constants_from id k ns
constants_are id k [] = refl
constants_are id k (n ∷ ns) = ap (λ rest. record { name = n; meant = a_constant id k } ∷ rest) (constants_are id (k + 1) ns)

variables_behind : (first k : ℕ) (t : PlainTy) (ns : List Name) → named_from (λ j. a_variable (first + j) t) k ns ≡ variables_from (first + k) t ns
variables_behind first k t [] = refl
variables_behind first k t (n ∷ ns) = ap (λ rest. record { name = n; meant = a_variable (first + k) t } ∷ rest) (variables_behind first (k + 1) t ns ∙ ap (λ j. variables_from j t ns) (one_more first k))
  where
    one_more : (a b : ℕ) → a + (b + 1) ≡ (a + b) + 1
    one_more a b = omega arith

pub variables_are : (first : ℕ) (t : PlainTy) (ns : List Name) → named_from (λ j. a_variable (first + j) t) 0 ns ≡ variables_from first t ns
variables_are first t ns = variables_behind first 0 t ns ∙ ap (λ j. variables_from j t ns) (add-zero first)

-- ---- variables of a colour set

pub variables_declared : (ds d1 d2 : Declared) (ns : List Name) (colour : PlainColour) (t : PlainTy) (first : ℕ) (taken : List Name)
    → with_all_new ns (other_names ds) ≡ ok taken
    → d1 ≡ with_names ds (named_from (λ k. a_variable (first + k) t) 0 ns)
    → d2 ≡ with_more_variables d1 (map (coloured_as colour) ns)
    → t ≡ type_of_shape colour.shape
    → first ≡ length ds.variables
    → declared_with ds ns colour ≡ ok d2
variables_declared ds d1 d2 ns colour t first taken new named coloured type_is counted =
    ap (λ c. c >>= λ names. ok (with_variables ds ns colour)) new
    ∙ ap (λ x. ok (with_more_variables (with_names ds (variables_from x (type_of_shape colour.shape) ns)) (map (coloured_as colour) ns))) (sym counted)
    ∙ ap (λ x. ok (with_more_variables (with_names ds (variables_from first x ns)) (map (coloured_as colour) ns))) (sym type_is)
    ∙ ap (λ names. ok (with_more_variables (with_names ds names) (map (coloured_as colour) ns))) (sym (variables_are first t ns))
    ∙ ap (λ d. ok (with_more_variables d (map (coloured_as colour) ns))) (sym named)
    ∙ ap ok (sym coloured)

module _ (ds : Declared) (ns : List Name) (n : Name) where
  -- where the colour set is there, its variables are declared
  pub form_coloured : (colour : PlainColour) → colour_named n ds ≡ Some colour → declared_form ds (variables ns n) ≡ declared_with ds ns colour
  form_coloured colour there = ap (λ o. with_all_new ns (other_names ds) >>= λ taken. required o (unknown n) >>= λ found. ok (with_variables ds ns found)) there

  -- where it is not, a name that is not new is told before it
  form_uncoloured : colour_named n ds ≡ None → declared_form ds (variables ns n) ≡ (with_all_new ns (other_names ds) >>= λ taken. refused (unknown n))
  form_uncoloured none = ap (λ o. with_all_new ns (other_names ds) >>= λ taken. required o (unknown n) >>= λ found. ok (with_variables ds ns found)) none

  pub old_told : colour_named n ds ≡ None → (r : Refusal) → with_all_new ns (other_names ds) ≡ refused r → declared_form ds (variables ns n) ≡ refused r
  old_told none r h = form_uncoloured none ∙ ap (λ c. c >>= λ taken. refused (unknown n)) h

  pub unknown_told : colour_named n ds ≡ None → (taken : List Name) → with_all_new ns (other_names ds) ≡ ok taken → declared_form ds (variables ns n) ≡ refused (unknown n)
  unknown_told none taken h = form_uncoloured none ∙ ap (λ c. c >>= λ names. refused (unknown n)) h

-- ---- variables of a colour set

variables_again : (ds : Declared) (some more : List Coloured) → with_more_variables (with_more_variables ds some) more ≡ with_more_variables ds (some ++ more)
variables_again ds some more = ap (λ vs. record { colours = ds.colours; names = ds.names; variables = vs; enumerations = ds.enumerations; unions = ds.unions; functions = ds.functions }) (append_assoc ds.variables some more)

pub no_variables : (ds : Declared) → ds ≡ with_more_variables ds []
no_variables ds = ap (λ vs. record { colours = ds.colours; names = ds.names; variables = vs; enumerations = ds.enumerations; unions = ds.unions; functions = ds.functions }) (sym (append-nil ds.variables))

pub variable_added : (ds now new : Declared) (variable : Name → Coloured) (names : List (String Global)) (i : ℕ) (name : String Global) → i < length names → name ≡ get_or names i name → (added : Coloured) → new ≡ with_more_variables now (added ∷ [])
    → now ≡ with_more_variables ds (map variable (map string_bytes (take i names))) → added ≡ variable (string_bytes name) → new ≡ with_more_variables ds (map variable (map string_bytes (take (i + 1) names)))
variable_added ds now new variable names i name lt at added h inv is =
    let some = map variable (map string_bytes (take i names)) in
    h ∙ ap (λ d. with_more_variables d (added ∷ [])) inv ∙ variables_again ds some (added ∷ []) ∙ ap (λ v. with_more_variables ds (some ++ v ∷ [])) is
    ∙ ap (with_more_variables ds) (sym (ap (map variable) (seen_is names i name lt at) ∙ map-append variable (map string_bytes (take i names)) (string_bytes name ∷ [])))
