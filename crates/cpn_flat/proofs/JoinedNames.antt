-- Joined names: a joined name has a `/`, behind which the name stands that was joined last; so it tells its two parts. And how
-- joined names are spelled.
use Rattle.std.proofs.Common.{◌≡◌, ℕ, ◌<◌, ◌==◌, Bool, true, false, cond, List, [], ◌∷◌, ◌++◌, length, refl, sym, ap, ap₂, ◌∙◌, subst, arith}
use Rattle.std.specs.Prelude.{codes}
use Rattle.std.specs.List.{AllByRecursion, list_all, slice_split, onto_first}
use Rattle.std.proofs.lemmas.Bool.{and_parts, and_from}
use Rattle.std.proofs.lemmas.Bool.Decides.{nat_tests}
use Rattle.std.proofs.lemmas.List.{append_assoc}
use Rattle.std.proofs.lemmas.List.Elements.{All-from_recursion}
use Rattle.std.proofs.lemmas.List.Folds.{list_all-append}
use Rattle.std.proofs.lemmas.List.Splits.{length-slice_split, slice_split_none}
use Rattle.cpn_definitions.specs.DistinctNames.{is_path_byte, is_path}
use Rattle.cpn_definitions.specs.DistinctNames as spelling
use Rattle.cpn_document.specs.Texts.{is_name_byte, is_name, is_flat_name}
use Rattle.cpn_flat.specs.Names.{joined_name}

-- each byte is one of a name, so none is `/`
abbrev pub IsPlain : List ℕ → Type 0
IsPlain text = list_all is_name_byte text ≡ true

pub plain_name : (text : List ℕ) → is_name text ≡ true → IsPlain text
unfolding is_name
plain_name text h = (and_parts _ _ (and_parts _ _ (and_parts _ _ h).0).0).1

has_slash : (front name : List ℕ) → IsPlain (front ++ 0x2F ∷ name) → ⊥
has_slash [] name h = cc
has_slash (byte ∷ front) name h = has_slash front name (and_parts (is_name_byte byte) (list_all is_name_byte (front ++ 0x2F ∷ name)) h).1

split_once : (a b x y : List ℕ) → IsPlain x → IsPlain y → a ++ 0x2F ∷ x ≡ b ++ 0x2F ∷ y → (a ≡ b) × (x ≡ y)
split_once [] [] x y plain_x plain_y e = let same : x ≡ y = cc in (refl, same)
split_once [] (c ∷ b) x y plain_x plain_y e = let tails : x ≡ b ++ 0x2F ∷ y = cc in absurd (has_slash b y (subst IsPlain tails plain_x))
split_once (c ∷ a) [] x y plain_x plain_y e = let tails : y ≡ a ++ 0x2F ∷ x = cc in absurd (has_slash a x (subst IsPlain tails plain_y))
split_once (c ∷ a) (d ∷ b) x y plain_x plain_y e =
    let heads : c ≡ d = cc in
    let tails : a ++ 0x2F ∷ x ≡ b ++ 0x2F ∷ y = cc in
    let rest = split_once a b x y plain_x plain_y tails in
    (ap₂ (λ (z : ℕ) (zs : List ℕ). z ∷ zs) heads rest.0, rest.1)

joined_is : (whole name : List ℕ) → joined_name whole name ≡ whole ++ 0x2F ∷ name
joined_is whole name = append_assoc whole (codes "/") name

-- A joined name tells both of its parts,
pub joined_once : (a b x y : List ℕ) → IsPlain x → IsPlain y → joined_name a x ≡ joined_name b y → (a ≡ b) × (x ≡ y)
joined_once a b x y plain_x plain_y e = split_once a b x y plain_x plain_y (sym (joined_is a x) ∙ e ∙ joined_is b y)

-- and is no name of its own.
pub none_joined : (name a x : List ℕ) → IsPlain name → name ≡ joined_name a x → ⊥
none_joined name a x plain e = has_slash a x (subst IsPlain (e ∙ joined_is a x) plain)

-- ---- how they are spelled

-- the bytes of a path, and names joined by `/`
pub record IsPath (text : List ℕ) : Type 0 where
  pub spelled : is_path text ≡ true
  pub flat : is_flat_name text ≡ true

path_byte : (byte : ℕ) → is_name_byte byte ≡ true → is_path_byte byte ≡ true
path_byte byte h = grind (arith, nat_tests)

path_bytes : (text : List ℕ) → IsPlain text → list_all is_path_byte text ≡ true
path_bytes [] h = refl
path_bytes (byte ∷ text) h =
    let parts = and_parts (is_name_byte byte) (list_all is_name_byte text) h in
    and_from (is_path_byte byte) (list_all is_path_byte text) (path_byte byte parts.0) (path_bytes text parts.1)

bytes_behind : (front name : List ℕ) → list_all is_path_byte front ≡ true → IsPlain name → list_all is_path_byte (front ++ 0x2F ∷ name) ≡ true
bytes_behind [] name h plain = path_bytes name plain
bytes_behind (byte ∷ front) name h plain =
    let parts = and_parts (is_path_byte byte) (list_all is_path_byte front) h in
    and_from (is_path_byte byte) (list_all is_path_byte (front ++ 0x2F ∷ name)) parts.0 (bytes_behind front name parts.1 plain)

pub spelled_from_name : (text : List ℕ) → is_name text ≡ true → is_path text ≡ true
unfolding is_name
spelled_from_name [] h = cc
spelled_from_name (first ∷ rest) h =
    let parts = and_parts _ _ (and_parts _ _ (and_parts _ _ h).0).0 in
    and_from (spelling.is_letter first) (list_all is_path_byte rest) parts.0 (path_bytes rest (and_parts (is_name_byte first) (list_all is_name_byte rest) parts.1).1)

spelled_joined : (whole name : List ℕ) → is_path whole ≡ true → IsPlain name → is_path (joined_name whole name) ≡ true
spelled_joined [] name h plain = cc
spelled_joined (first ∷ rest) name h plain =
    let parts = and_parts (spelling.is_letter first) (list_all is_path_byte rest) h in
    subst (λ text. is_path text ≡ true) (sym (joined_is (first ∷ rest) name)) (and_from (spelling.is_letter first) (list_all is_path_byte (rest ++ 0x2F ∷ name)) parts.0 (bytes_behind rest name parts.1 plain))

-- ---- the names between the slashes

abbrev is_slash : ℕ → Bool
is_slash byte = byte == 0x2F

no_slash : (byte : ℕ) → is_name_byte byte ≡ true → is_slash byte ≡ false
no_slash byte h = grind (arith, nat_tests)

no_slashes : (text : List ℕ) → IsPlain text → AllByRecursion (λ byte. is_slash byte ≡ false) text
no_slashes [] h = tt
no_slashes (byte ∷ text) h = let parts = and_parts (is_name_byte byte) (list_all is_name_byte text) h in (no_slash byte parts.0, no_slashes text parts.1)

flat_from_name : (text : List ℕ) → is_name text ≡ true → is_flat_name text ≡ true
unfolding is_flat_name
flat_from_name text h =
    ap (list_all is_name) (slice_split_none is_slash text (All-from_recursion (λ byte. is_slash byte ≡ false) text (no_slashes text (plain_name text h))))
    ∙ and_from (is_name text) true h refl

onto_first_more : (byte : ℕ) (parts others : List (List ℕ)) → 0 < length parts → onto_first byte (parts ++ others) ≡ onto_first byte parts ++ others
onto_first_more byte [] others some = absurd (omega arith)
onto_first_more byte (part ∷ parts) others some = refl

split_joined : (whole name : List ℕ) → slice_split is_slash (whole ++ 0x2F ∷ name) ≡ slice_split is_slash whole ++ slice_split is_slash name
split_joined [] name = refl
split_joined (byte ∷ whole) name = by (is_slash byte) (split_joined whole name)
  where
    some : 0 < length (slice_split is_slash whole)
    some = let many = length-slice_split is_slash whole in omega (arith, many)

    by : (b : Bool) → slice_split is_slash (whole ++ 0x2F ∷ name) ≡ slice_split is_slash whole ++ slice_split is_slash name
        → cond b ([] ∷ slice_split is_slash (whole ++ 0x2F ∷ name)) (onto_first byte (slice_split is_slash (whole ++ 0x2F ∷ name)))
        ≡ cond b ([] ∷ slice_split is_slash whole) (onto_first byte (slice_split is_slash whole)) ++ slice_split is_slash name
    by true later = ap (λ (parts : List (List ℕ)). [] ∷ parts) later
    by false later = ap (onto_first byte) later ∙ onto_first_more byte (slice_split is_slash whole) (slice_split is_slash name) some

flat_joined : (whole name : List ℕ) → is_flat_name whole ≡ true → is_flat_name name ≡ true → is_flat_name (joined_name whole name) ≡ true
unfolding is_flat_name
flat_joined whole name h k =
    ap (λ text. list_all is_name (slice_split is_slash text)) (joined_is whole name)
    ∙ ap (list_all is_name) (split_joined whole name)
    ∙ list_all-append is_name (slice_split is_slash whole) (slice_split is_slash name)
    ∙ and_from (list_all is_name (slice_split is_slash whole)) (list_all is_name (slice_split is_slash name)) h k

-- A name is a path,
pub path_from_name : (text : List ℕ) → is_name text ≡ true → IsPath text
path_from_name text h = record { spelled = spelled_from_name text h; flat = flat_from_name text h }

-- and so is one that is joined to a path.
pub path_joined : (whole name : List ℕ) → IsPath whole → is_name name ≡ true → IsPath (joined_name whole name)
path_joined whole name h k = record { spelled = spelled_joined whole name h.spelled (plain_name name k); flat = flat_joined whole name h.flat (flat_from_name name k) }
