-- What is so of names and colour sets that are declared one after another.
use Rattle.std.proofs.Common.{◌≡◌, ◌⊎◌, ℕ, zero, suc, ◌+◌, ◌<◌, ◌∙◌, Bool, true, false, cond, List, [], ◌∷◌, ◌++◌, length, slice_get, slice_index_or, Option, Some, None, refl, ap, inl, inr, ⊎_elim, arith, add-zero}
use Rattle.std.specs.Str.{bytes_eq}
use Rattle.std.proofs.lemmas.Option.{same_Some}
use Rattle.cpn_definitions.specs.Colour.{PlainColour}
use Rattle.cpn_typing.specs.Types.{PlainTy}
use Rattle.cpn_typing.specs.Names.{Name, Meant, a_variable, a_constant, a_constructor, NamedColour, NamedMeaning, NamedConstructor, meant_among, colour_among}
use Rattle.cpn_typing.specs.ColourSets.{constants_from, constructors_from}
use Rattle.cpn_typing.specs.Declarations.{variables_from}

-- ---- lists with more behind

pub length_more : {X : Type 0} (xs ys : List X) → length (xs ++ ys) ≡ length xs + length ys
length_more [] ys = omega arith
length_more (x ∷ xs) ys = let rest = length_more xs ys in omega arith

pub index_before : {X : Type 0} (xs ys : List X) (k : ℕ) (d : X) → k < length xs → slice_index_or (xs ++ ys) k d ≡ slice_index_or xs k d
index_before [] ys k d lt = absurd (omega arith)
index_before (x ∷ xs) ys zero d lt = refl
index_before (x ∷ xs) ys (suc k) d lt = index_before xs ys k d (omega arith)

pub index_at : {X : Type 0} (xs : List X) (y : X) (ys : List X) (d : X) → slice_index_or (xs ++ y ∷ ys) (length xs) d ≡ y
index_at [] y ys d = refl
index_at (x ∷ xs) y ys d = index_at xs y ys d

pub get_at : {X : Type 0} (xs : List X) (y : X) (ys : List X) → slice_get (xs ++ y ∷ ys) (length xs) ≡ Some y
get_at [] y ys = refl
get_at (x ∷ xs) y ys = get_at xs y ys

-- ---- names with more behind

-- where a test holds the first is there, else the other
by_test : {X : Type 0} (b : Bool) (x m : X) (o : Option X) → cond b (Some x) o ≡ Some m → (x ≡ m) ⊎ (o ≡ Some m)
by_test true x m o e = inl (same_Some x m e)
by_test false x m o e = inr e

pub among_more : (n : Name) (m : Meant) (xs ys : List NamedMeaning) → meant_among n (xs ++ ys) ≡ Some m → (meant_among n xs ≡ Some m) ⊎ (meant_among n ys ≡ Some m)
among_more n m [] ys e = inr e
among_more n m (x ∷ xs) ys e = split (bytes_eq n x.name) (λ h. among_more n m xs ys h) e
  where
    split : (b : Bool) → (meant_among n (xs ++ ys) ≡ Some m → (meant_among n xs ≡ Some m) ⊎ (meant_among n ys ≡ Some m))
        → cond b (Some x.meant) (meant_among n (xs ++ ys)) ≡ Some m → (cond b (Some x.meant) (meant_among n xs) ≡ Some m) ⊎ (meant_among n ys ≡ Some m)
    split true rest h = inl h
    split false rest h = rest h

pub colour_more : (n : Name) (c : PlainColour) (xs ys : List NamedColour) → colour_among n (xs ++ ys) ≡ Some c → (colour_among n xs ≡ Some c) ⊎ (colour_among n ys ≡ Some c)
colour_more n c [] ys e = inr e
colour_more n c (x ∷ xs) ys e = split (bytes_eq n x.name) (λ h. colour_more n c xs ys h) e
  where
    split : (b : Bool) → (colour_among n (xs ++ ys) ≡ Some c → (colour_among n xs ≡ Some c) ⊎ (colour_among n ys ≡ Some c))
        → cond b (Some x.colour) (colour_among n (xs ++ ys)) ≡ Some c → (cond b (Some x.colour) (colour_among n xs) ≡ Some c) ⊎ (colour_among n ys ≡ Some c)
    split true rest h = inl h
    split false rest h = rest h

-- the one that is new
pub colour_alone : (n : Name) (c : PlainColour) (x : NamedColour) → colour_among n (x ∷ []) ≡ Some c → x.colour ≡ c
colour_alone n c x e = split (bytes_eq n x.name) e
  where
    split : (b : Bool) → cond b (Some x.colour) None ≡ Some c → x.colour ≡ c
    split true h = same_Some x.colour c h
    split false h = cc

pub meant_alone : (n : Name) (m : Meant) (x : NamedMeaning) → meant_among n (x ∷ []) ≡ Some m → x.meant ≡ m
meant_alone n m x e = split (bytes_eq n x.name) e
  where
    split : (b : Bool) → cond b (Some x.meant) None ≡ Some m → x.meant ≡ m
    split true h = same_Some x.meant m h
    split false h = cc

-- ---- constants, constructors, variables

-- a constant of the enumeration, at a position from a first one on
pub record IsConstant (id first : ℕ) (ns : List Name) (m : Meant) : Type 0 where
  pub position : ℕ
  pub is_there : position < length ns
  pub is : a_constant id (first + position) ≡ m

pub constant_is : (n : Name) (m : Meant) (id first : ℕ) (ns : List Name) → meant_among n (constants_from id first ns) ≡ Some m → IsConstant id first ns m
constant_is n m id first [] e = cc
constant_is n m id first (c ∷ ns) e =
    ⊎_elim
    (λ h. record { position = 0; is_there = omega arith; is = ap (a_constant id) (add-zero first) ∙ h })
    (λ h. let rest = constant_is n m id (first + 1) ns h in
    record { position = suc rest.position; is_there = let lt = rest.is_there in omega arith; is = ap (a_constant id) (one_more first rest.position) ∙ rest.is })
    (by_test (bytes_eq n c) (a_constant id first) m (meant_among n (constants_from id (first + 1) ns)) e)
  where
    one_more : (k j : ℕ) → k + suc j ≡ (k + 1) + j
    one_more k j = omega arith

-- a constructor of the union, at a position
pub record IsConstructor (id first : ℕ) (cs : List NamedConstructor) (m : Meant) : Type 0 where
  pub position : ℕ
  pub constructor : NamedConstructor
  pub is_there : slice_get cs position ≡ Some constructor
  pub is : a_constructor id (first + position) constructor.argument ≡ m

pub constructor_is : (n : Name) (m : Meant) (id first : ℕ) (cs : List NamedConstructor) → meant_among n (constructors_from id first cs) ≡ Some m → IsConstructor id first cs m
constructor_is n m id first [] e = cc
constructor_is n m id first (c ∷ cs) e =
    ⊎_elim
    (λ h. record { position = 0; constructor = c; is_there = refl; is = ap (λ k. a_constructor id k c.argument) (add-zero first) ∙ h })
    (λ h. let rest = constructor_is n m id (first + 1) cs h in
    record { position = suc rest.position; constructor = rest.constructor; is_there = rest.is_there; is = ap (λ k. a_constructor id k rest.constructor.argument) (one_more first rest.position) ∙ rest.is })
    (by_test (bytes_eq n c.name) (a_constructor id first c.argument) m (meant_among n (constructors_from id (first + 1) cs)) e)
  where
    one_more : (k j : ℕ) → k + suc j ≡ (k + 1) + j
    one_more k j = omega arith

-- a variable of the type, by its number
pub record IsVariable (first : ℕ) (t : PlainTy) (ns : List Name) (m : Meant) : Type 0 where
  pub position : ℕ
  pub is_there : position < length ns
  pub is : a_variable (first + position) t ≡ m

pub variable_is : (n : Name) (m : Meant) (first : ℕ) (t : PlainTy) (ns : List Name) → meant_among n (variables_from first t ns) ≡ Some m → IsVariable first t ns m
variable_is n m first t [] e = cc
variable_is n m first t (x ∷ ns) e =
    ⊎_elim
    (λ h. record { position = 0; is_there = omega arith; is = ap (λ k. a_variable k t) (add-zero first) ∙ h })
    (λ h. let rest = variable_is n m (first + 1) t ns h in
    record { position = suc rest.position; is_there = let lt = rest.is_there in omega arith; is = ap (λ k. a_variable k t) (one_more first rest.position) ∙ rest.is })
    (by_test (bytes_eq n x) (a_variable first t) m (meant_among n (variables_from (first + 1) t ns)) e)
  where
    one_more : (k j : ℕ) → k + suc j ≡ (k + 1) + j
    one_more k j = omega arith
