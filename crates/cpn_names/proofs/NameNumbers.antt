-- Names one behind the other: the number of a name among them.
use Rattle.std.proofs.Common.{◌≡◌, ℕ, suc, ◌+◌, ◌<◌, ◌≤◌, Bool, true, false, cond, if◌then◌else◌, List, [], ◌∷◌, ◌++◌, length, take, get_or, map, refl, ap, ◌∙◌, arith}
use Rattle.std.specs.Prelude.{Option, Some, None, Result, IfOk}
use Rattle.std.specs.Option.{option_or, unwrap_or}
use Rattle.std.specs.Borrow.{Bor}
use Rattle.std.specs.BTreeMap.{BTreeMap, get_by, Updates}
use Rattle.std.specs.Cmp.Lexicographic.{slice_cmp}
use Rattle.std.specs.List.{position_from}
use Rattle.std.specs.Ordering.{nat_cmp}
use Rattle.std.specs.Str.{bytes_eq}
use Rattle.std.proofs.lemmas.Cmp.{nat_list_eq_equiv}
use Rattle.std.proofs.lemmas.List.{take_all, take_more, map-append, length-map, length-take-le}
use Rattle.std.proofs.lemmas.Map.Text.{btree_map_updates_str}
use Rattle.std.proofs.lemmas.Result.{IfOk-weaker}
use Rattle.std.proofs.lemmas.Slice.Eq.{bytes_eq-Decides}
use Rattle.cpn_names.specs.Names.{texts_of, number_of, Numbers}

more_from : (q name : List ℕ) (names : List (List ℕ)) (i : ℕ) → position_from (bytes_eq q) i (names ++ name ∷ []) ≡ option_or (position_from (bytes_eq q) i names) (if bytes_eq q name then Some (i + length names) else None)
more_from q name [] i = by (bytes_eq q name) (omega arith)
  where
    by : (b : Bool) → i ≡ i + 0 → cond b (Some i) None ≡ (if b then Some (i + 0) else None)
    by true e = ap Some e
    by false e = refl
more_from q name (n ∷ ns) i = by (bytes_eq q n) (more_from q name ns (i + 1)) (omega arith)
  where
    by : (b : Bool) → position_from (bytes_eq q) (i + 1) (ns ++ name ∷ []) ≡ option_or (position_from (bytes_eq q) (i + 1) ns) (if bytes_eq q name then Some ((i + 1) + length ns) else None) → (i + 1) + length ns ≡ i + suc (length ns)
        → cond b (Some i) (position_from (bytes_eq q) (i + 1) (ns ++ name ∷ [])) ≡ option_or (cond b (Some i) (position_from (bytes_eq q) (i + 1) ns)) (if bytes_eq q name then Some (i + suc (length ns)) else None)
    by true h e = refl
    by false h e = h ∙ ap (λ k. option_or (position_from (bytes_eq q) (i + 1) ns) (if bytes_eq q name then Some k else None)) e

-- the number of a name, where one more stands at the end
pub number_more : (q name : List ℕ) (names : List (List ℕ)) → number_of q (names ++ name ∷ []) ≡ option_or (number_of q names) (if bytes_eq q name then Some (length names) else None)
number_more q name names = more_from q name names 0 ∙ ap (λ k. option_or (number_of q names) (if bytes_eq q name then Some k else None)) (omega arith)

-- ---- a map with the next name

first_there : (first i : ℕ) (o : Option ℕ) → first ≡ unwrap_or o i → Some first ≡ option_or o (Some i)
first_there first i None h = ap Some h
first_there first i (Some k) h = ap Some h

as_before : (o : Option ℕ) → o ≡ option_or o None
as_before None = refl
as_before (Some k) = refl

-- what a map answers that has the first number of one more name
pub one_more : (q name : List ℕ) (names : List (List ℕ)) (first : ℕ) → first ≡ unwrap_or (number_of name names) (length names) → cond (bytes_eq name q) (Some first) (number_of q names) ≡ number_of q (names ++ name ∷ [])
one_more q name names first is_first = rw (number_more q name names, nat_list_eq_equiv.symm q name) (by (bytes_eq name q) same)
  where
    same : bytes_eq name q ≡ true → first ≡ unwrap_or (number_of q names) (length names)
    same h = is_first ∙ ap (λ n. unwrap_or (number_of n names) (length names)) ((bytes_eq-Decides name q).0 h)

    by : (b : Bool) → (b ≡ true → first ≡ unwrap_or (number_of q names) (length names)) → cond b (Some first) (number_of q names) ≡ option_or (number_of q names) (if b then Some (length names) else None)
    by true h = first_there first (length names) (number_of q names) (h refl)
    by false h = as_before (number_of q names)

-- a map that has the number of the next name too
module _ (names : List (Bor (List ℕ))) (i : ℕ) (d : Bor (List ℕ)) (lt : i < length names) (old new : BTreeMap (Bor (List ℕ)) ℕ) (first : ℕ) where
  pub numbers_more : Numbers (texts_of (take i names)) old → first ≡ unwrap_or (get_by (λ k. slice_cmp nat_cmp (get_or names i d).now k.now) old) i → Updates (λ x y. slice_cmp nat_cmp x.now y.now) old new (get_or names i d) (Some first) → Numbers (texts_of (take (i + 1) names)) new
  numbers_more known is_first updates q =
      btree_map_updates_str name old new (Some first) updates q ∙ rw (known q, fronts) (one_more q name (texts_of (take i names)) first its_first)
    where
      name : List ℕ
      name = (get_or names i d).now

      fronts : texts_of (take (i + 1) names) ≡ texts_of (take i names) ++ (get_or names i d).now ∷ []
      fronts = rw (take_more names i d lt) (map-append (λ (k : Bor (List ℕ)). k.now) (take i names) (get_or names i d ∷ []))

      long : length (texts_of (take i names)) ≡ i
      long = length-map (take i names) (λ (k : Bor (List ℕ)). k.now) ∙ length-take-le i names (omega arith)

      its_first : first ≡ unwrap_or (number_of name (texts_of (take i names))) (length (texts_of (take i names)))
      its_first = is_first ∙ rw (long, known name) refl

-- the number that a map has
pub number_found : (name : List ℕ) (names : List (Bor (List ℕ))) (numbers : BTreeMap (Bor (List ℕ)) ℕ) (number : Option ℕ) → Numbers (texts_of names) numbers → number ≡ get_by (λ k. slice_cmp nat_cmp name k.now) numbers → number ≡ number_of name (texts_of names)
number_found name names numbers number known h = h ∙ known name

-- ---- the names of things

-- the names of some things, with the name of the next one
pub names_more : {X Y : Type 0} (name : Y → List ℕ) (view : X → Y) (xs : List X) (i : ℕ) (d : X) → i < length xs → (names : List (Bor (List ℕ))) (next : Bor (List ℕ)) → next.now ≡ name (view (get_or xs i d)) → texts_of names ≡ map name (map view (take i xs)) → texts_of (names ++ next ∷ []) ≡ map name (map view (take (i + 1) xs))
names_more name view xs i d lt names next is h =
    rw (take_more xs i d lt, map-append view (take i xs) (get_or xs i d ∷ []), map-append name (map view (take i xs)) (view (get_or xs i d) ∷ []), map-append (λ (k : Bor (List ℕ)). k.now) names (next ∷ []), h, is) refl

-- where the names of all things were taken, they are those of the things
pub names_all : {X Y E : Type 0} (name : Y → List ℕ) (view : X → Y) (xs : List X) (i : ℕ) → length xs ≤ i → (names : List (Bor (List ℕ))) → texts_of names ≡ map name (map view (take i xs)) → (result : Result (List (List ℕ)) E) → IfOk result (λ numbered. numbered ≡ texts_of names) → IfOk result (λ numbered. numbered ≡ map name (map view xs))
names_all name view xs i le names h result made = IfOk-weaker result _ _ (λ numbered is. is ∙ h ∙ ap (λ ys. map name (map view ys)) (take_all i xs le)) made
