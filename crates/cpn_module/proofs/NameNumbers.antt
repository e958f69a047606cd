-- Names one behind the other: the number of a name among them.
use Rattle.std.proofs.Common.{◌≡◌, ℕ, suc, ◌+◌, ◌<◌, ◌≤◌, Bool, true, false, ◌||◌, cond, if◌then◌else◌, nat_lt, List, [], ◌∷◌, ◌++◌, length, take, get_or, map, refl, sym, ap, subst, ◌∙◌, arith}
use Rattle.std.specs.Prelude.{Option, Some, None, option_map, is_some, Result, IfOk}
use Rattle.std.specs.Option.{option_or, unwrap_or}
use Rattle.std.specs.Borrow.{Bor}
use Rattle.std.specs.BTreeMap.{BTreeMap, get_by, Updates}
use Rattle.std.specs.Cmp.Lexicographic.{slice_cmp}
use Rattle.std.specs.Ordering.{nat_cmp}
use Rattle.std.specs.Str.{bytes_eq}
use Rattle.std.proofs.lemmas.Bool.{lt-ltb, le-ltb, ltb-true}
use Rattle.std.proofs.lemmas.Bool.Decides.{nat_tests}
use Rattle.std.proofs.lemmas.Cmp.{nat_list_eq_equiv}
use Rattle.std.proofs.lemmas.List.{take_all, take_more, map-append, length-map, length-take-le}
use Rattle.std.proofs.lemmas.Map.Text.{btree_map_updates_str}
use Rattle.std.proofs.lemmas.Result.{IfOk-weaker}
use Rattle.std.proofs.lemmas.Slice.Eq.{bytes_eq-Decides}
use Rattle.cpn_document.specs.Parts.{is_one_of}
use Rattle.cpn_module.specs.Named.{position, node_among}
use Rattle.cpn_module.specs.Names.{texts_of, number_of, Numbers}
use Rattle.cpn_module.specs.declared.hierarchy.Node.TheVariants as nodes

-- ---- the number of a name, where it is there or not

-- the number of a name that is there is its position
pub number_is : (name : List ℕ) (names : List (List ℕ)) → is_one_of name names ≡ true → number_of name names ≡ Some (position name names)
number_is name [] h = cc
number_is name (n ∷ ns) h = by (bytes_eq name n) h (number_is name ns)
  where
    by : (b : Bool) → (b || is_one_of name ns) ≡ true → (is_one_of name ns ≡ true → number_of name ns ≡ Some (position name ns)) → (if b then Some 0 else option_map (λ i. suc i) (number_of name ns)) ≡ Some (if b then 0 else suc (position name ns))
    by true h rest = refl
    by false h rest = ap (option_map (λ i. suc i)) (rest h)

-- a name is there where it has a number
pub told : (name : List ℕ) (names : List (List ℕ)) → is_some (number_of name names) ≡ is_one_of name names
told name [] = refl
told name (n ∷ ns) = by (bytes_eq name n) (number_of name ns) (told name ns)
  where
    by : (b : Bool) (o : Option ℕ) → is_some o ≡ is_one_of name ns → is_some (if b then Some 0 else option_map (λ i. suc i) o) ≡ (b || is_one_of name ns)
    by true o h = refl
    by false None h = h
    by false (Some i) h = h

-- a name is there where its position is that of one of the names
pub there_within : (name : List ℕ) (names : List (List ℕ)) → is_one_of name names ≡ nat_lt (position name names) (length names)
there_within name [] = sym (le-ltb 0 0 (omega arith))
there_within name (n ∷ ns) = by (bytes_eq name n) (there_within name ns)
  where
    next : (a b : ℕ) → nat_lt a b ≡ nat_lt (suc a) (suc b)
    next a b = grind (arith, nat_tests)

    by : (b : Bool) → is_one_of name ns ≡ nat_lt (position name ns) (length ns) → (b || is_one_of name ns) ≡ nat_lt (if b then 0 else suc (position name ns)) (suc (length ns))
    by true h = sym (lt-ltb 0 (suc (length ns)) (omega arith))
    by false h = h ∙ next (position name ns) (length ns)

-- a number that was found is the position, and within
pub found : (name : List ℕ) (names : List (List ℕ)) (number : ℕ) → number_of name names ≡ Some number → (is_one_of name names ≡ true) × (number ≡ position name names) × (number < length names)
found name names number h =
    let there : is_one_of name names ≡ true = sym (told name names) ∙ ap is_some h in
    let is : Some number ≡ Some (position name names) = sym h ∙ number_is name names there in
    let same : number ≡ position name names = cc is in
    (there, same, ltb-true number (length names) (ap (λ n. nat_lt n (length names)) same ∙ sym (there_within name names) ∙ there))

-- the number of a name that is there is within
pub number_within : (number : ℕ) (name : List ℕ) (names : List (List ℕ)) (count : ℕ) → number ≡ position name names → is_one_of name names ≡ true → count ≡ length names → number < count
number_within number name names count is there many =
    let lt : position name names < length names = ltb-true (position name names) (length names) (sym (there_within name names) ∙ there) in
    omega (arith, lt, is, many)

-- a transition has the name, or else a substitution transition
module _ (transitions subs : List (List ℕ)) (name : List ℕ) where
  no_transition : number_of name transitions ≡ None → is_one_of name transitions ≡ false
  no_transition h = sym (told name transitions) ∙ ap is_some h

  pub node_there : (number : ℕ) → number_of name transitions ≡ Some number → node_among transitions subs name ≡ nodes.Transition number
  node_there number h = let at = found name transitions number h in rw (at.0, ← at.1) refl

  pub node_else : number_of name transitions ≡ None → node_among transitions subs name ≡ nodes.Substitution (position name subs)
  node_else h = rw (no_transition h) refl

  pub sub_there : number_of name transitions ≡ None → (is_one_of name transitions || is_one_of name subs) ≡ true → is_one_of name subs ≡ true
  sub_there h known = subst (λ b. (b || is_one_of name subs) ≡ true) (no_transition h) known

-- ---- one name more

-- the number of a name, where one more stands at the end
number_more : (q name : List ℕ) (names : List (List ℕ)) → number_of q (names ++ name ∷ []) ≡ option_or (number_of q names) (if bytes_eq q name then Some (length names) else None)
number_more q name [] = by (bytes_eq q name)
  where
    by : (b : Bool) → (if b then Some 0 else option_map (λ i. suc i) None) ≡ (if b then Some 0 else None)
    by true = refl
    by false = refl
number_more q name (n ∷ ns) = by (bytes_eq q n) (bytes_eq q name) (number_of q ns) (number_more q name ns)
  where
    by : (b e : Bool) (o : Option ℕ) → number_of q (ns ++ name ∷ []) ≡ option_or o (if e then Some (length ns) else None) → (if b then Some 0 else option_map (λ i. suc i) (number_of q (ns ++ name ∷ []))) ≡ option_or (if b then Some 0 else option_map (λ i. suc i) o) (if e then Some (suc (length ns)) else None)
    by true e o h = refl
    by false true None h = ap (option_map (λ i. suc i)) h
    by false false None h = ap (option_map (λ i. suc i)) h
    by false e (Some i) h = ap (option_map (λ i. suc i)) h

first_there : (first i : ℕ) (o : Option ℕ) → first ≡ unwrap_or o i → Some first ≡ option_or o (Some i)
first_there first i None h = ap Some h
first_there first i (Some k) h = ap Some h

as_before : (o : Option ℕ) → o ≡ option_or o None
as_before None = refl
as_before (Some k) = refl

-- a map that has the number of the next name too
module _ (names : List (Bor (List ℕ))) (i : ℕ) (d : Bor (List ℕ)) (lt : i < length names) (old new : BTreeMap (Bor (List ℕ)) ℕ) (first : ℕ) where
  pub numbers_more : Numbers (texts_of (take i names)) old → first ≡ unwrap_or (get_by (λ k. slice_cmp nat_cmp (get_or names i d).now k.now) old) i → Updates (λ x y. slice_cmp nat_cmp x.now y.now) old new (get_or names i d) (Some first) → Numbers (texts_of (take (i + 1) names)) new
  numbers_more known is_first updates q =
      btree_map_updates_str name old new (Some first) updates q ∙ rw (known q, fronts, number_more q name (texts_of (take i names)), long, nat_list_eq_equiv.symm q name) (by (bytes_eq name q) same)
    where
      name : List ℕ
      name = (get_or names i d).now

      fronts : texts_of (take (i + 1) names) ≡ texts_of (take i names) ++ (get_or names i d).now ∷ []
      fronts = rw (take_more names i d lt) (map-append (λ (k : Bor (List ℕ)). k.now) (take i names) (get_or names i d ∷ []))

      long : length (texts_of (take i names)) ≡ i
      long = length-map (take i names) (λ (k : Bor (List ℕ)). k.now) ∙ length-take-le i names (omega arith)

      same : bytes_eq name q ≡ true → first ≡ unwrap_or (number_of q (texts_of (take i names))) i
      same h = is_first ∙ ap (λ o. unwrap_or o i) (known name) ∙ ap (λ n. unwrap_or (number_of n (texts_of (take i names))) i) ((bytes_eq-Decides name q).0 h)

      by : (b : Bool) → (b ≡ true → first ≡ unwrap_or (number_of q (texts_of (take i names))) i) → cond b (Some first) (number_of q (texts_of (take i names))) ≡ option_or (number_of q (texts_of (take i names))) (if b then Some i else None)
      by true h = first_there first i (number_of q (texts_of (take i names))) (h refl)
      by false h = as_before (number_of q (texts_of (take i names)))

-- the names of some things, with the name of the next one
pub names_more : {X Y : Type 0} (name : Y → List ℕ) (view : X → Y) (xs : List X) (i : ℕ) (d : X) → i < length xs → (names : List (Bor (List ℕ))) (next : Bor (List ℕ)) → next.now ≡ name (view (get_or xs i d)) → texts_of names ≡ map name (map view (take i xs)) → texts_of (names ++ next ∷ []) ≡ map name (map view (take (i + 1) xs))
names_more name view xs i d lt names next is h =
    rw (take_more xs i d lt, map-append view (take i xs) (get_or xs i d ∷ []), map-append name (map view (take i xs)) (view (get_or xs i d) ∷ []), map-append (λ (k : Bor (List ℕ)). k.now) names (next ∷ []), h, is) refl

-- where the names of all things were taken, they are those of the things
pub names_all : {X Y E : Type 0} (name : Y → List ℕ) (view : X → Y) (xs : List X) (i : ℕ) → length xs ≤ i → (names : List (Bor (List ℕ))) → texts_of names ≡ map name (map view (take i xs)) → (result : Result (List (List ℕ)) E) → IfOk result (λ numbered. numbered ≡ texts_of names) → IfOk result (λ numbered. numbered ≡ map name (map view xs))
names_all name view xs i le names h result made = IfOk-weaker result _ _ (λ numbered is. is ∙ h ∙ ap (λ ys. map name (map view ys)) (take_all i xs le)) made

-- the number that a map has
pub number_found : (name : List ℕ) (names : List (Bor (List ℕ))) (numbers : BTreeMap (Bor (List ℕ)) ℕ) (number : Option ℕ) → Numbers (texts_of names) numbers → number ≡ get_by (λ k. slice_cmp nat_cmp name k.now) numbers → number ≡ number_of name (texts_of names)
number_found name names numbers number known h = h ∙ known name
