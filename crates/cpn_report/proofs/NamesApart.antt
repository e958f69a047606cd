-- Of a net whose names are distinct and well spelled, a name tells its position: among the constants of an enumeration, the
-- constructors of a union, and the transitions.
use Rattle.std.proofs.Common.{◌≡◌, ◌∙◌, refl, sym, subst, true≢false, ℕ, zero, suc, ◌<◌, Bool, true, false, nat_le, nat_lt, List, [], ◌∷◌, length, get_or, slice_index_or, bytes_eq, Option, Some, None, arith}
use Rattle.std.specs.List.{AllByRecursion, IsDistinct, list_all}
use Rattle.std.proofs.lemmas.Bool.{and_parts, leb-true, ltb-true, true_from_ne_false}
use Rattle.std.proofs.lemmas.List.{get_or-map, length-map}
use Rattle.std.proofs.lemmas.List.Folds.{list_all_at}
use Rattle.std.proofs.lemmas.Slice.Eq.{bytes_eq-Decides}
use Rattle.cpn_definitions.specs.Colour.{PlainShape, Constructors, constant_shape, union_shape, no_constructors, without, taking, constructor_at, is_bare, takes}
use Rattle.cpn_definitions.specs.DistinctNames.{AreDistinct, HasDistinctNames, HasWellSpelledNames, is_word, is_path, transition_names}
use Rattle.cpn_definitions.specs.Named.{constants_of, constructors_of, count_of, has_names, arguments_have_names}
use Rattle.cpn_definitions.specs.Net.{PlainNet, no_transition, transition_at}
use Rattle.cpn_report.specs.ValueText.{constant_name, constructor_name}

-- ---- lists

-- what each item passes, the one at a position passes
pub passes_at : {X : Type 0} (test : X → Bool) (xs : List X) (i : ℕ) (d : X) → list_all test xs ≡ true → i < length xs → test (get_or xs i d) ≡ true
passes_at test xs i d all lt = true_from_ne_false (test (get_or xs i d)) (λ fails. true≢false (sym all ∙ list_all_at test xs i d lt fails))

-- the names of a number are distinct, and words
distinct_of : (ns : List (List (List ℕ))) (number : ℕ) → AllByRecursion AreDistinct ns → AreDistinct (slice_index_or ns number [])
unfolding IsDistinct
distinct_of [] number all = tt
distinct_of (names ∷ ns) zero all = all.0
distinct_of (names ∷ ns) (suc number) all = distinct_of ns number all.1

words_of : (ns : List (List (List ℕ))) (number : ℕ) → list_all (list_all is_word) ns ≡ true → list_all is_word (slice_index_or ns number []) ≡ true
words_of [] number all = refl
words_of (names ∷ ns) zero all = (and_parts (list_all is_word names) (list_all (list_all is_word) ns) all).0
words_of (names ∷ ns) (suc number) all = words_of ns number (and_parts (list_all is_word names) (list_all (list_all is_word) ns) all).1

-- no name after the first is the first
not_first : (name : List ℕ) (names : List (List ℕ)) (i : ℕ) → AllByRecursion (λ other. bytes_eq name other ≡ false) names → i < length names → name ≡ get_or names i [] → ⊥
not_first name [] i all lt e = omega arith
not_first name (other ∷ names) zero all lt e = true≢false (sym ((bytes_eq-Decides name other).1 e) ∙ all.0)
not_first name (other ∷ names) (suc i) all lt e = not_first name names i all.1 (omega arith) e

-- a name has one position
pub one_position : (names : List (List ℕ)) (i j : ℕ) → AreDistinct names → i < length names → j < length names → get_or names i [] ≡ get_or names j [] → i ≡ j
unfolding IsDistinct
one_position [] i j apart li lj e = absurd (omega arith)
one_position (name ∷ names) zero zero apart li lj e = refl
one_position (name ∷ names) zero (suc j) apart li lj e = absurd (not_first name names j apart.0 (omega arith) e)
one_position (name ∷ names) (suc i) zero apart li lj e = absurd (not_first name names i apart.0 (omega arith) (sym e))
one_position (name ∷ names) (suc i) (suc j) apart li lj e = omega (arith, one_position names i j apart.1 (omega arith) (omega arith) e)

-- ---- constructors

-- a position at which there is a constructor is one of the constructors
pub counted_at : (test : Option (Option PlainShape) → Bool) (cs : Constructors) (k : ℕ) → test None ≡ false → test (constructor_at cs k) ≡ true → k < count_of cs
counted_at test no_constructors k fails is = absurd (true≢false (sym is ∙ fails))
counted_at test (without cs) zero fails is = omega arith
counted_at test (taking s cs) zero fails is = omega arith
counted_at test (without cs) (suc k) fails is = omega (arith, counted_at test cs k fails is)
counted_at test (taking s cs) (suc k) fails is = omega (arith, counted_at test cs k fails is)

-- a constructor without an argument takes none
pub bare_takes_none : (o : Option (Option PlainShape)) (test : PlainShape → Bool) → is_bare o ≡ true → takes o test ≡ true → ⊥
bare_takes_none None test bare takes_one = cc
bare_takes_none (Some None) test bare takes_one = cc
bare_takes_none (Some (Some s)) test bare takes_one = cc

-- ---- names that are well spelled

-- as many names as constructors
enough : (n : PlainNet) (number : ℕ) (cs : Constructors) (k : ℕ) → has_names n (union_shape number cs) ≡ true → k < count_of cs → k < length (constructors_of n number)
enough n number cs k named lt = omega (arith, lt, leb-true (count_of cs) (length (constructors_of n number)) (and_parts (nat_le (count_of cs) (length (constructors_of n number))) (arguments_have_names n cs) named).0)

-- a transition's name among the names of transitions
name_is : (n : PlainNet) (t : ℕ) → t < length n.transitions → get_or (transition_names n) t [] ≡ (transition_at n t).name
name_is n t lt = get_or-map (λ transition. transition.name) n.transitions t no_transition [] lt

names_counted : (n : PlainNet) → length (transition_names n) ≡ length n.transitions
names_counted n = length-map n.transitions (λ transition. transition.name)

module _ (n : PlainNet) (spelled : HasWellSpelledNames n) where
  -- a constant of an enumeration that the net names, and a constructor of a union
  pub constant_is_word : (number count k : ℕ) → has_names n (constant_shape number count) ≡ true → nat_lt k count ≡ true → is_word (constant_name n number k) ≡ true
  constant_is_word number count k named is =
      passes_at is_word (constants_of n number) k [] (words_of n.constants number spelled.constants) (omega (arith, leb-true count (length (constants_of n number)) named, ltb-true k count is))

  pub constructor_is_word : (number : ℕ) (cs : Constructors) (k : ℕ) → has_names n (union_shape number cs) ≡ true → k < count_of cs → is_word (constructor_name n number k) ≡ true
  constructor_is_word number cs k named lt = passes_at is_word (constructors_of n number) k [] (words_of n.constructors number spelled.constructors) (enough n number cs k named lt)

  -- a transition of the net
  pub transition_is_path : (t : ℕ) → t < length n.transitions → is_path (transition_at n t).name ≡ true
  transition_is_path t lt = subst (λ name. is_path name ≡ true) (name_is n t lt) (passes_at is_path (transition_names n) t [] spelled.transitions (omega (arith, names_counted n, lt)))

-- ---- names that are distinct

module _ (n : PlainNet) (distinct : HasDistinctNames n) where
  pub one_constant : (number count j k : ℕ) → has_names n (constant_shape number count) ≡ true → nat_lt j count ≡ true → nat_lt k count ≡ true → constant_name n number j ≡ constant_name n number k → j ≡ k
  one_constant number count j k named lj lk e =
      let few = leb-true count (length (constants_of n number)) named in
      one_position (constants_of n number) j k (distinct_of n.constants number distinct.constants) (omega (arith, few, ltb-true j count lj)) (omega (arith, few, ltb-true k count lk)) e

  pub one_constructor : (number : ℕ) (cs : Constructors) (j k : ℕ) → has_names n (union_shape number cs) ≡ true → j < count_of cs → k < count_of cs → constructor_name n number j ≡ constructor_name n number k → j ≡ k
  one_constructor number cs j k named lj lk e = one_position (constructors_of n number) j k (distinct_of n.constructors number distinct.constructors) (enough n number cs j named lj) (enough n number cs k named lk) e

  pub one_transition : (t u : ℕ) → t < length n.transitions → u < length n.transitions → (transition_at n t).name ≡ (transition_at n u).name → t ≡ u
  one_transition t u lt lu e =
      one_position (transition_names n) t u distinct.transitions (omega (arith, names_counted n, lt)) (omega (arith, names_counted n, lu)) (name_is n t lt ∙ e ∙ sym (name_is n u lu))
