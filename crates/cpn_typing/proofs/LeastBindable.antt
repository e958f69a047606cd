-- What is found step by step is the least set of the bindable variables.
use Rattle.std.proofs.Common.{◌≡◌, ◌⊎◌, ◌↔◌, ℕ, zero, suc, ◌==◌, ◌≤◌, Bool, true, false, cond, ◌||◌, List, [], ◌∷◌, length, Option, Some, None, refl, sym, ap, ◌∙◌, subst, inl, inr, ⊎_elim, arith, eq-eqb, eqb-true}
use Rattle.std.specs.List.{list_all, list_any, flat_map}
use Rattle.std.proofs.lemmas.Bool.{and_parts}
use Rattle.cpn_definitions.specs.Inscription.{operation, equality, PlainExpr, variable, apply, no_exprs, more_exprs}
use Rattle.cpn_definitions.specs.Net.{PlainTransition, PlainNet, variable_at}
use Rattle.cpn_definitions.specs.Bindable.{variables_of, conjuncts_of, equation, IsInTerm, IsEquated, IsSmall, IsBindable, by_term, by_size, by_guard, AreBindable, no_more, and_more}
use Rattle.cpn_definitions.proofs.RisingLists.{IsIn, in_from_contains, contains_from_in, in_append_right, in_append_cases, in_flat_map, in_flat_from}
use Rattle.cpn_typing.specs.Closure.{Equation, equation_with, equations_of_part, equations_of, is_known, with_other, ready_among, stepped, found_in, is_found}

-- ---- the first equation that is ready

-- what is so of the first ready equation among several: it is ready, it is one of them, and each of them is it or another;
-- where there is none, none is ready
record IsReady (known : ℕ → Bool) (qs : List Equation) (q : Equation) (others : List Equation) : Type 0 where
  ready : list_all known q.sources ≡ true
  is_one : IsIn q qs
  others_in : (r : Equation) → IsIn r others → IsIn r qs
  others_are : (r : Equation) → IsIn r qs → (q ≡ r) ⊎ IsIn r others
  one_fewer : length qs ≡ suc (length others)

abbrev ReadyAmong : (ℕ → Bool) → List Equation → Option (Equation × List Equation) → Type 0
ReadyAmong known qs None = (r : Equation) → IsIn r qs → list_all known r.sources ≡ false
ReadyAmong known qs (Some pair) = IsReady known qs pair.0 pair.1

none_later : (known : ℕ → Bool) (q : Equation) (qs : List Equation) → list_all known q.sources ≡ false → ReadyAmong known qs None → ReadyAmong known (q ∷ qs) None
none_later known q qs unfit h r (inl e) = ap (λ p. list_all known p.sources) (sym e) ∙ unfit
none_later known q qs unfit h r (inr g) = h r g

one_later : (known : ℕ → Bool) (q p : Equation) (qs others : List Equation) → IsReady known qs p others → IsReady known (q ∷ qs) p (q ∷ others)
one_later known q p qs others h = record {
  ready = h.ready;
  is_one = inr h.is_one;
  others_in = in_others;
  others_are = are_others;
  one_fewer = ap suc h.one_fewer;
}
  where
    in_others : (r : Equation) → IsIn r (q ∷ others) → IsIn r (q ∷ qs)
    in_others r (inl e) = inl e
    in_others r (inr g) = inr (h.others_in r g)

    are_others : (r : Equation) → IsIn r (q ∷ qs) → (p ≡ r) ⊎ IsIn r (q ∷ others)
    are_others r (inl e) = inr (inl e)
    are_others r (inr g) = ⊎_elim (λ e. inl e) (λ k. inr (inr k)) (h.others_are r g)

later_ready : (known : ℕ → Bool) (q : Equation) (qs : List Equation) (o : Option (Equation × List Equation)) → list_all known q.sources ≡ false → ReadyAmong known qs o → ReadyAmong known (q ∷ qs) (with_other q o)
later_ready known q qs None unfit h = none_later known q qs unfit h
later_ready known q qs (Some pair) unfit h = one_later known q pair.0 qs pair.1 h

ready_is : (known : ℕ → Bool) (qs : List Equation) → ReadyAmong known qs (ready_among known qs)
ready_is known [] = λ r h. absurd h
ready_is known (q ∷ qs) = split (ready_is known qs) (list_all known q.sources) refl
  where
    here : list_all known q.sources ≡ true → ReadyAmong known (q ∷ qs) (Some (q, qs))
    here fit = record { ready = fit; is_one = inl refl; others_in = λ r g. inr g; others_are = λ r g. g; one_fewer = refl }

    split : ReadyAmong known qs (ready_among known qs) → (b : Bool) → list_all known q.sources ≡ b → ReadyAmong known (q ∷ qs) (cond b (Some (q, qs)) (with_other q (ready_among known qs)))
    split rest true fit = here fit
    split rest false unfit = later_ready known q qs (ready_among known qs) unfit rest

-- ---- what is found stays

known_more : (first : ℕ → Bool) (found : List ℕ) (y x : ℕ) → is_known first found x ≡ true → is_known first (y ∷ found) x ≡ true
known_more first found y x h = more (first x) (x == y) (list_any (λ z. x == z) found) h
  where
    more : (a b c : Bool) → (a || c) ≡ true → (a || (b || c)) ≡ true
    more true b c h = refl
    more false true c h = refl
    more false false c h = h

known_new : (first : ℕ → Bool) (found : List ℕ) (x : ℕ) → is_known first (x ∷ found) x ≡ true
known_new first found x = new (first x) (x == x) (list_any (λ z. x == z) found) (eq-eqb x x refl)
  where
    new : (a b c : Bool) → b ≡ true → (a || (b || c)) ≡ true
    new true b c h = refl
    new false true c h = refl
    new false false c h = cc

stays : (k : ℕ) (first : ℕ → Bool) (found : List ℕ) (qs : List Equation) (x : ℕ) → is_known first found x ≡ true → is_known first (found_in k first found qs) x ≡ true
stays zero first found qs x h = h
stays (suc k) first found qs x h = split (ready_among (is_known first found) qs) (λ now others g. stays k first now others x g)
  where
    split : (o : Option (Equation × List Equation)) → ((now : List ℕ) (others : List Equation) → is_known first now x ≡ true → is_known first (found_in k first now others) x ≡ true) → is_known first (stepped o found (λ now others. found_in k first now others)) x ≡ true
    split None rest = h
    split (Some pair) rest = rest (pair.0.target ∷ found) pair.1 (known_more first found pair.0.target x h)

-- ---- what is found is closed under the equations

abbrev IsClosed : (ℕ → Bool) → List ℕ → List Equation → Type 0
IsClosed first all qs = (q : Equation) → IsIn q qs → list_all (is_known first all) q.sources ≡ true → is_known first all q.target ≡ true

closed : (k : ℕ) (first : ℕ → Bool) (found : List ℕ) (qs : List Equation) → length qs ≤ k → IsClosed first (found_in k first found qs) qs
closed zero first found [] few = λ q h all. absurd h
closed zero first found (r ∷ qs) few = absurd (omega arith)
closed (suc k) first found qs few = split (ready_among (is_known first found) qs) (ready_is (is_known first found) qs) (λ now others. closed k first now others) (λ now others x. stays k first now others x)
  where
    split : (o : Option (Equation × List Equation)) → ReadyAmong (is_known first found) qs o
        → ((now : List ℕ) (others : List Equation) → length others ≤ k → IsClosed first (found_in k first now others) others)
        → ((now : List ℕ) (others : List Equation) (x : ℕ) → is_known first now x ≡ true → is_known first (found_in k first now others) x ≡ true)
        → IsClosed first (stepped o found (λ now others. found_in k first now others)) qs
    split None none rest kept q h all = let unfit = none q h in cc
    split (Some pair) one rest kept q h all =
        ⊎_elim
        (λ e. subst (λ r. is_known first (found_in k first (pair.0.target ∷ found) pair.1) r.target ≡ true) e (kept (pair.0.target ∷ found) pair.1 pair.0.target (known_new first found pair.0.target)))
        (λ g. rest (pair.0.target ∷ found) pair.1 (fewer (length qs) (length pair.1) one.one_fewer few) q g all)
        (one.others_are q h)
      where
        fewer : (n m : ℕ) → n ≡ suc m → n ≤ suc k → m ≤ k
        fewer n m e le = omega arith

-- ---- the equations of a guard

abbrev equation_for : ℕ → PlainExpr → Equation
equation_for x e = record { target = x; sources = variables_of e }

in_part : (part : PlainExpr) (x : ℕ) (e : PlainExpr) → (part ≡ equation (variable x) e) ⊎ (part ≡ equation e (variable x)) → IsIn (equation_for x e) (equations_of_part part)
in_part part x e (inl is) = subst (λ p. IsIn (equation_for x e) (equations_of_part p)) (sym is) (inl refl)
in_part part x e (inr is) =
    subst (λ p. IsIn (equation_for x e) (equations_of_part p)) (sym is) (in_append_right (equation_with e (variable x)) (equation_for x e ∷ []) (equation_for x e) (inl refl))

equated_is_in : (t : PlainTransition) (x : ℕ) (e : PlainExpr) → IsEquated t x e → IsIn (equation_for x e) (equations_of t.guard)
equated_is_in t x e h =
    in_flat_map (λ conjunct. flat_map equations_of_part (conjuncts_of conjunct)) t.guard h.conjunct (equation_for x e) (in_from_contains t.guard h.conjunct h.is_conjunct)
    (in_flat_map equations_of_part (conjuncts_of h.conjunct) h.part (equation_for x e) (in_from_contains (conjuncts_of h.conjunct) h.part h.is_part) (in_part h.part x e h.is_equation))

-- an equation of the list is one of the guard
record IsFrom (t : PlainTransition) (q : Equation) : Type 0 where
  expr : PlainExpr
  equated : IsEquated t q.target expr
  sources_are : q.sources ≡ variables_of expr

record IsWith (e f : PlainExpr) (q : Equation) : Type 0 where
  is_target : e ≡ variable q.target
  are_sources : q.sources ≡ variables_of f

with_is : (e f : PlainExpr) (q : Equation) → IsIn q (equation_with e f) → IsWith e f q
with_is (variable x) f q (inl e) = record { is_target = ap (λ r. variable r.target) e; are_sources = sym (ap (λ r. r.sources) e) }
with_is (variable x) f q (inr h) = absurd h
with_is e f q h = absurd h

record IsOfPart (part : PlainExpr) (q : Equation) : Type 0 where
  expr : PlainExpr
  is_equation : (part ≡ equation (variable q.target) expr) ⊎ (part ≡ equation expr (variable q.target))
  are_sources : q.sources ≡ variables_of expr

of_part : (part : PlainExpr) (q : Equation) → IsIn q (equations_of_part part) → IsOfPart part q
of_part (apply (operation equality) (more_exprs e (more_exprs f no_exprs))) q h =
    ⊎_elim
    (λ g. let w = with_is e f q g in record { expr = f; is_equation = inl (ap (λ v. equation v f) w.is_target); are_sources = w.are_sources })
    (λ g. let w = with_is f e q g in record { expr = e; is_equation = inr (ap (λ v. equation e v) w.is_target); are_sources = w.are_sources })
    (in_append_cases (equation_with e f) (equation_with f e) q h)
of_part part q h = absurd h

in_guard_from : (t : PlainTransition) (q : Equation) → IsIn q (equations_of t.guard) → IsFrom t q
in_guard_from t q h =
    let outer = in_flat_from (λ conjunct. flat_map equations_of_part (conjuncts_of conjunct)) t.guard q h in
    let inner = in_flat_from equations_of_part (conjuncts_of outer.0) q outer.2 in
    let part = of_part inner.0 q inner.2 in
    record {
      expr = part.expr;
      equated = record {
        conjunct = outer.0;
        is_conjunct = contains_from_in t.guard outer.0 outer.1;
        part = inner.0;
        is_part = contains_from_in (conjuncts_of outer.0) inner.0 inner.1;
        is_equation = part.is_equation;
      };
      sources_are = part.are_sources;
    }

-- ---- what is found is bindable

each_bindable : (n : PlainNet) (t : PlainTransition) (known : ℕ → Bool) (xs : List ℕ) → ((x : ℕ) → known x ≡ true → IsBindable n t x) → list_all known xs ≡ true → AreBindable n t xs
each_bindable n t known [] sound all = no_more
each_bindable n t known (x ∷ xs) sound all = let both = and_parts (known x) (list_all known xs) all in and_more x xs (sound x both.0) (each_bindable n t known xs sound both.1)

abbrev IsSoundList : PlainNet → PlainTransition → (ℕ → Bool) → List ℕ → Type 0
IsSoundList n t first found = (x : ℕ) → is_known first found x ≡ true → IsBindable n t x

more_sound : (n : PlainNet) (t : PlainTransition) (first : ℕ → Bool) (found : List ℕ) (y : ℕ) → IsSoundList n t first found → IsBindable n t y → IsSoundList n t first (y ∷ found)
more_sound n t first found y sound here x h = split (first x) (x == y) (list_any (λ z. x == z) found) refl refl refl h
  where
    split : (a b c : Bool) → first x ≡ a → (x == y) ≡ b → list_any (λ z. x == z) found ≡ c → (a || (b || c)) ≡ true → IsBindable n t x
    split true b c is same among g = sound x (left is)
      where
        left : first x ≡ true → is_known first found x ≡ true
        left e = rw e refl
    split false true c is same among g = subst (IsBindable n t) (sym (eqb-true x y same)) here
    split false false c is same among g = sound x (rw (is, among) g)

sound_in : (k : ℕ) (n : PlainNet) (t : PlainTransition) (first : ℕ → Bool) (found : List ℕ) (qs : List Equation) → IsSoundList n t first found → ((q : Equation) → IsIn q qs → IsFrom t q) → IsSoundList n t first (found_in k first found qs)
sound_in zero n t first found qs sound from = sound
sound_in (suc k) n t first found qs sound from = split (ready_among (is_known first found) qs) (ready_is (is_known first found) qs) (λ now others. sound_in k n t first now others)
  where
    split : (o : Option (Equation × List Equation)) → ReadyAmong (is_known first found) qs o
        → ((now : List ℕ) (others : List Equation) → IsSoundList n t first now → ((q : Equation) → IsIn q others → IsFrom t q) → IsSoundList n t first (found_in k first now others))
        → IsSoundList n t first (stepped o found (λ now others. found_in k first now others))
    split None none rest = sound
    split (Some pair) one rest =
        let one_from = from pair.0 one.is_one in
        let sources = subst (AreBindable n t) one_from.sources_are (each_bindable n t (is_known first found) pair.0.sources sound one.ready) in
        rest (pair.0.target ∷ found) pair.1
        (more_sound n t first found pair.0.target sound (by_guard pair.0.target one_from.expr one_from.equated sources))
        (λ q h. from q (one.others_in q h))

-- ---- what is bindable is found

-- what is known at first
abbrev pub IsFirst : PlainNet → PlainTransition → (ℕ → Bool) → Type 0
IsFirst n t first = (x : ℕ) → (first x ≡ true) ↔ (IsInTerm t x ⊎ IsSmall (variable_at n x).colour)

known_first : (first : ℕ → Bool) (found : List ℕ) (x : ℕ) → first x ≡ true → is_known first found x ≡ true
known_first first found x h = rw h refl

mutual
  bindable_known : (n : PlainNet) (t : PlainTransition) (first : ℕ → Bool) (all : List ℕ) → IsFirst n t first → IsClosed first all (equations_of t.guard) → (x : ℕ) → IsBindable n t x → is_known first all x ≡ true
  bindable_known n t first all is end x (by_term y h) = known_first first all y ((is y).1 (inl h))
  bindable_known n t first all is end x (by_size y h) = known_first first all y ((is y).1 (inr h))
  bindable_known n t first all is end x (by_guard y e h sources) = end (equation_for y e) (equated_is_in t y e h) (are_known n t first all is end (variables_of e) sources)

  are_known : (n : PlainNet) (t : PlainTransition) (first : ℕ → Bool) (all : List ℕ) → IsFirst n t first → IsClosed first all (equations_of t.guard) → (xs : List ℕ) → AreBindable n t xs → list_all (is_known first all) xs ≡ true
  are_known n t first all is end xs no_more = refl
  are_known n t first all is end xs (and_more y ys h rest) = rw (bindable_known n t first all is end y h) (are_known n t first all is end ys rest)

-- A variable is found just where it is bindable.
pub found_is_bindable : (n : PlainNet) (t : PlainTransition) (first : ℕ → Bool) → IsFirst n t first → (x : ℕ) → (is_found first t.guard x ≡ true) ↔ IsBindable n t x
found_is_bindable n t first is x = (
  λ h. sound_in (length qs) n t first [] qs starts (λ q g. in_guard_from t q g) x h,
  λ h. bindable_known n t first (found_in (length qs) first [] qs) is (closed (length qs) first [] qs itself) x h,
)
  where
    qs : List Equation
    qs = equations_of t.guard

    itself : length (equations_of t.guard) ≤ length (equations_of t.guard)
    itself = omega arith

    bare : (b : Bool) → (b || false) ≡ true → b ≡ true
    bare true h = refl
    bare false h = h

    starts : IsSoundList n t first []
    starts y h = ⊎_elim (λ g. by_term y g) (λ g. by_size y g) ((is y).0 (bare (first y) h))

-- ---- from a start that knows what is asked alone

-- The variables that are known at a start: each stands in a binding term or is of a small colour set; all that stand in one are
-- among them, and so are those of small colour sets that are asked for; and what the guard's equations read is asked for.
pub record IsStart (n : PlainNet) (t : PlainTransition) (asked start : List ℕ) : Type 0 where
  pub reason : (x : ℕ) → IsIn x start → IsInTerm t x ⊎ IsSmall (variable_at n x).colour
  pub in_terms : (x : ℕ) → IsInTerm t x → IsIn x start
  pub small : (x : ℕ) → IsIn x asked → IsSmall (variable_at n x).colour → IsIn x start
  pub reads : (q : Equation) → IsIn q (equations_of t.guard) → (x : ℕ) → IsIn x q.sources → IsIn x asked

-- nothing but what is listed
abbrev none : ℕ → Bool
none x = false

abbrev pub is_listed : List ℕ → ℕ → Bool
is_listed start x = is_known none start x

pub listed_in : (x : ℕ) (xs : List ℕ) → is_listed xs x ≡ true → IsIn x xs
listed_in x [] h = cc
listed_in x (y ∷ ys) h = split (x == y) refl h (λ g. listed_in x ys g)
  where
    split : (b : Bool) → (x == y) ≡ b → (b || list_any (λ z. x == z) ys) ≡ true → (is_listed ys x ≡ true → IsIn x ys) → IsIn x (y ∷ ys)
    split true same g rest = inl (sym (eqb-true x y same))
    split false same g rest = inr (rest g)

pub in_listed : (x : ℕ) (xs : List ℕ) → IsIn x xs → is_listed xs x ≡ true
in_listed x [] h = absurd h
in_listed x (y ∷ ys) (inl e) = rw (eq-eqb x y (sym e)) refl
in_listed x (y ∷ ys) (inr h) = split (x == y) (in_listed x ys h)
  where
    split : (b : Bool) → list_any (λ z. x == z) ys ≡ true → (b || list_any (λ z. x == z) ys) ≡ true
    split true g = refl
    split false g = g

abbrev found_all : PlainTransition → List ℕ → List ℕ
found_all t start = found_in (length (equations_of t.guard)) none start (equations_of t.guard)

mutual
  asked_known : (n : PlainNet) (t : PlainTransition) (asked start all : List ℕ) → IsStart n t asked start → IsClosed none all (equations_of t.guard) → ((x : ℕ) → IsIn x start → is_known none all x ≡ true)
      → (x : ℕ) → IsBindable n t x → IsIn x asked → is_known none all x ≡ true
  asked_known n t asked start all is end kept x (by_term y h) here = kept y (is.in_terms y h)
  asked_known n t asked start all is end kept x (by_size y h) here = kept y (is.small y here h)
  asked_known n t asked start all is end kept x (by_guard y e h sources) here =
      let there = equated_is_in t y e h in end (equation_for y e) there (all_asked_known n t asked start all is end kept (variables_of e) sources (λ z g. is.reads (equation_for y e) there z g))

  all_asked_known : (n : PlainNet) (t : PlainTransition) (asked start all : List ℕ) → IsStart n t asked start → IsClosed none all (equations_of t.guard) → ((x : ℕ) → IsIn x start → is_known none all x ≡ true)
      → (xs : List ℕ) → AreBindable n t xs → ((x : ℕ) → IsIn x xs → IsIn x asked) → list_all (is_known none all) xs ≡ true
  all_asked_known n t asked start all is end kept xs no_more here = refl
  all_asked_known n t asked start all is end kept xs (and_more y ys h rest) here =
      rw (asked_known n t asked start all is end kept y h (here y (inl refl))) (all_asked_known n t asked start all is end kept ys rest (λ z g. here z (inr g)))

-- What is asked for is found from the start just where it is bindable.
pub found_from_start : (n : PlainNet) (t : PlainTransition) (asked start : List ℕ) → IsStart n t asked start → (x : ℕ) → IsIn x asked
    → (is_listed (found_in (length (equations_of t.guard)) (λ y. false) start (equations_of t.guard)) x ≡ true) ↔ IsBindable n t x
found_from_start n t asked start is x here = (
  λ h. sound_in (length qs) n t none start qs starts (λ q g. in_guard_from t q g) x h,
  λ h. asked_known n t asked start (found_all t start) is (closed (length qs) none start qs itself) (λ y g. stays (length qs) none start qs y (in_listed y start g)) x h here,
)
  where
    qs : List Equation
    qs = equations_of t.guard

    itself : length (equations_of t.guard) ≤ length (equations_of t.guard)
    itself = omega arith

    starts : IsSoundList n t none start
    starts y h = ⊎_elim (λ g. by_term y g) (λ g. by_size y g) (is.reason y (listed_in y start h))
