-- The steps of a reading that is told by relations, and that each has at most one outcome.
use Rattle.std.proofs.Common.{◌≡◌, ℕ, suc, List, [], ◌∷◌, refl, sym, ap, ◌∙◌, subst}
use Rattle.std.specs.Prelude.{Option, Some, None}
use Rattle.cpn_readings.specs.Reading.{Reading, read, refused, refused_as, Refuses}
use Rattle.cpn_readings.specs.ItemByItem.{EachIs, OptionIs}
use Rattle.cpn_readings.specs.Relations.{just, such_that, After, ◌>>=◌, refused_by, each_so, RefusesBy, HasOne}

module _ {R A B : Type 0} (first : Reading R A → Type 0) (next : A → Reading R B → Type 0) where
  -- the first step gives a value
  pub then_read : (x : A) (r : Reading R B) → first (read x) → next x r → (first >>= next) r
  then_read x r h k = (read x, h, k)

  pub then_refused : (refusal : R) → first (refused refusal) → (first >>= next) (refused refusal)
  then_refused refusal h = (refused refusal, h, refl)

  -- it is refused, and so is the whole
  pub refused_first : (o : Option R) → RefusesBy first o → RefusesBy (first >>= next) o
  refused_first None h = tt
  refused_first (Some refusal) h = then_refused refusal h

  -- it gives a value, at which the next is refused
  pub refused_next : (x : A) (o : Option R) → first (read x) → RefusesBy (next x) o → RefusesBy (first >>= next) o
  refused_next x None h k = tt
  refused_next x (Some refusal) h k = then_read x (refused refusal) h k

  -- where the whole gives a value, so do both steps
  pub step_parts : (y : B) → (first >>= next) (read y) → (x : A) × first (read x) × next x (read y)
  step_parts y h = by h.0 h.1 h.2
    where
      by : (reading : Reading R A) → first reading → After reading next (read y) → (x : A) × first (read x) × next x (read y)
      by (read x) k l = (x, k, l)
      by (refused refusal) k l = cc

module _ {R A : Type 0} where
  -- a reading that gives a value
  abbrev reads : A → Reading R A
  reads x = read x

  -- what refuses a reading refuses that reading and no other
  pub just_refused : (r : Reading R A) (o : Option R) → Refuses o r → RefusesBy (just r) o
  just_refused r None h = tt
  just_refused r (Some refusal) h = sym h

  -- a value of which something holds
  pub such_holds : (Holds : A → Type 0) (x : A) → such_that {R = R} Holds (read x) → Holds x
  such_holds Holds x h = subst Holds (same x h.0 h.2) h.1
    where
      value_or : A → Reading R A → A
      value_or z (read y) = y
      value_or z (refused refusal) = z

      same : (x y : A) → reads x ≡ reads y → y ≡ x
      same x y e = sym (ap (value_or x) e)

-- ---- one outcome

-- at most one thing of which something holds
abbrev pub IsOne : {A : Type 0} → (A → Type 0) → Type 0
IsOne {A} P = (x y : A) → P x → P y → x ≡ y

module _ {R A : Type 0} where
  pub just_one : (r : Reading R A) → HasOne (just r)
  just_one r x y h k = h ∙ sym k

  pub such_one : (Holds : A → Type 0) → IsOne Holds → HasOne (such_that {R = R} Holds)
  such_one Holds one x y h k = h.2 ∙ ap read (one h.0 k.0 h.1 k.1) ∙ sym k.2

module _ {R A B : Type 0} where
  -- the second step has one outcome at each value that the first may give
  pub then_one_at : (first : Reading R A → Type 0) (next : A → Reading R B → Type 0) → HasOne first → ((x : A) → first (read x) → HasOne (next x)) → HasOne (first >>= next)
  then_one_at first next one ones y z h k = by k.0 k.1 (subst (λ r. After r next y) (one h.0 k.0 h.1 k.1) h.2) k.2
    where
      by : (r : Reading R A) → first r → After r next y → After r next z → y ≡ z
      by (read x) f a b = ones x f y z a b
      by (refused refusal) f a b = a ∙ sym b

  -- it has one at each value
  pub then_one : (first : Reading R A → Type 0) (next : A → Reading R B → Type 0) → HasOne first → ((x : A) → HasOne (next x)) → HasOne (first >>= next)
  then_one first next one ones = then_one_at first next one (λ x h. ones x)

-- readings whose refusals are seen as of another kind are one, where the readings are
pub refused_by_one : {R S A : Type 0} (kind : R → S) (Reads : Reading R A → Type 0) → HasOne Reads → HasOne (refused_by kind Reads)
refused_by_one kind Reads one r s h k = h.2 ∙ ap (refused_as kind) (one h.0 k.0 h.1 k.1) ∙ sym k.2

module _ {R A B : Type 0} where
  pub each_so_one : (Reads : ℕ → A → Reading R B → Type 0) → ((i : ℕ) (x : A) → HasOne (Reads i x)) → (i : ℕ) (xs : List A) → HasOne (each_so Reads i xs)
  unfolding each_so
  each_so_one Reads one i [] = just_one (read [])
  each_so_one Reads one i (x ∷ xs) = then_one (Reads i x) _ (one i x) (λ y. then_one (each_so Reads (suc i) xs) _ (each_so_one Reads one (suc i) xs) (λ ys. just_one (read (y ∷ ys))))

-- lists that correspond item by item to one list are one
pub each_one : {A B : Type 0} (Is : A → B → Type 0) → ((x : A) → IsOne (Is x)) → (xs : List A) → IsOne (EachIs Is xs)
each_one Is one [] [] [] h k = refl
each_one Is one [] [] (z ∷ zs) h k = absurd k
each_one Is one [] (y ∷ ys) zs h k = absurd h
each_one Is one (x ∷ xs) [] zs h k = absurd h
each_one Is one (x ∷ xs) (y ∷ ys) [] h k = absurd k
each_one Is one (x ∷ xs) (y ∷ ys) (z ∷ zs) h k = let first = one x y z h.0 k.0 in let rest = each_one Is one xs ys zs h.1 k.1 in cc

-- options that correspond to one option are one
pub option_one : {A B : Type 0} (Is : A → B → Type 0) → ((x : A) → IsOne (Is x)) → (o : Option A) → IsOne (OptionIs Is o)
option_one Is one None None None h k = refl
option_one Is one None None (Some z) h k = absurd k
option_one Is one None (Some y) z h k = absurd h
option_one Is one (Some x) None z h k = absurd h
option_one Is one (Some x) (Some y) None h k = absurd k
option_one Is one (Some x) (Some y) (Some z) h k = ap Some (one x y z h k)
