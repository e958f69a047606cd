-- What a partial binding becomes part by part is the one match of the pattern and the value; where it cannot be, there is none.
use Rattle.std.proofs.Common.{◌≡◌, ℕ, ◌==◌, Bool, true, false, cond, if◌then◌else◌, [], ◌∷◌, Option, Some, None, refl, sym, ap, ◌∙◌, subst, eqb-true}
use Rattle.std.specs.Option.{option_map, option_and_then}
use Rattle.std.proofs.lemmas.Option.{same_Some}
use Rattle.cpn_definitions.specs.Value.{PlainValue, PlainValues, tuple, bare, applied, list, none, more}
use Rattle.cpn_definitions.specs.Order.{same_value}
use Rattle.cpn_definitions.specs.ValueOrder.{same_value_true, same_value_refl}
use Rattle.cpn_definitions.specs.Inscription.{PlainPattern, any_pattern, variable_pattern, literal_pattern, tuple_pattern, list_pattern, cons_pattern, bare_pattern, applied_pattern, PlainPatterns, no_patterns, more_patterns}
use Rattle.cpn_definitions.proofs.NumberTests.{equals_itself}
use Rattle.cpn_stages.specs.Partial.{PlainPartial, value_in, IsKept, Extends}
use Rattle.cpn_stages.specs.Instances.{IsInstance, AreInstances, Matches, MatchesNot}
use Rattle.cpn_stages.proofs.Partials.{extends_itself, extends_further}
use Rattle.cpn_stages.proofs.Instances.{instance_stays, one_match}
use Rattle.cpn_stages.specs.Fitting.{agreed, held, fitted, fitted_each}

-- ---- the least extension with a property, or none

-- an extension with the property, which each other one extends
record IsLeast (P : PlainPartial → Type 0) (b c : PlainPartial) : Type 0 where
  extends : Extends b c
  has : P c
  least : (d : PlainPartial) → Extends b d → P d → Extends c d

-- the least extension with a property, or that there is none
abbrev Decided : (PlainPartial → Type 0) → PlainPartial → Option PlainPartial → Type 0
Decided P b (Some c) = IsLeast P b c
Decided P b None = (d : PlainPartial) → Extends b d → P d → ⊥

-- the partial binding itself has it
here : (P : PlainPartial → Type 0) (b : PlainPartial) → P b → IsLeast P b b
here P b has = record { extends = extends_itself b; has = has; least = λ d is _. is }

-- one property, and then another
both
    : (P Q : PlainPartial → Type 0) → ((c d : PlainPartial) → Extends c d → P c → P d) → (b : PlainPartial) (o : Option PlainPartial) (f : PlainPartial → Option PlainPartial)
    → Decided P b o → ((c : PlainPartial) → Decided Q c (f c)) → Decided (λ c. P c × Q c) b (option_and_then f o)
both P Q stays b None f first second = λ d is h. first d is h.0
both P Q stays b (Some c) f first second = split (f c) (second c)
  where
    split : (o : Option PlainPartial) → Decided Q c o → Decided (λ c. P c × Q c) b o
    split (Some e) next = record {
      extends = extends_further b c e first.extends next.extends;
      has = (stays c e next.extends first.has, next.has);
      least = λ d is h. next.least d (first.least d is h.0) h.1;
    }
    split None next = λ d is h. next d (first.least d is h.0) h.1

-- the same property said otherwise
said : (P Q : PlainPartial → Type 0) → ((c : PlainPartial) → P c → Q c) → ((c : PlainPartial) → Q c → P c) → (b : PlainPartial) (o : Option PlainPartial) → Decided P b o → Decided Q b o
said P Q to from b (Some c) is = record { extends = is.extends; has = to c is.has; least = λ d e h. is.least d e (from d h) }
said P Q to from b None is = λ d e h. is d e (from d h)

-- where a test decides it
tested : (P : PlainPartial → Type 0) (b : PlainPartial) (test : Bool) → (test ≡ true → P b) → ((d : PlainPartial) → P d → test ≡ true) → Decided P b (if test then Some b else None)
tested P b true holds fails = here P b (holds refl)
tested P b false holds fails = λ d is h. clash (fails d h)
  where
    clash : false ≡ true → ⊥
    clash h = cc

-- ---- a variable

abbrev Has : ℕ → PlainValue → PlainPartial → Type 0
Has x v c = value_in x c ≡ Some v

if_there : (test : Bool) (o p : Option PlainValue) (v : PlainValue) → test ≡ true → cond test o p ≡ Some v → o ≡ Some v
if_there true o p v t h = h
if_there false o p v t h = cc

if_not_there : (test : Bool) (o p : Option PlainValue) (v : PlainValue) → test ≡ false → cond test o p ≡ Some v → p ≡ Some v
if_not_there true o p v t h = cc
if_not_there false o p v t h = h

-- where the first pair is the variable's
decided_here : (x : ℕ) (v : PlainValue) (pair : ℕ × Option PlainValue) (b : PlainPartial) → (x == pair.0) ≡ true → (o : Option PlainValue) → pair.1 ≡ o
    → Decided (Has x v) (pair ∷ b) (option_map (λ (value : Option PlainValue). (pair.0, value) ∷ b) (agreed o v))
decided_here x v pair b same None was = record {
  extends = (refl, subst (λ o. IsKept o (Some v)) (sym was) tt, extends_itself b);
  has = rw same refl;
  least = λ d is h. least d is h;
}
  where
    least : (d : PlainPartial) → Extends (pair ∷ b) d → Has x v d → Extends ((pair.0, Some v) ∷ b) d
    least [] is h = absurd is
    least (q ∷ d) is h = (is.0, if_there (x == q.0) q.1 (value_in x d) v (subst (λ (y : ℕ). (x == y) ≡ true) (sym is.0) same) h, is.2)
decided_here x v pair b same (Some w) was = split (same_value w v) refl
  where
    of_kept : (d : PlainPartial) → Extends (pair ∷ b) d → Has x v d → w ≡ v
    of_kept [] is h = absurd is
    of_kept (q ∷ d) is h =
        let kept : q.1 ≡ Some w = subst (λ o. IsKept o q.1) was is.1 in
        same_Some w v (sym kept ∙ if_there (x == q.0) q.1 (value_in x d) v (subst (λ (y : ℕ). (x == y) ≡ true) (sym is.0) same) h)

    split : (test : Bool) → same_value w v ≡ test → Decided (Has x v) (pair ∷ b) (option_map (λ (value : Option PlainValue). (pair.0, value) ∷ b) (if test then Some (Some w) else None))
    split true is = record {
      extends = (refl, subst (λ o. IsKept o (Some w)) (sym was) refl, extends_itself b);
      has = rw same (ap Some (same_value_true w v is));
      least = λ d ext h. least d ext;
    }
      where
        least : (d : PlainPartial) → Extends (pair ∷ b) d → Extends ((pair.0, Some w) ∷ b) d
        least [] ext = absurd ext
        least (q ∷ d) ext = (ext.0, subst (λ o. IsKept o q.1) was ext.1, ext.2)
    split false is = λ d ext h. clash (subst (λ u. same_value u v ≡ false) (of_kept d ext h) is)
      where
        clash : same_value v v ≡ false → ⊥
        clash h = let holds : same_value v v ≡ true = same_value_refl v in absurd (apart holds h)
          where
            apart : same_value v v ≡ true → same_value v v ≡ false → ⊥
            apart holds fails = cc

-- where it is not, but one of the others may be
decided_later : (x : ℕ) (v : PlainValue) (pair : ℕ × Option PlainValue) (b : PlainPartial) → (x == pair.0) ≡ false → (o : Option PlainPartial) → Decided (Has x v) b o → Decided (Has x v) (pair ∷ b) (option_map (λ rest. pair ∷ rest) o)
decided_later x v pair b other (Some c) is =
    let own = extends_itself (pair ∷ []) in
    record { extends = (refl, own.1, is.extends); has = rw other is.has; least = λ d ext h. least d ext h }
  where
    least : (d : PlainPartial) → Extends (pair ∷ b) d → Has x v d → Extends (pair ∷ c) d
    least [] ext h = absurd ext
    least (q ∷ d) ext h = (ext.0, ext.1, is.least d ext.2 (if_not_there (x == q.0) q.1 (value_in x d) v (subst (λ (y : ℕ). (x == y) ≡ false) (sym ext.0) other) h))
decided_later x v pair b other None is = λ d ext h. none d ext h
  where
    none : (d : PlainPartial) → Extends (pair ∷ b) d → Has x v d → ⊥
    none [] ext h = ext
    none (q ∷ d) ext h = is d ext.2 (if_not_there (x == q.0) q.1 (value_in x d) v (subst (λ (y : ℕ). (x == y) ≡ false) (sym ext.0) other) h)

held_decided : (x : ℕ) (v : PlainValue) (b : PlainPartial) → Decided (Has x v) b (held x v b)
held_decided x v [] = λ d ext h. none d ext h
  where
    none : (d : PlainPartial) → Extends [] d → Has x v d → ⊥
    none [] ext h = cc
    none (q ∷ d) ext h = ext
held_decided x v (pair ∷ b) = split (x == pair.0) refl (held_decided x v b)
  where
    split : (test : Bool) → (x == pair.0) ≡ test → Decided (Has x v) b (held x v b) → Decided (Has x v) (pair ∷ b) (if test then option_map (λ (value : Option PlainValue). (pair.0, value) ∷ b) (agreed pair.1 v) else option_map (λ rest. pair ∷ rest) (held x v b))
    split true is rest = decided_here x v pair b is pair.1 refl
    split false is rest = decided_later x v pair b is (held x v b) rest

-- ---- all patterns

mutual
  fitted_decided : (p : PlainPattern) (v : PlainValue) (b : PlainPartial) → Decided (λ c. IsInstance c p v) b (fitted p v b)
  fitted_decided any_pattern v b = here (λ c. IsInstance c any_pattern v) b tt
  fitted_decided (variable_pattern x) v b = held_decided x v b
  fitted_decided (literal_pattern w) v b = tested (λ c. IsInstance c (literal_pattern w) v) b (same_value w v) (λ h. same_value_true w v h) (λ d h. subst (λ u. same_value w u ≡ true) h (same_value_refl w))
  fitted_decided (tuple_pattern ps) (tuple vs) b = each_decided ps vs b
  fitted_decided (list_pattern ps) (list vs) b = each_decided ps vs b
  fitted_decided (cons_pattern p q) (list (more v vs)) b =
      both (λ c. IsInstance c p v) (λ c. IsInstance c q (list vs)) (λ c d ext h. instance_stays c d p v ext h) b (fitted p v b) (fitted q (list vs)) (fitted_decided p v b) (λ c. fitted_decided q (list vs) c)
  fitted_decided (bare_pattern k) (bare j) b = tested (λ c. IsInstance c (bare_pattern k) (bare j)) b (k == j) (eqb-true k j) (λ d h. subst (λ (i : ℕ). (k == i) ≡ true) h (equals_itself k))
  fitted_decided (applied_pattern k p) (applied j v) b = of_test (k == j) refl (fitted_decided p v b)
    where
      of_test : (test : Bool) → (k == j) ≡ test → Decided (λ c. IsInstance c p v) b (fitted p v b) → Decided (λ c. IsInstance c (applied_pattern k p) (applied j v)) b (if test then fitted p v b else None)
      of_test true is inner = said (λ c. IsInstance c p v) (λ c. IsInstance c (applied_pattern k p) (applied j v)) (λ c h. (eqb-true k j is, h)) (λ c h. h.1) b (fitted p v b) inner
      of_test false is inner = λ d ext h. clash (subst (λ (i : ℕ). (k == i) ≡ false) (sym h.0) is)
        where
          clash : (k == k) ≡ false → ⊥
          clash fails = absurd (apart (equals_itself k) fails)
            where
              apart : (k == k) ≡ true → (k == k) ≡ false → ⊥
              apart holds fails = cc
  fitted_decided p v b = λ d ext h. h

  each_decided : (ps : PlainPatterns) (vs : PlainValues) (b : PlainPartial) → Decided (λ c. AreInstances c ps vs) b (fitted_each ps vs b)
  each_decided no_patterns none b = here (λ c. AreInstances c no_patterns none) b tt
  each_decided (more_patterns p ps) (more v vs) b =
      both (λ c. IsInstance c p v) (λ c. AreInstances c ps vs) (λ c d ext h. instance_stays c d p v ext h) b (fitted p v b) (fitted_each ps vs) (fitted_decided p v b) (λ c. each_decided ps vs c)
  each_decided ps vs b = λ d ext h. h

-- ---- as matches

pub fitted_matches : (b c : PlainPartial) (p : PlainPattern) (v : PlainValue) → fitted p v b ≡ Some c → Matches b p v c
fitted_matches b c p v is =
    let least = subst (Decided (λ c. IsInstance c p v) b) is (fitted_decided p v b) in
    record { makes = record { extends = least.extends; is_instance = least.has }; least = λ d makes. least.least d makes.extends makes.is_instance }

pub not_fitted : (b : PlainPartial) (p : PlainPattern) (v : PlainValue) → fitted p v b ≡ None → MatchesNot b p v
not_fitted b p v is c makes = subst (Decided (λ c. IsInstance c p v) b) is (fitted_decided p v b) c makes.extends makes.is_instance

-- and the other way round
pub match_is_fitted : (b c : PlainPartial) (p : PlainPattern) (v : PlainValue) → Matches b p v c → fitted p v b ≡ Some c
match_is_fitted b c p v matches = split (fitted p v b) refl
  where
    split : (o : Option PlainPartial) → fitted p v b ≡ o → o ≡ Some c
    split (Some d) is = ap Some (one_match b p v d c (fitted_matches b d p v is) matches)
    split None is = absurd (not_fitted b p v is c matches.makes)

pub unmatched_is_unfitted : (b : PlainPartial) (p : PlainPattern) (v : PlainValue) → MatchesNot b p v → fitted p v b ≡ None
unmatched_is_unfitted b p v unmatched = split (fitted p v b) refl
  where
    split : (o : Option PlainPartial) → fitted p v b ≡ o → o ≡ None
    split (Some d) is = absurd (unmatched d (fitted_matches b d p v is).makes)
    split None is = refl
