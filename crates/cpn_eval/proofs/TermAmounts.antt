-- Coefficients and delays, as the integers that they are.
use Rattle.std.proofs.Common.{◌≡◌, ℕ, ◌+◌, ◌-◌, ◌≤◌, ◌<◌, ◌^◌, min, Bool, true, false, cond, List, [], ◌∷◌, ◌++◌, length, drop, map, refl, sym, ap, arith, append_assoc, drop_of_length-le}
use Rattle.std.specs.List.{list_all}
use Rattle.std.proofs.lemmas.Bool.Decides.{nat_tests}
use Rattle.cpn_definitions.specs.Value.{PlainValue, unit, boolean, int, constant, text, tuple, bare, applied, list}
use Rattle.cpn_definitions.specs.Outcome.{Outcome, gives, faults, ◌>>=◌, bad_delay}
use Rattle.cpn_definitions.specs.Operations.{integer_in}
use Rattle.cpn_definitions.specs.Times.{last_time}
use Rattle.cpn_definitions.specs.Terms.{PlainTerm, coefficient_of, written_delay, tokens_in, may_be_delayed, delayed_by, all_delayed}
use Rattle.cpn_eval.specs.declared.term.Term.{Term}
use Rattle.cpn_eval.specs.Terms.{terms_view}

pub coefficient_by_integer : (v : PlainValue) → coefficient_of v ≡ (integer_in v >>= (λ z. coefficient_of (int z)))
coefficient_by_integer unit = refl
coefficient_by_integer (boolean b) = refl
coefficient_by_integer (int z) = refl
coefficient_by_integer (constant k) = refl
coefficient_by_integer (text bytes) = refl
coefficient_by_integer (tuple vs) = refl
coefficient_by_integer (bare k) = refl
coefficient_by_integer (applied k v) = refl
coefficient_by_integer (list vs) = refl

pub delay_by_integer : (v : PlainValue) → written_delay v ≡ (integer_in v >>= (λ z. written_delay (int z)))
delay_by_integer unit = refl
delay_by_integer (boolean b) = refl
delay_by_integer (int z) = refl
delay_by_integer (constant k) = refl
delay_by_integer (text bytes) = refl
delay_by_integer (tuple vs) = refl
delay_by_integer (bare k) = refl
delay_by_integer (applied k v) = refl
delay_by_integer (list vs) = refl

-- ---- sums of coefficients

pub tokens_are_all : (ts : List Term) (i sum : ℕ) → length ts ≤ i → sum < 2 ^ 64 → min (sum + tokens_in (terms_view (drop i ts))) (2 ^ 64 - 1) ≡ min (tokens_in (terms_view ts)) (2 ^ 64 - 1) → sum ≡ min (tokens_in (terms_view ts)) (2 ^ 64 - 1)
tokens_are_all ts i sum done small h =
    let e : drop i ts ≡ [] = drop_of_length-le ts done in
    let k = rw e at h in
    omega arith

-- ---- terms with a delay more

-- terms, if they are given, behind others
abbrev pub behind : List PlainTerm → Outcome (List PlainTerm) → Outcome (List PlainTerm)
behind front terms = terms >>= (λ xs. gives (front ++ xs))

-- the next term may have the delay
pub delayed_next : (n : ℕ) (t : PlainTerm) (ts done : List PlainTerm) → t.delay + n ≤ last_time → behind done (all_delayed (t ∷ ts) n) ≡ behind (done ++ delayed_by n t ∷ []) (all_delayed ts n)
delayed_next n t ts done h =
    let may : may_be_delayed n t ≡ true = grind (arith, nat_tests) in
    rw may (split (list_all (may_be_delayed n) ts))
  where
    split : (b : Bool) → behind done (cond b (gives (delayed_by n t ∷ map (delayed_by n) ts)) (faults bad_delay)) ≡ behind (done ++ delayed_by n t ∷ []) (cond b (gives (map (delayed_by n) ts)) (faults bad_delay))
    split true = ap gives (sym (append_assoc done (delayed_by n t ∷ []) (map (delayed_by n) ts)))
    split false = refl
