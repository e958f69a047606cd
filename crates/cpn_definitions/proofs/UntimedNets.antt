-- In a net where no place keeps time stamps, being covered does not depend on the time: what is enabled is ready, and each
-- occurrence of a legal sequence is at the clock.
use Rattle.std.proofs.Common.{◌≡◌, ℕ, suc, ◌<◌, ◌≤◌, ◌==◌, Bool, true, ◌&&◌, List, [], ◌∷◌, length, refl, sym, ap, ◌∙◌, subst, arith, ⊎_elim, Contains, eq-eqb}
use Rattle.std.specs.List.{filter, AllByRecursion}
use Rattle.std.proofs.Math.Path.{fun_ext}
use Rattle.std.proofs.lemmas.Bool.{cases_lt}
use Rattle.cpn_definitions.specs.Marking.{Marking}
use Rattle.cpn_definitions.specs.Net.{PlainNet}
use Rattle.cpn_definitions.specs.Outcome.{gives_and}
use Rattle.cpn_definitions.specs.Occurrence.{PlainElement, Needed, threshold_in, are_covered, may_occur, needs_of, covered}
use Rattle.cpn_definitions.specs.Enabled.{PlainEntry, IsEarliest, Enabled, ready}
use Rattle.cpn_definitions.specs.Legal.{LeastTime, TimedElement, Legal}
use Rattle.cpn_definitions.specs.Sound.{IsUntimed}
use Rattle.cpn_definitions.proofs.TruthValues.{not_both}

threshold_is_zero : (n : PlainNet) (time : ℕ) (need : Needed) → IsUntimed n → threshold_in n time need ≡ 0
threshold_is_zero n time need untimed = rw (untimed need.place) refl

-- whether an element is covered is the same at two times
pub covered_at_any_time : (n : PlainNet) (m : Marking) (s t : ℕ) (e : PlainElement) → IsUntimed n → covered n m s e ≡ covered n m t e
unfolding covered
covered_at_any_time n m s t e untimed =
    let same : threshold_in n s ≡ threshold_in n t = fun_ext (λ need. threshold_is_zero n s need untimed ∙ sym (threshold_is_zero n t need untimed)) in
    ap (λ (latest : Needed → ℕ). may_occur n e && gives_and (needs_of n e) (are_covered latest m)) same

-- the earliest time of an element is the clock
pub earliest_is_clock : (n : PlainNet) (m : Marking) (clock : ℕ) (x : PlainEntry) → IsUntimed n → IsEarliest n m clock x → x.earliest ≡ clock
earliest_is_clock n m clock x untimed is =
    ⊎_elim (λ before. absurd (not_both (covered n m clock x.element) (covered_at_any_time n m clock x.earliest x.element untimed ∙ is.is_covered) (is.not_earlier clock (omega arith) before)))
    (λ (upto : x.earliest ≤ clock). let from : clock ≤ x.earliest = is.not_before in omega arith) (cases_lt clock x.earliest)

-- where each item of a list passes a test, the filter keeps all
filter_all : {A : Type 0} (test : A → Bool) (xs : List A) → ((x : A) → Contains xs x → test x ≡ true) → filter test xs ≡ xs
filter_all test [] all = refl
filter_all test (x ∷ xs) all =
    rw (all x (0, omega arith, refl)) (ap (λ ys. x ∷ ys) (filter_all test xs (λ y c. all y (suc c.0, (let lt : c.0 < length xs = c.1 in omega arith), c.2))))

-- each enabled element is ready
pub all_are_ready : (n : PlainNet) (m : Marking) (clock : ℕ) (entries : List PlainEntry) → IsUntimed n → Enabled n m clock entries → ready clock entries ≡ entries
all_are_ready n m clock entries untimed enabled =
    filter_all (λ x. x.earliest == clock) entries (λ x c. eq-eqb x.earliest clock (earliest_is_clock n m clock x untimed ((enabled.exact x).0 c)))

-- the least time is the clock
pub least_is_clock : (n : PlainNet) (m : Marking) (clock time : ℕ) → IsUntimed n → LeastTime n m clock time → time ≡ clock
least_is_clock n m clock time untimed least =
    let e = least.some.0 in
    ⊎_elim (λ before. absurd (not_both (covered n m clock e) (covered_at_any_time n m clock time e untimed ∙ least.some.1) (least.none_earlier clock e (omega arith) before)))
    (λ (upto : time ≤ clock). let from : clock ≤ time = least.not_before in omega arith) (cases_lt clock time)

-- Each occurrence of a legal sequence is at the clock, and so is its end.
pub record IsAtClock (clock : ℕ) (os : List TimedElement) (end : ℕ) : Type 0 where
  pub occurrences : AllByRecursion (λ (o : TimedElement). o.time ≡ clock) os
  pub last : end ≡ clock

pub legal_is_at_clock : (n : PlainNet) (m : Marking) (clock : ℕ) (os : List TimedElement) (last : Marking) (end : ℕ) → IsUntimed n → Legal n m clock os last end → IsAtClock clock os end
legal_is_at_clock n m clock [] last end untimed legal = record { occurrences = tt; last = ⊎_elim (λ same. same) (λ least. least_is_clock n m clock end untimed least) legal.1 }
legal_is_at_clock n m clock (o ∷ os) last end untimed legal =
    let now : o.time ≡ clock = least_is_clock n m clock o.time untimed legal.0 in
    let rest : IsAtClock clock os end = legal_is_at_clock n legal.2.0 clock os last end untimed (subst (λ (t : ℕ). Legal n legal.2.0 t os last end) now legal.2.2) in
    record { occurrences = (now, rest.occurrences); last = rest.last }
