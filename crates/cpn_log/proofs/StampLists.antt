-- Lists of stamps that are the same rank by rank, and stamps that grow fewer or more.
use Rattle.std.proofs.Common.{◌≡◌, ℕ, zero, suc, ◌+◌, ◌<◌, ◌≤◌, ◌==◌, Bool, true, false, ◌&&◌, not, cond, nat_le, List, [], ◌∷◌, length, Option, Some, None, refl, sym, ap, subst, ◌∙◌, slice_get, arith, eqb-true, eq-eqb}
use Rattle.std.proofs.Math.Path.{ap₂}
use Rattle.std.specs.Option.{is_some, option_eq}
use Rattle.std.proofs.lemmas.Bool.{and_parts}
use Rattle.cpn_definitions.specs.Value.{PlainValue}
use Rattle.cpn_definitions.specs.Order.{same_value}
use Rattle.cpn_definitions.specs.Marking.{Tokens, stamps, covers, begins_by, without_latest, less}
use Rattle.cpn_definitions.proofs.Stamps.{AreRising}
use Rattle.cpn_definitions.proofs.RicherMarkings.{covers_first, without_rising}
use Rattle.cpn_definitions.proofs.NumberTests.{equals_itself}
use Rattle.cpn_log.specs.Gathered.{same_stamps}

-- ---- the same

pub same_stamps_true : (ss ts : List ℕ) → same_stamps ss ts ≡ true → ss ≡ ts
same_stamps_true [] [] h = refl
same_stamps_true [] (t ∷ ts) h = cc
same_stamps_true (s ∷ ss) [] h = cc
same_stamps_true (s ∷ ss) (t ∷ ts) h = let parts = and_parts (s == t) (same_stamps ss ts) h in ap₂ (λ (a : ℕ) (xs : List ℕ). a ∷ xs) (eqb-true s t parts.0) (same_stamps_true ss ts parts.1)

pub same_stamps_refl : (ss : List ℕ) → same_stamps ss ss ≡ true
same_stamps_refl [] = refl
same_stamps_refl (s ∷ ss) = ap₂ (λ a b. a && b) (equals_itself s) (same_stamps_refl ss)

-- lists that are the same at each rank up to one at which both have ended
pub same_by_ranks : (ss ts : List ℕ) (r : ℕ) → ((k : ℕ) → k < r → slice_get ss k ≡ slice_get ts k) → slice_get ss r ≡ None → slice_get ts r ≡ None → same_stamps ss ts ≡ true
same_by_ranks [] [] r each end other = refl
same_by_ranks [] (t ∷ ts) zero each end other = cc
same_by_ranks [] (t ∷ ts) (suc r) each end other = let first = each 0 (omega arith) in cc
same_by_ranks (s ∷ ss) ts zero each end other = cc
same_by_ranks (s ∷ ss) [] (suc r) each end other = let first = each 0 (omega arith) in cc
same_by_ranks (s ∷ ss) (t ∷ ts) (suc r) each end other =
    let first : s ≡ t = (let is = each 0 (omega arith) in cc) in
    let rest = same_by_ranks ss ts r (λ k lt. each (suc k) (omega arith)) end other in
    ap₂ (λ a b. a && b) (subst (λ (n : ℕ). (s == n) ≡ true) first (equals_itself s)) rest

-- lists that differ at a rank
pub differ_at_rank : (ss ts : List ℕ) (r : ℕ) → (slice_get ss r ≡ slice_get ts r → ⊥) → same_stamps ss ts ≡ false
differ_at_rank ss ts r differ = split (same_stamps ss ts) refl
  where
    split : (b : Bool) → same_stamps ss ts ≡ b → b ≡ false
    split true is = absurd (differ (ap (λ (xs : List ℕ). slice_get xs r) (same_stamps_true ss ts is)))
    split false is = refl

-- past the end there is none
pub none_past : (ss : List ℕ) (r : ℕ) → length ss ≤ r → slice_get ss r ≡ None
none_past [] zero past = refl
none_past [] (suc r) past = refl
none_past (s ∷ ss) zero past = absurd (omega arith)
none_past (s ∷ ss) (suc r) past = none_past ss r (omega arith)

-- a value has no more stamps than there are tokens
pub few_stamps : (v : PlainValue) (ks : Tokens) → length (stamps v ks) ≤ length ks
few_stamps v [] = omega arith
few_stamps v (k ∷ ks) = split (same_value v k.value) (few_stamps v ks)
  where
    split : (b : Bool) → length (stamps v ks) ≤ length ks → length (cond b (k.stamp ∷ stamps v ks) (stamps v ks)) ≤ suc (length ks)
    split true rest = omega arith
    split false rest = omega arith

-- ---- fewer

one_less : (t : ℕ) (ss : List ℕ) → begins_by t ss ≡ true → length (without_latest t ss) + 1 ≡ length ss
one_less t [] h = cc
one_less t (s ∷ ss) h = split (λ g. one_less t ss g) (begins_by t ss) refl
  where
    split : (begins_by t ss ≡ true → length (without_latest t ss) + 1 ≡ length ss) → (b : Bool) → begins_by t ss ≡ b → length (cond b (s ∷ without_latest t ss) (cond (nat_le s t) ss (s ∷ ss))) + 1 ≡ suc (length ss)
    split rest true g = let fewer = rest g in omega (arith, fewer)
    split rest false g = ap (λ b. length (cond b ss (s ∷ ss)) + 1) h ∙ (omega arith)

-- stamps less thresholds that they cover
pub fewer_by : (ts ss : List ℕ) → AreRising ss → covers ss ts ≡ true → length (less ss ts) + length ts ≡ length ss
fewer_by [] ss rising all = omega arith
fewer_by (t ∷ ts) ss rising all =
    let first = covers_first t ss ts rising all in
    let one = one_less t ss first.0 in
    let rest = fewer_by ts (without_latest t ss) (without_rising t ss rising) first.1 in
    omega (arith, one, rest)

-- ---- up to where one list ends

-- where they are the same up to a rank at which the first has ended, they are the same if the other has ended too
pub ended_at_rank : (ss ts : List ℕ) (r : ℕ) (o : Option ℕ) (b : Bool) → ((k : ℕ) → k < r → slice_get ss k ≡ slice_get ts k) → slice_get ss r ≡ None → o ≡ slice_get ts r → is_some o ≡ not b → b ≡ same_stamps ss ts
ended_at_rank ss ts r None true each end is none = sym (same_by_ranks ss ts r each end (sym is))
ended_at_rank ss ts r None false each end is none = cc
ended_at_rank ss ts r (Some t) true each end is none = cc
ended_at_rank ss ts r (Some t) false each end is none = sym (differ_at_rank ss ts r (λ same. let e : Some t ≡ None = is ∙ sym same ∙ end in cc))

pub ended_with_tokens : (v : PlainValue) (ks : Tokens) (most : ℕ) → most ≡ length ks → slice_get (stamps v ks) most ≡ None
ended_with_tokens v ks most is = none_past (stamps v ks) most (let few = few_stamps v ks in omega (arith, few, is))

-- ---- two stamps at a rank, each of which may be missing

pub alike_at_rank : (o p : Option ℕ) → not (option_eq ◌==◌ o p) ≡ false → o ≡ p
alike_at_rank None None h = refl
alike_at_rank None (Some t) h = cc
alike_at_rank (Some s) None h = cc
alike_at_rank (Some s) (Some t) h = ap Some (eqb-true s t (was (s == t) h))
  where
    was : (b : Bool) → not b ≡ false → b ≡ true
    was true h = refl
    was false h = cc

pub unlike_at_rank : (o p : Option ℕ) → not (option_eq ◌==◌ o p) ≡ true → o ≡ p → ⊥
unlike_at_rank o p h same = split o (subst (λ q. not (option_eq ◌==◌ o q) ≡ true) (sym same) h)
  where
    split : (q : Option ℕ) → not (option_eq ◌==◌ q q) ≡ true → ⊥
    split None h = cc
    split (Some s) h = let e : (s == s) ≡ true = eq-eqb s s refl in let clash : not true ≡ true = ap not (sym e) ∙ h in cc
