-- Partial bindings and their extensions: what is kept, and that two that extend each other are the same.
use Rattle.std.proofs.Common.{◌≡◌, ℕ, ◌==◌, Bool, true, false, cond, [], ◌∷◌, Option, Some, None, refl, sym, ap₂, ◌∙◌, subst}
use Rattle.cpn_definitions.specs.Value.{PlainValue}
use Rattle.cpn_stages.specs.Partial.{PlainPartial, variables_in, value_in, IsKept, Extends}

-- ---- extensions

kept_itself : (o : Option PlainValue) → IsKept o o
kept_itself None = tt
kept_itself (Some v) = refl

pub extends_itself : (b : PlainPartial) → Extends b b
extends_itself [] = tt
extends_itself (p ∷ b) = (refl, kept_itself p.1, extends_itself b)

kept_further : (o p q : Option PlainValue) → IsKept o p → IsKept p q → IsKept o q
kept_further None p q first second = tt
kept_further (Some v) None q first second = cc
kept_further (Some v) (Some w) q first second = second ∙ first

pub extends_further : (b c d : PlainPartial) → Extends b c → Extends c d → Extends b d
extends_further [] [] [] first second = tt
extends_further [] [] (r ∷ d) first second = absurd second
extends_further [] (q ∷ c) d first second = absurd first
extends_further (p ∷ b) [] d first second = absurd first
extends_further (p ∷ b) (q ∷ c) [] first second = absurd second
extends_further (p ∷ b) (q ∷ c) (r ∷ d) first second = (second.0 ∙ first.0, kept_further p.1 q.1 r.1 first.1 second.1, extends_further b c d first.2 second.2)

kept_both_ways : (o p : Option PlainValue) → IsKept o p → IsKept p o → o ≡ p
kept_both_ways None None first second = refl
kept_both_ways None (Some w) first second = cc
kept_both_ways (Some v) p first second = sym first

-- two that extend each other are the same
pub same_extension : (b c : PlainPartial) → Extends b c → Extends c b → b ≡ c
same_extension [] [] first second = refl
same_extension [] (q ∷ c) first second = absurd first
same_extension (p ∷ b) [] first second = absurd first
same_extension (p ∷ b) (q ∷ c) first second = ap₂ (λ (pair : ℕ × Option PlainValue) rest. pair ∷ rest) (same_pair p q (sym first.0) (kept_both_ways p.1 q.1 first.1 second.1)) (same_extension b c first.2 second.2)
  where
    same_pair : (p q : ℕ × Option PlainValue) → p.0 ≡ q.0 → p.1 ≡ q.1 → p ≡ q
    same_pair p q x v = ap₂ (λ (y : ℕ) (o : Option PlainValue). (y, o)) x v

-- an extension is of the same variables
pub extends_variables : (b c : PlainPartial) → Extends b c → variables_in c ≡ variables_in b
extends_variables [] [] is = refl
extends_variables [] (q ∷ c) is = absurd is
extends_variables (p ∷ b) [] is = absurd is
extends_variables (p ∷ b) (q ∷ c) is = ap₂ (λ (x : ℕ) xs. x ∷ xs) is.0 (extends_variables b c is.2)

-- each variable keeps its value
pub value_kept : (x : ℕ) (b c : PlainPartial) → Extends b c → IsKept (value_in x b) (value_in x c)
value_kept x [] c is = tt
value_kept x (p ∷ b) [] is = absurd is
value_kept x (p ∷ b) (q ∷ c) is =
    subst (λ (y : ℕ). IsKept (value_in x (p ∷ b)) (cond (x == y) q.1 (value_in x c))) (sym is.0) (split (x == p.0) (value_kept x b c is.2))
  where
    split : (same : Bool) → IsKept (value_in x b) (value_in x c) → IsKept (cond same p.1 (value_in x b)) (cond same q.1 (value_in x c))
    split true rest = is.1
    split false rest = rest

pub value_stays : (x : ℕ) (v : PlainValue) (b c : PlainPartial) → Extends b c → value_in x b ≡ Some v → value_in x c ≡ Some v
value_stays x v b c is has = subst (λ o. IsKept o (value_in x c)) has (value_kept x b c is)
