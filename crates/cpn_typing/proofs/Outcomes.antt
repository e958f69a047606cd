-- What holds of each step of a check or of a meaning holds of all of them.
use Rattle.std.proofs.Common.{◌≡◌, ◌++◌, Bool, true, false, List, [], ◌∷◌, Option, Some, None, refl, subst, cond}
use Rattle.std.specs.List.{AllByRecursion}
use Rattle.cpn_definitions.specs.Outcome.{Outcome, gives, faults, no_meaning, too_large}
use Rattle.cpn_definitions.specs.Outcome as outcome
use Rattle.cpn_definitions.specs.Value.{PlainValue}
use Rattle.cpn_definitions.specs.Operations.{sized}
use Rattle.cpn_typing.specs.Names.{Refusal, Checked, ok, refused, ◌>>=◌, accepted_if, required}
use Rattle.cpn_typing.specs.Law.{Means}

-- the property of what is accepted; nothing where there is a refusal
abbrev pub Accepts : {A : Type 0} → (A → Type 0) → Checked A → Type 0
Accepts P (ok x) = P x
Accepts P (refused r) = Unit {0}

pub accepts_then : {A B : Type 0} (P : A → Type 0) (Q : B → Type 0) (c : Checked A) (f : A → Checked B) → Accepts P c → ((x : A) → P x → Accepts Q (f x)) → Accepts Q (c >>= f)
accepts_then P Q (ok x) f p q = q x p
accepts_then P Q (refused r) f p q = tt

pub accepts_at : {A : Type 0} (P : A → Type 0) (c : Checked A) (x : A) → Accepts P c → c ≡ ok x → P x
accepts_at P c x p e = subst (Accepts P) e p

pub accepts_if : {A : Type 0} (P : A → Type 0) (b : Bool) (r : Refusal) (x : A) → ((b ≡ true) → P x) → Accepts P (accepted_if b r x)
accepts_if P true r x p = p refl
accepts_if P false r x p = tt

pub accepts_required : {A : Type 0} (o : Option A) (r : Refusal) → Accepts (λ x. o ≡ Some x) (required o r)
accepts_required (Some x) r = refl
accepts_required None r = tt

pub means_then : {A B : Type 0} (P : A → Type 0) (Q : B → Type 0) (o : Outcome A) (f : A → Outcome B) → Means P o → ((x : A) → P x → Means Q (f x)) → Means Q (outcome.◌>>=◌ o f)
means_then P Q (gives x) f p q = q x p
means_then P Q (faults k) f p q = tt
means_then P Q no_meaning f p q = absurd p

-- a choice by a test has what each side has
pub chosen : {A : Type 0} (P : A → Type 0) (b : Bool) (x y : A) → P x → P y → P (cond b x y)
chosen P true x y p q = p
chosen P false x y p q = q

pub sized_means : (P : PlainValue → Type 0) (v : PlainValue) → P v → Means P (sized v)
sized_means P v p = chosen (Means P) _ (gives v) (faults too_large) p tt

-- ---- what holds of all of a list

pub all_front : {X : Type 0} (P : X → Type 0) (xs ys : List X) → AllByRecursion P (xs ++ ys) → AllByRecursion P xs
all_front P [] ys h = tt
all_front P (x ∷ xs) ys h = (h.0, all_front P xs ys h.1)

pub all_back : {X : Type 0} (P : X → Type 0) (xs ys : List X) → AllByRecursion P (xs ++ ys) → AllByRecursion P ys
all_back P [] ys h = h
all_back P (x ∷ xs) ys h = all_back P xs ys h.1
