-- Outcomes, one after another.
use Rattle.std.proofs.Common.{◌≡◌, refl}
use Rattle.cpn_definitions.specs.Outcome.{Outcome, gives, faults, no_meaning, ◌>>=◌}

pub bind_assoc : {A B C : Type 0} (m : Outcome A) (f : A → Outcome B) (g : B → Outcome C) → ((m >>= f) >>= g) ≡ (m >>= (λ x. f x >>= g))
bind_assoc (gives x) f g = refl
bind_assoc (faults e) f g = refl
bind_assoc no_meaning f g = refl

pub bind_gives : {A : Type 0} (m : Outcome A) → (m >>= (λ x. gives x)) ≡ m
bind_gives (gives x) = refl
bind_gives (faults e) = refl
bind_gives no_meaning = refl

pub bind_ext : {A B : Type 0} (m : Outcome A) (f g : A → Outcome B) → ((x : A) → f x ≡ g x) → (m >>= f) ≡ (m >>= g)
bind_ext (gives x) f g h = h x
bind_ext (faults e) f g h = refl
bind_ext no_meaning f g h = refl
