-- Rules that are kept: what follows from them.
use Rattle.std.proofs.Common.{◌≡◌, ℕ, suc, Bool, true, false, List, [], ◌∷◌, ◌++◌, refl, sym, ◌∙◌, All}
use Rattle.std.specs.Prelude.{Option, Some, None}
use Rattle.std.specs.Option.{option_or}
use Rattle.std.proofs.lemmas.List.Elements.{All-nil, All-cons, All-head, All-tail}
use Rattle.cpn_readings.specs.Rules.{first_broken, each_item}
use Rattle.cpn_readings.proofs.BrokenRules.{broken_append}
use Rattle.cpn_module.specs.Refusals.{ModuleRefusal}
use Rattle.cpn_module.specs.ModuleRules.{Rule, rule}

abbrev pub AreKept : List Rule → Type 0
AreKept rules = first_broken rules ≡ None

neither : (first second : Option ModuleRefusal) → option_or first second ≡ None → (first ≡ None) × (second ≡ None)
neither None second h = (refl, h)
neither (Some refusal) second h = cc

pub both_kept : (xs ys : List Rule) → AreKept (xs ++ ys) → AreKept xs × AreKept ys
both_kept xs ys h = neither (first_broken xs) (first_broken ys) (sym (broken_append xs ys) ∙ h)

pub test_passed : (test : Bool) (refusal : ModuleRefusal) → AreKept (rule test refusal) → test ≡ true
unfolding first_broken
test_passed true refusal h = refl
test_passed false refusal h = cc

-- what follows from the rules of an item follows at each item
pub each_there : {A : Type 0} (rules : ℕ → A → List Rule) (P : A → Type 0) → ((i : ℕ) (x : A) → AreKept (rules i x) → P x) → (i : ℕ) (xs : List A) → AreKept (each_item rules i xs) → All P xs
unfolding each_item
each_there rules P there i [] h = All-nil P
each_there rules P there i (x ∷ xs) h =
    let parts = both_kept (rules i x) (each_item rules (suc i) xs) h in
    All-cons P x xs (there i x parts.0) (each_there rules P there (suc i) xs parts.1)

pub both_there : {A : Type 0} (P Q : A → Type 0) (xs : List A) → All P xs → All Q xs → All (λ x. P x × Q x) xs
both_there P Q [] h k = All-nil (λ x. P x × Q x)
both_there P Q (x ∷ xs) h k = All-cons (λ x. P x × Q x) x xs (All-head P x xs h, All-head Q x xs k) (both_there P Q xs (All-tail P x xs h) (All-tail Q x xs k))
