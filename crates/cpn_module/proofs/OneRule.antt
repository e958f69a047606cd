-- One rule of each item of a list: it is kept, or it is the first that is broken.
use Rattle.std.proofs.Common.{◌≡◌, ℕ, suc, ◌+◌, ◌<◌, Bool, true, false, List, [], ◌∷◌, length, drop, get_or, map, refl}
use Rattle.std.specs.Prelude.{Option, Some, None}
use Rattle.std.proofs.lemmas.List.{get_or_default}
use Rattle.cpn_readings.specs.Rules.{first_broken, each_item, Breaks}
use Rattle.cpn_readings.proofs.BrokenRules.{item_kept, item_broken}
use Rattle.cpn_module.specs.Refusals.{ModuleRefusal}
use Rattle.cpn_module.specs.ModuleRules.{Rule, rule}

pub rule_kept : (kept : Bool) (refusal : ModuleRefusal) → kept ≡ true → first_broken (rule kept refusal) ≡ None
unfolding first_broken
rule_kept kept refusal h = rw h refl

pub rule_broken : (kept : Bool) (refusal : ModuleRefusal) → kept ≡ false → Breaks (Some refusal) (rule kept refusal)
unfolding first_broken
rule_broken kept refusal h = rw h refl

-- rules that are kept alike are the same
pub same_rules : {A : Type 0} (kept other : ℕ → A → Bool) (refusal : ℕ → A → ModuleRefusal) → ((k : ℕ) (x : A) → kept k x ≡ other k x) → (i : ℕ) (xs : List A) → each_item (λ k x. rule (kept k x) (refusal k x)) i xs ≡ each_item (λ k x. rule (other k x) (refusal k x)) i xs
unfolding each_item
same_rules kept other refusal h i [] = refl
same_rules kept other refusal h i (x ∷ xs) = rw (h i x, same_rules kept other refusal h (suc i) xs) refl

module _ {V A : Type 0} (seen : V → A) (vs : List V) (i : ℕ) (d : V) (lt : i < length vs) (kept : ℕ → A → Bool) (refusal : ℕ → A → ModuleRefusal) where
  -- the rule of an item is kept
  pub one_kept : (whole : Option ModuleRefusal) → kept i (seen (get_or vs i d)) ≡ true → first_broken (each_item (λ k x. rule (kept k x) (refusal k x)) i (map seen (drop i vs))) ≡ whole → first_broken (each_item (λ k x. rule (kept k x) (refusal k x)) (i + 1) (map seen (drop (i + 1) vs))) ≡ whole
  one_kept whole h inv =
      let v : V = get_or vs i d in
      item_kept seen vs i v lt (get_or_default vs i d v lt) (λ k x. rule (kept k x) (refusal k x)) whole (rule_kept (kept i (seen v)) (refusal i (seen v)) h) inv

  -- the rule of an item is broken, and so is it among all
  pub one_broken : (whole : List Rule) → kept i (seen (get_or vs i d)) ≡ false → first_broken (each_item (λ k x. rule (kept k x) (refusal k x)) i (map seen (drop i vs))) ≡ first_broken whole → Breaks (Some (refusal i (seen (get_or vs i d)))) whole
  one_broken whole h inv =
      let v : V = get_or vs i d in
      item_broken seen vs i v lt (get_or_default vs i d v lt) (λ k x. rule (kept k x) (refusal k x)) whole (Some (refusal i (seen v))) inv (rule_broken (kept i (seen v)) (refusal i (seen v)) h)
