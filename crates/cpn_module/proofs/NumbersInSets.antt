-- Numbers in the order in which they first came, and the set of them.
use Rattle.std.proofs.Common.{◌≡◌, ℕ, Bool, true, false, cond, not, ◌||◌, List, [], ◌∷◌, ◌++◌, nat_eq, nat_cmp, refl, sym, ap, ap₂, ◌∙◌}
use Rattle.std.specs.BTreeMap.{is_at}
use Rattle.std.specs.BTreeSet.{BTreeSet, contains, Updates}
use Rattle.std.specs.List.{IsDistinct, list_any}
use Rattle.std.proofs.lemmas.Cmp.{nat_eq_equiv}
use Rattle.std.proofs.lemmas.List.Folds.{list_any-append}
use Rattle.std.proofs.lemmas.Map.Keys.{IsDistinct-push}
use Rattle.cpn_module.specs.NumberSets.{IsSetOf}
use Rattle.cpn_module.specs.Submodules.{is_among}
use Rattle.cpn_module.proofs.PairSets.{equal_numbers}

-- no numbers
pub no_numbers : (set : BTreeSet ℕ) → set.keys ≡ [] → IsSetOf [] set
unfolding IsDistinct
no_numbers set empty = record { same = λ q. ap (λ keys. list_any (is_at (nat_cmp q)) keys) empty; once = tt }

module _ (numbers : List ℕ) (set : BTreeSet ℕ) (is : IsSetOf numbers set) (number : ℕ) where
  -- a number that was added is new
  new_number : (added : Bool) → added ≡ not (contains nat_cmp set number) → added ≡ true → is_among number numbers ≡ false
  new_number added told new = by (is_among number numbers) (sym new ∙ told ∙ ap not (is.same number))
    where
      by : (b : Bool) → true ≡ not b → b ≡ false
      by false h = refl
      by true h = cc

  -- one number more
  pub number_added : (set' : BTreeSet ℕ) (added : Bool) → added ≡ not (contains nat_cmp set number) → added ≡ true → Updates nat_cmp set set' number true → IsSetOf (numbers ++ number ∷ []) set'
  number_added set' added told new updates = record {
    same = λ q. updates.0 q ∙ ap₂ (λ here there. cond here true there) (equal_numbers number q ∙ nat_eq_equiv.symm number q) (is.same q) ∙ one_more (nat_eq q number) (is_among q numbers) ∙ sym (list_any-append (nat_eq q) numbers (number ∷ []));
    once = IsDistinct-push nat_eq_equiv numbers number is.once (new_number added told new);
  }
    where
      one_more : (b there : Bool) → cond b true there ≡ (there || (b || false))
      one_more true true = refl
      one_more true false = refl
      one_more false true = refl
      one_more false false = refl
