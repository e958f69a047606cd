-- Rules of the items of a list, looked at one item after another.
use Rattle.std.proofs.Common.{◌≡◌, ℕ, suc, ◌+◌, ◌<◌, ◌≤◌, Bool, false, List, ◌++◌, length, drop, get_or, map, Bor, sym, ap, ◌∙◌, subst, All}
use Rattle.std.specs.Prelude.{Option, Some, None, Result, Ok, Err, IsErrAnd}
use Rattle.std.proofs.lemmas.List.{get_or_default, get_or-map, length-map}
use Rattle.std.proofs.lemmas.Result.{err_from_is_err_and}
use Rattle.cpn_readings.specs.Rules.{first_broken, each_item, Breaks}
use Rattle.cpn_readings.proofs.BrokenRules.{none_broken, broken_later, breaks_here, item_kept, item_broken, items_kept}
use Rattle.cpn_module.specs.Refusals.{ModuleRefusal}
use Rattle.cpn_module.specs.ModuleRules.{Rule, rule}
use Rattle.cpn_module.specs.Answers.{refusal_of, Checks}
use Rattle.cpn_module.specs.Walks.{IsWalk, none_left, passed, refused}
use Rattle.cpn_module.specs.declared.refusals.ModuleError.{ModuleError}
use Rattle.cpn_module.proofs.OneRule.{rule_broken}

-- one rule that is broken, its place told otherwise
pub broken_at : (here refusal : ModuleRefusal) (kept : Bool) → kept ≡ false → here ≡ refusal → Breaks (Some here) (rule kept refusal)
broken_at here refusal kept h is = rw is (rule_broken kept refusal h)

-- rules, and others behind them
pub second_kept : (first second : List Rule) → first_broken first ≡ None → first_broken second ≡ None → first_broken (first ++ second) ≡ None
second_kept first second h k = broken_later first second h ∙ k

pub second_broken : (refusal : Option ModuleRefusal) (first second : List Rule) → first_broken first ≡ None → Breaks refusal second → Breaks refusal (first ++ second)
second_broken refusal first second h broken = rw (broken_later first second h) broken

-- an error of a part is one of the whole
pub passed_on : {X : Type 0} (result : Result X ModuleError) (rules : List Rule) (error : ModuleError) → IsErrAnd result (λ e. e ≡ error) → Breaks (refusal_of error) rules → Checks result rules
passed_on result rules error h broken = let p = err_from_is_err_and result h in rw (p.1, p.2) broken

-- rules behind those that are kept
pub checked_later : {X : Type 0} (result : Result X ModuleError) (first second : List Rule) → first_broken first ≡ None → Checks result second → Checks result (first ++ second)
checked_later (Ok x) first second h k = second_kept first second h k
checked_later (Err e) first second h broken = second_broken (refusal_of e) first second h broken

-- A walk over a list checks the rules of its items, where each call checks those of its item.
module _ {V A : Type 0} (seen : V → A) (rules : ℕ → A → List Rule) (Answers : ℕ → Bor V → Result (Unit {0}) ModuleError → Type 0) (each : (i : ℕ) (p : Bor V) (r : Result (Unit {0}) ModuleError) → Answers i p r → Checks r (rules i (seen p.now))) where
  by_items : (i : ℕ) (vs : List V) (result : Result (Unit {0}) ModuleError) → IsWalk Answers i vs result → Checks result (each_item rules i (map seen vs))
  unfolding each_item
  by_items _ _ _ (none_left i) = none_broken
  by_items _ _ _ (passed i p vs result answer rest) = checked_later result (rules i (seen p.now)) (each_item rules (suc i) (map seen vs)) (each i p (Ok tt) answer) (by_items (suc i) vs result rest)
  by_items _ _ _ (refused i p vs e answer) = breaks_here (refusal_of e) (rules i (seen p.now)) (each_item rules (suc i) (map seen vs)) (each i p (Err e) answer)

pub walk_checks : {V A : Type 0} (seen : V → A) (rules : ℕ → A → List Rule) (Answers : ℕ → Bor V → Result (Unit {0}) ModuleError → Type 0) (ws vs : List V) (result : Result (Unit {0}) ModuleError) → ws ≡ vs → IsWalk Answers 0 ws result → ((i : ℕ) (p : Bor V) (r : Result (Unit {0}) ModuleError) → Answers i p r → Checks r (rules i (seen p.now))) → Checks result (each_item rules 0 (map seen vs))
walk_checks {V} seen rules Answers ws vs result same h each = by_items seen rules Answers each 0 vs result (subst (λ (xs : List V). IsWalk Answers 0 xs result) same h)

module _ {V A : Type 0} (seen : V → A) (rules : ℕ → A → List Rule) (vs : List V) where
  -- those of the rest decide
  abbrev pub Decides : ℕ → Type 0
  Decides i = first_broken (each_item rules i (map seen (drop i vs))) ≡ first_broken (each_item rules 0 (map seen vs))

  module _ (ws : List V) (same : ws ≡ vs) (i : ℕ) (v : V) (lt : i < length ws) (at : v ≡ get_or ws i v) where
    within : i < length vs
    within = subst (λ xs. i < length xs) same lt

    there : v ≡ get_or vs i v
    there = at ∙ ap (λ xs. get_or xs i v) same

    pub next_kept : Decides i → first_broken (rules i (seen v)) ≡ None → Decides (i + 1)
    next_kept rest kept = item_kept seen vs i v within there rules _ kept rest

    pub next_broken : (refusal : Option ModuleRefusal) → Decides i → Breaks refusal (rules i (seen v)) → Breaks refusal (each_item rules 0 (map seen vs))
    next_broken refusal rest broken = item_broken seen vs i v within there rules (each_item rules 0 (map seen vs)) refusal rest broken

  pub all_kept : (ws : List V) (same : ws ≡ vs) (i : ℕ) → length ws ≤ i → Decides i → first_broken (each_item rules 0 (map seen vs)) ≡ None
  all_kept ws same i past rest = items_kept seen vs i (subst (λ xs. length xs ≤ i) same past) rules _ rest

-- the item at a position, whatever stands past the last
pub at_position : {V : Type 0} (ws : List V) (i : ℕ) (d : V) → i < length ws → get_or ws i d ≡ get_or ws i (get_or ws i d)
at_position ws i d lt = get_or_default ws i d (get_or ws i d) lt

-- what holds of each item that is seen holds of the one at a position
pub seen_at : {V A : Type 0} (P : A → Type 0) (seen : V → A) (vs : List V) (i : ℕ) (v : V) → i < length vs → v ≡ get_or vs i v → All P (map seen vs) → P (seen v)
seen_at P seen vs i v lt at all = subst P (get_or-map seen vs i v (seen v) lt ∙ ap seen (sym at)) (all i (seen v) (subst (λ n. i < n) (sym (length-map vs seen)) lt))

-- an item of a list, as it is seen in another list that is the same
pub seen_in : {V A : Type 0} (seen : V → A) (vs ws : List V) → ws ≡ vs → (i : ℕ) (v : V) → i < length ws → v ≡ get_or ws i v → (i < length (map seen vs)) × (seen v ≡ get_or (map seen vs) i (seen v))
seen_in seen vs ws same i v lt at =
    let in_vs : i < length vs = subst (λ xs. i < length xs) same lt in
    (subst (λ n. i < n) (sym (length-map vs seen)) in_vs, ap seen (at ∙ ap (λ xs. get_or xs i v) same) ∙ sym (get_or-map seen vs i v (seen v) in_vs))
