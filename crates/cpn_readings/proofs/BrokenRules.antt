-- Rules one behind the other: what is broken first.
use Rattle.std.proofs.Common.{◌≡◌, ℕ, ◌+◌, ◌<◌, ◌≤◌, true, false, List, [], ◌∷◌, ◌++◌, length, drop, get_or, map, cond, Bool, if◌then◌else◌, refl, sym, ap, ◌∙◌, add-one}
use Rattle.std.specs.Prelude.{Option, Some, None}
use Rattle.std.specs.Option.{option_or}
use Rattle.std.proofs.lemmas.List.{drop_more, drop_all}
use Rattle.cpn_readings.specs.Rules.{Rule, first_broken, each_item, Breaks}

module _ {R : Type 0} where
  -- no rule is broken where there is none
  pub none_broken : first_broken {R = R} [] ≡ None
  unfolding first_broken
  none_broken = refl

  -- one rule, and those behind it
  pub rule_broken : (rule : Rule R) (rules : List (Rule R)) → first_broken (rule ∷ rules) ≡ (if rule.kept then first_broken rules else Some rule.refusal)
  unfolding first_broken
  rule_broken rule rules = refl

  -- the first broken one of those in front, or else of those behind
  pub broken_append : (xs ys : List (Rule R)) → first_broken (xs ++ ys) ≡ option_or (first_broken xs) (first_broken ys)
  unfolding first_broken
  broken_append [] ys = refl
  broken_append (rule ∷ xs) ys = by rule.kept (broken_append xs ys)
    where
      by : (kept : Bool) → first_broken (xs ++ ys) ≡ option_or (first_broken xs) (first_broken ys) → cond kept (first_broken (xs ++ ys)) (Some rule.refusal) ≡ option_or (cond kept (first_broken xs) (Some rule.refusal)) (first_broken ys)
      by true rest = rest
      by false rest = refl

  -- rules that are kept leave those behind them
  pub broken_later : (xs ys : List (Rule R)) → first_broken xs ≡ None → first_broken (xs ++ ys) ≡ first_broken ys
  broken_later xs ys h = broken_append xs ys ∙ rw h refl

  -- of three, the first two or the last two may be looked at as one
  pub behind : (first second third : Option R) → option_or (option_or first second) third ≡ option_or first (option_or second third)
  behind None second third = refl
  behind (Some refusal) second third = refl

  -- a refusal that the first broken rule has, it has whatever stands behind it
  pub breaks_here : (refusal : Option R) (xs ys : List (Rule R)) → Breaks refusal xs → Breaks refusal (xs ++ ys)
  breaks_here refusal xs ys h = rw (broken_append xs ys, ← (behind refusal (first_broken xs) (first_broken ys)), h) refl

  -- the same of the first broken ones of rules in front and of those behind
  pub breaks_in_front : (refusal first second : Option R) → option_or refusal first ≡ first → option_or refusal (option_or first second) ≡ option_or first second
  breaks_in_front refusal first second h = sym (behind refusal first second) ∙ ap (λ o. option_or o second) h

  pub ruleset in_order = (none_broken, rule_broken, broken_append)

-- the rules of the items of a list: those of the items so far are kept, those of the rest decide
module _ {V A : Type 0} (seen : V → A) (vs : List V) where
  module _ (i : ℕ) (v : V) (lt : i < length vs) (at : v ≡ get_or vs i v) where
    front_item : map seen (drop i vs) ≡ seen v ∷ map seen (drop (i + 1) vs)
    front_item = rw (drop_more vs i v lt, ← at) refl

    -- the rules of an item are kept
    pub item_kept : {R : Type 0} (rules : ℕ → A → List (Rule R)) (whole : Option R) → first_broken (rules i (seen v)) ≡ None → first_broken (each_item rules i (map seen (drop i vs))) ≡ whole → first_broken (each_item rules (i + 1) (map seen (drop (i + 1) vs))) ≡ whole
    unfolding each_item
    item_kept rules whole kept h =
        rw (add-one i) (sym (broken_later (rules i (seen v)) _ kept) ∙ (rw (front_item, add-one i) at h))

    -- a rule of an item is broken, and so is it among all
    pub item_broken : {R : Type 0} (rules : ℕ → A → List (Rule R)) (whole : List (Rule R)) (refusal : Option R) → first_broken (each_item rules i (map seen (drop i vs))) ≡ first_broken whole → Breaks refusal (rules i (seen v)) → Breaks refusal whole
    unfolding each_item
    item_broken rules whole refusal h broken =
        rw (← h, front_item) (breaks_here refusal (rules i (seen v)) _ broken)

  -- no rule of an item is broken
  pub items_kept : {R : Type 0} (i : ℕ) (past : length vs ≤ i) (rules : ℕ → A → List (Rule R)) (whole : Option R) → first_broken (each_item rules i (map seen (drop i vs))) ≡ whole → whole ≡ None
  unfolding each_item
  items_kept i past rules whole h = sym h ∙ rw (drop_all i vs past) none_broken
