-- Rules of colour sets, one behind the other.
use Rattle.std.proofs.Common.{◌≡◌, ℕ, ◌+◌, ◌<◌, Bool, List, length, drop, get_or, map, sym, ap, ap₂, ◌∙◌}
use Rattle.std.specs.Prelude.{Option, Some, None}
use Rattle.std.proofs.lemmas.List.{get_or_default}
use Rattle.cpn_readings.specs.Rules as readings
use Rattle.cpn_readings.specs.Rules.{first_broken, each_item, Breaks}
use Rattle.cpn_readings.proofs.BrokenRules.{item_kept, item_broken}
use Rattle.cpn_typing.specs.Names.{Declared}
use Rattle.cpn_module.specs.Colours.{colours_agree}

-- the rules of an item that is read from its place
module _ {V A : Type 0} (seen : V → A) (vs : List V) (i : ℕ) (d : V) (lt : i < length vs) where
  place : get_or vs i d ≡ get_or vs i (get_or vs i d)
  place = get_or_default vs i d (get_or vs i d) lt

  pub read_kept : {R : Type 0} (rules : ℕ → A → List (readings.Rule R)) (whole : Option R) → first_broken (rules i (seen (get_or vs i d))) ≡ None → first_broken (each_item rules i (map seen (drop i vs))) ≡ whole → first_broken (each_item rules (i + 1) (map seen (drop (i + 1) vs))) ≡ whole
  read_kept rules whole = item_kept seen vs i (get_or vs i d) lt place rules whole

  pub read_broken : {R : Type 0} (rules : ℕ → A → List (readings.Rule R)) (whole : List (readings.Rule R)) (refusal : R) → first_broken (each_item rules i (map seen (drop i vs))) ≡ first_broken whole → Breaks (Some refusal) (rules i (seen (get_or vs i d))) → Breaks (Some refusal) whole
  read_broken rules whole refusal = item_broken seen vs i (get_or vs i d) lt place rules whole (Some refusal)

-- names that were found agree as those that they are do
pub found_agree : (ds : Declared) (name other found found' : List ℕ) (r b : Bool) → r ≡ colours_agree ds found found' → found ≡ name → found' ≡ other → r ≡ b → colours_agree ds name other ≡ b
found_agree ds name other found found' r b exact e f is = ap₂ (colours_agree ds) (sym e) (sym f) ∙ sym exact ∙ is

-- the rules of items, wherever their list stands
pub at_slice : {V A R : Type 0} (seen : V → A) (rules : ℕ → A → List (readings.Rule R)) (vs ws : List V) → vs ≡ ws → first_broken (each_item rules 0 (map seen vs)) ≡ first_broken (each_item rules 0 (map seen ws))
at_slice seen rules vs ws e = ap (λ xs. first_broken (each_item rules 0 (map seen xs))) e
