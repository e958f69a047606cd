-- Lists that are made item by item: a copy, equal items, and the demands of one value.
use Rattle.std.proofs.Common.{◌≡◌, ℕ, ◌+◌, ◌<◌, List, [], ◌∷◌, ◌++◌, length, take, get_or, replicate, append_assoc, sym, ap, ap₂, ◌∙◌}
use Rattle.std.proofs.lemmas.List.{map-append, replicate-append-replicate, take_more}
use Rattle.cpn_definitions.specs.Value.{PlainValue}
use Rattle.cpn_core.specs.Views.{value_view}
use Rattle.cpn_tmset.specs.Picks.{Demand}
use Rattle.cpn_tmset.specs.PicksViews.{demand_of, demands_of}
use Rattle.cpn_tmset.specs.declared.picks.Pick.{Pick}

-- one item more is copied
pub copied_next : {A : Type 0} (items made more : List A) (i : ℕ) (item copy : A) → i < length items → item ≡ get_or items i item → copy ≡ item → more ≡ made ++ copy ∷ [] → made ≡ take i items → more ≡ take (i + 1) items
copied_next items made more i item copy lt is same grown so_far = grown ∙ ap₂ (λ xs x. xs ++ x ∷ []) so_far (same ∙ is) ∙ sym (take_more items i item lt)

-- one equal item more
pub repeated_next : {A : Type 0} (a : A) (made more : List A) (n : ℕ) (item : A) → item ≡ a → more ≡ made ++ item ∷ [] → made ≡ replicate n a → more ≡ replicate (n + 1) a
repeated_next a made more n item same grown so_far = grown ∙ ap₂ (λ xs x. xs ++ x ∷ []) so_far same ∙ replicate-append-replicate n 1 a

-- ---- demands for one value at a time

module _ (v : PlainValue) (time : ℕ) (before : List Demand) where
  abbrev demand : Demand
  demand = record { value = v; threshold = time }

  -- one demand more
  pub demanded_next : (made more : List Pick) (n : ℕ) (pick : Pick) → demand_of pick ≡ demand → more ≡ made ++ pick ∷ [] → demands_of made ≡ before ++ replicate n demand → demands_of more ≡ before ++ replicate (n + 1) demand
  demanded_next made more n pick is grown so_far =
      ap demands_of grown ∙ map-append demand_of made (pick ∷ []) ∙ ap₂ (λ ds d. ds ++ d ∷ []) so_far is
      ∙ append_assoc before (replicate n demand) (demand ∷ [])
      ∙ ap (λ ds. before ++ ds) (replicate-append-replicate n 1 demand)

  -- so many
  pub all_demanded : (made : List Demand) (n m : ℕ) → n ≡ m → made ≡ before ++ replicate n demand → made ≡ before ++ replicate m demand
  all_demanded made n m all so_far = so_far ∙ ap (λ k. before ++ replicate k demand) all

  -- a pick for the value
  pub demand_is : (w : PlainValue) → w ≡ v → record { value = w; threshold = time } ≡ demand
  demand_is w same = ap (λ u. let d : Demand = record { value = u; threshold = time } in d) same
