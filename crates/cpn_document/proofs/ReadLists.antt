-- Lists that are read item by item: the values, the names and the rules of the items so far and of the rest.
use Rattle.std.proofs.Common.{◌≡◌, ℕ, ◌+◌, ◌<◌, ◌≤◌, List, [], ◌∷◌, ◌++◌, length, drop, get_or, map, refl, sym, ◌∙◌, append_assoc, add-one}
use Rattle.std.specs.Prelude.{Option, None, codes}
use Rattle.std.proofs.lemmas.List.{drop_more, drop_all, append-nil, map-append}
use Rattle.serde_json.specs.Data.{Data}
use Rattle.cpn_document.specs.Refusals.{FormRefusal}
use Rattle.cpn_document.specs.Rules.{Rule, first_broken}
use Rattle.cpn_document.specs.Parts.{text_at, each_named, names_in}
use Rattle.cpn_document.specs.Answers.{Breaks}
use Rattle.cpn_document.proofs.BrokenRules.{broken_later, breaks_here, none_broken}

module _ {V : Type 0} (seen : V → Data) (vs : List V) where
  module _ (i : ℕ) (v : V) (lt : i < length vs) (at : v ≡ get_or vs i v) where
    front_item : map seen (drop i vs) ≡ seen v ∷ map seen (drop (i + 1) vs)
    front_item = rw (drop_more vs i v lt, ← at) refl

    -- the value of the next item goes from the rest to those that were read
    pub values_more : {Y Z : Type 0} (value_in : Data → Y) (view : Z → Y) (zs : List Z) (z : Z) (whole : List Y) → view z ≡ value_in (seen v) → map view zs ++ map value_in (map seen (drop i vs)) ≡ whole → map view (zs ++ z ∷ []) ++ map value_in (map seen (drop (i + 1) vs)) ≡ whole
    values_more value_in view zs z whole is h =
        rw (map-append view zs (z ∷ []), append_assoc (map view zs) (view z ∷ []) (map value_in (map seen (drop (i + 1) vs))), is) (rw front_item at h)

    -- so does its name
    pub names_more : (names more whole : List (List ℕ)) → more ≡ names ++ text_at (codes "name") (seen v) ∷ [] → names ++ names_in (map seen (drop i vs)) ≡ whole → more ++ names_in (map seen (drop (i + 1) vs)) ≡ whole
    names_more names more whole added h =
        rw (added, append_assoc names (text_at (codes "name") (seen v) ∷ []) (names_in (map seen (drop (i + 1) vs)))) (rw front_item at h)

    -- where its rules are kept, those of the rest decide
    pub named_more : (rules : ℕ → List (List ℕ) → Data → List Rule) (names more : List (List ℕ)) (whole : Option FormRefusal) → more ≡ names ++ text_at (codes "name") (seen v) ∷ [] → first_broken (rules i names (seen v)) ≡ None → first_broken (each_named rules i names (map seen (drop i vs))) ≡ whole → first_broken (each_named rules (i + 1) more (map seen (drop (i + 1) vs))) ≡ whole
    unfolding each_named
    named_more rules names more whole added kept h =
        rw (added, add-one i) (sym (broken_later (rules i names (seen v)) _ kept) ∙ (rw (front_item, add-one i) at h))

    -- where one of them is broken, so is it in the whole
    pub named_broken : (rules : ℕ → List (List ℕ) → Data → List Rule) (names : List (List ℕ)) (whole : List Rule) (refusal : Option FormRefusal) → first_broken (each_named rules i names (map seen (drop i vs))) ≡ first_broken whole → Breaks refusal (rules i names (seen v)) → Breaks refusal whole
    unfolding each_named
    named_broken rules names whole refusal h broken =
        rw (← h, front_item) (breaks_here refusal (rules i names (seen v)) _ broken)

  module _ (i : ℕ) (past : length vs ≤ i) where
    -- all of them were read
    pub values_done : {Y Z : Type 0} (value_in : Data → Y) (view : Z → Y) (zs : List Z) (whole : List Y) → map view zs ++ map value_in (map seen (drop i vs)) ≡ whole → map view zs ≡ whole
    values_done value_in view zs whole h = sym (append-nil (map view zs)) ∙ (rw (drop_all i vs past) at h)

    pub names_done : (names whole : List (List ℕ)) → names ++ names_in (map seen (drop i vs)) ≡ whole → names ≡ whole
    names_done names whole h = sym (append-nil names) ∙ (rw (drop_all i vs past) at h)

    pub named_done : (rules : ℕ → List (List ℕ) → Data → List Rule) (names : List (List ℕ)) (whole : Option FormRefusal) → first_broken (each_named rules i names (map seen (drop i vs))) ≡ whole → whole ≡ None
    unfolding each_named
    named_done rules names whole h = sym h ∙ rw (drop_all i vs past) none_broken
