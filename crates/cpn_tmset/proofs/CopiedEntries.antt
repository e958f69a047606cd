-- An entry whose value comes after all others is put at the end.
use Rattle.std.proofs.Common.{◌≡◌, ℕ, List, [], ◌∷◌, ◌++◌, refl, sym, ap, ap₂, subst, ◌∙◌, append_assoc, Ordering, Less, Greater}
use Rattle.std.specs.List.{AllByRecursion}
use Rattle.std.specs.Ordering.{match_ordering, ordering_reverse}
use Rattle.std.specs.Cmp.{IsTotalOrder}
use Rattle.std.specs.BTreeMap.{insert_entry}
use Rattle.cpn_definitions.specs.Order.{value_cmp}
use Rattle.cpn_definitions.specs.ValueOrder.{value_cmp_total}
use Rattle.cpn_core.specs.declared.values.Value.{Value}
use Rattle.cpn_core.specs.Views.{value_view}
use Rattle.cpn_core.specs.Same.{value_order}
use Rattle.cpn_tmset.specs.TMSets.{Entries}
use Rattle.cpn_tmset.specs.Views.{entries_view}
use Rattle.cpn_definitions.proofs.KeyedEntries.{KeysRise, seen_insert}

before_last : {B X : Type 0} (C : B → B → Ordering) (a : B) (es : List (B × X)) (l : B × X) (rest : List (B × X)) → AllByRecursion (λ d. C a d.0 ≡ Less) (es ++ l ∷ rest) → C a l.0 ≡ Less
before_last C a [] l rest all = all.0
before_last C a (e ∷ es) l rest all = before_last C a es l rest all.1

pub inserted_last : {B X : Type 0} (C : B → B → Ordering) → IsTotalOrder C → (es : List (B × X)) (v : B) (x y : X) (rest : List (B × X)) → KeysRise C (es ++ (v, y) ∷ rest) → insert_entry C es v x ≡ es ++ (v, x) ∷ []
inserted_last C total [] v x y rest rise = refl
inserted_last {B = B} {X = X} C total (e ∷ es) v x y rest rise =
    let later : C v e.0 ≡ Greater = total.antisymm v e.0 ∙ ap ordering_reverse (before_last C e.0 es (v, y) rest rise.0) in
    ap (λ o. match_ordering o ((v, x) ∷ e ∷ es) ((e.0, x) ∷ es) (e ∷ insert_entry C es v x)) later ∙ ap (λ fs. e ∷ fs) (inserted_last C total es v x y rest rise.1)

-- one entry more is copied
pub copied
    : (old new rest left : List (Value × List ℕ)) (whole : Entries) (from to : Value) (stamps copies : List ℕ) → new ≡ insert_entry value_order old to copies → value_view to ≡ value_view from → copies ≡ stamps → left ≡ (from, stamps) ∷ rest
    → entries_view old ++ entries_view left ≡ whole → KeysRise value_cmp whole → entries_view new ++ entries_view rest ≡ whole
copied old new rest left whole from to stamps copies put same_value same_stamps first so rise =
    let all : entries_view old ++ (value_view from, stamps) ∷ entries_view rest ≡ whole = ap (λ (es : List (Value × List ℕ)). entries_view old ++ entries_view es) (sym first) ∙ so in
    let here : insert_entry value_cmp (entries_view old) (value_view from) stamps ≡ entries_view old ++ (value_view from, stamps) ∷ [] =
    inserted_last value_cmp value_cmp_total (entries_view old) (value_view from) stamps stamps (entries_view rest) (subst (KeysRise value_cmp) (sym all) rise) in
    ap (λ (es : List (Value × List ℕ)). entries_view es ++ entries_view rest) put
    ∙ ap (λ (es : Entries). es ++ entries_view rest) (seen_insert value_view value_cmp old to copies ∙ ap₂ (insert_entry value_cmp (entries_view old)) same_value same_stamps ∙ here)
    ∙ append_assoc (entries_view old) ((value_view from, stamps) ∷ []) (entries_view rest) ∙ all
