-- The parts of a module are what its submodules lead to.
use Rattle.std.proofs.Common.{◌≡◌, ℕ, ◌+◌, ◌<◌, ◌≤◌, ◌↔◌, true, nat_eq, List, [], length, get_or, map, All, sym, ap, subst, ◌∙◌, ⊎_elim, ◌⊎◌, arith}
use Rattle.std.specs.List.{IsDistinct}
use Rattle.std.proofs.lemmas.Bool.{or_cases, or_left, or_right, cases_eq}
use Rattle.std.proofs.lemmas.List.{get_or-map, get_or_default, length-map}
use Rattle.std.proofs.lemmas.List.Elements.{All-get_or}
use Rattle.std.proofs.lemmas.Cmp.{nat_eq_equiv}
use Rattle.std.proofs.lemmas.Map.Views.{All-from_any}
use Rattle.std.proofs.lemmas.Map.Steps.{length-le_from_distinct_below}
use Rattle.cpn_module.specs.Hierarchy.{PlainHierarchy, PlainStructure, PlainSubstitution, IsPartOf, submodule, through, structure_at, substitution_at, no_structure, no_substitution}
use Rattle.cpn_module.specs.Ranges.{HasItsNumbers}
use Rattle.cpn_module.specs.Submodules.{submodules_of, with_numbers, each_once, is_among, submodule_lists}
use Rattle.cpn_module.proofs.NumberLists.{among-with_numbers, among-each_once, Grows, Grows-with_numbers, among_at, place_of}

-- ---- the submodules of one module

-- a submodule is part of the module
part_from_among : (h : PlainHierarchy) (m : ℕ) → m < length h.modules → (q : ℕ) → is_among q (submodules_of (structure_at h m)) ≡ true → IsPartOf h q m
part_from_among h m lt q among =
    let subs = (structure_at h m).substitutions in
    let p = place_of q (submodules_of (structure_at h m)) among in
    let within : p.0 < length subs = omega (arith, p.1, length-map subs (λ (sub : PlainSubstitution). sub.submodule)) in
    subst (λ (x : ℕ). IsPartOf h x m) (sym (get_or-map (λ (sub : PlainSubstitution). sub.submodule) subs p.0 no_substitution 0 within) ∙ p.2) (submodule m p.0 lt within)

-- the submodule of a substitution transition is among those of its module
among_from_place : (h : PlainHierarchy) (m i : ℕ) → i < length (structure_at h m).substitutions → is_among (substitution_at h m i).submodule (submodules_of (structure_at h m)) ≡ true
among_from_place h m i lt =
    let subs = (structure_at h m).substitutions in
    let is : get_or (submodules_of (structure_at h m)) i 0 ≡ (substitution_at h m i).submodule = get_or-map (λ (sub : PlainSubstitution). sub.submodule) subs i no_substitution 0 lt in
    let within : i < length (submodules_of (structure_at h m)) = omega (arith, lt, length-map subs (λ (sub : PlainSubstitution). sub.submodule)) in
    subst (λ (x : ℕ). is_among x (submodules_of (structure_at h m)) ≡ true) is (among_at (submodules_of (structure_at h m)) i within)

-- what is closed under submodules has each part of a module whose submodules it has
part_of_closed : (h : PlainHierarchy) (S : ℕ → Type 0) → ((p q : ℕ) → S p → is_among q (submodules_of (structure_at h p)) ≡ true → S q)
    → {l b : ℕ} → IsPartOf h l b → ((q : ℕ) → is_among q (submodules_of (structure_at h b)) ≡ true → S q) → S l
part_of_closed h S step (submodule m i lt there) from = from (substitution_at h m i).submodule (among_from_place h m i there)
part_of_closed h S step (through l m n lower upper) from =
    let inner : S m = part_of_closed h S step upper from in
    part_of_closed h S step lower (λ q among. step m q inner among)

-- ---- the lists of submodules

-- there is a list for each module
pub as_many : (h : PlainHierarchy) (lists : List (List ℕ)) → lists ≡ submodule_lists h.modules → length lists ≡ length h.modules
as_many h lists same = ap (λ (xs : List (List ℕ)). length xs) same ∙ length-map h.modules (λ (s : PlainStructure). each_once (submodules_of s))

-- the list of a module has its submodules
among_list : (h : PlainHierarchy) (lists : List (List ℕ)) → lists ≡ submodule_lists h.modules → (m : ℕ) → m < length lists → (q : ℕ) → is_among q (get_or lists m []) ≡ is_among q (submodules_of (structure_at h m))
among_list h lists same m lt q =
    let is : get_or lists m [] ≡ each_once (submodules_of (structure_at h m)) =
    ap (λ (xs : List (List ℕ)). get_or xs m []) same ∙ get_or-map (λ (s : PlainStructure). each_once (submodules_of s)) h.modules m no_structure [] (omega (arith, lt, as_many h lists same)) in
    ap (λ (xs : List ℕ). is_among q xs) is ∙ among-each_once q (submodules_of (structure_at h m))

-- they have numbers of modules
below_at : (n : ℕ) (lists : List (List ℕ)) → All (All (λ q. q < n)) lists → (m q : ℕ) → m < length lists → is_among q (get_or lists m []) ≡ true → q < n
below_at n lists below m q lt among =
    let p = place_of q (get_or lists m []) among in
    subst (λ (x : ℕ). x < n) p.2 (All-get_or (λ (x : ℕ). x < n) (get_or lists m []) p.0 0 p.1 (All-get_or (All (λ (x : ℕ). x < n)) lists m [] lt below))

-- ---- a search

-- The numbers that were found are of parts; they have the submodules of the whole, and of each before a place.
pub record Search (lists : List (List ℕ)) (whole : ℕ) (found : List ℕ) (seen : ℕ) : Type 0 where
  pub sound : (h : PlainHierarchy) → lists ≡ submodule_lists h.modules → (q : ℕ) → is_among q found ≡ true → IsPartOf h q whole
  pub below : (q : ℕ) → is_among q found ≡ true → q < length lists
  pub first : (q : ℕ) → is_among q (get_or lists whole []) ≡ true → is_among q found ≡ true
  pub later : (j : ℕ) → j < seen → (q : ℕ) → is_among q (get_or lists (get_or found j 0) []) ≡ true → is_among q found ≡ true
  pub within : seen ≤ length found

module _ (lists : List (List ℕ)) (whole : ℕ) (there : whole < length lists) (all_below : All (All (λ q. q < length lists)) lists) where
  pub search_begins : Search lists whole (each_once (get_or lists whole [])) 0
  search_begins = record {
    sound = λ h same q among. part_from_among h whole (omega (arith, as_many h lists same)) q (sym (among_list h lists same whole there q) ∙ sym (among-each_once q (get_or lists whole [])) ∙ among);
    below = λ q among. below_at (length lists) lists all_below whole q there (sym (among-each_once q (get_or lists whole [])) ∙ among);
    first = λ q among. among-each_once q (get_or lists whole []) ∙ among;
    later = λ j lt q among. absurd (omega (arith, lt));
    within = omega arith;
  }

  module _ (found : List ℕ) (seen : ℕ) (so_far : Search lists whole found seen) where
    pub search_goes_on : seen < length found → Search lists whole (with_numbers found (get_or lists (get_or found seen 0) [])) (seen + 1)
    search_goes_on lt = record {
      sound = λ h same q among. ⊎_elim
          (λ (old : is_among q found ≡ true). so_far.sound h same q old)
          (λ (new : is_among q more ≡ true). through q part whole (part_from_among h part (omega (arith, as_many h lists same, part_below)) q (sym (among_list h lists same part part_below q) ∙ new)) (so_far.sound h same part part_found))
          (cases q among);
      below = λ q among. ⊎_elim
          (λ (old : is_among q found ≡ true). so_far.below q old)
          (λ (new : is_among q more ≡ true). below_at (length lists) lists all_below part q part_below new)
          (cases q among);
      first = λ q among. kept q (so_far.first q among);
      later = λ j lt' q among. ⊎_elim
          (λ (e : j ≡ seen). added q (subst (λ (x : ℕ). is_among q (get_or lists x []) ≡ true) (grows.same j (omega (arith, lt)) ∙ ap (λ (x : ℕ). get_or found x 0) e) among))
          (λ (ne : j ≡ seen → ⊥). kept q (so_far.later j (omega (arith, lt', ne)) q (subst (λ (x : ℕ). is_among q (get_or lists x []) ≡ true) (grows.same j (omega (arith, lt, lt', ne))) among)))
          (cases_eq j seen);
      within = omega (arith, grows.longer, lt);
    }
      where
        part : ℕ
        part = get_or found seen 0

        more : List ℕ
        more = get_or lists part []

        part_found : is_among part found ≡ true
        part_found = among_at found seen lt

        part_below : part < length lists
        part_below = so_far.below part part_found

        grows : Grows found (with_numbers found more)
        grows = Grows-with_numbers found more

        cases : (q : ℕ) → is_among q (with_numbers found more) ≡ true → (is_among q found ≡ true) ⊎ (is_among q more ≡ true)
        cases q among = or_cases (is_among q found) (is_among q more) (sym (among-with_numbers q found more) ∙ among)

        kept : (q : ℕ) → is_among q found ≡ true → is_among q (with_numbers found more) ≡ true
        kept q among = among-with_numbers q found more ∙ or_left (is_among q found) (is_among q more) among

        added : (q : ℕ) → is_among q more ≡ true → is_among q (with_numbers found more) ≡ true
        added q among = among-with_numbers q found more ∙ or_right (is_among q found) (is_among q more) among

    -- the next place is that of a module
    pub next_below : seen < length found → get_or found seen 0 < length lists
    next_below lt = so_far.below (get_or found seen 0) (among_at found seen lt)

    -- there are at most as many places as modules
    pub search_is_short : IsDistinct nat_eq found → length found ≤ length lists
    search_is_short distinct = length-le_from_distinct_below found (length lists) distinct so_far.below

    -- where each was looked at, the numbers are those of all parts
    pub search_is_over : length found ≤ seen → (h : PlainHierarchy) → lists ≡ submodule_lists h.modules → (q : ℕ) → (is_among q found ≡ true) ↔ IsPartOf h q whole
    search_is_over over h same q = (so_far.sound h same q, λ part. part_of_closed h (λ (x : ℕ). is_among x found ≡ true) closed part (λ x among. so_far.first x (among_list h lists same whole there x ∙ among)))
      where
        closed : (p x : ℕ) → is_among p found ≡ true → is_among x (submodules_of (structure_at h p)) ≡ true → is_among x found ≡ true
        closed p x p_found among =
            let a = place_of p found p_found in
            let listed : is_among x (get_or lists p []) ≡ true = among_list h lists same p (so_far.below p p_found) x ∙ among in
            so_far.later a.0 (omega (arith, a.1, over)) x (subst (λ (y : ℕ). is_among x (get_or lists y []) ≡ true) (sym a.2) listed)

-- ---- the same of lists as they are looked up

module _ (lists : List (List ℕ)) (whole : ℕ) (there : whole < length lists) (all_below : All (All (λ q. q < length lists)) lists) where
  pub lists_begin : (of_whole slice start found : List ℕ) → of_whole ≡ get_or lists whole of_whole → slice ≡ of_whole → start ≡ [] → found ≡ with_numbers start slice → Search lists whole found 0
  lists_begin of_whole slice start found is sliced empty added =
      subst (λ (x : List ℕ). Search lists whole x 0)
      (sym (added ∙ ap (λ (x : List ℕ). with_numbers x slice) empty ∙ ap (λ (x : List ℕ). with_numbers [] x) (sliced ∙ is ∙ sym (get_or_default lists whole [] of_whole there))))
      (search_begins lists whole there all_below)

  module _ (found : List ℕ) (seen : ℕ) (so_far : Search lists whole found seen) where
    pub lists_next : (all : List ℕ) → all ≡ found → seen < length found → get_or all seen 0 < length lists
    lists_next all is lt = rw is (next_below lists whole there all_below found seen so_far lt)

    pub lists_go_on : (all slice found' of_part : List ℕ) → seen < length found → all ≡ found → of_part ≡ get_or lists (get_or all seen 0) of_part → slice ≡ of_part → found' ≡ with_numbers found slice → Search lists whole found' (seen + 1)
    lists_go_on all slice found' of_part lt same is sliced added =
        let at : of_part ≡ get_or lists (get_or found seen 0) [] =
        is ∙ sym (get_or_default lists (get_or all seen 0) [] of_part (lists_next all same lt)) ∙ ap (λ (x : List ℕ). get_or lists (get_or x seen 0) []) same in
        subst (λ (x : List ℕ). Search lists whole x (seen + 1))
        (sym (added ∙ ap (λ (x : List ℕ). with_numbers found x) (sliced ∙ at)))
        (search_goes_on lists whole there all_below found seen so_far lt)

-- ---- a whole hierarchy

-- the lists of submodules have numbers of modules
pub lists_are_below : (h : PlainHierarchy) → HasItsNumbers h → (lists : List (List ℕ)) → lists ≡ submodule_lists h.modules → (n : ℕ) → length lists ≡ n → All (All (λ q. q < n)) lists
lists_are_below h numbers lists same n many m d lt = All-from_any nat_eq_equiv (λ q. q < n) (get_or lists m d) (λ q among.
    let inside : m < length h.modules = omega (arith, as_many h lists same) in
    let listed : is_among q (get_or lists m []) ≡ true = ap (λ (x : List ℕ). is_among q x) (get_or_default lists m [] d lt) ∙ among in
    let a = place_of q (submodules_of (structure_at h m)) (sym (among_list h lists same m lt q) ∙ listed) in
    let subs = (structure_at h m).substitutions in
    let within : a.0 < length subs = omega (arith, a.1, length-map subs (λ (sub : PlainSubstitution). sub.submodule)) in
    let is : get_or (submodules_of (structure_at h m)) a.0 0 ≡ (substitution_at h m a.0).submodule = get_or-map (λ (sub : PlainSubstitution). sub.submodule) subs a.0 no_substitution 0 within in
    let number = ((numbers.modules m no_structure inside).substitutions a.0 no_substitution within).submodule in
    omega (arith, number, is, a.2, many, as_many h lists same))

-- a module that has a part is one of the hierarchy
pub whole_is_there : (h : PlainHierarchy) {l b : ℕ} → IsPartOf h l b → b < length h.modules
whole_is_there h (submodule m i lt there) = lt
whole_is_there h (through l m n lower upper) = whole_is_there h upper

-- lists of submodules, wherever they stand
pub same_lists : {U : Type 0} (see : U → PlainStructure) (lists lists' : List (List ℕ)) (us us' : List U) → lists ≡ lists' → lists' ≡ submodule_lists (map see us) → us ≡ us' → lists ≡ submodule_lists (map see us')
same_lists see lists lists' us us' e each f = e ∙ each ∙ ap (λ xs. submodule_lists (map see xs)) f
