-- All that is accepted of a document is well.
use Rattle.std.proofs.Common.{◌≡◌, ℕ, zero, suc, ◌+◌, ◌<◌, List, [], ◌∷◌, length, slice_index_or, sym, ap, ◌∙◌, subst, arith, add-zero}
use Rattle.std.specs.Prelude.{Result, Ok, Err, IfOk}
use Rattle.std.proofs.Math.Nat.{zero-add}
use Rattle.cpn_definitions.specs.Net.{Coloured}
use Rattle.cpn_document.specs.Document.{RawDocument}
use Rattle.cpn_document.specs.FewArcs.{HasFewArcs, HaveFewArcs}
use Rattle.cpn_module.specs.Checked.{IsChecked}
use Rattle.cpn_module.specs.Hierarchy.{PlainHierarchy, structure_at, IsAcyclic}
use Rattle.cpn_module.specs.Named.{no_module}
use Rattle.cpn_module.specs.Ranges.{HasItsNumbers}
use Rattle.cpn_module.proofs.NumberedHierarchy.{hierarchy_is_numbered}
use Rattle.cpn_module_trees.specs.Trees.{DocumentTrees, AreTrees}
use Rattle.cpn_readings.specs.Reading as readings
use Rattle.cpn_readings.specs.Relations.{just, such_that, refused_by, each_so}
use Rattle.cpn_readings.proofs.Readings.{same_read}
use Rattle.cpn_readings.proofs.RelatedReadings.{step_parts, such_holds}
use Rattle.cpn_typing.specs.Names.{Declared, nothing_declared}
use Rattle.cpn_accepted.specs.AsWritten.{raw_module_at}
use Rattle.cpn_accepted.specs.Nets.{PlainModuleNet, PlainAccepted, places_at, no_module_net, IsWellNet, IsWellAccepted}
use Rattle.cpn_module_nets.specs.Reading.{Reading, read, of_modules, each_from}
use Rattle.cpn_module_nets.specs.Accepted.{declared_from, places_of}
use Rattle.cpn_module_nets.specs.Documents.{net_so, nets_so, accepted_in}
use Rattle.cpn_module_nets.specs.Fitting.{no_trees, trees_at}
use Rattle.cpn_module_nets.specs.Answers.{LoadsBy}
use Rattle.cpn_module_nets.specs.declared.refusals.NetError.{NetError}
use Rattle.cpn_module_nets.proofs.AcceptedTexts.{declared_good, one_more}
use Rattle.cpn_module_nets.proofs.CheckedModules.{IsKept, kept}
use Rattle.cpn_module_nets.proofs.ClosedFunctions.{functions_closed}
use Rattle.cpn_module_nets.proofs.JoinedColours.{agree_in_colour}
use Rattle.cpn_module_nets.proofs.ListFacts.{all_below, all_numbered}
use Rattle.cpn_module_nets.proofs.ModuleParts.{structure_is, as_many_trees, trees_are, places_read, all_together, as_many_structures}
use Rattle.cpn_module_nets.proofs.WellNets.{IsNetOf, net_is}

-- ---- a list whose items are read one after another

pub so_long : {A B : Type 0} (Reads : ℕ → A → Reading B → Type 0) (i : ℕ) (xs : List A) (ys : List B) → each_so Reads i xs (read ys) → length ys ≡ length xs
unfolding each_so
so_long Reads i [] ys h = ap length (same_read ys [] h)
so_long Reads i (x ∷ xs) ys h =
    let first = step_parts (Reads i x) _ ys h in
    let rest = step_parts (each_so Reads (suc i) xs) _ ys first.2 in
    ap length (same_read ys (first.0 ∷ rest.0) rest.2) ∙ ap suc (so_long Reads (suc i) xs rest.0 rest.1)

-- what the item at a number is read as
pub so_at : {A B : Type 0} (Reads : ℕ → A → Reading B → Type 0) (i : ℕ) (xs : List A) (ys : List B) (k : ℕ) (d : A) (e : B) → each_so Reads i xs (read ys) → k < length xs → Reads (i + k) (slice_index_or xs k d) (read (slice_index_or ys k e))
unfolding each_so
so_at Reads i [] ys k d e h lt = absurd (omega arith)
so_at Reads i (x ∷ xs) ys zero d e h lt =
    let first = step_parts (Reads i x) _ ys h in
    let rest = step_parts (each_so Reads (suc i) xs) _ ys first.2 in
    subst (λ zs. Reads (i + 0) x (read (slice_index_or zs 0 e))) (sym (same_read ys (first.0 ∷ rest.0) rest.2)) (subst (λ j. Reads j x (read first.0)) (sym (add-zero i)) first.1)
so_at Reads i (x ∷ xs) ys (suc k) d e h lt =
    let first = step_parts (Reads i x) _ ys h in
    let rest = step_parts (each_so Reads (suc i) xs) _ ys first.2 in
    let later = so_at Reads (suc i) xs rest.0 k d e rest.1 (omega arith) in
    subst (λ zs. Reads (i + suc k) (slice_index_or xs k d) (read (slice_index_or zs (suc k) e))) (sym (same_read ys (first.0 ∷ rest.0) rest.2)) (subst (λ j. Reads j (slice_index_or xs k d) (read (slice_index_or rest.0 k e))) (one_more i k) later)

-- ---- the document

pub checked_read : {R S A : Type 0} (kind : R → S) (Reads : readings.Reading R A → Type 0) (x : A) → refused_by kind Reads (readings.read x) → Reads (readings.read x)
checked_read {R} {S} {A} kind Reads x h = by h.0 h.1 h.2
  where
    by : (reading : readings.Reading R A) → Reads reading → readings.read x ≡ readings.refused_as kind reading → Reads (readings.read x)
    by (readings.read y) k e = subst (λ z. Reads (readings.read z)) (sym (same_read x y e)) k
    by (readings.refused refusal) k e = cc

module _ (ds : Declared) (d : RawDocument) (few : HaveFewArcs d) (trees : DocumentTrees) (are : AreTrees d trees) (ds_is : declared_from 0 nothing_declared trees.declarations ≡ read ds) (places : List (List Coloured)) (places_are : each_from (places_of ds) 0 trees.modules ≡ read places) where
  module _ (h : PlainHierarchy) (checked : IsKept ds d h) (numbers : HasItsNumbers h) (nets : List PlainModuleNet) (nets_are : nets_so ds places h trees.modules (read nets)) where
    many_nets : length nets ≡ length trees.modules
    unfolding nets_so
    many_nets = so_long (λ m. net_so ds (places_at places m) m (structure_at h m)) 0 trees.modules nets nets_are

    many_structures : length h.modules ≡ length trees.modules
    many_structures = as_many_structures ds d trees are h checked

    net_read : (m : ℕ) → m < length trees.modules → net_so ds (places_at places m) m (structure_at h m) (trees_at trees.modules m) (read (slice_index_or nets m no_module_net))
    unfolding nets_so
    net_read m lt =
        let at = so_at (λ m. net_so ds (places_at places m) m (structure_at h m)) 0 trees.modules nets m no_trees no_module_net nets_are lt in
        subst (λ k. net_so ds (places_at places k) k (structure_at h k) (trees_at trees.modules m) (read (slice_index_or nets m no_module_net))) (zero-add m) at

    -- the net of the module of a number
    net_at_is : (m : ℕ) → m < length trees.modules → IsNetOf ds (places_at places m) (structure_at h m) (slice_index_or nets m no_module_net)
    net_at_is m lt =
        let within : m < length d.modules = subst (λ k. m < k) (as_many_trees ds d trees are) lt in
        net_is ds (declared_good trees.declarations ds ds_is) d (raw_module_at d m) (all_below HasFewArcs no_module d.modules m within few) (places_at places m) m (structure_at h m) (ap (λ x. structure_at x m) checked.is ∙ structure_is d m within)
        (trees_at trees.modules m) (trees_are ds d trees are m within) (all_together ds d trees are places places_are h checked numbers m lt) (places_read ds d trees are places places_are m lt) (slice_index_or nets m no_module_net) (net_read m lt)

    all_well : IsWellAccepted (record { declared = ds; hierarchy = h; modules = nets })
    all_well = record {
      closed = functions_closed trees.declarations ds ds_is;
      numbers = numbers;
      each = many_nets ∙ sym many_structures;
      places = λ m lt. (net_at_is m (subst (λ k. m < k) many_nets lt)).many_places;
      transitions = λ m lt. (net_at_is m (subst (λ k. m < k) many_nets lt)).many_transitions;
      nets = all_numbered (IsWellNet ds) no_module_net nets (λ m lt. (net_at_is m (subst (λ k. m < k) many_nets lt)).well);
      agree = agree_in_colour ds d trees are places places_are (record { declared = ds; hierarchy = h; modules = nets }) checked numbers (λ m lt. (net_at_is m (subst (λ k. m < k) many_structures lt)).places_are);
      acyclic = subst IsAcyclic (sym checked.is) checked.acyclic;
    }

same_well : (a made : PlainAccepted) → a ≡ made → (HasItsNumbers made.hierarchy → IsWellAccepted made) → HasItsNumbers a.hierarchy → IsWellAccepted a
same_well a made e well = subst (λ (x : PlainAccepted). HasItsNumbers x.hierarchy → IsWellAccepted x) (sym e) well

-- what is accepted has its numbers
its_numbers : (d : RawDocument) (a : PlainAccepted) → accepted_in d (read a) → HasItsNumbers a.hierarchy
unfolding accepted_in
its_numbers d a h =
    let trees = step_parts (such_that (AreTrees d)) _ a h in
    let ds = step_parts (just (declared_from 0 nothing_declared trees.0.declarations)) _ a trees.2 in
    let places = step_parts (just (each_from (places_of ds.0) 0 trees.0.modules)) _ a ds.2 in
    let hierarchy = step_parts (refused_by of_modules (IsChecked ds.0 d)) _ a places.2 in
    let nets = step_parts (nets_so ds.0 places.0 hierarchy.0 trees.0.modules) _ a hierarchy.2 in
    let checked = kept ds.0 d hierarchy.0 (checked_read of_modules (IsChecked ds.0 d) hierarchy.0 hierarchy.1) in
    let same : a.hierarchy ≡ hierarchy.0 = ap (λ (x : PlainAccepted). x.hierarchy) (same_read a (record { declared = ds.0; hierarchy = hierarchy.0; modules = nets.0 }) nets.2) in
    subst HasItsNumbers (sym (same ∙ checked.is)) (hierarchy_is_numbered d checked.named)

-- What is accepted is well.
well_accepted : (d : RawDocument) → HaveFewArcs d → (a : PlainAccepted) → accepted_in d (read a) → HasItsNumbers a.hierarchy → IsWellAccepted a
unfolding accepted_in
well_accepted d few a h =
    let trees = step_parts (such_that (AreTrees d)) _ a h in
    let ds = step_parts (just (declared_from 0 nothing_declared trees.0.declarations)) _ a trees.2 in
    let places = step_parts (just (each_from (places_of ds.0) 0 trees.0.modules)) _ a ds.2 in
    let hierarchy = step_parts (refused_by of_modules (IsChecked ds.0 d)) _ a places.2 in
    let nets = step_parts (nets_so ds.0 places.0 hierarchy.0 trees.0.modules) _ a hierarchy.2 in
    let are = such_holds (AreTrees d) trees.0 trees.1 in
    let checked = kept ds.0 d hierarchy.0 (checked_read of_modules (IsChecked ds.0 d) hierarchy.0 hierarchy.1) in
    same_well a (record { declared = ds.0; hierarchy = hierarchy.0; modules = nets.0 }) (same_read a (record { declared = ds.0; hierarchy = hierarchy.0; modules = nets.0 }) nets.2) (λ numbers. all_well ds.0 d few trees.0 are (sym ds.1) places.0 (sym places.1) hierarchy.0 checked numbers nets.0 nets.1)

-- The law: it is well, since its hierarchy has its numbers.
pub accepted_is_well : (d : RawDocument) → HaveFewArcs d → (a : PlainAccepted) → accepted_in d (read a) → IsWellAccepted a
accepted_is_well d few a h = well_accepted d few a h (its_numbers d a h)

-- Whatever a call answers, what is accepted is well.
pub well_answered : {X : Type 0} (view : X → PlainAccepted) (result : Result X NetError) (d : RawDocument) → HaveFewArcs d → LoadsBy view result (accepted_in d) → IfOk result (λ x. HasItsNumbers (view x).hierarchy) → IfOk result (λ x. IsWellAccepted (view x))
well_answered view (Ok x) d few h numbers = well_accepted d few (view x) h numbers
well_answered view (Err e) d few h numbers = tt
