-- The pairs that are made join the same as all, so the classes are the compound places.
use Rattle.std.proofs.Common.{◌≡◌, ℕ, ◌<◌, List, ◌++◌, length, Option, refl, subst}
use Rattle.std.specs.Prelude.{All}
use Rattle.std.proofs.lemmas.Result.{IfOk-weaker}
use Rattle.cpn_classes.specs.Numbering.{Numbering, IsNumbering}
use Rattle.cpn_classes.specs.OneNumbering.{numbering_same}
use Rattle.cpn_classes.specs.Trees.{JoinTheSame}
use Rattle.cpn_classes.specs.OneNumbering.{numbering_by_same}
use Rattle.cpn_module.specs.Hierarchy.{PlainHierarchy}
use Rattle.cpn_module.specs.Views.{hierarchy_view}
use Rattle.cpn_fuse.specs.Instances.{PlainInstance}
use Rattle.cpn_fuse.specs.PlaceInstances.{place_count}
use Rattle.cpn_fuse.specs.Compound.{port_pairs, joined_pairs, AreCompound}
use Rattle.cpn_fuse.specs.FewerPairs.{all_picked, set_pairs, AreMarked, copies}
use Rattle.cpn_fuse.specs.Views.{instances_view}
use Rattle.cpn_fuse.proofs.InstanceLaws.{in_modules}
use Rattle.cpn_fuse.proofs.FewerPairs.{IsPair, fewer_join_the_same, fewer_are_places}
use Rattle.cpn_fuse.proofs.compound_places.compound.Goals as goal

-- pairs of places are pairs below a count that is theirs
pairs_below : (h : PlainHierarchy) (is : List PlainInstance) (count : ℕ) → count ≡ place_count h is → (pairs made : List (ℕ × ℕ)) → made ≡ pairs → All (IsPair h is) pairs → All (λ p. (p.0 < count) × (p.1 < count)) made
pairs_below h is count e pairs made same all = rw (e, same) all

-- classes by pairs that join the same are the compound places
compound_by : (h : PlainHierarchy) (is : List PlainInstance) (count : ℕ) → count ≡ place_count h is → (pairs made : List (ℕ × ℕ)) → made ≡ pairs → JoinTheSame pairs (joined_pairs h is) → (n : Numbering) → IsNumbering count made n → AreCompound h is n
compound_by h is count e pairs made same joins n numbered = numbering_by_same (place_count h is) pairs (joined_pairs h is) n joins (subst (λ (xs : List (ℕ × ℕ)). IsNumbering (place_count h is) xs n) same (subst (λ (k : ℕ). IsNumbering k made n) e numbered))

pub pick_instances-requires : goal.pick_instances-requires
pick_instances-requires c = record { in_modules = in_modules (hierarchy_view c.args.hierarchy.now) c.requires.numbers (instances_view c.args.unfolded.now.instances.items) c.requires.unfolded.unfolded.instances }

pub of-requires : goal.of-requires
of-requires c =
    let h = hierarchy_view c.args.hierarchy.now in
    let is = instances_view c.args.unfolded.now.instances.items in
    let come = c.requires.unfolded.unfolded.instances in
    let picked = c.in_ok-picked.picked.items in
    let marks = c.in_ok-marks.marks.items in
    let marked = subst (λ (xs : List (Option ℕ)). AreMarked marks (all_picked h is xs h.fusions)) c.deref.ensures.value c.in_ok-marks.ensures.marked in
    let made : c.deref-4.result.now ≡ port_pairs h is ++ set_pairs h is picked h.fusions ++ copies h is picked marks (length is) =
    rw (c.deref-4.ensures.value, c.in_ok-join_copies.ensures, c.in_ok-marks.ensures.joined, c.in_ok-pairs.ensures, c.deref.ensures.value, c.deref-2.ensures.value, c.deref-3.ensures.value) refl in
    record { items = pairs_below h is c.args.unfolded.now.places c.requires.unfolded.places _ c.deref-4.result.now made (fewer_are_places h c.requires.numbers is come picked c.in_ok-picked.ensures.picked marks marked) }

pub returns-clause-compound : goal.returns-clause-compound
returns-clause-compound c =
    let h = hierarchy_view c.args.hierarchy.now in
    let is = instances_view c.args.unfolded.now.instances.items in
    let come = c.requires.unfolded.unfolded.instances in
    let picked = c.in_ok-picked.picked.items in
    let marks = c.in_ok-marks.marks.items in
    let marked = subst (λ (xs : List (Option ℕ)). AreMarked marks (all_picked h is xs h.fusions)) c.deref.ensures.value c.in_ok-marks.ensures.marked in
    let made : c.deref-4.result.now ≡ port_pairs h is ++ set_pairs h is picked h.fusions ++ copies h is picked marks (length is) =
    rw (c.deref-4.ensures.value, c.in_ok-join_copies.ensures, c.in_ok-marks.ensures.joined, c.in_ok-pairs.ensures, c.deref.ensures.value, c.deref-2.ensures.value, c.deref-3.ensures.value) refl in
    let joins = fewer_join_the_same h c.requires.numbers is come picked c.in_ok-picked.ensures.picked marks marked in
    IfOk-weaker c.of.result (λ classes. IsNumbering c.args.unfolded.now.places c.deref-4.result.now classes) (λ classes. AreCompound h is classes)
    (λ classes numbered. compound_by h is c.args.unfolded.now.places c.requires.unfolded.places _ c.deref-4.result.now made joins classes numbered) c.of.ensures.numbering

pub returns-clause-only : goal.returns-clause-only
returns-clause-only c =
    let h = hierarchy_view c.args.hierarchy.now in
    let is = instances_view c.args.unfolded.now.instances.items in
    let come = c.requires.unfolded.unfolded.instances in
    let picked = c.in_ok-picked.picked.items in
    let marks = c.in_ok-marks.marks.items in
    let marked = subst (λ (xs : List (Option ℕ)). AreMarked marks (all_picked h is xs h.fusions)) c.deref.ensures.value c.in_ok-marks.ensures.marked in
    let made : c.deref-4.result.now ≡ port_pairs h is ++ set_pairs h is picked h.fusions ++ copies h is picked marks (length is) =
    rw (c.deref-4.ensures.value, c.in_ok-join_copies.ensures, c.in_ok-marks.ensures.joined, c.in_ok-pairs.ensures, c.deref.ensures.value, c.deref-2.ensures.value, c.deref-3.ensures.value) refl in
    let joins = fewer_join_the_same h c.requires.numbers is come picked c.in_ok-picked.ensures.picked marks marked in
    IfOk-weaker c.of.result (λ classes. IsNumbering c.args.unfolded.now.places c.deref-4.result.now classes) (λ classes. (others : Numbering) → AreCompound h is others → others ≡ classes)
    (λ classes numbered others are. numbering_same (place_count h is) (joined_pairs h is) others classes are (compound_by h is c.args.unfolded.now.places c.requires.unfolded.places _ c.deref-4.result.now made joins classes numbered)) c.of.ensures.numbering
