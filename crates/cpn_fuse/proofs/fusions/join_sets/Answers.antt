-- The next fusion set is joined, and its places are marked.
use Rattle.std.proofs.Common.{◌≡◌, ℕ, ◌+◌, ◌<◌, Bool, List, [], ◌++◌, length, take, drop, get_or, Option, refl, sym, ap, subst, ◌∙◌, arith}
use Rattle.std.specs.Prelude.{slice_index_or, Contains}
use Rattle.std.proofs.lemmas.List.{append-nil, take_all, drop_all, length-map}
use Rattle.std.proofs.lemmas.List.Elements.{Contains-get_or}
use Rattle.cpn_module.specs.Hierarchy.{PlainMember, PlainHierarchy}
use Rattle.cpn_module.specs.Views.{fusion_set_view, hierarchy_view}
use Rattle.cpn_fuse.specs.Instances.{PlainInstance}
use Rattle.cpn_fuse.specs.FewerPairs.{picked_places, all_picked, with_first, AreMarked}
use Rattle.cpn_fuse.specs.Views.{instances_view}
use Rattle.cpn_fuse.proofs.LoopSteps.{flat_mapped_more}
use Rattle.cpn_fuse.proofs.FewerPairs.{picked_are_places}
use Rattle.cpn_fuse.proofs.fusions.join_sets.Goals as goal

-- all are written
all_written : (now next : List Bool) (n : ℕ) → n ≡ length now → length next ≡ length now → take n (next ++ drop (length next) now) ≡ next
all_written now next n e same =
    let none : drop (length next) now ≡ [] = drop_all (length next) now (omega arith) in
    rw (none, append-nil next) (take_all n next (omega arith))

-- the picked places of one fusion set more
one_set_more : (h : PlainHierarchy) (is : List PlainInstance) (picked : List (Option ℕ)) (fusions : List (List PlainMember)) (i : ℕ) → i < length fusions → all_picked h is picked (take i fusions) ++ picked_places h is picked (slice_index_or fusions i []) ≡ all_picked h is picked (take (i + 1) fusions)
one_set_more h is picked fusions i lt =
    let before = all_picked h is picked (take i fusions) in
    flat_mapped_more (picked_places h is picked) fusions i [] lt [] before (before ++ picked_places h is picked (slice_index_or fusions i [])) refl refl

pub mark-requires : goal.mark-requires
mark-requires c =
    let h = hierarchy_view c.args.hierarchy.now in
    let is = instances_view c.args.unfolded.now.instances.items in
    let places = c.in_ok-places.places.items in
    let members = slice_index_or h.fusions c.loop-set.set [] in
    let set_in : c.loop-set.set < length h.fusions = rw (length-map c.args.hierarchy.now.fusions.items fusion_set_view) (omega (arith, c.args.hierarchy.now.fusions.ok, c.loop-set-test.true, c.len-set-end.ensures)) in
    rw (c.deref-in-loop-set.ensures.value, c.deref_mut.ensures.value) (λ k d k_in.
    let place = get_or places k d in
    let picked : Contains (picked_places h is c.args.picked.now members) place = subst (λ (xs : List ℕ). Contains xs place) c.in_ok-places.ensures (Contains-get_or places k d k_in) in
    let below = picked_are_places h c.requires.numbers is c.requires.unfolded.unfolded.instances c.args.picked.now c.requires.picked members (Contains-get_or h.fusions c.loop-set.set [] set_in) place picked in
    omega (arith, below, c.requires.unfolded.places, c.loop-set.invariant.each))

pub loop-set-preserved : goal.loop-set-preserved
loop-set-preserved c =
    let h = hierarchy_view c.args.hierarchy.now in
    let is = instances_view c.args.unfolded.now.instances.items in
    let picked = c.args.picked.now in
    let i = c.loop-set.set in
    let members = slice_index_or h.fusions i [] in
    let i_in : i < length h.fusions = rw (length-map c.args.hierarchy.now.fusions.items fusion_set_view) (omega (arith, c.args.hierarchy.now.fusions.ok, c.loop-set-test.true, c.len-set-end.ensures)) in
    let places : c.deref.result.now ≡ picked_places h is picked members = c.deref.ensures.value ∙ c.in_ok-places.ensures in
    let marked_places : c.deref-in-loop-set.result.now ≡ picked_places h is picked members = c.deref-in-loop-set.ensures.value ∙ c.in_ok-places.ensures in
    let kept : length c.mark.new.marks ≡ length c.loop-set.marks.items = c.mark.auto.marks ∙ ap length c.deref_mut.ensures.value in
    let written = all_written c.loop-set.marks.items c.mark.new.marks c.loop-set.marks.len c.loop-set.marks.ok.0 kept in
    let start = subst (λ (marks : List Bool). AreMarked marks (all_picked h is picked (take i h.fusions))) (sym c.deref_mut.ensures.value) c.loop-set.invariant.marked in
    let marked = subst (λ (xs : List ℕ). AreMarked c.mark.new.marks (all_picked h is picked (take i h.fusions) ++ xs)) marked_places (c.mark.ensures (all_picked h is picked (take i h.fusions)) start) in
    let pushed : c.join_to_first.new.pairs.items ≡ c.loop-set.pairs.items ++ with_first (picked_places h is picked members) = c.in_ok-join_to_first.ensures ∙ ap (λ (xs : List ℕ). c.loop-set.pairs.items ++ with_first xs) places in
    rw written (record {
      each = kept ∙ c.loop-set.invariant.each;
      marked = subst (AreMarked c.mark.new.marks) (one_set_more h is picked h.fusions i i_in) marked;
      joined = flat_mapped_more (λ (set : List PlainMember). with_first (picked_places h is picked set)) h.fusions i [] i_in c.args.pairs.now.items c.loop-set.pairs.items c.join_to_first.new.pairs.items c.loop-set.invariant.joined pushed;
    })

pub returns-clause-marked : goal.returns-clause-marked
returns-clause-marked c =
    let h = hierarchy_view c.args.hierarchy.now in
    let all : take c.loop-set.set h.fusions ≡ h.fusions = take_all c.loop-set.set h.fusions (rw (length-map c.args.hierarchy.now.fusions.items fusion_set_view) (omega (arith, c.args.hierarchy.now.fusions.ok, c.loop-set-test.false, c.len-set-end.ensures))) in
    rw all at c.loop-set.invariant.marked
