-- The next place is marked.
use Rattle.std.proofs.Common.{◌≡◌, ℕ, ◌+◌, ◌<◌, List, [], ◌∷◌, ◌++◌, length, take, get_or, true, sym, subst, ◌∙◌, ap, append_assoc, arith}
use Rattle.std.specs.Prelude.{slice_set}
use Rattle.std.proofs.lemmas.List.{take_more, take_all}
use Rattle.cpn_fuse.specs.FewerPairs.{AreMarked}
use Rattle.cpn_fuse.proofs.LoopSteps.{marked_more}
use Rattle.cpn_fuse.proofs.fusions.mark.Goals as goal

pub loop-place-preserved : goal.loop-place-preserved
loop-place-preserved c =
    λ marked start.
    let places = c.args.places.now in
    let i = c.loop-place.place-index in
    let place = get_or places i 0 in
    let lt : place < length c.loop-place.marks = omega (arith, c.requires i 0 c.loop-place-test.true, c.loop-place.auto.marks) in
    let more = marked_more c.loop-place.marks (marked ++ take i places) place lt (c.loop-place.invariant marked start) in
    let same : (marked ++ take i places) ++ place ∷ [] ≡ marked ++ take (i + 1) places = append_assoc marked (take i places) (place ∷ []) ∙ ap (λ (xs : List ℕ). marked ++ xs) (sym (take_more places i 0 c.loop-place-test.true)) in
    subst (AreMarked (slice_set c.loop-place.marks place true)) same more

pub returns : goal.returns
returns c = λ marked start. let all = take_all c.loop-place.place-index c.args.places.now c.loop-place-test.false in rw all at (c.loop-place.invariant marked start)
