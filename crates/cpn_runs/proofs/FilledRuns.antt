-- Filling a hole in a run of claims: a claim that added nothing adds outputs where it stands in the order. Every later claim
-- finds its needs still, and the run is `filled_run` of the one before.
use Rattle.std.proofs.Common.{◌≡◌, List, [], ◌∷◌, ◌++◌, length, Some, refl, sym, ap, subst, ◌∙◌}
use Rattle.std.specs.List.{AllByRecursion}
use Rattle.std.specs.Option.{option_map}
use Rattle.cpn_definitions.specs.Lists.{IsInOrder}
use Rattle.cpn_definitions.specs.Marking.{Marking}
use Rattle.cpn_definitions.specs.Occurrence.{Made, needed_cmp, threshold, subtract, add_made}
use Rattle.cpn_definitions.proofs.Subtraction.{AllAreSorted}
use Rattle.cpn_definitions.proofs.Addition.{with_made, sorted_with, sorted_added}
use Rattle.cpn_definitions.proofs.RicherMarkings.{covered_in_turn, richer_covers, richer_with_more, sorted_subtracted}
use Rattle.cpn_definitions.proofs.ListItems.{made_of}
use Rattle.cpn_runs.specs.HoleRun.{PlainClaim, Status, PlainHoleRun, added, picks_of, begun_with, after_claim, hole_run, marking_left}
use Rattle.cpn_runs.specs.Filling.{past_claim, past_claims, claims_after, carried_past, picks_after, filled_run}
use Rattle.cpn_runs.proofs.Sequences.{run_on, run_from}
use Rattle.cpn_runs.proofs.CarriedTokens.{with_either_way, token_taking}

-- the needs of a claim stand in their order
abbrev pub HasOrder : PlainClaim → Type 0
HasOrder claim = IsInOrder needed_cmp claim.needs

-- a claim of which something became
abbrev pub completed : Status → PlainClaim → PlainClaim
completed status claim = record claim { status = status }

pub sorted_after : (claim : PlainClaim) (m : Marking) → AllAreSorted m → AllAreSorted (after_claim claim m)
sorted_after claim m sorted = sorted_added (added claim.status) (subtract (threshold claim.time) claim.needs m) (sorted_subtracted (threshold claim.time) claim.needs m sorted)

-- ---- one token more ahead of a run of claims

-- what claims leave and take with one token more: it is carried past their picks
abbrev pub run_with : Made → PlainHoleRun → PlainHoleRun
run_with made run = record { marking = with_made (past_claims made run.picks) run.marking; picks = claims_after made run.picks }

-- one token is added ahead of others or behind them
added_behind : (made : Made) (more : List Made) (m : Marking) → add_made more (with_made made m) ≡ with_made made (add_made more m)
added_behind made [] m = refl
added_behind made (other ∷ more) m = ap (add_made more) (with_either_way other made m) ∙ added_behind made more (with_made other m)

-- each claim is covered still, and so it goes on
pub runs_with : (made : Made) (m : Marking) (claims : List PlainClaim) (run : PlainHoleRun) → AllAreSorted m → AllByRecursion HasOrder claims → hole_run m claims ≡ Some run → hole_run (with_made made m) claims ≡ Some (run_with made run)
runs_with made m [] run sorted ordered is =
    let same : record { marking = m; picks = [] } ≡ run = cc in
    let P : PlainHoleRun → Type 0 = λ r. hole_run (with_made made m) [] ≡ Some (run_with made r) in
    subst P same refl
runs_with made m (claim ∷ claims) run sorted ordered is =
    let first = run_on m claim claims run is in
    let own = picks_of claim.time claim.needs m in
    let on = past_claim made own in
    let takes = token_taking claim.time claim.needs made m sorted (λ p v. covered_in_turn claim.time m claim.needs p v ordered.0 first.is_covered) in
    let after : after_claim claim (with_made made m) ≡ with_made on (after_claim claim m) = ap (add_made (added claim.status)) takes.left ∙ added_behind on (added claim.status) (subtract (threshold claim.time) claim.needs m) in
    let rest = runs_with on (after_claim claim m) claims first.rest (sorted_after claim m sorted) ordered.1 first.goes_on in
    let covers = richer_covers (threshold claim.time) (with_made made m) m claim.needs (richer_with_more (made ∷ []) m sorted) first.is_covered in
    let P : PlainHoleRun → Type 0 = λ r. hole_run (with_made made m) (claim ∷ claims) ≡ Some (run_with made r) in
    subst P first.run_is
    (run_from (with_made made m) claim claims (run_with on first.rest) covers (ap (λ k. hole_run k claims) after ∙ rest)
    ∙ ap (λ picks. Some (begun_with picks (run_with on first.rest))) takes.picks)

-- ---- several tokens more

-- what claims leave and take with several tokens more, carried past their picks one after another
abbrev pub run_with_all : List Made → PlainHoleRun → PlainHoleRun
run_with_all outputs run = record { marking = add_made (carried_past outputs run.picks) run.marking; picks = picks_after outputs run.picks }

pub runs_with_all
    : (outputs : List Made) (m : Marking) (claims : List PlainClaim) (run : PlainHoleRun)
    → AllAreSorted m
    → AllByRecursion HasOrder claims
    → hole_run m claims ≡ Some run
    → hole_run (add_made outputs m) claims ≡ Some (run_with_all outputs run)
runs_with_all [] m claims run sorted ordered is = is
runs_with_all (made ∷ outputs) m claims run sorted ordered is = runs_with_all outputs (with_made made m) claims (run_with made run) (sorted_with made m sorted) ordered (runs_with made m claims run sorted ordered is)

-- ---- a hole among claims

-- Where a claim that added nothing adds what its new status says, the run is the one before, filled: each later claim stays
-- covered, the marking has one token more for each output, and the picks of the later claims are those that the outputs were
-- carried past.
pub filling_run
    : (m : Marking) (before : List PlainClaim) (claim : PlainClaim) (later : List PlainClaim) (status : Status) (run : PlainHoleRun)
    → AllAreSorted m
    → AllByRecursion HasOrder later
    → added claim.status ≡ []
    → hole_run m (before ++ claim ∷ later) ≡ Some run
    → hole_run m (before ++ completed status claim ∷ later) ≡ Some (filled_run (length before) (added status) run)
filling_run m [] claim later status run sorted ordered none is =
    let first = run_on m claim later run is in
    let left = subtract (threshold claim.time) claim.needs m in
    let nothing_added : hole_run left later ≡ Some first.rest = ap (λ made. hole_run (add_made made left) later) (sym none) ∙ first.goes_on in
    let goes_on = runs_with_all (added status) left later first.rest (sorted_subtracted (threshold claim.time) claim.needs m sorted) ordered nothing_added in
    let P : PlainHoleRun → Type 0 = λ r. hole_run m (completed status claim ∷ later) ≡ Some (filled_run 0 (added status) r) in
    subst P first.run_is (run_from m (completed status claim) later (run_with_all (added status) first.rest) first.is_covered goes_on)
filling_run m (ahead ∷ before) claim later status run sorted ordered none is =
    let first = run_on m ahead (before ++ claim ∷ later) run is in
    let rest = filling_run (after_claim ahead m) before claim later status first.rest (sorted_after ahead m sorted) ordered none first.goes_on in
    let P : PlainHoleRun → Type 0 = λ r. hole_run m (ahead ∷ (before ++ completed status claim ∷ later)) ≡ Some (filled_run (length (ahead ∷ before)) (added status) r) in
    subst P first.run_is (run_from m ahead (before ++ completed status claim ∷ later) (filled_run (length before) (added status) first.rest) first.is_covered rest)

-- so the claims leave a marking still
pub filled_leaves
    : (m : Marking) (before : List PlainClaim) (claim : PlainClaim) (later : List PlainClaim) (status : Status) (last : Marking)
    → AllAreSorted m
    → AllByRecursion HasOrder later
    → added claim.status ≡ []
    → marking_left m (before ++ claim ∷ later) ≡ Some last
    → (end : Marking) × (marking_left m (before ++ completed status claim ∷ later) ≡ Some end)
filled_leaves m before claim later status last sorted ordered none is =
    let run = made_of (λ (r : PlainHoleRun). r.marking) (hole_run m (before ++ claim ∷ later)) last is in
    let filled = filled_run (length before) (added status) run.0 in
    (filled.marking, ap (option_map (λ (r : PlainHoleRun). r.marking)) (filling_run m before claim later status run.0 sorted ordered none run.1))
