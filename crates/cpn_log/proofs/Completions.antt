-- When an open claim of a log is completed: the log stays kept, and the changes are those told.
use Rattle.std.proofs.Common.{◌≡◌, ℕ, suc, ◌-◌, ◌<◌, ◌≤◌, List, [], ◌∷◌, map, length, take, drop, refl, sym, ap, subst, ◌∙◌, arith}
use Rattle.std.proofs.Math.Path.{ap₂}
use Rattle.std.specs.List.{AllByRecursion}
use Rattle.std.proofs.lemmas.List.{length-take, take-append-drop}
use Rattle.cpn_definitions.specs.Bounds.{most_made}
use Rattle.cpn_definitions.specs.Lists.{IsInOrder}
use Rattle.cpn_definitions.specs.Marking.{Marking}
use Rattle.cpn_definitions.specs.Occurrence.{Made, made_cmp, add_made}
use Rattle.cpn_definitions.proofs.ListItems.{all_parts}
use Rattle.cpn_tmset.specs.Changed.{PlainChange, change_cmp, AreChanges}
use Rattle.cpn_tmset.specs.Limits.{HaveRoomFor}
use Rattle.cpn_runs.specs.Filling.{left_over, filled_run, IsLeftFor, EachTwo}
use Rattle.cpn_runs.specs.HoleRun.{PlainClaim, PlainHoleRun, Status, added}
use Rattle.cpn_runs.proofs.KeptPicks.{each_is_left}
use Rattle.cpn_log.specs.FilledLogs.{HasOneMoreEach, IsFilledAt}
use Rattle.cpn_log.specs.Logs.{PlainLog, run_behind, with_status}
use Rattle.cpn_log.specs.Kept.{IsInRange, IsKept}
use Rattle.cpn_log.specs.Gathered.{each_once, made_change}
use Rattle.cpn_log.specs.Exchanges.{number_added}
use Rattle.cpn_log.proofs.ChangeOrder.{outputs_stand_in_order}
use Rattle.cpn_log.proofs.TouchedStamps.{added_changes}
use Rattle.cpn_log.proofs.KeptLogs.{unclaimed_sorted, room_for_all, with_completed, kept_with_completed, room_for_outputs}
use Rattle.cpn_log.proofs.LogParts.{IsOpen}
use Rattle.cpn_log.proofs.LogSteps.{kept_alike}

-- ---- some of the claims

fewer_taken : (n : ℕ) (cs : List PlainClaim) → length (take n cs) ≤ length cs
fewer_taken n cs = let lengths = length-take n cs in omega (arith, lengths)

pub taken_in_range : (log : PlainLog) (n : ℕ) → IsKept log → AllByRecursion IsInRange (take n log.claims)
taken_in_range log n kept = (all_parts IsInRange (take n log.claims) (drop n log.claims) (subst (AllByRecursion IsInRange) (sym (take-append-drop n log.claims)) kept.each)).0

pub room_for_taken : (log : PlainLog) (n : ℕ) → IsKept log → HaveRoomFor (number_added (take n log.claims)) log.settled
room_for_taken log n kept =
    let number = kept.number in
    let fewer = fewer_taken n log.claims in
    room_for_all log.settled (length log.committed) (take n log.claims) kept.few (omega (arith, number, fewer)) (taken_in_range log n kept)

-- ---- the places and values of outputs

-- they are those of the tokens that are left for them
same_places : (outputs tokens : List Made) → EachTwo IsLeftFor outputs tokens → map made_change tokens ≡ map made_change outputs
same_places [] [] each = refl
same_places [] (left ∷ tokens) each = absurd each
same_places (made ∷ outputs) [] each = absurd each
same_places (made ∷ outputs) (left ∷ tokens) each = ap₂ (λ c cs. c ∷ cs) (ap₂ (λ p v. record { place = p; value = v }) each.0.place each.0.value) (same_places outputs tokens each.1)

places_within : (number : ℕ) (outputs : List Made) → AllByRecursion (λ (made : Made). made.place < number) outputs → AllByRecursion (λ (c : PlainChange). c.place < number) (map made_change outputs)
places_within number [] within = tt
places_within number (made ∷ outputs) within = (within.0, places_within number outputs within.1)

-- ---- an open claim

module _ (log : PlainLog) (number : ℕ) (kept : IsKept log) (o : IsOpen log number) where
  abbrev place : ℕ
  place = number - length log.committed

  -- with the claim completed the log is kept, and so is each log like that one
  pub kept_completed
      : (new : PlainLog) (status : Status)
      → length (added status) ≤ most_made
      → new.committed ≡ log.committed
      → new.settled ≡ log.settled
      → new.claims ≡ with_status status place log.claims
      → run_behind new ≡ filled_run place (added status) (run_behind log)
      → IsKept new
  kept_completed new status few committed settled claims run =
      kept_alike new (with_completed log place status) committed settled claims (ap (λ (r : PlainHoleRun). r.picks) run) (ap (λ (r : PlainHoleRun). r.marking) run)
      (kept_with_completed log place o.claim status kept o.is o.is_open few)

  -- a claim that adds nothing leaves the run as it is
  pub run_with_none : (status : Status) → added status ≡ [] → run_behind log ≡ filled_run place (added status) (run_behind log)
  run_with_none status none =
      ap (λ ps. record { marking = log.unclaimed; picks = ps }) (sym (take-append-drop (suc place) log.picks)) ∙ ap (λ made. filled_run place made (run_behind log)) (sym none)

  -- there is room for the outputs of the claim
  pub room_behind : (outputs : List Made) → length outputs ≤ most_made → HaveRoomFor (length outputs) log.unclaimed
  room_behind outputs few = room_for_outputs log place o.claim outputs kept o.is o.is_open few

  -- the claims behind it are in range
  pub later_in_range : (n : ℕ) → AllByRecursion IsInRange (drop n log.claims)
  later_in_range n = (all_parts IsInRange (take n log.claims) (drop n log.claims) (subst (AllByRecursion IsInRange) (sym (take-append-drop n log.claims)) kept.each)).1

  -- a token more is left for each output
  pub one_more_each : (new : PlainLog) (outputs : List Made) → run_behind new ≡ filled_run place outputs (run_behind log) → IsFilledAt place outputs log new
  one_more_each new outputs run = record {
    run = run;
    more = record { tokens = left_over place outputs (run_behind log); each = each_is_left outputs (drop (suc place) log.picks); is = ap (λ (r : PlainHoleRun). r.marking) run };
  }

  -- so what changes are the places and values of the outputs
  pub changed_by : (outputs : List Made) (new : Marking) → HasOneMoreEach outputs log.unclaimed new → IsInOrder made_cmp outputs → AllByRecursion (λ (made : Made). made.place < length log.unclaimed) outputs → AreChanges log.unclaimed new (each_once (map made_change outputs))
  changed_by outputs new richer ordered within =
      let same = same_places outputs richer.tokens richer.each in
      let changes =
      added_changes richer.tokens log.unclaimed (unclaimed_sorted log kept) (subst (IsInOrder change_cmp) (sym same) (outputs_stand_in_order outputs ordered))
      (subst (AllByRecursion (λ (c : PlainChange). c.place < length log.unclaimed)) (sym same) (places_within (length log.unclaimed) outputs within)) in
      subst (λ m. AreChanges log.unclaimed m (each_once (map made_change outputs))) (sym richer.is) (subst (λ cs. AreChanges log.unclaimed (add_made richer.tokens log.unclaimed) (each_once cs)) same changes)
