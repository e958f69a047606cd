-- Past one need more.
use Rattle.std.proofs.Common.{◌≡◌, ℕ, ◌<◌, ◌≤◌, Some, None, refl, ap, ◌∙◌, arith, slice_get, ⊎_elim}
use Rattle.std.specs.Prelude.{vec_len}
use Rattle.std.proofs.lemmas.Bool.{cases_lt}
use Rattle.std.proofs.lemmas.Option.{slice_get-map, slice_get_past}
use Rattle.std.specs.Option.{option_map}
use Rattle.cpn_core.specs.NeedsViews.{needed_view, needed_views}
use Rattle.cpn_log.specs.ClaimViews.{with_stamp}
use Rattle.cpn_log.proofs.LogParts.{at_place}
use Rattle.cpn_log.proofs.CarriedPast.{past_one, past_none}
use Rattle.cpn_log.proofs.claims.carry_past_needs.Goals as goal
use Rattle.cpn_log.proofs.claims.carry_past_needs.Goals.{in-Some, in_default}

no_less : (i n : ℕ) → (i < n → ⊥) → n ≤ i
no_less i n not = ⊎_elim (λ lt. absurd (not lt)) (λ ge. ge) (cases_lt i n)

pub loop-index-preserved : goal.loop-index-preserved
loop-index-preserved c =
    elim c.match-get_mut.branch [
      | in-Some w ↦
          let i = c.loop-index.index in
          let need = c.index-tokens-index.result in
          let is : slice_get (needed_views c.tokens-tokens.result.now) i ≡ Some (needed_view need) = slice_get-map needed_view c.tokens-tokens.result.now i ∙ ap (option_map needed_view) (at_place c.tokens-tokens.result.now i need c.loop-index-test.true c.index-tokens-index.is) in
          let taken = w.in-Some.taken.now in
          let at : slice_get c.loop-index.stamps.items i ≡ Some taken = at_place c.loop-index.stamps.items i taken (omega (arith, w.in-Some.ensures.variant.0 refl)) w.in-Some.ensures.value in
          let both = past_one c.args.time i (needed_views c.tokens-tokens.result.now) c.loop-index.stamps.items c.match-get_mut.stamps.items (with_stamp c.loop-index.carried c.args.made.now) (with_stamp c.match-get_mut.carried c.args.made.now) _ _ (needed_view need) taken w.carry_past_need-carried.new.taken
          (c.loop-index.invariant.left, c.loop-index.invariant.taken) is at (ap (λ xs. xs.items) w.stamps-is) w.carry_past_need-carried.ensures.taken (ap (λ (s : ℕ). with_stamp s c.args.made.now) (w.carried-is ∙ w.carry_past_need-carried.ensures.left)) in
          record { left = both.0; taken = both.1 }
      | in_default w ↦
          let i = c.loop-index.index in
          let none : slice_get c.loop-index.stamps.items i ≡ None = slice_get_past c.loop-index.stamps.items i (let far = no_less i (vec_len c.loop-index.stamps) (λ lt. (let h = w.in_default.ensures.variant.1 lt in cc)) in omega (arith, far)) in
          let both = past_none c.args.time i (needed_views c.tokens-tokens.result.now) c.loop-index.stamps.items c.match-get_mut.stamps.items (with_stamp c.loop-index.carried c.args.made.now) (with_stamp c.match-get_mut.carried c.args.made.now) _ _
          (c.loop-index.invariant.left, c.loop-index.invariant.taken) none (ap (λ xs. xs.items) w.stamps-is) (ap (λ (s : ℕ). with_stamp s c.args.made.now) w.carried-is) in
          record { left = both.0; taken = both.1 }
    ]
