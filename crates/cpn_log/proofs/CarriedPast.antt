-- A token that is carried past what a claim took, need by need.
use Rattle.std.proofs.Common.{◌≡◌, ℕ, zero, suc, ◌<◌, ◌≤◌, ◌+◌, List, [], ◌∷◌, ◌++◌, length, take, drop, get_or, Some, None, refl, sym, ap, ap₂, subst, ◌∙◌, slice_get, slice_set, arith}
use Rattle.std.proofs.Math.ListN.{set}
use Rattle.std.specs.List.{AllByRecursion}
use Rattle.std.proofs.lemmas.List.{drop_more, drop-set-lt, take_more_set}
use Rattle.std.proofs.lemmas.Option.{same_Some}
use Rattle.cpn_definitions.specs.Marking.{Marking, on_place, add_token, token_at}
use Rattle.cpn_definitions.specs.Occurrence.{Needed, Made, add_made}
use Rattle.cpn_definitions.specs.Times.{last_time}
use Rattle.cpn_definitions.proofs.ListItems.{map_more, next_left}
use Rattle.cpn_core.specs.Views.{value_view}
use Rattle.cpn_core.specs.OutputsViews.{made_view, made_views}
use Rattle.cpn_core.specs.declared.outputs.Made as program
use Rattle.cpn_tmset.specs.Limits.{HaveRoomFor}
use Rattle.cpn_runs.specs.HoleRun.{PlainPick}
use Rattle.cpn_runs.specs.Filling.{pick_after, past_pick, claim_after, past_claim, claims_after, past_claims, carried_past, picks_after}
use Rattle.cpn_log.specs.ClaimViews.{claim_views, pick_with, picked_with, taken_view, taken_views}
use Rattle.cpn_log.specs.Kept.{IsInRange}
use Rattle.cpn_log.specs.declared.claims.Claim.{Claim}
use Rattle.cpn_log.proofs.CopiedTokens.{room_after_one}

-- ---- the stamps of needs

none_picked : (time : ℕ) (needs : List Needed) → picked_with time needs [] ≡ []
none_picked time [] = refl
none_picked time (need ∷ needs) = refl

module _ (time : ℕ) where
  -- what the needs ahead of an index took, and what those from it on take when a token was carried past them
  abbrev pub taken_past : Made → List Needed → List ℕ → ℕ → List PlainPick
  taken_past made needs stamps i = picked_with time (take i needs) stamps ++ claim_after made (picked_with time (drop i needs) (drop i stamps))

  -- the token that is carried on past those from an index on
  abbrev pub left_past : Made → List Needed → List ℕ → ℕ → Made
  left_past made needs stamps i = past_claim made (picked_with time (drop i needs) (drop i stamps))

  -- past the need at the index
  pub one_taken
      : (i : ℕ) (needs : List Needed) (stamps : List ℕ) (made on : Made) (need : Needed) (s s' : ℕ)
      → slice_get needs i ≡ Some need
      → slice_get stamps i ≡ Some s
      → s' ≡ (pick_after made (pick_with time need s)).stamp
      → on ≡ past_pick made (pick_with time need s)
      → taken_past on needs (slice_set stamps i s') (suc i) ≡ taken_past made needs stamps i
  one_taken zero (n ∷ needs) (t ∷ stamps) made on need s s' is at taken past =
      let first : n ≡ need = same_Some n need is in
      let own : t ≡ s = same_Some t s at in
      ap₂ (λ (r : ℕ) (m : Made). pick_with time n r ∷ claim_after m (picked_with time needs stamps)) (taken ∙ now n t first own) (past ∙ then n t first own)
    where
      now : (n : Needed) (t : ℕ) → n ≡ need → t ≡ s → (pick_after made (pick_with time need s)).stamp ≡ (pick_after made (pick_with time n t)).stamp
      now n t first own = ap₂ (λ k (r : ℕ). (pick_after made (pick_with time k r)).stamp) (sym first) (sym own)

      then : (n : Needed) (t : ℕ) → n ≡ need → t ≡ s → past_pick made (pick_with time need s) ≡ past_pick made (pick_with time n t)
      then n t first own = ap₂ (λ k (r : ℕ). past_pick made (pick_with time k r)) (sym first) (sym own)
  one_taken zero [] stamps made on need s s' is at taken past = cc
  one_taken zero (n ∷ needs) [] made on need s s' is at taken past = cc
  one_taken (suc i) [] stamps made on need s s' is at taken past = cc
  one_taken (suc i) (n ∷ needs) [] made on need s s' is at taken past = cc
  one_taken (suc i) (n ∷ needs) (t ∷ stamps) made on need s s' is at taken past = ap (λ ps. pick_with time n t ∷ ps) (one_taken i needs stamps made on need s s' is at taken past)

  pub one_left
      : (i : ℕ) (needs : List Needed) (stamps : List ℕ) (made on : Made) (need : Needed) (s s' : ℕ)
      → slice_get needs i ≡ Some need
      → slice_get stamps i ≡ Some s
      → on ≡ past_pick made (pick_with time need s)
      → left_past on needs (slice_set stamps i s') (suc i) ≡ left_past made needs stamps i
  one_left zero (n ∷ needs) (t ∷ stamps) made on need s s' is at past =
      let first : n ≡ need = same_Some n need is in
      let own : t ≡ s = same_Some t s at in
      ap (λ m. past_claim m (picked_with time needs stamps)) (past ∙ ap₂ (λ k (r : ℕ). past_pick made (pick_with time k r)) (sym first) (sym own))
  one_left zero [] stamps made on need s s' is at past = cc
  one_left zero (n ∷ needs) [] made on need s s' is at past = cc
  one_left (suc i) [] stamps made on need s s' is at past = cc
  one_left (suc i) (n ∷ needs) [] made on need s s' is at past = cc
  one_left (suc i) (n ∷ needs) (t ∷ stamps) made on need s s' is at past = one_left i needs stamps made on need s s' is at past

  -- where there is no stamp any more
  pub none_taken : (i : ℕ) (needs : List Needed) (stamps : List ℕ) (made : Made) → slice_get stamps i ≡ None → taken_past made needs stamps (suc i) ≡ taken_past made needs stamps i
  none_taken zero [] [] made none = refl
  none_taken zero (n ∷ needs) [] made none = ap (claim_after made) (none_picked time needs)
  none_taken zero needs (t ∷ stamps) made none = cc
  none_taken (suc i) [] [] made none = refl
  none_taken (suc i) (n ∷ needs) [] made none = ap (claim_after made) (none_picked time (drop (suc i) needs) ∙ sym (none_picked time (drop i needs)))
  none_taken (suc i) [] (t ∷ stamps) made none = refl
  none_taken (suc i) (n ∷ needs) (t ∷ stamps) made none = ap (λ ps. pick_with time n t ∷ ps) (none_taken i needs stamps made none)

  pub none_left : (i : ℕ) (needs : List Needed) (stamps : List ℕ) (made : Made) → slice_get stamps i ≡ None → left_past made needs stamps (suc i) ≡ left_past made needs stamps i
  none_left zero [] [] made none = refl
  none_left zero (n ∷ needs) [] made none = ap (past_claim made) (none_picked time needs)
  none_left zero needs (t ∷ stamps) made none = cc
  none_left (suc i) [] [] made none = refl
  none_left (suc i) (n ∷ needs) [] made none = ap (past_claim made) (none_picked time (drop (suc i) needs) ∙ sym (none_picked time (drop i needs)))
  none_left (suc i) [] (t ∷ stamps) made none = refl
  none_left (suc i) (n ∷ needs) (t ∷ stamps) made none = none_left i needs stamps made none

-- ---- one turn of the loop that goes through the needs

-- What is left to be carried past, and what was taken so far.
abbrev pub AreCarried : ℕ → Made → List Needed → List ℕ → ℕ → Made → List PlainPick → Type 0
AreCarried time made needs stamps i last all = (left_past time made needs stamps i ≡ last) × (taken_past time made needs stamps i ≡ all)

pub past_one
    : (time i : ℕ) (needs : List Needed) (stamps now : List ℕ) (made on last : Made) (all : List PlainPick) (need : Needed) (s s' : ℕ)
    → AreCarried time made needs stamps i last all
    → slice_get needs i ≡ Some need
    → slice_get stamps i ≡ Some s
    → now ≡ slice_set stamps i s'
    → s' ≡ (pick_after made (pick_with time need s)).stamp
    → on ≡ past_pick made (pick_with time need s)
    → AreCarried time on needs now (i + 1) last all
past_one time i needs stamps now made on last all need s s' so_far is at set taken past =
    let next : i + 1 ≡ suc i = omega arith in (
      ap (left_past time on needs now) next ∙ ap (λ ss. left_past time on needs ss (suc i)) set ∙ one_left time i needs stamps made on need s s' is at past ∙ so_far.0,
      ap (taken_past time on needs now) next ∙ ap (λ ss. taken_past time on needs ss (suc i)) set ∙ one_taken time i needs stamps made on need s s' is at taken past ∙ so_far.1,
    )

pub past_none : (time i : ℕ) (needs : List Needed) (stamps now : List ℕ) (made on last : Made) (all : List PlainPick) → AreCarried time made needs stamps i last all → slice_get stamps i ≡ None → now ≡ stamps → on ≡ made → AreCarried time on needs now (i + 1) last all
past_none time i needs stamps now made on last all so_far none same past =
    let next : i + 1 ≡ suc i = omega arith in (
      ap₂ (λ m ss. left_past time m needs ss (i + 1)) past same ∙ ap (left_past time made needs stamps) next ∙ none_left time i needs stamps made none ∙ so_far.0,
      ap₂ (λ m ss. taken_past time m needs ss (i + 1)) past same ∙ ap (taken_past time made needs stamps) next ∙ none_taken time i needs stamps made none ∙ so_far.1,
    )

-- ---- claim by claim

-- the token that is carried on has another stamp, and no more
pub past_keeps : (made : Made) (picks : List PlainPick) → past_claim made picks ≡ record made { stamp = (past_claim made picks).stamp }
past_keeps made [] = refl
past_keeps made (pick ∷ picks) = past_keeps (past_pick made pick) picks

-- past one claim more
pub one_claim
    : (i : ℕ) (claims : List Claim) (old new : Claim) (made on : Made)
    → i < length claims
    → old ≡ get_or claims i old
    → taken_view new ≡ claim_after made (taken_view old)
    → on ≡ past_claim made (taken_view old)
    → (past_claims on (taken_views (drop (i + 1) (set claims i new))) ≡ past_claims made (taken_views (drop i claims)))
    × (taken_views (take (i + 1) (set claims i new)) ++ claims_after on (taken_views (drop (i + 1) (set claims i new))) ≡ taken_views (take i claims) ++ claims_after made (taken_views (drop i claims)))
one_claim i claims old new made on within is taken past = (
  ap₂ (λ m xs. past_claims m (taken_views xs)) past behind ∙ sym (ap (λ xs. past_claims made (taken_views xs)) here),
  ap₂ (λ m xs. taken_views (take (i + 1) (set claims i new)) ++ claims_after m (taken_views xs)) past behind
      ∙ ap (λ xs. taken_views xs ++ claims_after (past_claim made (taken_view old)) (taken_views (drop (i + 1) claims))) (take_more_set claims i new within)
      ∙ ap (λ ps. ps ++ claims_after (past_claim made (taken_view old)) (taken_views (drop (i + 1) claims))) (map_more taken_view (take i claims) new ∙ ap (λ p. taken_views (take i claims) ++ p ∷ []) taken)
      ∙ joined (taken_views (take i claims)) (claim_after made (taken_view old)) (claims_after (past_claim made (taken_view old)) (taken_views (drop (i + 1) claims)))
      ∙ sym (ap (λ xs. taken_views (take i claims) ++ claims_after made (taken_views xs)) here),
)
  where
    behind : drop (i + 1) (set claims i new) ≡ drop (i + 1) claims
    behind = drop-set-lt (i + 1) claims i new (omega arith)

    here : drop i claims ≡ old ∷ drop (i + 1) claims
    here = drop_more claims i old within ∙ ap (λ c. c ∷ drop (i + 1) claims) (sym is)

    joined : (ps : List (List PlainPick)) (p : List PlainPick) (qs : List (List PlainPick)) → (ps ++ p ∷ []) ++ qs ≡ ps ++ p ∷ qs
    joined [] p qs = refl
    joined (x ∷ ps) p qs = ap (λ rs. x ∷ rs) (joined ps p qs)

-- a claim in range has its time
pub time_in_range : (i : ℕ) (claims : List Claim) (claim : Claim) → i < length claims → claim ≡ get_or claims i claim → AllByRecursion IsInRange (claim_views claims) → claim.head.time ≤ last_time
time_in_range i [] claim within is each = absurd (omega arith)
time_in_range zero (c ∷ claims) claim within is each = subst (λ (k : Claim). k.head.time ≤ last_time) (sym is) each.0.in_time
time_in_range (suc i) (c ∷ claims) claim within is each = time_in_range i claims claim (omega arith) is each.1

-- ---- output by output

past_claims_keep : (made : Made) (later : List (List PlainPick)) → past_claims made later ≡ record made { stamp = (past_claims made later).stamp }
past_claims_keep made [] = refl
past_claims_keep made (picks ∷ later) =
    ap (λ m. past_claims m later) (past_keeps made picks) ∙ past_claims_keep (record made { stamp = (past_claim made picks).stamp }) later
    ∙ ap (λ m. record made { stamp = (past_claims m later).stamp }) (sym (past_keeps made picks))

-- what is left to be done is done in the marking after one output more
pub one_output
    : (i : ℕ) (tokens : List program.Made) (made : program.Made) (later next : List (List PlainPick)) (m now : Marking) (s : ℕ)
    → i < length tokens
    → made ≡ get_or tokens i made
    → next ≡ claims_after (made_view made) later
    → s ≡ (past_claims (made_view made) later).stamp
    → now ≡ on_place made.place (add_token (token_at (value_view made.value) s)) m
    → (add_made (carried_past (made_views (drop (i + 1) tokens)) next) now ≡ add_made (carried_past (made_views (drop i tokens)) later) m)
    × (picks_after (made_views (drop (i + 1) tokens)) next ≡ picks_after (made_views (drop i tokens)) later)
one_output i tokens made later next m now s within is taken left put =
    let here : made_views (drop i tokens) ≡ made_view made ∷ made_views (drop (i + 1) tokens) = next_left made_view tokens i made within is in
    let on : record (made_view made) { stamp = s } ≡ past_claims (made_view made) later = ap (λ (r : ℕ). record (made_view made) { stamp = r }) left ∙ sym (past_claims_keep (made_view made) later) in
    let first : now ≡ on_place (past_claims (made_view made) later).place (add_token (token_at (past_claims (made_view made) later).value (past_claims (made_view made) later).stamp)) m
    = put ∙ ap (λ (k : Made). on_place k.place (add_token (token_at k.value k.stamp)) m) on in (
      ap₂ (λ ps k. add_made (carried_past (made_views (drop (i + 1) tokens)) ps) k) taken first ∙ sym (ap (λ xs. add_made (carried_past xs later) m) here),
      ap (picks_after (made_views (drop (i + 1) tokens))) taken ∙ sym (ap (λ xs. picks_after xs later) here),
    )

pub room_after_output
    : (i : ℕ) (tokens : List program.Made) (made : program.Made) (m now : Marking) (s : ℕ)
    → i < length tokens
    → made ≡ get_or tokens i made
    → now ≡ on_place made.place (add_token (token_at (value_view made.value) s)) m
    → HaveRoomFor (length (made_views (drop i tokens))) m
    → HaveRoomFor (length (made_views (drop (i + 1) tokens))) now
room_after_output i tokens made m now s within is put room =
    let here : made_views (drop i tokens) ≡ made_view made ∷ made_views (drop (i + 1) tokens) = next_left made_view tokens i made within is in
    let more : length (made_views (drop i tokens)) ≡ length (made_views (drop (i + 1) tokens)) + 1 = ap (λ (xs : List Made). length xs) here ∙ omega arith in
    subst (HaveRoomFor (length (made_views (drop (i + 1) tokens)))) (sym put)
    (room_after_one (length (made_views (drop (i + 1) tokens))) (record (made_view made) { stamp = s }) m (subst (λ n. HaveRoomFor n m) more room))
