-- With one seat there is at most one journal that has an end, unless for want of memory.
use Rattle.std.proofs.Common.{◌≡◌, ◌≢◌, ℕ, zero, suc, ◌<◌, ◌≤◌, ◌==◌, ◌⊎◌, Bool, true, false, ◌||◌, List, [], ◌∷◌, ◌++◌, length, take, Some, None, Option, refl, sym, ap, ◌∙◌, subst, inl, inr, arith, slice_get, slice_set, eqb-true, eq-eqb}
use Rattle.std.specs.List.{list_any}
use Rattle.std.specs.Option.{MatchOption}
use Rattle.std.proofs.Math.Path.{ap₂}
use Rattle.std.proofs.Math.Seq.{take-append_seam}
use Rattle.std.proofs.lemmas.Bool.{and_parts, or_parts}
use Rattle.std.proofs.lemmas.Option.{same_Some}
use Rattle.cpn_definitions.specs.Marking.{Marking}
use Rattle.cpn_definitions.specs.Occurrence.{covered}
use Rattle.cpn_definitions.specs.Legal.{LeastTime}
use Rattle.cpn_definitions.proofs.TruthValues.{not_both}
use Rattle.cpn_definitions.proofs.ListItems.{last_changed}
use Rattle.cpn_runs.specs.HoleRun.{PlainClaim, is_open}
use Rattle.cpn_runs.specs.State.{PlainSetup, PlainEvent, claim_made, claim_completed, clock_moved, cut_made, PlainEnd, dead, steps_made, until_passed, fault_end, stopped_by, wants_memory, PlainState, unclaimed_in, committed_claims, owed_cut, is_held_by, new_claim, PlainCut, GivesBack, IsDue, MayClaim, MayComplete, MayMove, MayCut, Happens, Leads, HasCause, EndsBy}
use Rattle.cpn_runs.specs.GivingBack.{IsOwedIfCut}
use Rattle.cpn_runs.proofs.Cuts.{committed_are_done, done_are_closed, uncut_so, owed_is, left_by, left_owes_none}
use Rattle.cpn_runs.proofs.GivenBackClaims.{left_after, still_owes_none}
use Rattle.cpn_runs.proofs.States.{claim_is_unique, completion_is_unique, least_is_unique, move_is_unique, cut_is_unique, closed_status, drawn_now}

-- no claim is open
abbrev pub AreClosed : List PlainClaim → Type 0
AreClosed claims = list_any (λ claim. is_open claim.status) claims ≡ false

-- Between rounds: no cut, and no claim is open; and the clock is one that the run may reach.
pub record IsCalm (setup : PlainSetup) (state : PlainState) : Type 0 where
  pub no_cut : state.cut ≡ None
  pub closed : AreClosed state.claims
  pub in_time : state.clock ≤ setup.limits.until

-- Within a round: no cut, and the last claim alone is open, and is seat 0's.
pub record IsBusy (setup : PlainSetup) (state : PlainState) : Type 0 where
  pub no_cut : state.cut ≡ None
  pub in_time : state.clock ≤ setup.limits.until
  pub before : List PlainClaim
  pub last : PlainClaim
  pub claims_are : state.claims ≡ before ++ last ∷ []
  pub closed : AreClosed before
  pub last_open : is_open last.status ≡ true
  pub seat : last.seat ≡ 0

-- After the cut: no claim is open, and no cut is owed.
pub record IsCut (setup : PlainSetup) (state : PlainState) : Type 0 where
  pub cut : PlainCut
  pub stands : state.cut ≡ Some cut
  pub closed : AreClosed state.claims
  pub none_owed : owed_cut setup state ≡ None

-- where a run of one seat is
abbrev pub IsPhase : PlainSetup → PlainState → Type 0
IsPhase setup state = IsCalm setup state ⊎ (IsBusy setup state ⊎ IsCut setup state)

-- a claim among closed ones is not open
closed_at : (claims : List PlainClaim) (i : ℕ) (claim : PlainClaim) → AreClosed claims → slice_get claims i ≡ Some claim → is_open claim.status ≡ false
closed_at [] zero claim closed is = cc
closed_at [] (suc i) claim closed is = cc
closed_at (k ∷ ks) zero claim closed is =
    let same : k ≡ claim = cc in
    let P : PlainClaim → Type 0 = λ c. is_open c.status ≡ false in
    subst P same (or_parts (is_open k.status) _ closed).0
closed_at (k ∷ ks) (suc i) claim closed is = closed_at ks i claim (or_parts (is_open k.status) _ closed).1 is

-- an open claim behind closed ones is the last
open_is_last : (before : List PlainClaim) (last claim : PlainClaim) (i : ℕ) → AreClosed before → slice_get (before ++ last ∷ []) i ≡ Some claim → is_open claim.status ≡ true → (i ≡ length before) × (claim ≡ last)
open_is_last [] last claim zero closed is opened = (refl, (let same : last ≡ claim = cc in sym same))
open_is_last [] last claim (suc zero) closed is opened = cc
open_is_last [] last claim (suc (suc i)) closed is opened = cc
open_is_last (k ∷ ks) last claim zero closed is opened =
    let same : k ≡ claim = cc in
    let P : PlainClaim → Type 0 = λ c. is_open c.status ≡ false in
    absurd (not_both (is_open claim.status) opened (subst P same (or_parts (is_open k.status) _ closed).0))
open_is_last (k ∷ ks) last claim (suc i) closed is opened =
    let rest = open_is_last ks last claim i (or_parts (is_open k.status) _ closed).1 is opened in
    (ap (λ (n : ℕ). suc n) rest.0, rest.1)

-- the last claim is held by seat 0
last_is_held : (before : List PlainClaim) (last : PlainClaim) → is_open last.status ≡ true → last.seat ≡ 0 → list_any (is_held_by 0) (before ++ last ∷ []) ≡ true
last_is_held [] last opened seat = rw opened (rw (eq-eqb last.seat 0 seat) refl)
last_is_held (k ∷ ks) last opened seat = or_later (is_held_by 0 k) (list_any (is_held_by 0) (ks ++ last ∷ [])) (last_is_held ks last opened seat)
  where
    or_later : (a b : Bool) → b ≡ true → (a || b) ≡ true
    or_later true b is = refl
    or_later false b is = is

-- a claim leads from a calm state to a busy one, and what it leads to is determined
pub record IsSameClaim (seat number seat' number' : ℕ) (new new' : PlainState) : Type 0 where
  pub seats : seat ≡ seat'
  pub numbers : number ≡ number'
  pub news : new ≡ new'

pub claim_is_determined : (setup : PlainSetup) (old : PlainState) (seat number seat' number' : ℕ) (new new' : PlainState) → setup.limits.seats ≡ 1 → MayClaim setup old seat number new → MayClaim setup old seat' number' new' → IsSameClaim seat number seat' number' new new'
claim_is_determined setup old seat number seat' number' new new' one a b =
    let seats : seat ≡ seat' = (let p = a.seat_known in let q = b.seat_known in omega arith) in
    let numbers : number ≡ number' = a.next_number ∙ sym b.next_number in
    let P : ℕ → ℕ → Type 0 = λ s k. MayClaim setup old s k new in
    let same : MayClaim setup old seat' number' new = subst (λ k. P seat' k) numbers (subst (λ s. P s number) seats a) in
    record { seats = seats; numbers = numbers; news = claim_is_unique setup old seat' number' new new' same b }

-- ---- which events may happen where

held_is_open : (seat : ℕ) (claim : PlainClaim) → is_held_by seat claim ≡ true → (is_open claim.status ≡ true) × (claim.seat ≡ seat)
held_is_open seat claim held =
    let parts = and_parts (is_open claim.status) (claim.seat == seat) held in
    (parts.0, eqb-true claim.seat seat parts.1)

pub none_completes_calmly : (setup : PlainSetup) (old : PlainState) (seat number : ℕ) (new : PlainState) → IsCalm setup old → MayComplete setup old seat number new → ⊥
none_completes_calmly setup old seat number new calm c =
    not_both (is_open c.held_claim.status) (held_is_open seat c.held_claim c.held).0 (closed_at old.claims number c.held_claim calm.closed c.claim_is)

pub none_claims_busily : (setup : PlainSetup) (old : PlainState) (seat number : ℕ) (new : PlainState) → setup.limits.seats ≡ 1 → IsBusy setup old → MayClaim setup old seat number new → ⊥
none_claims_busily setup old seat number new one busy c =
    let zero_seat : seat ≡ 0 = (let known = c.seat_known in omega arith) in
    let P : ℕ → Type 0 = λ s. list_any (is_held_by s) old.claims ≡ false in
    let Q : List PlainClaim → Type 0 = λ cs. list_any (is_held_by 0) cs ≡ false in
    not_both (list_any (is_held_by 0) (busy.before ++ busy.last ∷ [])) (last_is_held busy.before busy.last busy.last_open busy.seat) (subst Q busy.claims_are (subst P zero_seat c.seat_free))

-- ---- what they lead to

pub claim_makes_busy : (setup : PlainSetup) (old : PlainState) (seat number : ℕ) (new : PlainState) → setup.limits.seats ≡ 1 → IsCalm setup old → MayClaim setup old seat number new → IsBusy setup new
claim_makes_busy setup old seat number new one calm c =
    let known : seat ≡ 0 = (let s = c.seat_known in omega arith) in
    let P : PlainState → Type 0 = λ s. IsBusy setup s in
    subst P (sym c.new_is) (record {
      no_cut = calm.no_cut;
      in_time = calm.in_time;
      before = old.claims;
      last = new_claim setup.net seat old.clock c.drawn.element;
      claims_are = refl;
      closed = calm.closed;
      last_open = refl;
      seat = known;
    })

closed_more : (claims : List PlainClaim) (claim : PlainClaim) → AreClosed claims → is_open claim.status ≡ false → AreClosed (claims ++ claim ∷ [])
closed_more [] claim closed is = rw is refl
closed_more (k ∷ ks) claim closed is =
    let parts = or_parts (is_open k.status) _ closed in
    rw parts.0 (closed_more ks claim parts.1 is)

-- what a completion completes, in a busy state
completed_last : (setup : PlainSetup) (old : PlainState) (seat number : ℕ) (new : PlainState) (busy : IsBusy setup old) (c : MayComplete setup old seat number new) → (number ≡ length busy.before) × (c.held_claim ≡ busy.last) × (seat ≡ 0)
completed_last setup old seat number new busy c =
    let held = held_is_open seat c.held_claim c.held in
    let P : List PlainClaim → Type 0 = λ cs. slice_get cs number ≡ Some c.held_claim in
    let which = open_is_last busy.before busy.last c.held_claim number busy.closed (subst P busy.claims_are c.claim_is) held.0 in
    (which.0, which.1, sym held.1 ∙ ap (λ (k : PlainClaim). k.seat) which.1 ∙ busy.seat)

completed_claims : (setup : PlainSetup) (old : PlainState) (seat number : ℕ) (new : PlainState) (busy : IsBusy setup old) (c : MayComplete setup old seat number new) → new ≡ record old { claims = busy.before ++ record busy.last { status = c.status } ∷ [] }
completed_claims setup old seat number new busy c =
    let which = completed_last setup old seat number new busy c in
    let same : slice_set old.claims number (record c.held_claim { status = c.status }) ≡ slice_set (busy.before ++ busy.last ∷ []) (length busy.before) (record busy.last { status = c.status }) =
    ap₂ (λ cs (n : ℕ). slice_set cs n (record c.held_claim { status = c.status })) busy.claims_are which.0 ∙ ap (λ (k : PlainClaim). slice_set (busy.before ++ busy.last ∷ []) (length busy.before) (record k { status = c.status })) which.1 in
    c.new_is ∙ ap (λ cs. record old { claims = cs }) (same ∙ last_changed busy.before busy.last (record busy.last { status = c.status }))

pub completion_makes_calm : (setup : PlainSetup) (old : PlainState) (seat number : ℕ) (new : PlainState) → IsBusy setup old → MayComplete setup old seat number new → IsCalm setup new
completion_makes_calm setup old seat number new busy c =
    let P : PlainState → Type 0 = λ s. IsCalm setup s in
    let status_closed : is_open c.status ≡ false = closed_status _ c.status c.status_is in
    subst P (sym (completed_claims setup old seat number new busy c)) (record { no_cut = busy.no_cut; in_time = busy.in_time; closed = closed_more busy.before (record busy.last { status = c.status }) busy.closed status_closed })

pub completion_is_determined : (setup : PlainSetup) (old : PlainState) (seat number seat' number' : ℕ) (new new' : PlainState) → IsBusy setup old → MayComplete setup old seat number new → MayComplete setup old seat' number' new' → IsSameClaim seat number seat' number' new new'
completion_is_determined setup old seat number seat' number' new new' busy a b =
    let first = completed_last setup old seat number new busy a in
    let second = completed_last setup old seat' number' new' busy b in
    let seats : seat ≡ seat' = first.2 ∙ sym second.2 in
    let numbers : number ≡ number' = first.0 ∙ sym second.0 in
    let P : ℕ → ℕ → Type 0 = λ s k. MayComplete setup old s k new in
    let same : MayComplete setup old seat' number' new = subst (λ k. P seat' k) numbers (subst (λ s. P s number) seats a) in
    record { seats = seats; numbers = numbers; news = completion_is_unique setup old seat' number' new new' same b }

-- ---- events and ends

-- What is known of an event that happens: each one that happens there is the same and leads to the same state.
pub record IsSameEvent (event event' : PlainEvent) (new new' : PlainState) : Type 0 where
  pub events : event ≡ event'
  pub news : new ≡ new'

not_owed_and_owed : (owed : Option PlainCut) (cut : PlainCut) → owed ≡ None → owed ≡ Some cut → ⊥
not_owed_and_owed owed cut none some = cc

-- a cut that gives no claim back is owed
owed_of : (setup : PlainSetup) (old : PlainState) (cut : PlainCut) → IsDue setup old cut → owed_cut setup old ≢ None → owed_cut setup old ≡ Some cut
owed_of setup old cut (inl owed) some = owed
owed_of setup old cut (inr back) some = absurd (some back.none_owed)

-- such a cut is determined, and none follows it
cut_same : (setup : PlainSetup) (old : PlainState) (number number' : ℕ) (new new' : PlainState) → old.cut ≡ None → owed_cut setup old ≢ None → MayCut setup old number new → MayCut setup old number' new' → IsSameEvent (cut_made number) (cut_made number') new new' × IsPhase setup new
cut_same setup old number number' new new' uncut some a b =
    let first = owed_of setup old a.cut a.due some in
    let cuts : a.cut ≡ b.cut = same_Some a.cut b.cut (sym first ∙ owed_of setup old b.cut b.due some) in
    let numbers : number ≡ number' = a.number_is ∙ ap (λ (c : PlainCut). c.number) cuts ∙ sym b.number_is in
    let same : MayCut setup old number' new = subst (λ (k : ℕ). MayCut setup old k new) numbers a in
    let owed = owed_is setup old a.cut (uncut_so old.cut uncut) first in
    let left : IsCut setup (left_by setup old a.cut) =
    record { cut = a.cut; stands = refl; closed = done_are_closed (committed_claims setup old) (committed_are_done setup.monitors [] setup.start old.claims); none_owed = left_owes_none setup old a.cut owed } in (
      record { events = ap cut_made numbers; news = cut_is_unique setup old number' new new' same b },
      subst (IsPhase setup) (sym a.new_is) (inr (inr (subst (λ (k : ℕ). IsCut setup (record old { claims = take k old.claims; cut = Some a.cut })) (sym (a.number_is ∙ owed.number_is)) left))),
    )

-- a move leads from a calm state to a calm one
move_stays_calm : (setup : PlainSetup) (old : PlainState) (time : ℕ) (new : PlainState) → IsCalm setup old → MayMove setup old time new → IsCalm setup new
move_stays_calm setup old time new calm c = subst (IsCalm setup) (sym c.new_is) (record { no_cut = calm.no_cut; closed = calm.closed; in_time = c.in_time })

-- where a claim is made the clock does not move: what is drawn is covered at the clock
claim_or_move : (setup : PlainSetup) (old : PlainState) (seat number time : ℕ) (new new' : PlainState) → MayClaim setup old seat number new → MayMove setup old time new' → ⊥
claim_or_move setup old seat number time new new' a b =
    let same : a.marking ≡ b.marking = same_Some a.marking b.marking (sym a.marking_is ∙ b.marking_is) in
    let P : Marking → Type 0 = λ m. covered setup.net m old.clock a.drawn.element ≡ true in
    not_both (covered setup.net b.marking old.clock a.drawn.element) (subst P same (drawn_now setup old seat number new a)) (b.none_ready a.drawn.element)

calm_same : (setup : PlainSetup) (old : PlainState) (event event' : PlainEvent) (new new' : PlainState) → setup.limits.seats ≡ 1 → IsCalm setup old → IsOwedIfCut setup old event → IsOwedIfCut setup old event' → Happens setup old event new → Happens setup old event' new' → IsSameEvent event event' new new' × IsPhase setup new
calm_same setup old (claim_made seat number) (claim_made seat' number') new new' one calm ca cb a b =
    let same = claim_is_determined setup old seat number seat' number' new new' one a b in
    (record { events = ap₂ claim_made same.seats same.numbers; news = same.news }, inr (inl (claim_makes_busy setup old seat number new one calm a)))
calm_same setup old (claim_made seat number) (claim_completed seat' number') new new' one calm ca cb a b = absurd (none_completes_calmly setup old seat' number' new' calm b)
calm_same setup old (claim_made seat number) (clock_moved time') new new' one calm ca cb a b = absurd (claim_or_move setup old seat number time' new new' a b)
calm_same setup old (claim_made seat number) (cut_made number') new new' one calm ca cb a b = absurd (cb a.none_owed)
calm_same setup old (claim_completed seat number) event' new new' one calm ca cb a b = absurd (none_completes_calmly setup old seat number new calm a)
calm_same setup old (clock_moved time) (claim_made seat' number') new new' one calm ca cb a b = absurd (claim_or_move setup old seat' number' time new' new b a)
calm_same setup old (clock_moved time) (claim_completed seat' number') new new' one calm ca cb a b = absurd (none_completes_calmly setup old seat' number' new' calm b)
calm_same setup old (clock_moved time) (clock_moved time') new new' one calm ca cb a b =
    let same = move_is_unique setup old time time' new new' a b in
    (record { events = ap clock_moved same.0; news = same.1 }, inl (move_stays_calm setup old time new calm a))
calm_same setup old (clock_moved time) (cut_made number') new new' one calm ca cb a b = absurd (cb a.none_owed)
calm_same setup old (cut_made number) (claim_made seat' number') new new' one calm ca cb a b = absurd (ca b.none_owed)
calm_same setup old (cut_made number) (claim_completed seat' number') new new' one calm ca cb a b = absurd (none_completes_calmly setup old seat' number' new' calm b)
calm_same setup old (cut_made number) (clock_moved time') new new' one calm ca cb a b = absurd (ca b.none_owed)
calm_same setup old (cut_made number) (cut_made number') new new' one calm ca cb a b = cut_same setup old number number' new new' calm.no_cut ca a b

open_is_found : (before : List PlainClaim) (last : PlainClaim) → is_open last.status ≡ true → list_any (λ claim. is_open claim.status) (before ++ last ∷ []) ≡ true
open_is_found [] last opened = rw opened refl
open_is_found (k ∷ ks) last opened = later (is_open k.status) (list_any (λ claim. is_open claim.status) (ks ++ last ∷ [])) (open_is_found ks last opened)
  where
    later : (a b : Bool) → b ≡ true → (a || b) ≡ true
    later true b is = refl
    later false b is = is

-- a claim is open in a busy state
busy_is_open : (setup : PlainSetup) (state : PlainState) → IsBusy setup state → list_any (λ claim. is_open claim.status) state.claims ≡ true
busy_is_open setup state busy = subst (λ cs. list_any (λ claim. is_open claim.status) cs ≡ true) (sym busy.claims_are) (open_is_found busy.before busy.last busy.last_open)

none_moves_busily : (setup : PlainSetup) (old : PlainState) (time : ℕ) (new : PlainState) → IsBusy setup old → MayMove setup old time new → ⊥
none_moves_busily setup old time new busy c = not_both (list_any (λ claim. is_open claim.status) old.claims) (busy_is_open setup old busy) c.none_open

busy_same : (setup : PlainSetup) (old : PlainState) (event event' : PlainEvent) (new new' : PlainState) → setup.limits.seats ≡ 1 → IsBusy setup old → IsOwedIfCut setup old event → IsOwedIfCut setup old event' → Happens setup old event new → Happens setup old event' new' → IsSameEvent event event' new new' × IsPhase setup new
busy_same setup old (claim_completed seat number) (claim_completed seat' number') new new' one busy ca cb a b =
    let same = completion_is_determined setup old seat number seat' number' new new' busy a b in
    (record { events = ap₂ claim_completed same.seats same.numbers; news = same.news }, inl (completion_makes_calm setup old seat number new busy a))
busy_same setup old (claim_completed seat number) (claim_made seat' number') new new' one busy ca cb a b = absurd (none_claims_busily setup old seat' number' new' one busy b)
busy_same setup old (claim_completed seat number) (clock_moved time') new new' one busy ca cb a b = absurd (none_moves_busily setup old time' new' busy b)
busy_same setup old (claim_completed seat number) (cut_made number') new new' one busy ca cb a b = absurd (cb a.none_owed)
busy_same setup old (claim_made seat number) event' new new' one busy ca cb a b = absurd (none_claims_busily setup old seat number new one busy a)
busy_same setup old (clock_moved time) event' new new' one busy ca cb a b = absurd (none_moves_busily setup old time new busy a)
busy_same setup old (cut_made number) (claim_made seat' number') new new' one busy ca cb a b = absurd (none_claims_busily setup old seat' number' new' one busy b)
busy_same setup old (cut_made number) (claim_completed seat' number') new new' one busy ca cb a b = absurd (ca b.none_owed)
busy_same setup old (cut_made number) (clock_moved time') new new' one busy ca cb a b = absurd (none_moves_busily setup old time' new' busy b)
busy_same setup old (cut_made number) (cut_made number') new new' one busy ca cb a b = cut_same setup old number number' new new' busy.no_cut ca a b

-- where no claim is open and no cut is owed none may be made
none_is_due : (setup : PlainSetup) (old : PlainState) (cut : PlainCut) → AreClosed old.claims → owed_cut setup old ≡ None → IsDue setup old cut → ⊥
none_is_due setup old cut closed none_owed (inl owed) = not_owed_and_owed (owed_cut setup old) cut none_owed owed
none_is_due setup old cut closed none_owed (inr back) = not_both (is_open back.claim.status) back.opened (closed_at old.claims cut.number back.claim closed back.claim_is)

-- after the cut nothing happens
none_after_cut : (setup : PlainSetup) (old : PlainState) (event : PlainEvent) (new : PlainState) → IsCut setup old → Happens setup old event new → ⊥
none_after_cut setup old (claim_made seat number) new over a = not_owed_and_owed old.cut over.cut a.no_cut over.stands
none_after_cut setup old (claim_completed seat number) new over a =
    not_both (is_open a.held_claim.status) (held_is_open seat a.held_claim a.held).0 (closed_at old.claims number a.held_claim over.closed a.claim_is)
none_after_cut setup old (clock_moved time) new over a = not_owed_and_owed old.cut over.cut a.no_cut over.stands
none_after_cut setup old (cut_made number) new over a = none_is_due setup old a.cut over.closed over.none_owed a.due

one_event : (setup : PlainSetup) (old : PlainState) (event event' : PlainEvent) (new new' : PlainState) → setup.limits.seats ≡ 1 → IsPhase setup old → IsOwedIfCut setup old event → IsOwedIfCut setup old event' → Happens setup old event new → Happens setup old event' new' → IsSameEvent event event' new new' × IsPhase setup new
one_event setup old event event' new new' one (inl calm) ca cb a b = calm_same setup old event event' new new' one calm ca cb a b
one_event setup old event event' new new' one (inr (inl busy)) ca cb a b = busy_same setup old event event' new new' one busy ca cb a b
one_event setup old event event' new new' one (inr (inr over)) ca cb a b = absurd (none_after_cut setup old event new over a)

-- a busy state has no end
pub busy_has_no_end : (setup : PlainSetup) (state : PlainState) (cause : PlainEnd) → IsBusy setup state → EndsBy setup state cause → ⊥
busy_has_no_end setup state cause busy ends = not_both (list_any (λ claim. is_open claim.status) state.claims) (busy_is_open setup state busy) ends.none_open

-- the cause of the end of a calm state
calm_cause : (setup : PlainSetup) (state : PlainState) (cause : PlainEnd) → IsCalm setup state → EndsBy setup state cause → HasCause setup state cause
calm_cause setup state cause calm ends =
    let P : Option PlainCut → Type 0 = λ cut. MatchOption cut (HasCause setup state cause) (λ c. cause ≡ c.cause) in
    subst P calm.no_cut ends.has_cause

-- the marking that the claims of a state leave is one
one_unclaimed : (setup : PlainSetup) (state : PlainState) (m k : Marking) → unclaimed_in setup state ≡ Some m → unclaimed_in setup state ≡ Some k → m ≡ k
one_unclaimed setup state m k first second = same_Some m k (sym first ∙ second)

no_claim_at_end : (setup : PlainSetup) (state : PlainState) (cause : PlainEnd) (seat number : ℕ) (new : PlainState) → state.clock ≤ setup.limits.until → HasCause setup state cause → MayClaim setup state seat number new → ⊥
no_claim_at_end setup state steps_made seat number new in_time has c =
    let below : number < setup.limits.steps = c.below_limit in
    let is : number ≡ length state.claims = c.next_number in
    let all : length state.claims ≡ setup.limits.steps = has in
    absurd (omega arith)
no_claim_at_end setup state dead seat number new in_time has c =
    let P : Marking → Type 0 = λ m. covered setup.net m state.clock c.drawn.element ≡ true in
    not_both (covered setup.net has.1.0 state.clock c.drawn.element) (subst P (one_unclaimed setup state c.marking has.1.0 c.marking_is has.1.1) (drawn_now setup state seat number new c)) (has.1.2 state.clock c.drawn.element)
no_claim_at_end setup state (until_passed time) seat number new in_time has c =
    let past : setup.limits.until < time = has.1 in
    let P : Marking → Type 0 = λ m. covered setup.net m state.clock c.drawn.element ≡ true in
    not_both (covered setup.net has.2.0 state.clock c.drawn.element) (subst P (one_unclaimed setup state c.marking has.2.0 c.marking_is has.2.1) (drawn_now setup state seat number new c))
    (has.2.2.none_earlier state.clock c.drawn.element (omega arith) (omega arith))
no_claim_at_end setup state (fault_end e fault) seat number new in_time has c = has
no_claim_at_end setup state (stopped_by monitor) seat number new in_time has c = has
no_claim_at_end setup state wants_memory seat number new in_time has c = has

no_move_at_end : (setup : PlainSetup) (state : PlainState) (cause : PlainEnd) (time : ℕ) (new : PlainState) → HasCause setup state cause → MayMove setup state time new → ⊥
no_move_at_end setup state steps_made time new has c =
    let below : length state.claims < setup.limits.steps = c.below_limit in
    let all : length state.claims ≡ setup.limits.steps = has in
    absurd (omega arith)
no_move_at_end setup state dead time new has c =
    let P : Marking → Type 0 = λ m. covered setup.net m time c.least.some.0 ≡ true in
    not_both (covered setup.net has.1.0 time c.least.some.0) (subst P (one_unclaimed setup state c.marking has.1.0 c.marking_is has.1.1) c.least.some.1) (has.1.2 time c.least.some.0)
no_move_at_end setup state (until_passed other) time new has c =
    let P : Marking → Type 0 = λ m. LeastTime setup.net m state.clock time in
    let same : time ≡ other = least_is_unique setup.net has.2.0 state.clock time other (subst P (one_unclaimed setup state c.marking has.2.0 c.marking_is has.2.1) c.least) has.2.2 in
    let past : setup.limits.until < other = has.1 in
    let within : time ≤ setup.limits.until = c.in_time in
    absurd (omega arith)
no_move_at_end setup state (fault_end e fault) time new has c = has
no_move_at_end setup state (stopped_by monitor) time new has c = has
no_move_at_end setup state wants_memory time new has c = has

-- a state that has an end has no event
calm_end_has_no_event : (setup : PlainSetup) (state : PlainState) (cause : PlainEnd) (event : PlainEvent) (new : PlainState) → IsCalm setup state → EndsBy setup state cause → Happens setup state event new → ⊥
calm_end_has_no_event setup state cause (claim_made seat number) new calm ends happens = no_claim_at_end setup state cause seat number new calm.in_time (calm_cause setup state cause calm ends) happens
calm_end_has_no_event setup state cause (claim_completed seat number) new calm ends happens = none_completes_calmly setup state seat number new calm happens
calm_end_has_no_event setup state cause (clock_moved time) new calm ends happens = no_move_at_end setup state cause time new (calm_cause setup state cause calm ends) happens
calm_end_has_no_event setup state cause (cut_made number) new calm ends happens = none_is_due setup state happens.cut calm.closed ends.none_owed happens.due

pub end_has_no_event : (setup : PlainSetup) (state : PlainState) (cause : PlainEnd) (event : PlainEvent) (new : PlainState) → IsPhase setup state → EndsBy setup state cause → Happens setup state event new → ⊥
end_has_no_event setup state cause event new (inl calm) ends happens = calm_end_has_no_event setup state cause event new calm ends happens
end_has_no_event setup state cause event new (inr (inl busy)) ends happens = busy_has_no_end setup state cause busy ends
end_has_no_event setup state cause event new (inr (inr over)) ends happens = none_after_cut setup state event new over happens

-- Two journals that have an end, from one state of a run of one seat, are the same and lead to the same state.
pub record IsSameEnd (journal journal' : List PlainEvent) (state state' : PlainState) : Type 0 where
  pub journals : journal ≡ journal'
  pub states : state ≡ state'

moved_ends : (setup : PlainSetup) (old state : PlainState) (cause : PlainEnd) → state ≡ old → EndsBy setup state cause → EndsBy setup old cause
moved_ends setup old state cause same ends = let P : PlainState → Type 0 = λ s. EndsBy setup s cause in subst P same ends

-- ---- a claim that is given back

-- a cut for want of memory, where no claim is left open, is the end
ends_by_memory : (setup : PlainSetup) (old : PlainState) (cut : PlainCut) (J : List PlainEvent) (s : PlainState) (cause : PlainEnd) → IsCut setup old → old.cut ≡ Some cut → Leads setup old J s → EndsBy setup s cause → cause ≡ cut.cause
ends_by_memory setup old cut [] s cause over stands leads ends =
    let P : Option PlainCut → Type 0 = λ c. MatchOption c (HasCause setup old cause) (λ k. cause ≡ k.cause) in
    subst P stands (moved_ends setup old s cause leads ends).has_cause
ends_by_memory setup old cut (event ∷ J) s cause over stands leads ends = absurd (none_after_cut setup old event leads.0 over leads.1)

-- the claim of a busy state that is given back leaves none open
back_is_cut : (setup : PlainSetup) (old : PlainState) (cut : PlainCut) → IsBusy setup old → GivesBack setup old cut → IsCut setup (left_after old cut)
back_is_cut setup old cut busy back =
    let P : List PlainClaim → Type 0 = λ cs. slice_get cs cut.number ≡ Some back.claim in
    let at = open_is_last busy.before busy.last back.claim cut.number busy.closed (subst P busy.claims_are back.claim_is) back.opened in
    let left : take cut.number old.claims ≡ busy.before = ap₂ take at.0 busy.claims_are ∙ take-append_seam busy.before (busy.last ∷ []) in
    record { cut = cut; stands = refl; closed = subst AreClosed (sym left) busy.closed; none_owed = still_owes_none setup old cut back (uncut_so old.cut busy.no_cut) }

-- in a run of one seat that ends, unless for want of memory, no claim is given back
not_back
    : (setup : PlainSetup) (old : PlainState) (event : PlainEvent) (new : PlainState) (J : List PlainEvent) (s : PlainState) (cause : PlainEnd)
    → IsPhase setup old
    → Happens setup old event new
    → Leads setup new J s
    → EndsBy setup s cause
    → cause ≢ wants_memory
    → IsOwedIfCut setup old event
not_back setup old (claim_made seat number) new J s cause phase happens leads ends other = tt
not_back setup old (claim_completed seat number) new J s cause phase happens leads ends other = tt
not_back setup old (clock_moved time) new J s cause phase happens leads ends other = tt
not_back setup old (cut_made number) new J s cause phase happens leads ends other = by phase happens.due
  where
    by : IsPhase setup old → IsDue setup old happens.cut → owed_cut setup old ≢ None
    by phase (inl owed) = λ none. not_owed_and_owed (owed_cut setup old) happens.cut none owed
    by (inl calm) (inr back) = absurd (none_is_due setup old happens.cut calm.closed back.none_owed (inr back))
    by (inr (inr over)) (inr back) = absurd (none_is_due setup old happens.cut over.closed over.none_owed (inr back))
    by (inr (inl busy)) (inr back) =
        let new_is : new ≡ left_after old happens.cut = happens.new_is ∙ ap (λ k. record old { claims = take k old.claims; cut = Some happens.cut }) happens.number_is in
        let P : PlainState → Type 0 = λ mid. Leads setup mid J s in
        absurd (other (ends_by_memory setup (left_after old happens.cut) happens.cut J s cause (back_is_cut setup old happens.cut busy back) refl (subst P new_is leads) ends ∙ back.cause_is))

pub same_journal
    : (setup : PlainSetup) (old : PlainState) (J J' : List PlainEvent) (s s' : PlainState) (cause cause' : PlainEnd)
    → setup.limits.seats ≡ 1
    → IsPhase setup old
    → Leads setup old J s
    → EndsBy setup s cause
    → cause ≢ wants_memory
    → Leads setup old J' s'
    → EndsBy setup s' cause'
    → cause' ≢ wants_memory
    → IsSameEnd J J' s s'
same_journal setup old [] [] s s' cause cause' one phase a ends other b ends' other' = record { journals = refl; states = a ∙ sym b }
same_journal setup old [] (event ∷ J') s s' cause cause' one phase a ends other b ends' other' = absurd (end_has_no_event setup old cause event b.0 phase (moved_ends setup old s cause a ends) b.1)
same_journal setup old (event ∷ J) [] s s' cause cause' one phase a ends other b ends' other' = absurd (end_has_no_event setup old cause' event a.0 phase (moved_ends setup old s' cause' b ends') a.1)
same_journal setup old (event ∷ J) (event' ∷ J') s s' cause cause' one phase a ends other b ends' other' =
    let same = one_event setup old event event' a.0 b.0 one phase (not_back setup old event a.0 J s cause phase a.1 a.2 ends other) (not_back setup old event' b.0 J' s' cause' phase b.1 b.2 ends' other') a.1 b.1 in
    let P : PlainState → Type 0 = λ mid. Leads setup mid J' s' in
    let rest = same_journal setup a.0 J J' s s' cause cause' one same.1 a.2 ends other (subst P (sym same.0.news) b.2) ends' other' in
    record { journals = ap₂ (λ e es. e ∷ es) same.0.events rest.journals; states = rest.states }
