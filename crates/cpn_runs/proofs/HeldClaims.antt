-- A claim that a seat holds stays while others act, and the seat's events stand in a journal each once.
use Rattle.std.proofs.Common.{◌≡◌, ℕ, zero, suc, ◌<◌, ◌≤◌, ◌==◌, ◌&&◌, eq-eqb, Bool, true, false, cond, List, [], ◌∷◌, ◌++◌, length, take, Some, None, refl, sym, ap, ◌∙◌, subst, inl, inr, ⊎_elim, arith}
use Rattle.std.specs.Prelude.{slice_get, slice_set}
use Rattle.std.proofs.lemmas.Bool.Decides.{nat_tests}
use Rattle.std.proofs.lemmas.List.Elements.{filter-append}
use native.Mathlib.Decide.{dec_le}
use Rattle.cpn_runs.specs.HoleRun.{PlainClaim, is_open}
use Rattle.cpn_runs.specs.State.{PlainSetup, PlainState, PlainCut, PlainEvent, claim_made, claim_completed, clock_moved, cut_made, is_held_by, MayClaim, MayComplete, MayMove, MayCut, IsDue, Happens, Leads}
use Rattle.cpn_runs.specs.SeatEvents.{is_by, events_by}
use Rattle.cpn_runs.specs.HeldClaims.{IsOpenAt, IsCutAt, StaysOrCut, HeldClaimsStay, OwnEventsStandOnce}
use Rattle.cpn_definitions.proofs.ListItems.{place_known}
use Rattle.cpn_runs.proofs.Cuts.{no_more_committed, owed_number}

-- ---- lists

get_longer : {A : Type 0} (xs ys : List A) (i : ℕ) (x : A) → slice_get xs i ≡ Some x → slice_get (xs ++ ys) i ≡ Some x
get_longer [] ys i x e = absurd (cc)
get_longer (y ∷ xs) ys zero x e = e
get_longer (y ∷ xs) ys (suc i) x e = get_longer xs ys i x e

get_else : {A : Type 0} (xs : List A) (i j : ℕ) (x : A) → (j ≡ i → ⊥) → slice_get (slice_set xs i x) j ≡ slice_get xs j
get_else [] i j x ne = refl
get_else (y ∷ xs) zero zero x ne = absurd (ne refl)
get_else (y ∷ xs) zero (suc j) x ne = refl
get_else (y ∷ xs) (suc i) zero x ne = refl
get_else (y ∷ xs) (suc i) (suc j) x ne = get_else xs i j x (λ e. ne (ap suc e))

get_taken : {A : Type 0} (xs : List A) (k i : ℕ) (x : A) → i < k → slice_get xs i ≡ Some x → slice_get (take k xs) i ≡ Some x
get_taken [] k i x lt e = absurd (cc)
get_taken (y ∷ xs) zero i x lt e = absurd (omega arith)
get_taken (y ∷ xs) (suc k) zero x lt e = e
get_taken (y ∷ xs) (suc k) (suc i) x lt e = get_taken xs k i x (omega arith) e

set_length : {A : Type 0} (xs : List A) (i : ℕ) (x : A) → length (slice_set xs i x) ≡ length xs
set_length [] i x = refl
set_length (y ∷ xs) zero x = refl
set_length (y ∷ xs) (suc i) x = ap suc (set_length xs i x)

take_length : {A : Type 0} (k : ℕ) (xs : List A) → (length (take k xs) ≤ k) × (length (take k xs) ≤ length xs)
take_length zero xs = (omega arith, omega arith)
take_length (suc k) [] = (omega arith, omega arith)
take_length (suc k) (x ∷ xs) = let r = take_length k xs in let a = r.0 in let b = r.1 in (omega arith, omega arith)

both_right : (a b : Bool) → (a && b) ≡ true → b ≡ true
both_right true b h = h
both_right false b h = absurd (cc)

pub held_seat : (seat : ℕ) (claim : PlainClaim) → is_held_by seat claim ≡ true → claim.seat ≡ seat
held_seat seat claim h = let a : (claim.seat == seat) ≡ true = both_right (is_open claim.status) (claim.seat == seat) h in grind (arith, nat_tests)

none_here : (b : Bool) (e : PlainEvent) (es : List PlainEvent) → cond b (e ∷ es) es ≡ [] → (b ≡ false) × (es ≡ [])
none_here true e es h = absurd (cc)
none_here false e es h = (refl, h)

the_same : {A : Type 0} (x y : A) → Some x ≡ Some y → x ≡ y
the_same x y e = cc

-- ---- one event

-- a claim that another seat completes is another one
after_completion : (setup : PlainSetup) (old new : PlainState) (seat n number : ℕ) (claim : PlainClaim) → (seat == claim.seat) ≡ false → MayComplete setup old seat n new → IsOpenAt old number claim → IsOpenAt new number claim
after_completion setup old new seat n number claim isnt m o =
    let apart : number ≡ n → ⊥ = λ e.
    let held : m.held_claim ≡ claim = the_same _ _ (sym m.claim_is ∙ sym (ap (λ i. slice_get old.claims i) e) ∙ o.claim_is) in
    let by : claim.seat ≡ seat = sym (ap (λ (c : PlainClaim). c.seat) held) ∙ held_seat seat m.held_claim m.held in
    let off : false ≡ true = sym isnt ∙ eq-eqb seat claim.seat (sym by) in
    absurd (cc) in
    record {
      claim_is = ap (λ (s : PlainState). slice_get s.claims number) m.new_is ∙ get_else old.claims n number _ apart ∙ o.claim_is;
      still_open = o.still_open;
    }

after_claiming : (setup : PlainSetup) (old new : PlainState) (seat n number : ℕ) (claim : PlainClaim) → MayClaim setup old seat n new → IsOpenAt old number claim → IsOpenAt new number claim
after_claiming setup old new seat n number claim m o = record {
  claim_is = ap (λ (s : PlainState). slice_get s.claims number) m.new_is ∙ get_longer old.claims _ number claim o.claim_is;
  still_open = o.still_open;
}

after_move : (setup : PlainSetup) (old new : PlainState) (time number : ℕ) (claim : PlainClaim) → MayMove setup old time new → IsOpenAt old number claim → IsOpenAt new number claim
after_move setup old new time number claim m o = record { claim_is = ap (λ (s : PlainState). slice_get s.claims number) m.new_is ∙ o.claim_is; still_open = o.still_open }

after_cut : (setup : PlainSetup) (old new : PlainState) (k number : ℕ) (claim : PlainClaim) → MayCut setup old k new → IsOpenAt old number claim → StaysOrCut new number claim
after_cut setup old new k number claim m o = by_place (dec_le k number)
  where
    claims_are : new.claims ≡ take k old.claims
    claims_are = ap (λ (s : PlainState). s.claims) m.new_is

    by_place : Dec (k ≤ number) → StaysOrCut new number claim
    by_place (yes le) =
        let short = (take_length k old.claims).0 in
        let long = ap length claims_are in
        let at = m.number_is in
        inr (record { cut = m.cut; cut_is = ap (λ (s : PlainState). s.cut) m.new_is; at_or_below = omega arith; gone = omega arith })
    by_place (no above) = inl (record { claim_is = ap (λ (cs : List PlainClaim). slice_get cs number) claims_are ∙ get_taken old.claims k number claim (omega arith) o.claim_is; still_open = o.still_open })

-- a cut lies at or below the number of claims
within : (setup : PlainSetup) (old : PlainState) (cut : PlainCut) → IsDue setup old cut → cut.number ≤ length old.claims
within setup old cut (inl owed) =
    let few = no_more_committed setup.monitors [] setup.start old.claims in
    let is = owed_number setup old cut owed in
    omega (arith, few, is)
within setup old cut (inr back) =
    let known = place_known old.claims cut.number back.claim back.claim_is in
    omega (arith, known)

-- after a cut there are no further claims, and a later cut lies at or below it
still_cut : (setup : PlainSetup) (old new : PlainState) (event : PlainEvent) (number : ℕ) → Happens setup old event new → IsCutAt old number → IsCutAt new number
still_cut setup old new (claim_made seat n) number m c = let e : Some c.cut ≡ None = sym c.cut_is ∙ m.no_cut in absurd (cc)
still_cut setup old new (claim_completed seat n) number m c =
    let long = ap (λ (s : PlainState). length s.claims) m.new_is ∙ set_length old.claims n _ in
    let gone = c.gone in
    record { cut = c.cut; cut_is = ap (λ (s : PlainState). s.cut) m.new_is ∙ c.cut_is; at_or_below = c.at_or_below; gone = omega arith }
still_cut setup old new (clock_moved time) number m c = let e : Some c.cut ≡ None = sym c.cut_is ∙ m.no_cut in absurd (cc)
still_cut setup old new (cut_made k) number m c =
    let most = within setup old m.cut m.due in
    let gone = c.gone in
    let short = (take_length k old.claims).1 in
    let long = ap (λ (s : PlainState). length s.claims) m.new_is in
    record { cut = m.cut; cut_is = ap (λ (s : PlainState). s.cut) m.new_is; at_or_below = omega arith; gone = omega arith }

one_event : (setup : PlainSetup) (old new : PlainState) (event : PlainEvent) (number : ℕ) (claim : PlainClaim) → is_by claim.seat event ≡ false → Happens setup old event new → StaysOrCut old number claim → StaysOrCut new number claim
one_event setup old new event number claim isnt m = ⊎_elim (λ (o : IsOpenAt old number claim). open_one event isnt m o) (λ (c : IsCutAt old number). inr (still_cut setup old new event number m c))
  where
    open_one : (event : PlainEvent) → is_by claim.seat event ≡ false → Happens setup old event new → IsOpenAt old number claim → StaysOrCut new number claim
    open_one (claim_made seat n) isnt m o = inl (after_claiming setup old new seat n number claim m o)
    open_one (claim_completed seat n) isnt m o = inl (after_completion setup old new seat n number claim isnt m o)
    open_one (clock_moved time) isnt m o = inl (after_move setup old new time number claim m o)
    open_one (cut_made k) isnt m o = after_cut setup old new k number claim m o

-- ---- all events

stays : (setup : PlainSetup) (old new : PlainState) (others : List PlainEvent) (number : ℕ) (claim : PlainClaim) → events_by claim.seat others ≡ [] → Leads setup old others new → StaysOrCut old number claim → StaysOrCut new number claim
stays setup old new [] number claim apart leads h = subst (λ s. StaysOrCut s number claim) (sym leads) h
stays setup old new (event ∷ events) number claim apart leads h =
    let first = none_here (is_by claim.seat event) event (events_by claim.seat events) apart in
    stays setup leads.0 new events number claim first.1 leads.2 (one_event setup old leads.0 event number claim first.0 leads.1 h)

pub held_claims_stay : HeldClaimsStay
held_claims_stay setup old new others number claim o apart leads = stays setup old new others number claim apart leads (inl o)

pub own_events_stand_once : OwnEventsStandOnce
own_events_stand_once seat seen others own apart =
    filter-append (is_by seat) seen (others ++ own)
    ∙ ap (λ (l : List PlainEvent). events_by seat seen ++ l)
    (filter-append (is_by seat) others own ∙ ap (λ (l : List PlainEvent). l ++ events_by seat own) apart)
