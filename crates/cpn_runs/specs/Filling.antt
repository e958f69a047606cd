-- Filling: a claim that added nothing adds its outputs, where it stands in the order of claims. What becomes of the picks of the
-- claims behind it, and which tokens are left over. Source: own choice.
use Rattle.std.specs.Prelude.{◌≡◌, ℕ, suc, ◌≤◌, ◌==◌, Bool, ◌&&◌, if◌then◌else◌, List, [], ◌∷◌, ◌++◌, take, drop, Some}
use Rattle.cpn_definitions.specs.Order.{same_value}
use Rattle.cpn_definitions.specs.Occurrence.{Made, add_made}
use Rattle.cpn_tmset.specs.Stamps.{is_preferred}
use Rattle.cpn_runs.specs.HoleRun.{PlainPick, PlainHoleRun, hole_run}
use Rattle.cpn_runs.specs.State.{PlainSetup, PlainState, unclaimed_in}

-- ---- a token and a pick

-- whether a pick is of a token's value, on the token's place
abbrev pub is_of_token : PlainPick → Made → Bool
is_of_token pick made = (pick.place == made.place) && same_value pick.value made.value

-- whether a pick takes a token in exchange for its own: its threshold prefers the token's stamp
abbrev pub takes : PlainPick → Made → Bool
takes pick made = is_of_token pick made && is_preferred pick.threshold pick.stamp made.stamp

-- a pick after a token was carried past it: where it takes the token it has that stamp, else its own
abbrev pub pick_after : Made → PlainPick → PlainPick
pick_after made pick = record pick { stamp = (if takes pick made then made.stamp else pick.stamp) }

-- the token that is carried on past a pick: where the pick takes it, the pick's own in exchange, else the same
abbrev pub past_pick : Made → PlainPick → Made
past_pick made pick = record made { stamp = (if takes pick made then pick.stamp else made.stamp) }

-- ---- a token and the picks of claims, in their order

-- the picks of one claim after a token was carried past them
abbrev pub claim_after : Made → List PlainPick → List PlainPick
claim_after made [] = []
claim_after made (pick ∷ picks) = pick_after made pick ∷ claim_after (past_pick made pick) picks

-- the token that is carried on past them
abbrev pub past_claim : Made → List PlainPick → Made
past_claim made [] = made
past_claim made (pick ∷ picks) = past_claim (past_pick made pick) picks

-- the picks of several claims after a token was carried past them
abbrev pub claims_after : Made → List (List PlainPick) → List (List PlainPick)
claims_after made [] = []
claims_after made (picks ∷ later) = claim_after made picks ∷ claims_after (past_claim made picks) later

-- the token that is carried on past them
abbrev pub past_claims : Made → List (List PlainPick) → Made
past_claims made [] = made
past_claims made (picks ∷ later) = past_claims (past_claim made picks) later

-- ---- outputs, carried one after another past the picks of later claims

-- the picks of the later claims after that
abbrev pub picks_after : List Made → List (List PlainPick) → List (List PlainPick)
picks_after [] later = later
picks_after (made ∷ more) later = picks_after more (claims_after made later)

-- the tokens that are left over: one for each output
abbrev pub carried_past : List Made → List (List PlainPick) → List Made
carried_past [] later = []
carried_past (made ∷ more) later = past_claims made later ∷ carried_past more (claims_after made later)

-- ---- a run of claims

-- the tokens that are left over where claim k adds outputs
abbrev pub left_over : ℕ → List Made → PlainHoleRun → List Made
left_over k outputs run = carried_past outputs (drop (suc k) run.picks)

-- The run of claims in which claim k, which added nothing, adds outputs: the marking has one token more for each output, the claims
-- up to it have their picks, and those behind it the ones that the outputs were carried past.
abbrev pub filled_run : ℕ → List Made → PlainHoleRun → PlainHoleRun
filled_run k outputs run = record { marking = add_made (left_over k outputs run) run.marking; picks = take (suc k) run.picks ++ picks_after outputs (drop (suc k) run.picks) }

-- A token that is left over for an output: of its value, on its place, and not later.
pub record IsLeftFor (made left : Made) : Type 0 where
  pub place : left.place ≡ made.place
  pub value : left.value ≡ made.value
  pub stamp : left.stamp ≤ made.stamp

-- A pick that is kept, but for its stamp, which may be a later one.
pub record IsLaterPick (old new : PlainPick) : Type 0 where
  pub place : new.place ≡ old.place
  pub value : new.value ≡ old.value
  pub threshold : new.threshold ≡ old.threshold
  pub stamp : old.stamp ≤ new.stamp

-- the lists are as long as each other, and it holds of each two items at the same position
abbrev pub EachTwo : {A : Type 0} → (A → A → Type 0) → List A → List A → Type 0
EachTwo R [] [] = Unit {0}
EachTwo R (x ∷ xs) (y ∷ ys) = R x y × EachTwo R xs ys
EachTwo R xs ys = ⊥

-- What it does to a state that claim k, which added nothing, adds outputs: the run of its claims is filled, so the unclaimed
-- marking has one token more for each output, of its value on its place; and each claim has as many picks, of the same values on
-- the same places by the same thresholds.
pub record IsFilled (setup : PlainSetup) (old : PlainState) (k : ℕ) (outputs : List Made) (new : PlainState) : Type 0 where
  pub run : PlainHoleRun
  pub run_was : hole_run setup.start old.claims ≡ Some run
  pub run_is : hole_run setup.start new.claims ≡ Some (filled_run k outputs run)
  pub unclaimed_was : unclaimed_in setup old ≡ Some run.marking
  pub unclaimed_is : unclaimed_in setup new ≡ Some (add_made (left_over k outputs run) run.marking)
  pub left : EachTwo IsLeftFor outputs (left_over k outputs run)
  pub kept : EachTwo (EachTwo IsLaterPick) run.picks (filled_run k outputs run).picks
