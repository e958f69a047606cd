-- A token that is put in ahead of picks: its stamp is carried past them, one after another. Source: own choice.
use Rattle.std.specs.Prelude.{ℕ, Bool, ◌&&◌, if◌then◌else◌, List, [], ◌∷◌}
use Rattle.cpn_definitions.specs.Value.{PlainValue}
use Rattle.cpn_definitions.specs.Order.{same_value}
use Rattle.cpn_tmset.specs.Picks.{PlainPick}
use Rattle.cpn_tmset.specs.Stamps.{is_preferred}

-- whether a pick takes a token of a value with a stamp in exchange for its own: it is of the value, and prefers the stamp
abbrev pub takes : PlainPick → PlainValue → ℕ → Bool
takes pick v s = same_value pick.value v && is_preferred pick.threshold pick.stamp s

-- a pick after that: where it takes the token it has that stamp, else its own
abbrev pub pick_after : PlainValue → ℕ → PlainPick → PlainPick
pick_after v s pick = record pick { stamp = (if takes pick v s then s else pick.stamp) }

-- the stamp that is carried on: where the pick takes the token, the pick's own in exchange, else the same
abbrev pub past_pick : PlainValue → ℕ → PlainPick → ℕ
past_pick v s pick = if takes pick v s then pick.stamp else s

-- the picks after a token was carried past them, one after another
abbrev pub picks_after : PlainValue → ℕ → List PlainPick → List PlainPick
picks_after v s [] = []
picks_after v s (pick ∷ picks) = pick_after v s pick ∷ picks_after v (past_pick v s pick) picks

-- the stamp that is carried on past them all
abbrev pub past_picks : PlainValue → ℕ → List PlainPick → ℕ
past_picks v s [] = s
past_picks v s (pick ∷ picks) = past_picks v (past_pick v s pick) picks
