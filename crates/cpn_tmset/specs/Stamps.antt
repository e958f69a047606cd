-- Which of sorted time stamps a threshold takes, and which of two stamps it prefers.
-- Source: the timed subtraction of Jensen and Kristensen, chapter 11; which stamp is taken is our own choice.
use Rattle.std.specs.Prelude.{ℕ, Bool, ◌&&◌, if◌then◌else◌, nat_lt, nat_le, List, [], ◌∷◌, Option, Some, None}
use Rattle.cpn_definitions.specs.Marking.{begins_by}

-- of sorted stamps, the largest that is not above a threshold: the one that is taken (`without_latest`)
abbrev pub latest_of : ℕ → List ℕ → Option ℕ
latest_of t [] = None
latest_of t (s ∷ ss) = if begins_by t ss then latest_of t ss else (if nat_le s t then Some s else None)

-- the same where there is one; among stamps that are all above the threshold it is not to be asked for
abbrev pub latest_stamp : ℕ → List ℕ → ℕ
latest_stamp t [] = t
latest_stamp t (s ∷ ss) = if begins_by t ss then latest_stamp t ss else s

-- whether a threshold that took a stamp prefers another one: that is later, and not above the threshold
abbrev pub is_preferred : ℕ → ℕ → ℕ → Bool
is_preferred t taken s = nat_lt taken s && nat_le s t
