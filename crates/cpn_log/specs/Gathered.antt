-- How changes are gathered: those of needs, of outputs, of an exchange, and of all that claims take and add; each once. Source: own choice.
use Rattle.std.specs.Prelude.{ℕ, ◌==◌, Bool, true, false, ◌&&◌, not, if◌then◌else◌, List, [], ◌∷◌, ◌++◌, map}
use Rattle.std.specs.declared.cmp.Ordering.{Ordering}
use Rattle.std.specs.declared.cmp.Ordering.TheVariants.{Less, Equal, Greater}
use Rattle.cpn_definitions.specs.Marking.{Marking, tokens_at, stamps}
use Rattle.cpn_definitions.specs.Occurrence.{Needed, Made, made_cmp}
use Rattle.cpn_tmset.specs.Changed.{PlainChange, is_change}
use Rattle.cpn_runs.specs.HoleRun.{PlainClaim, added}

-- whether they are the same place and value
abbrev pub same_change : PlainChange → PlainChange → Bool
same_change change other = is_change change.place change.value other

-- whether the list begins with it, and whether it ends with it
abbrev pub begins_with : PlainChange → List PlainChange → Bool
begins_with change [] = false
begins_with change (other ∷ others) = same_change change other

abbrev pub ends_with : PlainChange → List PlainChange → Bool
ends_with change [] = false
ends_with change (other ∷ []) = same_change change other
ends_with change (other ∷ next ∷ others) = ends_with change (next ∷ others)

-- one more at the end, unless the list ends with it
abbrev pub and_then : PlainChange → List PlainChange → List PlainChange
and_then change changes = if ends_with change changes then changes else changes ++ change ∷ []

-- those that stand together, each once
abbrev pub each_once : List PlainChange → List PlainChange
each_once [] = []
each_once (change ∷ changes) = if begins_with change changes then each_once changes else change ∷ each_once changes

-- whether two lists of stamps are the same
abbrev pub same_stamps : List ℕ → List ℕ → Bool
same_stamps [] [] = true
same_stamps [] (t ∷ ts) = false
same_stamps (s ∷ ss) [] = false
same_stamps (s ∷ ss) (t ∷ ts) = (s == t) && same_stamps ss ts

-- whether the stamps of the value on the place differ
abbrev pub differs : Marking → Marking → PlainChange → Bool
differs old new change = not (same_stamps (stamps change.value (tokens_at old change.place)) (stamps change.value (tokens_at new change.place)))

-- the place and value of a token that is needed, and of one that was made
abbrev pub need_change : Needed → PlainChange
need_change need = record { place = need.place; value = need.value }

abbrev pub made_change : Made → PlainChange
made_change made = record { place = made.place; value = made.value }

-- the places and values of the tokens that claims take and add
abbrev pub touched_by : PlainClaim → List PlainChange
touched_by claim = map need_change claim.needs ++ map made_change (added claim.status)

abbrev pub touched : List PlainClaim → List PlainChange
touched [] = []
touched (claim ∷ claims) = touched_by claim ++ touched claims

-- the token that a need took, with its stamp
abbrev pub token_taken : Needed → ℕ → Made
token_taken need stamp = record { place = need.place; value = need.value; stamp = stamp }

-- the tokens that needs took with these stamps, one after another
abbrev pub tokens_taken : List Needed → List ℕ → List Made
tokens_taken [] stamps = []
tokens_taken (need ∷ needs) [] = []
tokens_taken (need ∷ needs) (stamp ∷ stamps) = token_taken need stamp ∷ tokens_taken needs stamps

-- the first, the second or the third, as two items compare
abbrev pub as_compared : {X : Type 0} → Ordering → X → X → X → X
as_compared Less below equal above = below
as_compared Equal below equal above = equal
as_compared Greater below equal above = above

-- Differing: the places and values of the tokens that stand in one of two lists in order and not in the other: a token that was taken
-- and one that is put in, which are equal, go out against each other.
abbrev pub differing : List Made → List Made → List PlainChange
differing [] outputs = map made_change outputs
differing (token ∷ taken) [] = map made_change (token ∷ taken)
differing (token ∷ taken) (made ∷ outputs) =
    as_compared (made_cmp token made) (made_change token ∷ differing taken (made ∷ outputs)) (differing taken outputs) (made_change made ∷ differing (token ∷ taken) outputs)
