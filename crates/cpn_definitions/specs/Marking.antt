-- Markings, and the timed order and subtraction of tokens.
-- Source: timed multisets of Jensen and Kristensen, chapter 11; which stamp is taken is our own choice.
use Rattle.std.specs.Prelude.{◌≡◌, ℕ, Bool, true, false, ◌&&◌, if◌then◌else◌, nat_le, List, [], ◌∷◌, slice_index_or, slice_set}
use Rattle.std.specs.List.{list_any}
use Rattle.std.specs.declared.cmp.Ordering.{Ordering}
use Rattle.std.specs.Ordering.{ordering_then, nat_cmp, is_lt, is_gt}
use Rattle.cpn_definitions.specs.Value.{PlainValue}
use Rattle.cpn_definitions.specs.Order.{value_cmp, same_value}

-- A token: its value and its time stamp. A token of an untimed place has stamp 0.
pub record PlainToken : Type 0 where
  pub value : PlainValue
  pub stamp : ℕ

-- a token of a value with a time stamp
abbrev pub token_at : PlainValue → ℕ → PlainToken
token_at v s = record { value = v; stamp = s }

-- The tokens of one place, sorted by value, then by stamp.
abbrev pub Tokens : Type 0
Tokens = List PlainToken

-- A marking: the tokens of each place.
abbrev pub Marking : Type 0
Marking = List Tokens

-- the tokens on a place; there is none past the last place
abbrev pub tokens_at : Marking → ℕ → Tokens
tokens_at m p = slice_index_or m p []

-- a marking with the tokens of one place changed
abbrev pub on_place : ℕ → (Tokens → Tokens) → Marking → Marking
on_place p change m = slice_set m p (change (tokens_at m p))

-- how two tokens compare: by value, then by stamp
abbrev pub token_cmp : PlainToken → PlainToken → Ordering
token_cmp t u = ordering_then (value_cmp t.value u.value) (nat_cmp t.stamp u.stamp)

-- whether a token may stand before the tokens: it is not above the first of them
abbrev pub MayPrecede : PlainToken → Tokens → Type 0
MayPrecede t [] = Unit {0}
MayPrecede t (u ∷ us) = is_gt (token_cmp t u) ≡ false

-- the tokens are sorted: each may stand before those after it
abbrev pub AreSorted : Tokens → Type 0
AreSorted [] = Unit {0}
AreSorted (t ∷ ts) = MayPrecede t ts × AreSorted ts

-- the tokens of a place with one more, where the order has it
abbrev pub add_token : PlainToken → Tokens → Tokens
add_token t [] = t ∷ []
add_token t (u ∷ us) = if is_lt (token_cmp t u) then t ∷ u ∷ us else u ∷ add_token t us

-- Stamps: the stamps of the tokens of a value, in order.
abbrev pub stamps : PlainValue → Tokens → List ℕ
stamps v [] = []
stamps v (t ∷ ts) = if same_value v t.value then t.stamp ∷ stamps v ts else stamps v ts

-- The timed order, on sorted lists of numbers. Thresholds are covered by stamps where there are at
-- least as many stamps, and each threshold is at least the stamp at its index.
abbrev pub covers : List ℕ → List ℕ → Bool
covers ss [] = true
covers [] (t ∷ ts) = false
covers (s ∷ ss) (t ∷ ts) = nat_le s t && covers ss ts

-- whether sorted stamps begin with one that is not above the threshold
abbrev pub begins_by : ℕ → List ℕ → Bool
begins_by t [] = false
begins_by t (s ∷ ss) = nat_le s t

-- sorted stamps without the largest one that is not above the threshold
abbrev pub without_latest : ℕ → List ℕ → List ℕ
without_latest t [] = []
without_latest t (s ∷ ss) = if begins_by t ss then s ∷ without_latest t ss else (if nat_le s t then ss else s ∷ ss)

-- The timed subtraction, on sorted lists of numbers: for each threshold in turn, the largest remaining
-- stamp that is not above it is taken away.
abbrev pub less : List ℕ → List ℕ → List ℕ
less ss [] = ss
less ss (t ∷ ts) = less (without_latest t ss) ts

-- whether a token has the value and a stamp that is not above the threshold
abbrev pub is_taken_by : PlainValue → ℕ → PlainToken → Bool
is_taken_by v t token = same_value v token.value && nat_le token.stamp t

-- The sorted tokens of a place without the one of the value whose stamp is the largest not above the
-- threshold; unchanged where there is none. The stamps of the value lose their largest one that is not above
-- the threshold, and all else stays.
abbrev pub without_token : PlainValue → ℕ → Tokens → Tokens
without_token v t [] = []
without_token v t (k ∷ ks) = if list_any (is_taken_by v t) ks then k ∷ without_token v t ks else (if is_taken_by v t k then ks else k ∷ ks)
