-- The different values of the tokens of a place, and its equal tokens counted.
-- Source: own choice.
use Rattle.std.specs.Prelude.{ℕ, ◌+◌, Bool, true, not, ◌&&◌, ◌==◌, if◌then◌else◌, List, [], ◌∷◌}
use Rattle.cpn_definitions.specs.Value.{PlainValue}
use Rattle.cpn_definitions.specs.Order.{same_value}
use Rattle.cpn_definitions.specs.Marking.{PlainToken, Tokens}

-- whether no token of the same value follows
abbrev pub is_last_of : PlainToken → Tokens → Bool
is_last_of k [] = true
is_last_of k (l ∷ ls) = not (same_value k.value l.value)

-- the values of sorted tokens, each once
abbrev pub values_of : Tokens → List PlainValue
values_of [] = []
values_of (k ∷ ks) = if is_last_of k ks then k.value ∷ values_of ks else values_of ks

-- Equal tokens that stand together, and how many there are.
pub record Group : Type 0 where
  pub token : PlainToken
  pub count : ℕ

-- whether two tokens have the same value and the same stamp
abbrev pub same_token : PlainToken → PlainToken → Bool
same_token t u = same_value t.value u.value && (t.stamp == u.stamp)

-- groups with one more token in front
abbrev pub grouped_with : PlainToken → List Group → List Group
grouped_with t [] = record { token = t; count = 1 } ∷ []
grouped_with t (g ∷ gs) = if same_token t g.token then record { token = g.token; count = g.count + 1 } ∷ gs else record { token = t; count = 1 } ∷ g ∷ gs

-- the tokens of a place, equal ones counted
abbrev pub groups : Tokens → List Group
groups [] = []
groups (t ∷ ts) = grouped_with t (groups ts)
