-- Guards with the variables that are found from them, and the answer for the variables of a transition, by computing.
use Rattle.std.proofs.Common.{◌≡◌, refl, ℕ, zero, suc, pos, ◌==◌, Bool, true, false, List, [], ◌∷◌, ◌++◌, None, codes}
use Rattle.cpn_definitions.specs.Value as value
use Rattle.cpn_definitions.specs.Colour.{unit_shape}
use Rattle.cpn_definitions.specs.Inscription.{operation, addition, equality, less_than, cons, tupling, listing, constructing, PlainExpr, literal, variable, apply, conjunction, disjunction, exprs_from, ArcInscription, no_token, one, times, sum_of, chosen, inscriptions_from}
use Rattle.cpn_definitions.specs.Net.{PlainTransition, PlainNet, Coloured}
use Rattle.cpn_typing.specs.Names.{Name, too_many, variables, not_bindable, ok, refused}
use Rattle.cpn_typing.specs.Closure.{stands_in_terms, is_found, answered}

-- variable 0 is known at first: it stands in a binding term
abbrev first : ℕ → Bool
first x = x == 0

abbrev equal : PlainExpr → PlainExpr → PlainExpr
equal e f = apply (operation equality) (exprs_from (e ∷ f ∷ []))

abbrev plus : PlainExpr → PlainExpr → PlainExpr
plus e f = apply (operation addition) (exprs_from (e ∷ f ∷ []))

abbrev var : ℕ → PlainExpr
var = variable

abbrev int : ℕ → PlainExpr
int k = literal (value.int (pos k))

-- what is known at first is found, and nothing else without a guard
known_row : is_found first [] 0 ≡ true
known_row = refl

unknown_row : is_found first [] 1 ≡ false
unknown_row = refl

-- `y = x + 1`, `x + 1 = y`, `y = 7`
equation_row : is_found first (equal (var 1) (plus (var 0) (int 1)) ∷ []) 1 ≡ true
equation_row = refl

other_way_row : is_found first (equal (plus (var 0) (int 1)) (var 1) ∷ []) 1 ≡ true
other_way_row = refl

closed_row : is_found first (equal (var 1) (int 7) ∷ []) 1 ≡ true
closed_row = refl

-- `z = y + x andalso y = x`: the second part first; so in conjuncts of their own
chain_row : is_found first (conjunction (equal (var 2) (plus (var 1) (var 0))) (equal (var 1) (var 0)) ∷ []) 2 ≡ true
chain_row = refl

two_conjuncts_row : is_found first (equal (var 2) (plus (var 1) (var 0)) ∷ equal (var 1) (var 0) ∷ []) 2 ≡ true
two_conjuncts_row = refl

-- `y = z andalso z = y`, `y = y`, `y = z + x`
circle_row : is_found first (conjunction (equal (var 1) (var 2)) (equal (var 2) (var 1)) ∷ []) 1 ≡ false
circle_row = refl

itself_row : is_found first (equal (var 1) (var 1) ∷ []) 1 ≡ false
itself_row = refl

one_source_unknown_row : is_found first (equal (var 1) (plus (var 2) (var 0)) ∷ []) 1 ≡ false
one_source_unknown_row = refl

-- `y + 1 = x`, `y < x`, `y = x orelse y = 1`
no_lone_variable_row : is_found first (equal (plus (var 1) (int 1)) (var 0) ∷ []) 1 ≡ false
no_lone_variable_row = refl

no_equation_row : is_found first (apply (operation less_than) (exprs_from (var 1 ∷ var 0 ∷ [])) ∷ []) 1 ≡ false
no_equation_row = refl

disjunction_row : is_found first (disjunction (equal (var 1) (var 0)) (equal (var 1) (int 1)) ∷ []) 1 ≡ false
disjunction_row = refl

-- ---- binding terms of input arcs

abbrev on_arc : ArcInscription → ℕ → Bool
on_arc m = stands_in_terms (record { name = codes "t"; guard = []; delay = None; inputs = record { place = 0; colour = record { shape = unit_shape; timed = false }; expr = m; terms = [] } ∷ []; outputs = []; vars = [] })

abbrev tuple : List PlainExpr → PlainExpr
tuple es = apply tupling (exprs_from es)

-- `y`, ``2`(x, y)``, `x :: y`, `c(y)`, `[x, y]`
lone_row : on_arc (one (var 1)) 1 ≡ true
lone_row = refl

tuple_row : on_arc (times (int 2) (tuple (var 0 ∷ var 1 ∷ []))) 1 ≡ true
tuple_row = refl

cons_row : on_arc (one (apply (operation cons) (exprs_from (var 0 ∷ var 1 ∷ [])))) 1 ≡ true
cons_row = refl

constructor_row : on_arc (one (apply (constructing 0) (exprs_from (var 1 ∷ [])))) 1 ≡ true
constructor_row = refl

list_row : on_arc (one (apply listing (exprs_from (var 0 ∷ var 1 ∷ [])))) 1 ≡ true
list_row = refl

-- ``0`y``, ``(1 + 1)`y``, ``x`y``, `y + 1`, `(y + 1, y)`
no_token_row : on_arc (times (int 0) (var 1)) 1 ≡ false
no_token_row = refl

no_literal_row : on_arc (times (plus (int 1) (int 1)) (var 1)) 1 ≡ false
no_literal_row = refl

variable_coefficient_row : on_arc (times (var 0) (var 1)) 1 ≡ false
variable_coefficient_row = refl

no_pattern_row : on_arc (one (plus (var 1) (int 1))) 1 ≡ false
no_pattern_row = refl

no_pattern_inside_row : on_arc (one (tuple (plus (var 1) (int 1) ∷ var 1 ∷ []))) 1 ≡ false
no_pattern_inside_row = refl

-- ``(1`x ++ 1`y) ++ 1`z`` binds z alone; ``if true then 1`y else empty`` binds nothing
inner_sum_row : on_arc (sum_of (inscriptions_from (sum_of (inscriptions_from (times (int 1) (var 0) ∷ times (int 1) (var 1) ∷ [])) ∷ times (int 1) (var 2) ∷ []))) 1 ≡ false
inner_sum_row = refl

outer_sum_row : on_arc (sum_of (inscriptions_from (sum_of (inscriptions_from (times (int 1) (var 0) ∷ times (int 1) (var 1) ∷ [])) ∷ times (int 1) (var 2) ∷ []))) 2 ≡ true
outer_sum_row = refl

if_row : on_arc (chosen (literal (value.boolean true)) (times (int 1) (var 1)) no_token) 1 ≡ false
if_row = refl

-- ---- the answer

abbrev named : Name → Coloured
named n = record { name = n; colour = record { shape = unit_shape; timed = false } }

abbrev net : PlainNet
net = record { places = []; transitions = []; variables = named (codes "x") ∷ named (codes "y") ∷ named (codes "z") ∷ []; constants = []; constructors = []; functions = [] }

abbrev with : List PlainExpr → List ℕ → PlainTransition
with guard vars = record { name = codes "t"; guard = guard; delay = None; inputs = []; outputs = []; vars = vars }

-- x, y and z with `y = x`: z is the first that is not bindable
first_row : answered first net (with (equal (var 1) (var 0) ∷ []) (0 ∷ 1 ∷ 2 ∷ [])) ≡ refused (not_bindable (codes "z"))
first_row = refl

-- in declaration order: y comes before z
order_row : answered first net (with [] (0 ∷ 1 ∷ 2 ∷ [])) ≡ refused (not_bindable (codes "y"))
order_row = refl

all_row : answered first net (with (equal (var 1) (var 0) ∷ equal (int 2) (var 2) ∷ []) (0 ∷ 1 ∷ 2 ∷ [])) ≡ ok tt
all_row = refl

-- 32 variables, and 33, of which none but the first is bindable
abbrev from : ℕ → ℕ → List ℕ
from zero k = []
from (suc n) k = from n k ++ k ∷ []

thirty_two_row : answered first net (with [] (from 32 0)) ≡ ok tt
thirty_two_row = refl

thirty_three_row : answered first net (with [] (from 33 1)) ≡ refused (too_many variables)
thirty_three_row = refl
