-- How many operands there are.
use Rattle.std.proofs.Common.{◌≡◌, ◌≢◌, List, [], ◌∷◌, ◌++◌, map, refl}
use Rattle.cpn_definitions.specs.Value.{PlainValue}
use Rattle.cpn_definitions.specs.Outcome.{no_meaning}
use Rattle.cpn_definitions.specs.Operations.{operated}
use Rattle.cpn_core.specs.declared.inscriptions.Op.{Op}
use Rattle.cpn_core.specs.declared.inscriptions.Op.TheVariants as ops
use Rattle.cpn_core.specs.Inscriptions.{op_view}
use Rattle.cpn_eval.specs.declared.held.Held.{Held}
use Rattle.cpn_eval.specs.Held.{held_view}

of_none : (op : Op) → operated (op_view op) [] ≡ no_meaning
of_none ops.Add = refl
of_none ops.Sub = refl
of_none ops.Mul = refl
of_none ops.Div = refl
of_none ops.Mod = refl
of_none ops.Neg = refl
of_none ops.Cat = refl
of_none ops.Eq = refl
of_none ops.Ne = refl
of_none ops.Lt = refl
of_none ops.Le = refl
of_none ops.Gt = refl
of_none ops.Ge = refl
of_none ops.Not = refl
of_none ops.Cons = refl
of_none ops.Append = refl
of_none ops.Head = refl
of_none ops.Tail = refl
of_none ops.Length = refl
of_none ops.Rev = refl
of_none ops.Mem = refl
of_none ops.Size = refl
of_none (ops.Nth k) = refl

of_three : (op : Op) (v w x : PlainValue) (vs : List PlainValue) → operated (op_view op) (v ∷ w ∷ x ∷ vs) ≡ no_meaning
of_three ops.Add v w x vs = refl
of_three ops.Sub v w x vs = refl
of_three ops.Mul v w x vs = refl
of_three ops.Div v w x vs = refl
of_three ops.Mod v w x vs = refl
of_three ops.Neg v w x vs = refl
of_three ops.Cat v w x vs = refl
of_three ops.Eq v w x vs = refl
of_three ops.Ne v w x vs = refl
of_three ops.Lt v w x vs = refl
of_three ops.Le v w x vs = refl
of_three ops.Gt v w x vs = refl
of_three ops.Ge v w x vs = refl
of_three ops.Not v w x vs = refl
of_three ops.Cons v w x vs = refl
of_three ops.Append v w x vs = refl
of_three ops.Head v w x vs = refl
of_three ops.Tail v w x vs = refl
of_three ops.Length v w x vs = refl
of_three ops.Rev v w x vs = refl
of_three ops.Mem v w x vs = refl
of_three ops.Size v w x vs = refl
of_three (ops.Nth k) v w x vs = refl

-- no operand
pub none_given : (op : Op) (vs : List Held) → vs ≡ [] → operated (op_view op) (map held_view vs) ≡ no_meaning
none_given op vs h = rw h (of_none op)

-- the operand that was taken off the end of one is that one
pub one_popped : (vs rest : List Held) (v : Held) → vs ≡ rest ++ v ∷ [] → rest ≡ [] → map held_view vs ≡ held_view v ∷ []
one_popped vs rest v h e = rw (h, e) refl

-- the two that were taken off the end of two are those two
pub two_popped : (vs most rest : List Held) (left right : Held) → vs ≡ most ++ right ∷ [] → most ≡ rest ++ left ∷ [] → rest ≡ [] → map held_view vs ≡ held_view left ∷ held_view right ∷ []
two_popped vs most rest left right h g e = rw (h, g, e) refl

-- more than two operands
pub more_given : (op : Op) (vs most rest : List Held) (left right : Held) → vs ≡ most ++ right ∷ [] → most ≡ rest ++ left ∷ [] → rest ≢ [] → operated (op_view op) (map held_view vs) ≡ no_meaning
more_given op vs most [] left right h g e = absurd (e refl)
more_given op vs most (v ∷ []) left right h g e = rw (h, g) (of_three op (held_view v) (held_view left) (held_view right) [])
more_given op vs most (v ∷ w ∷ []) left right h g e = rw (h, g) (of_three op (held_view v) (held_view w) (held_view left) (held_view right ∷ []))
more_given op vs most (v ∷ w ∷ x ∷ rest) left right h g e = rw (h, g) (of_three op (held_view v) (held_view w) (held_view x) (map held_view ((rest ++ left ∷ []) ++ right ∷ [])))
