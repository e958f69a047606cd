-- What an operation of one operand gives for it.
use Rattle.std.specs.Prelude.{ℕ, pos, length, reverse}
use Rattle.cpn_definitions.specs.Value.{PlainValue, int, list, from_list}
use Rattle.cpn_definitions.specs.Outcome.{Outcome, gives, ◌>>=◌}
use Rattle.cpn_definitions.specs.Operations.{string_in, items_in, components_in, head_in, tail_in, component_at}

abbrev pub head_of : PlainValue → Outcome PlainValue
head_of v = items_in v >>= head_in

abbrev pub tail_of : PlainValue → Outcome PlainValue
tail_of v = items_in v >>= tail_in

abbrev pub length_of : PlainValue → Outcome PlainValue
length_of v = items_in v >>= (λ vs. gives (int (pos (length vs))))

abbrev pub reversed : PlainValue → Outcome PlainValue
reversed v = items_in v >>= (λ vs. gives (list (from_list (reverse vs))))

abbrev pub size_of : PlainValue → Outcome PlainValue
size_of v = string_in v >>= (λ bytes. gives (int (pos (length bytes))))

abbrev pub component_of : ℕ → PlainValue → Outcome PlainValue
component_of k v = components_in v >>= component_at k
