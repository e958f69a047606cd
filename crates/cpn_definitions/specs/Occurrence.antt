-- When a binding element is enabled, and what its occurrence does.
-- Source: the enabling and occurrence rules of Jensen and Kristensen, chapters 4 and 11. That a fault of a
-- guard or an input inscription means not enabled, and which stamp is taken, are our own choice.
use Rattle.std.specs.Prelude.{ℕ, ◌+◌, ◌==◌, Bool, true, false, ◌&&◌, if◌then◌else◌, nat_lt, List, [], ◌∷◌, ◌++◌, length, map, replicate, Option, Some, None}
use Rattle.std.specs.List.{filter, list_all, flat_map}
use Rattle.std.specs.declared.cmp.Ordering.{Ordering}
use Rattle.std.specs.Ordering.{ordering_then, nat_cmp}
use Rattle.cpn_definitions.specs.Value.{PlainValue}
use Rattle.cpn_definitions.specs.Order.{value_cmp, same_value}
use Rattle.cpn_definitions.specs.Colour.{admits}
use Rattle.cpn_definitions.specs.Lists.{in_order}
use Rattle.cpn_definitions.specs.Marking.{Marking, tokens_at, on_place, token_at, add_token, without_token, stamps, covers}
use Rattle.cpn_definitions.specs.Outcome.{Outcome, gives, ◌>>=◌, gives_and}
use Rattle.cpn_definitions.specs.Inscription.{PlainExpr, Functions}
use Rattle.cpn_definitions.specs.Net.{PlainArc, PlainNet, is_timed, variable_at, transition_at}
use Rattle.cpn_definitions.specs.Meaning.{PlainBinding, meaning, is_true}
use Rattle.cpn_definitions.specs.Terms.{terms_of, delay_of}

-- A binding element: a transition by its number, and a binding.
pub record PlainElement : Type 0 where
  pub transition : ℕ
  pub binding : PlainBinding

-- A token that an element needs: its place, its value, and by how much its stamp may be above the time.
pub record Needed : Type 0 where
  pub place : ℕ
  pub value : PlainValue
  pub offset : ℕ

-- A token that an element makes: its place, value and time stamp.
pub record Made : Type 0 where
  pub place : ℕ
  pub value : PlainValue
  pub stamp : ℕ

-- how two needed tokens compare: by place, then by value, then by offset
abbrev pub needed_cmp : Needed → Needed → Ordering
needed_cmp need other = ordering_then (nat_cmp need.place other.place) (ordering_then (value_cmp need.value other.value) (nat_cmp need.offset other.offset))

-- how two made tokens compare: by place, then by value, then by stamp
abbrev pub made_cmp : Made → Made → Ordering
made_cmp made other = ordering_then (nat_cmp made.place other.place) (ordering_then (value_cmp made.value other.value) (nat_cmp made.stamp other.stamp))

-- what the arcs give, one after another, or the first fault
abbrev pub gather : {A : Type 0} → (PlainArc → Outcome (List A)) → List PlainArc → Outcome (List A)
gather f [] = gives []
gather f (arc ∷ arcs) = do
  xs ← f arc
  ys ← gather f arcs
  gives (xs ++ ys)

-- ---- needs

-- the tokens that one input arc needs, each term as many times as its count says; no input inscription reads the time
abbrev pub needed_by : Functions → PlainBinding → PlainArc → Outcome (List Needed)
needed_by funs b arc = do
  terms ← terms_of funs arc.expr arc.colour b 0
  gives (flat_map (λ term. replicate term.count (record { place = arc.place; value = term.value; offset = term.delay })) terms)

-- Need: the tokens that the input arcs of an element's transition need under its binding, summed over the arcs: place by
-- place, on each place by value, and of each value by offset. Arcs in another order need the same.
unfoldable pub needs_of : PlainNet → PlainElement → Outcome (List Needed)
needs_of n e = do
  needs ← gather (needed_by n.functions e.binding) (transition_at n e.transition).inputs
  gives (in_order needed_cmp needs)

-- the latest stamp by which a need can be met at a time
abbrev pub threshold : ℕ → Needed → ℕ
threshold time need = time + need.offset

-- The same in a net: on an untimed place the time and the offset count as 0. There each stamp is 0, so in a marking of
-- the net it makes no difference.
abbrev pub threshold_in : PlainNet → ℕ → Needed → ℕ
threshold_in n time need = if is_timed n need.place then threshold time need else 0

-- whether two needs are for the same value on the same place
abbrev pub same_need : Needed → Needed → Bool
same_need need other = (need.place == other.place) && same_value need.value other.value

-- the thresholds of all the needs for one value on one place, in increasing order
abbrev pub thresholds : (Needed → ℕ) → Needed → List Needed → List ℕ
thresholds latest need needs = in_order nat_cmp (map latest (filter (same_need need) needs))

-- whether needs with these thresholds are covered: for each of them, the thresholds of all the needs for its value on
-- its place are covered by the stamps of that value there
abbrev pub are_covered : (Needed → ℕ) → Marking → List Needed → Bool
are_covered latest m needs = list_all (λ need. covers (stamps need.value (tokens_at m need.place)) (thresholds latest need needs)) needs

-- a marking less needs in their order: for each in turn, the token of its value on its place with the largest stamp that
-- is not above its threshold is taken
abbrev pub subtract : (Needed → ℕ) → List Needed → Marking → Marking
subtract latest [] m = m
subtract latest (need ∷ needs) m = subtract latest needs (on_place need.place (without_token need.value (latest need)) m)

-- ---- enabled

-- whether a binding gives the variables, in their order and no others, values that their colour sets admit
abbrev pub binds : PlainNet → List ℕ → PlainBinding → Bool
binds n [] [] = true
binds n (x ∷ xs) (pair ∷ pairs) = (x == pair.0) && admits (variable_at n x).colour pair.1 && binds n xs pairs
binds n xs pairs = false

-- whether each conjunct of a guard means true; no guard reads the time
abbrev pub guard_holds : Functions → List PlainExpr → PlainBinding → Bool
guard_holds funs guard b = list_all (λ e. gives_and (meaning funs e b 0) is_true) guard

-- whether an element's transition is one of the net, its binding gives each of the variables an admitted value, and its
-- guard is true
abbrev pub may_occur : PlainNet → PlainElement → Bool
may_occur n e =
    let t = transition_at n e.transition in
    nat_lt e.transition (length n.transitions) && binds n t.vars e.binding && guard_holds n.functions t.guard e.binding

-- Covered: the transition is one of the net, the binding gives each of its variables an admitted value, the
-- guard is true, each input inscription has a value, and the needs are covered at the time. In the book: the
-- binding element is enabled at that time.
unfoldable pub covered : PlainNet → Marking → ℕ → PlainElement → Bool
covered n m time e = may_occur n e && gives_and (needs_of n e) (are_covered (threshold_in n time) m)

-- ---- outputs

-- the delay of a transition; a missing one is 0
abbrev pub transition_delay : Functions → Option PlainExpr → PlainBinding → ℕ → Outcome ℕ
transition_delay funs None b time = gives 0
transition_delay funs (Some e) b time = meaning funs e b time >>= delay_of

-- the stamp of a token that is made on a place; on an untimed place it is 0
abbrev pub stamp_on : PlainNet → ℕ → ℕ → ℕ
stamp_on n p stamp = if is_timed n p then stamp else 0

-- the tokens that one output arc makes
abbrev pub made_by : PlainNet → PlainBinding → ℕ → ℕ → PlainArc → Outcome (List Made)
made_by n b time delay arc = do
  terms ← terms_of n.functions arc.expr arc.colour b time
  gives (flat_map (λ term. replicate term.count (record { place = arc.place; value = term.value; stamp = stamp_on n arc.place (time + delay + term.delay) })) terms)

-- Outputs: the transition's delay first, then the tokens of the output arcs in document order, or the first fault. A
-- token on a timed place gets the time plus the delay of the transition and its own. The tokens stand in order: place by
-- place, on each place by value, and of each value by stamp.
unfoldable pub outputs_of : PlainNet → PlainElement → ℕ → Outcome (List Made)
outputs_of n e time = do
  delay ← transition_delay n.functions (transition_at n e.transition).delay e.binding time
  made ← gather (made_by n e.binding time delay) (transition_at n e.transition).outputs
  gives (in_order made_cmp made)

-- a marking with tokens that were made
abbrev pub add_made : List Made → Marking → Marking
add_made [] m = m
add_made (made ∷ more) m = add_made more (on_place made.place (add_token (token_at made.value made.stamp)) m)

-- ---- the occurrence of an element

-- the marking after needs and outputs
abbrev pub exchanged : (Needed → ℕ) → Marking → Outcome (List Needed) → Outcome (List Made) → Option Marking
exchanged latest m (gives needs) (gives outputs) = Some (add_made outputs (subtract latest needs m))
exchanged latest m needs outputs = None

-- After: the marking less the needs of the element, plus its outputs. There is one where the element is
-- covered and its outputs are no fault.
unfoldable pub after : PlainNet → Marking → ℕ → PlainElement → Option Marking
after n m time e = if covered n m time e then exchanged (threshold_in n time) m (needs_of n e) (outputs_of n e time) else None
