-- What is left to do of a transition once an element of it is claimed, and the tokens that are made by it.
-- Source: the occurrence rule of Jensen and Kristensen, chapter 11; that a claim has its work with it is our own choice.
use Rattle.std.specs.Prelude.{ℕ, ◌+◌, Bool, if◌then◌else◌, List, [], ◌∷◌, ◌++◌, map, replicate, Option}
use Rattle.std.specs.List.{flat_map}
use Rattle.cpn_definitions.specs.Inscription.{PlainExpr, Functions}
use Rattle.cpn_definitions.specs.Net.{PlainArc, PlainTransition, PlainNet, is_timed, transition_at}
use Rattle.cpn_definitions.specs.Outcome.{Outcome, gives, ◌>>=◌}
use Rattle.cpn_definitions.specs.Lists.{in_order}
use Rattle.cpn_definitions.specs.Meaning.{PlainBinding}
use Rattle.cpn_definitions.specs.Terms.{PlainTerm, terms_of}
use Rattle.cpn_definitions.specs.Occurrence.{PlainElement, Made, made_cmp, transition_delay}
use Rattle.cpn_same.specs.SameArcs.{PlainArcExpr}

-- An output arc with what its tokens need: the number of its place, whether the place keeps time stamps, and the
-- arc's inscription.
pub record PlainWorkArc : Type 0 where
  pub place : ℕ
  pub timed : Bool
  pub inscription : PlainArcExpr

-- The work of a transition: the functions of its net, its delay where one is written, and its output arcs in document order.
pub record PlainWork : Type 0 where
  pub functions : Functions
  pub delay : Option PlainExpr
  pub outputs : List PlainWorkArc

-- A job: an element that was claimed, the time at which it occurs, and the work of its transition.
pub record PlainJob : Type 0 where
  pub element : PlainElement
  pub time : ℕ
  pub work : PlainWork

-- ---- the work in a net

abbrev pub work_arc : PlainNet → PlainArc → PlainWorkArc
work_arc n arc = record { place = arc.place; timed = is_timed n arc.place; inscription = record { colour = arc.colour; expr = arc.expr; terms = arc.terms } }

abbrev pub work_by : PlainNet → PlainTransition → PlainWork
work_by n transition = record { functions = n.functions; delay = transition.delay; outputs = map (work_arc n) transition.outputs }

-- the work of the transition of a number
abbrev pub work_of : PlainNet → ℕ → PlainWork
work_of n t = work_by n (transition_at n t)

-- ---- outputs

-- the token of a term that an arc makes at a time: with that time and the delay of the term as its stamp, or 0 on an
-- untimed place
abbrev pub made_token : PlainWorkArc → ℕ → PlainTerm → Made
made_token arc time term = record { place = arc.place; value = term.value; stamp = if arc.timed then time + term.delay else 0 }

-- the tokens that one arc makes
abbrev pub made_by_arc : Functions → PlainBinding → ℕ → ℕ → PlainWorkArc → Outcome (List Made)
made_by_arc funs b time delay arc = do
  terms ← terms_of funs arc.inscription.expr arc.inscription.colour b time
  gives (flat_map (λ term. replicate term.count (made_token arc (time + delay) term)) terms)

-- what the arcs make, one after another, or the first fault
abbrev pub made_by_all : (PlainWorkArc → Outcome (List Made)) → List PlainWorkArc → Outcome (List Made)
made_by_all f [] = gives []
made_by_all f (arc ∷ arcs) = do
  xs ← f arc
  ys ← made_by_all f arcs
  gives (xs ++ ys)

-- The tokens that are made by work under a binding at a time: the transition's delay first, then the tokens of the output
-- arcs in document order, or the first fault. A token on a timed place gets the time plus the delay of the transition and
-- its own. The tokens stand in order: place by place, on each place by value, and of each value by stamp.
unfoldable pub outputs_by : PlainWork → PlainBinding → ℕ → Outcome (List Made)
outputs_by work b time = do
  delay ← transition_delay work.functions work.delay b time
  made ← made_by_all (made_by_arc work.functions b time delay) work.outputs
  gives (in_order made_cmp made)
