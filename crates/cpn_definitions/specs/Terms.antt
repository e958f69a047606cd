-- The terms of an inscription of an arc or an initial marking: how many tokens of which value, with which delay; or the
-- first fault. A term has a coefficient, a value and a delay, which are evaluated in this order, each checked before the next
-- is evaluated. Source: our own profile of CPN ML.
use Rattle.std.specs.Prelude.{ℕ, ◌+◌, pos, negsuc, Bool, true, false, cond, if◌then◌else◌, nat_le, List, [], ◌∷◌, ◌++◌, map}
use Rattle.std.specs.List.{list_all}
use Rattle.cpn_definitions.specs.Value.{PlainValue, int}
use Rattle.cpn_definitions.specs.Colour.{PlainColour, admits}
use Rattle.cpn_definitions.specs.Outcome.{Outcome, gives, faults, no_meaning, ◌>>=◌, no_case, not_in_colour, bad_coefficient, bad_delay, too_large}
use Rattle.cpn_definitions.specs.Inscription.{PlainExpr, literal, ArcInscription, no_token, one, times, sum_of, later, stamped, chosen, selected, bound, ArcInscriptions, no_inscriptions, more_inscriptions, ArcArms, no_arc_arms, more_arc_arms, Functions}
use Rattle.cpn_definitions.specs.Matching.{matched}
use Rattle.cpn_definitions.specs.Operations.{truth_in}
use Rattle.cpn_definitions.specs.Meaning.{PlainBinding, Setting, meant, arm_or, setting_of}
use Rattle.cpn_definitions.specs.Times.{last_time}

-- A term of a multiset: so many tokens of a value, each with a delay.
pub record PlainTerm : Type 0 where
  pub value : PlainValue
  pub count : ℕ
  pub delay : ℕ

-- the most tokens of one inscription
abbrev pub most_tokens : ℕ
most_tokens = 65536

-- the value, if the colour set has it
abbrev pub in_colour : PlainColour → PlainValue → Outcome PlainValue
in_colour colour v = if admits colour v then gives v else faults not_in_colour

-- a coefficient: a whole number from 0
abbrev pub coefficient_of : PlainValue → Outcome ℕ
coefficient_of (int (pos n)) = gives n
coefficient_of (int (negsuc n)) = faults bad_coefficient
coefficient_of v = no_meaning

-- the delay behind `@+` or `@`, before it is added to those of the terms: a whole number from 0
abbrev pub written_delay : PlainValue → Outcome ℕ
written_delay (int (pos n)) = gives n
written_delay (int (negsuc n)) = faults bad_delay
written_delay v = no_meaning

-- the delay of a transition: a whole number from 0 to the last time
abbrev pub delay_of : PlainValue → Outcome ℕ
delay_of (int (pos n)) = if nat_le n last_time then gives n else faults bad_delay
delay_of (int (negsuc n)) = faults bad_delay
delay_of v = no_meaning

-- how many tokens the terms are
abbrev pub tokens_in : List PlainTerm → ℕ
tokens_in [] = 0
tokens_in (term ∷ terms) = term.count + tokens_in terms

-- terms behind so many tokens, where all together are not too many
abbrev pub counted : ℕ → List PlainTerm → Outcome (List PlainTerm)
counted before terms = if nat_le (before + tokens_in terms) most_tokens then gives terms else faults too_large

-- a term with a delay more, and whether the delay is one
abbrev pub delayed_by : ℕ → PlainTerm → PlainTerm
delayed_by n term = record { value = term.value; count = term.count; delay = term.delay + n }

abbrev pub may_be_delayed : ℕ → PlainTerm → Bool
may_be_delayed n term = nat_le (term.delay + n) last_time

-- each of the terms with a delay more; none of them may come to more than the last time
abbrev pub all_delayed : List PlainTerm → ℕ → Outcome (List PlainTerm)
all_delayed terms n = if list_all (may_be_delayed n) terms then gives (map (delayed_by n) terms) else faults bad_delay

-- terms, and then the delay that is written behind them, evaluated once
abbrev pub then_delayed : PlainExpr → Setting → List PlainValue → List PlainTerm → Outcome (List PlainTerm)
then_delayed delay s locals terms = meant delay s locals >>= (λ v. written_delay v >>= all_delayed terms)

-- so many tokens of a value, if the colour set has it
abbrev pub term_of : PlainExpr → PlainColour → Setting → List PlainValue → ℕ → Outcome (List PlainTerm)
term_of e colour s locals count = meant e s locals >>= (λ v. in_colour colour v >>= (λ token. gives (record { value = token; count = count; delay = 0 } ∷ [])))

-- A lone term: its coefficient, where one is written, and its value.
abbrev pub lone_term : ArcInscription → PlainColour → Setting → List PlainValue → Outcome (List PlainTerm)
lone_term (one e) colour s locals = term_of e colour s locals 1
lone_term (times k e) colour s locals = meant k s locals >>= (λ v. coefficient_of v >>= term_of e colour s locals)
lone_term m colour s locals = no_meaning

abbrev pub is_lone : ArcInscription → Bool
is_lone (one e) = true
is_lone (times k e) = true
is_lone m = false

-- a delay belongs to the lone term before it, so it is checked before the tokens are counted; over anything else it comes
-- after what stands there
abbrev pub later_terms : Bool → Outcome (List PlainTerm) → Outcome (List PlainTerm) → (List PlainTerm → Outcome (List PlainTerm)) → ℕ → Outcome (List PlainTerm)
later_terms true term terms delayed before = (term >>= delayed) >>= counted before
later_terms false term terms delayed before = terms >>= delayed

abbrev mutual
  -- the terms of an inscription, behind so many tokens of the same arc
  pub terms_behind : ArcInscription → PlainColour → Setting → List PlainValue → ℕ → Outcome (List PlainTerm)
  terms_behind no_token colour s locals before = gives []
  terms_behind (one e) colour s locals before = lone_term (one e) colour s locals >>= counted before
  terms_behind (times k e) colour s locals before = lone_term (times k e) colour s locals >>= counted before
  terms_behind (sum_of ms) colour s locals before = terms_of_each ms colour s locals before
  terms_behind (later m delay) colour s locals before =
      later_terms (is_lone m) (lone_term m colour s locals) (terms_behind m colour s locals before) (then_delayed delay s locals) before
  terms_behind (stamped m stamp) colour s locals before =
      later_terms (is_lone m) (lone_term m colour s locals) (terms_behind m colour s locals before) (then_delayed (literal (int stamp)) s locals) before
  terms_behind (chosen c m n) colour s locals before =
      meant c s locals >>= (λ v. truth_in v >>= (λ b. cond b (terms_behind m colour s locals before) (terms_behind n colour s locals before)))
  terms_behind (selected e arms) colour s locals before = meant e s locals >>= (λ v. terms_among arms v colour s locals before)
  terms_behind (bound e m) colour s locals before = meant e s locals >>= (λ v. terms_behind m colour s (locals ++ v ∷ []) before)

  -- the parts of a sum, from left to right
  pub terms_of_each : ArcInscriptions → PlainColour → Setting → List PlainValue → ℕ → Outcome (List PlainTerm)
  terms_of_each no_inscriptions colour s locals before = gives []
  terms_of_each (more_inscriptions m ms) colour s locals before =
      terms_behind m colour s locals before >>= (λ xs. terms_of_each ms colour s locals (before + tokens_in xs) >>= (λ ys. gives (xs ++ ys)))

  -- the first arm whose pattern matches the value
  pub terms_among : ArcArms → PlainValue → PlainColour → Setting → List PlainValue → ℕ → Outcome (List PlainTerm)
  terms_among no_arc_arms v colour s locals before = faults no_case
  terms_among (more_arc_arms p m arms) v colour s locals before =
      arm_or (matched p v) (λ vs. terms_behind m colour s (locals ++ vs) before) (terms_among arms v colour s locals before)

-- The terms of a multiset inscription of a place of a colour set, in order, or the first fault.
abbrev pub terms_of : Functions → ArcInscription → PlainColour → PlainBinding → ℕ → Outcome (List PlainTerm)
terms_of funs m colour b time = terms_behind m colour (setting_of funs b time) [] 0
