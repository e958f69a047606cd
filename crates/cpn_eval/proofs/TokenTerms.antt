-- What is told of the parts of an inscription of tokens, one after another.
use Rattle.std.proofs.Common.{◌≡◌, ℕ, List, Vec, Global, Result, subst}
use Rattle.cpn_definitions.specs.Value.{PlainValue}
use Rattle.cpn_definitions.specs.Colour.{PlainColour}
use Rattle.cpn_definitions.specs.Outcome.{Outcome, gives}
use Rattle.cpn_definitions.specs.Inscription.{PlainExpr, times}
use Rattle.cpn_definitions.specs.Terms.{PlainTerm, coefficient_of, term_of, lone_term}
use Rattle.cpn_eval.specs.declared.frames.World.{World}
use Rattle.cpn_eval.specs.declared.refusals.NoValue.{NoValue}
use Rattle.cpn_eval.specs.declared.term.Term.{Term}
use Rattle.cpn_eval.specs.Answers.{Tells}
use Rattle.cpn_eval.specs.Frames.{setting_in, meant_at}
use Rattle.cpn_eval.specs.Terms.{items_view}

-- the same at equal places
pub told_there
    : (answer : Result (Vec Term Global) NoValue) (o : ℕ → List PlainValue → Outcome (List PlainTerm)) (n n' : ℕ) (ls ls' : List PlainValue)
    → n' ≡ n
    → ls' ≡ ls
    → Tells items_view answer (o n' ls')
    → Tells items_view answer (o n ls)
told_there answer o n n' ls ls' hn hl told =
    let P : ℕ → Type 0 = λ k. Tells items_view answer (o k ls') in
    let Q : List PlainValue → Type 0 = λ ks. Tells items_view answer (o n ks) in
    subst Q hl (subst P hn told)

pub times_told
    : (answer : Result (Vec Term Global) NoValue) (w : World) (k e : PlainExpr) (colour : PlainColour) (n n' : ℕ) (ls ls' : List PlainValue) (v : PlainValue) (count : ℕ)
    → meant_at w n ls k ≡ gives v
    → coefficient_of v ≡ gives count
    → n' ≡ n
    → ls' ≡ ls
    → Tells items_view answer (term_of e colour (setting_in w n') ls' count)
    → Tells items_view answer (lone_term (times k e) colour (setting_in w n) ls)
times_told answer w k e colour n n' ls ls' v count hk hc hn hl told =
    rw (hk, hc) (told_there answer (λ m ks. term_of e colour (setting_in w m) ks count) n n' ls ls' hn hl told)
