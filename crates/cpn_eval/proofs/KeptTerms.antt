-- What is told of a part of an inscription of tokens, in the machine that the parts before it left as it was.
use Rattle.std.proofs.Common.{◌≡◌, ℕ, true, false, List, ◌++◌, length, take, map, Vec, Global, Result, subst, refl, sym, ap, ◌∙◌}
use Rattle.std.proofs.lemmas.List.{take-map, length-map}
use Rattle.std.proofs.Math.Seq.{take-append_seam}
use Rattle.cpn_definitions.specs.Outcome.{Outcome, gives}
use Rattle.cpn_definitions.specs.Inscription.{PlainExpr, ArcInscription, later}
use Rattle.cpn_definitions.specs.Terms.{PlainTerm, lone_term, is_lone, then_delayed}
use Rattle.cpn_definitions.specs.Value.{PlainValue}
use Rattle.cpn_core.specs.Colours.{colour_view}
use Rattle.cpn_eval.specs.declared.frames.Machine.{Machine}
use Rattle.cpn_eval.specs.declared.lone_terms.Arc.{Arc}
use Rattle.cpn_eval.specs.declared.refusals.NoValue.{NoValue}
use Rattle.cpn_eval.specs.declared.term.Term.{Term}
use Rattle.cpn_eval.specs.declared.held.Held.{Held}
use Rattle.cpn_eval.specs.Held.{held_view}
use Rattle.cpn_eval.specs.Answers.{Stops, Tells}
use Rattle.cpn_eval.specs.Frames.{Kept, setting_in, locals_of}
use Rattle.cpn_eval.specs.Terms.{items_view, delayed_at, terms_at, terms_with}

pub told_same : (answer : Result (Vec Term Global) NoValue) (o p : Outcome (List PlainTerm)) → o ≡ p → Tells items_view answer p → Tells items_view answer o
told_same answer o p h told = let P : Outcome (List PlainTerm) → Type 0 = λ x. Tells items_view answer x in subst P (sym h) told

-- a lone term, and then its delay
pub lone_later_told
    : (answer : Result (Vec Term Global) NoValue) (arc : Arc) (m n : Machine) (e : ArcInscription) (delay : PlainExpr) (before : ℕ) (terms : List PlainTerm)
    → is_lone e ≡ true
    → Kept m n
    → lone_term e (colour_view arc.colour.now) (setting_in arc.world m.visible) (locals_of m) ≡ gives terms
    → Tells items_view answer (delayed_at arc n delay terms before)
    → Tells items_view answer (terms_at arc m (later e delay) before)
lone_later_told answer arc m n e delay before terms lone kept given told =
    told_same answer (terms_at arc m (later e delay) before) (delayed_at arc n delay terms before) (rw (lone, kept.visible, kept.locals, given) refl) told

-- several terms, and then the delay behind them
pub later_told
    : (answer : Result (Vec Term Global) NoValue) (arc : Arc) (m n : Machine) (e : ArcInscription) (delay : PlainExpr) (before : ℕ) (terms : List PlainTerm)
    → is_lone e ≡ false
    → Kept m n
    → terms_at arc m e before ≡ gives terms
    → Tells items_view answer (then_delayed delay (setting_in arc.world n.visible) (locals_of n) terms)
    → Tells items_view answer (terms_at arc m (later e delay) before)
later_told answer arc m n e delay before terms lone kept given told =
    told_same answer (terms_at arc m (later e delay) before) (then_delayed delay (setting_in arc.world n.visible) (locals_of n) terms) (rw (lone, kept.visible, kept.locals, given) refl) told

-- the locals of an inner inscription are forgotten behind it
pub forgotten
    : (locals after : List Held) (found : List PlainValue) (count : ℕ)
    → count ≡ length locals
    → map held_view after ≡ map held_view locals ++ found
    → map held_view (take count after) ≡ map held_view locals
forgotten locals after found count hc h =
    sym (take-map held_view count after)
    ∙ ap (take count) h
    ∙ rw (hc ∙ sym (length-map locals held_view)) (take-append_seam (map held_view locals) found)

-- what stops an inner inscription among more locals
pub stops_with
    : (reason : NoValue) (arc : Arc) (m n : Machine) (more : List PlainValue) (e : ArcInscription) (before : ℕ)
    → n.visible ≡ m.visible
    → locals_of n ≡ locals_of m ++ more
    → Stops reason (terms_at arc n e before)
    → Stops reason (terms_with arc m more e before)
stops_with reason arc m n more e before hv hl h =
    let P : Outcome (List PlainTerm) → Type 0 = λ o. Stops reason o in
    let same : terms_at arc n e before ≡ terms_with arc m more e before = rw (hv, hl) refl in
    subst P same h
