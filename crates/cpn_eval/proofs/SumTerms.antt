-- The terms of a sum, part by part, and of an inscription form by form.
use Rattle.std.proofs.Common.{◌≡◌, ℕ, ◌+◌, ◌-◌, ◌^◌, suc, ◌<◌, ◌≤◌, min, Bool, cond, List, ◌∷◌, ◌++◌, length, get_or, drop, drop-cons, add-one, map, Vec, Global, Result, subst, refl, sym, ap, ◌∙◌, append_assoc, arith}
use Rattle.std.proofs.lemmas.List.{map-append}
use Rattle.cpn_definitions.specs.Outcome.{Outcome, gives, faults, no_meaning, ◌>>=◌}
use Rattle.cpn_definitions.specs.Inscription.{PlainExpr, ArcInscription, chosen, inscriptions_from}
use Rattle.cpn_definitions.specs.Operations.{truth_in}
use Rattle.cpn_definitions.specs.Terms.{PlainTerm, most_tokens, tokens_in}
use Rattle.cpn_definitions.proofs.TokenCounts.{tokens_of_both, terms_are_few}
use Rattle.cpn_core.specs.declared.inscriptions.MExpr.{MExpr}
use Rattle.cpn_core.specs.Colours.{colour_view}
use Rattle.cpn_core.specs.Inscriptions.{multiset_view}
use Rattle.cpn_eval.specs.declared.frames.Machine.{Machine}
use Rattle.cpn_eval.specs.declared.lone_terms.Arc.{Arc}
use Rattle.cpn_eval.specs.declared.refusals.NoValue.{NoValue}
use Rattle.cpn_eval.specs.declared.refusals.NoValue.TheVariants as reasons
use Rattle.cpn_eval.specs.declared.term.Term.{Term}
use Rattle.cpn_eval.specs.Answers.{Stops, Tells}
use Rattle.cpn_eval.specs.Frames.{Kept, setting_in, locals_of, meant_at}
use Rattle.cpn_eval.specs.Terms.{term_view, terms_view, items_view, holds_at, terms_at, sum_at}
use Rattle.cpn_eval.proofs.Binds.{bind_assoc}
use Rattle.cpn_eval.proofs.TermAmounts.{behind}
use Rattle.cpn_eval.proofs.KeptTerms.{told_same}

pub kept_twice : (m n o : Machine) → Kept m n → Kept n o → Kept m o
kept_twice m n o first second = record { no_frame = second.no_frame; visible = second.visible ∙ first.visible; locals = second.locals ∙ first.locals }

-- ---- forms

pub form_told : (answer : Result (Vec Term Global) NoValue) (arc : Arc) (m : Machine) (e f : ArcInscription) (before : ℕ) → e ≡ f → Tells items_view answer (terms_at arc m f before) → Tells items_view answer (terms_at arc m e before)
form_told answer arc m e f before h told = told_same answer (terms_at arc m e before) (terms_at arc m f before) (ap (λ x. terms_at arc m x before) h) told

-- a condition, and then one of the two
pub chosen_told
    : (answer : Result (Vec Term Global) NoValue) (arc : Arc) (m n : Machine) (e : ArcInscription) (c : PlainExpr) (x y : ArcInscription) (truth : Bool) (before : ℕ)
    → e ≡ chosen c x y
    → holds_at arc m c ≡ gives truth
    → Kept m n
    → Tells items_view answer (cond truth (terms_at arc n x before) (terms_at arc n y before))
    → Tells items_view answer (terms_at arc m e before)
chosen_told answer arc m n e c x y truth before he ht kept told =
    told_same answer (terms_at arc m e before) (cond truth (terms_at arc n x before) (terms_at arc n y before))
    (ap (λ z. terms_at arc m z before) he
    ∙ sym (bind_assoc (meant_at arc.world m.visible (locals_of m) c) truth_in (λ b. cond b (terms_at arc m x before) (terms_at arc m y before)))
    ∙ ap (λ o. o >>= (λ b. cond b (terms_at arc m x before) (terms_at arc m y before))) ht
    ∙ rw (kept.visible, kept.locals) refl)
    told

-- ---- sums

-- what stops the first stops both
stops_through : {A B : Type 0} (reason : NoValue) (o : Outcome A) (f : A → Outcome B) → Stops reason o → Stops reason (o >>= f)
stops_through reasons.Memory o f h = tt
stops_through reasons.Untyped o f h = rw h refl
stops_through (reasons.Fault fault) o f h = rw h refl

behind_more : (front more : List PlainTerm) (o : Outcome (List PlainTerm)) → behind front (o >>= (λ ys. gives (more ++ ys))) ≡ behind (front ++ more) o
behind_more front more (gives ys) = ap gives (sym (append_assoc front more ys))
behind_more front more (faults fault) = refl
behind_more front more no_meaning = refl

-- the parts from an index on
abbrev pub parts_from : Arc → Machine → List MExpr → ℕ → ℕ → Outcome (List PlainTerm)
parts_from arc m parts i tokens = sum_at arc m (inscriptions_from (map multiset_view (drop i parts))) tokens

sum_split
    : (arc : Arc) (m n : Machine) (parts : List MExpr) (i : ℕ) (part : MExpr) (tokens : ℕ)
    → Kept m n
    → i < length parts
    → part ≡ get_or parts i part
    → parts_from arc m parts i tokens ≡ (terms_at arc n (multiset_view part) tokens >>= (λ xs. parts_from arc m parts (i + 1) (tokens + tokens_in xs) >>= (λ ys. gives (xs ++ ys))))
sum_split arc m n parts i part tokens kept hi hp =
    let split : drop i parts ≡ part ∷ drop (i + 1) parts = rw add-one (drop-cons parts i part hi ∙ ap (λ x. x ∷ drop (suc i) parts) (sym hp)) in
    rw (split, kept.visible, kept.locals) refl

pub sum_goes
    : (arc : Arc) (m n : Machine) (parts : List MExpr) (i : ℕ) (part : MExpr) (tokens more : ℕ) (front terms all : List Term)
    → Kept m n
    → i < length parts
    → part ≡ get_or parts i part
    → terms_at arc n (multiset_view part) tokens ≡ gives (terms_view terms)
    → tokens + more ≡ tokens + tokens_in (terms_view terms)
    → all ≡ front ++ terms
    → behind (terms_view front) (parts_from arc m parts i tokens) ≡ behind (terms_view all) (parts_from arc m parts (i + 1) (tokens + more))
sum_goes arc m n parts i part tokens more front terms all kept hi hp given hm ha =
    ap (behind (terms_view front)) (sum_split arc m n parts i part tokens kept hi hp ∙ ap (λ o. o >>= (λ xs. parts_from arc m parts (i + 1) (tokens + tokens_in xs) >>= (λ ys. gives (xs ++ ys)))) given)
    ∙ behind_more (terms_view front) (terms_view terms) (parts_from arc m parts (i + 1) (tokens + tokens_in (terms_view terms)))
    ∙ ap (λ k. behind (terms_view front ++ terms_view terms) (parts_from arc m parts (i + 1) k)) (sym hm)
    ∙ ap (λ xs. behind xs (parts_from arc m parts (i + 1) (tokens + more))) (sym (ap terms_view ha ∙ map-append term_view front terms))

pub sum_stops
    : (reason : NoValue) (arc : Arc) (m n : Machine) (parts : List MExpr) (i : ℕ) (part : MExpr) (tokens : ℕ) (front : List PlainTerm) (all : Outcome (List PlainTerm))
    → all ≡ behind front (parts_from arc m parts i tokens)
    → Kept m n
    → i < length parts
    → part ≡ get_or parts i part
    → Stops reason (terms_at arc n (multiset_view part) tokens)
    → Stops reason all
sum_stops reason arc m n parts i part tokens front all ha kept hi hp h =
    let P : Outcome (List PlainTerm) → Type 0 = λ o. Stops reason o in
    let rest : Stops reason (parts_from arc m parts i tokens) = subst P (sym (sum_split arc m n parts i part tokens kept hi hp)) (stops_through reason (terms_at arc n (multiset_view part) tokens) (λ xs. parts_from arc m parts (i + 1) (tokens + tokens_in xs) >>= (λ ys. gives (xs ++ ys))) h) in
    subst P (sym ha) (stops_through reason (parts_from arc m parts i tokens) (λ xs. gives (front ++ xs)) rest)

-- ---- counts

pub few_with : (arc : Arc) (m : Machine) (e : ArcInscription) (tokens : ℕ) (terms : List PlainTerm) → tokens ≤ most_tokens → terms_at arc m e tokens ≡ gives terms → tokens + tokens_in terms ≤ most_tokens
few_with arc m e tokens terms few given = terms_are_few e (colour_view arc.colour.now) (setting_in arc.world m.visible) (locals_of m) tokens terms few given

pub count_is : (tokens more count : ℕ) → more ≡ min count (2 ^ 64 - 1) → tokens + count ≤ most_tokens → tokens + more ≡ tokens + count
count_is tokens more count h few = omega arith

pub count_goes
    : (before tokens more : ℕ) (front terms all : List Term)
    → tokens ≡ before + tokens_in (terms_view front)
    → tokens + more ≡ tokens + tokens_in (terms_view terms)
    → all ≡ front ++ terms
    → tokens + more ≡ before + tokens_in (terms_view all)
count_goes before tokens more front terms all ht hm ha =
    let both : tokens_in (terms_view all) ≡ tokens_in (terms_view front) + tokens_in (terms_view terms) =
    ap (λ ts. tokens_in (terms_view ts)) ha ∙ ap tokens_in (map-append term_view front terms) ∙ tokens_of_both (terms_view front) (terms_view terms) in
    omega arith
