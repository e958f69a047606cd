-- What is accepted as an inscription of an arc or as an initial marking has terms, or a fault.
use Rattle.std.proofs.Common.{ℕ, ◌+◌, pos, negsuc, true, false, cond, List, [], ◌∷◌, ◌++◌, map, Option, Some, None, IfSome}
use Rattle.cpn_definitions.specs.Value.{PlainValue, int}
use Rattle.cpn_definitions.specs.Colour.{PlainColour}
use Rattle.cpn_definitions.specs.Outcome.{Outcome, gives, faults, no_meaning, ◌>>=◌, HasMeaning, not_in_colour, bad_delay, too_large}
use Rattle.cpn_definitions.specs.Inscription.{PlainPattern, PlainExpr, literal, ArcInscription, no_token, one, times, sum_of, later, stamped, chosen, selected, bound, ArcInscriptions, more_inscriptions, ArcArms, more_arc_arms}
use Rattle.cpn_definitions.specs.Matching.{matched}
use Rattle.cpn_definitions.specs.Operations.{truth_in}
use Rattle.cpn_definitions.specs.Meaning.{Setting, meant, arm_or}
use Rattle.cpn_definitions.specs.Bindable.{variables_of}
use Rattle.cpn_definitions.specs.Terms.{PlainTerm, in_colour, coefficient_of, written_delay, tokens_in, counted, delayed_by, all_delayed, then_delayed, term_of, lone_term, is_lone, later_terms, terms_behind, terms_of_each, terms_among}
use Rattle.cpn_typing.specs.Types.{PlainTy, bool_type, int_type}
use Rattle.cpn_typing.specs.Names.{Scope, Name, local_of}
use Rattle.cpn_typing.specs.TypedValues.{Sets, HasType, of_int, of_bool}
use Rattle.cpn_typing.specs.Law.{Means, Fits, World, AreBound, IsBound}
use Rattle.cpn_typing.specs.InscriptionVariables.{inscription_variables, each_variables, arms_variables}
use Rattle.cpn_typing.proofs.Outcomes.{means_then, all_front, all_back}
use Rattle.cpn_typing.proofs.Outcomes as outcomes
use Rattle.cpn_typing.proofs.NamesKept.{fits_more}

-- an inscription of one value in a scope means a value of the type or a fault
abbrev pub Valued : World → Scope → PlainExpr → PlainTy → Type 0
Valued g sc e t = (ls : List PlainValue) → Fits g.sets sc ls → AreBound g (variables_of e) → Means (λ v. HasType g.sets v t) (meant e g.setting ls)

-- there are terms or a fault
abbrev pub HasTerms : {A : Type 0} → Outcome A → Type 0
HasTerms o = Means (λ terms. Unit {0}) o

pub there_is_meaning : {A : Type 0} (P : A → Type 0) (o : Outcome A) → Means P o → HasMeaning o
there_is_meaning P (gives x) h is = cc
there_is_meaning P (faults f) h is = cc
there_is_meaning P no_meaning h is = absurd h

-- an inscription of a multiset in a scope has terms or a fault, in each context and behind so many tokens
abbrev pub Marked : World → Scope → ArcInscription → Type 0
Marked g sc m = (ls : List PlainValue) → Fits g.sets sc ls → AreBound g (inscription_variables m) → (colour : PlainColour) (before : ℕ) → HasTerms (terms_behind m colour g.setting ls before)

-- ---- each step has a value or a fault

abbrev Terms : Type 0
Terms = List PlainTerm

counted_means : (before : ℕ) (terms : Terms) → HasTerms (counted before terms)
counted_means before terms = outcomes.chosen HasTerms _ (gives terms) (faults too_large) tt tt

delayed_means : (terms : Terms) (n : ℕ) → HasTerms (all_delayed terms n)
delayed_means terms n = outcomes.chosen HasTerms _ (gives (map (delayed_by n) terms)) (faults bad_delay) tt tt

coefficient_means : (sets : Sets) (v : PlainValue) → HasType sets v int_type → HasTerms (coefficient_of v)
coefficient_means sets v (of_int (pos n)) = tt
coefficient_means sets v (of_int (negsuc n)) = tt

written_means : (sets : Sets) (v : PlainValue) → HasType sets v int_type → HasTerms (written_delay v)
written_means sets v (of_int (pos n)) = tt
written_means sets v (of_int (negsuc n)) = tt

colour_means : (colour : PlainColour) (v : PlainValue) → HasTerms (in_colour colour v)
colour_means colour v = outcomes.chosen HasTerms _ (gives v) (faults not_in_colour) tt tt

then_delayed_means : (g : World) (sc : Scope) (delay : PlainExpr) (ls : List PlainValue) (terms : Terms) → Valued g sc delay int_type → Fits g.sets sc ls → AreBound g (variables_of delay) → HasTerms (then_delayed delay g.setting ls terms)
then_delayed_means g sc delay ls terms p f b =
    means_then (λ v. HasType g.sets v int_type) _ (meant delay g.setting ls) _ (p ls f b)
    (λ v h. means_then _ _ (written_delay v) _ (written_means g.sets v h) (λ n k. delayed_means terms n))

term_means : (g : World) (sc : Scope) (e : PlainExpr) (t : PlainTy) (colour : PlainColour) (ls : List PlainValue) (count : ℕ) → Valued g sc e t → Fits g.sets sc ls → AreBound g (variables_of e) → HasTerms (term_of e colour g.setting ls count)
term_means g sc e t colour ls count p f b =
    means_then (λ v. HasType g.sets v t) _ (meant e g.setting ls) _ (p ls f b)
    (λ v h. means_then _ _ (in_colour colour v) _ (colour_means colour v) (λ token k. tt))

-- ---- the forms

pub one_means : (g : World) (sc : Scope) (e : PlainExpr) (t : PlainTy) → Valued g sc e t → Marked g sc (one e)
one_means g sc e t p ls f b colour before =
    means_then _ _ (term_of e colour g.setting ls 1) _ (term_means g sc e t colour ls 1 p f b) (λ terms h. counted_means before terms)

pub times_means : (g : World) (sc : Scope) (k e : PlainExpr) (t : PlainTy) → Valued g sc k int_type → Valued g sc e t → Marked g sc (times k e)
times_means g sc k e t p q ls f b colour before =
    means_then _ _ (lone_term (times k e) colour g.setting ls) _
    (means_then (λ v. HasType g.sets v int_type) _ (meant k g.setting ls) _ (p ls f (all_front (IsBound g.sets g.declared.names g.setting.binding) (variables_of k) (variables_of e) b))
    (λ v h. means_then _ _ (coefficient_of v) _ (coefficient_means g.sets v h)
    (λ count c. term_means g sc e t colour ls count q f (all_back (IsBound g.sets g.declared.names g.setting.binding) (variables_of k) (variables_of e) b))))
    (λ terms h. counted_means before terms)

-- the lone term before a delay has terms or a fault where both together have
first_has : {A B : Type 0} (o : Outcome A) (f : A → Outcome B) → HasTerms (o >>= f) → HasTerms o
first_has (gives x) f h = tt
first_has (faults k) f h = tt
first_has no_meaning f h = absurd h

delayed_has : (o : Outcome Terms) (delayed : Terms → Outcome Terms) → HasTerms o → ((terms : Terms) → HasTerms (delayed terms)) → HasTerms (o >>= delayed)
delayed_has o delayed h d = means_then {B = Terms} (λ terms. Unit {0}) (λ terms. Unit {0}) o delayed h (λ terms k. d terms)

later_has : (m : ArcInscription) (colour : PlainColour) (s : Setting) (ls : List PlainValue) (delayed : Terms → Outcome Terms) (before : ℕ) → HasTerms (terms_behind m colour s ls before) → ((terms : Terms) → HasTerms (delayed terms))
    → HasTerms (later_terms (is_lone m) (lone_term m colour s ls) (terms_behind m colour s ls before) delayed before)
later_has (one e) colour s ls delayed before h d =
    means_then _ _ (lone_term (one e) colour s ls >>= delayed) _ (means_then _ _ (lone_term (one e) colour s ls) _ (first_has (lone_term (one e) colour s ls) (counted before) h) (λ terms k. d terms)) (λ terms k. counted_means before terms)
later_has (times k e) colour s ls delayed before h d =
    means_then _ _ (lone_term (times k e) colour s ls >>= delayed) _ (means_then _ _ (lone_term (times k e) colour s ls) _ (first_has (lone_term (times k e) colour s ls) (counted before) h) (λ terms j. d terms)) (λ terms j. counted_means before terms)
later_has no_token colour s ls delayed before h d = delayed_has (terms_behind no_token colour s ls before) delayed h d
later_has (sum_of ms) colour s ls delayed before h d = delayed_has (terms_behind (sum_of ms) colour s ls before) delayed h d
later_has (later m e) colour s ls delayed before h d = delayed_has (terms_behind (later m e) colour s ls before) delayed h d
later_has (stamped m z) colour s ls delayed before h d = delayed_has (terms_behind (stamped m z) colour s ls before) delayed h d
later_has (chosen c m n) colour s ls delayed before h d = delayed_has (terms_behind (chosen c m n) colour s ls before) delayed h d
later_has (selected e arms) colour s ls delayed before h d = delayed_has (terms_behind (selected e arms) colour s ls before) delayed h d
later_has (bound e m) colour s ls delayed before h d = delayed_has (terms_behind (bound e m) colour s ls before) delayed h d

abbrev Known : World → ℕ → Type 0
Known g = IsBound g.sets g.declared.names g.setting.binding

pub later_means : (g : World) (sc : Scope) (m : ArcInscription) (delay : PlainExpr) → Marked g sc m → Valued g sc delay int_type → Marked g sc (later m delay)
later_means g sc m delay p q ls f b colour before =
    later_has m colour g.setting ls (then_delayed delay g.setting ls) before
    (p ls f (all_front (Known g) (inscription_variables m) (variables_of delay) b) colour before)
    (λ terms. then_delayed_means g sc delay ls terms q f (all_back (Known g) (inscription_variables m) (variables_of delay) b))

pub stamped_means : (g : World) (sc : Scope) (m : ArcInscription) (z : _) → Marked g sc m → Marked g sc (stamped m z)
stamped_means g sc m z p ls f b colour before =
    later_has m colour g.setting ls (then_delayed (literal (int z)) g.setting ls) before (p ls f b colour before)
    (λ terms. then_delayed_means g sc (literal (int z)) ls terms (λ ks k c. of_int z) f tt)

-- a truth value chooses one of two
truth_has : (sets : Sets) (v : PlainValue) (x y : Outcome Terms) → HasType sets v bool_type → HasTerms x → HasTerms y → HasTerms (truth_in v >>= (λ b. cond b x y))
truth_has sets v x y (of_bool true) p q = p
truth_has sets v x y (of_bool false) p q = q

pub chosen_means : (g : World) (sc : Scope) (c : PlainExpr) (m n : ArcInscription) → Valued g sc c bool_type → Marked g sc m → Marked g sc n → Marked g sc (chosen c m n)
chosen_means g sc c m n p q r ls f b colour before =
    let both = all_back (Known g) (variables_of c) (inscription_variables m ++ inscription_variables n) b in
    means_then (λ v. HasType g.sets v bool_type) _ (meant c g.setting ls) _ (p ls f (all_front (Known g) (variables_of c) (inscription_variables m ++ inscription_variables n) b))
    (λ v h. truth_has g.sets v (terms_behind m colour g.setting ls before) (terms_behind n colour g.setting ls before) h
    (q ls f (all_front (Known g) (inscription_variables m) (inscription_variables n) both) colour before)
    (r ls f (all_back (Known g) (inscription_variables m) (inscription_variables n) both) colour before))

pub bound_means : (g : World) (sc : Scope) (n : Name) (e : PlainExpr) (m : ArcInscription) (t : PlainTy) → Valued g sc e t → Marked g (sc ++ local_of n t ∷ []) m → Marked g sc (bound e m)
bound_means g sc n e m t p q ls f b colour before =
    means_then (λ v. HasType g.sets v t) _ (meant e g.setting ls) _ (p ls f (all_front (Known g) (variables_of e) (inscription_variables m) b))
    (λ v h. q (ls ++ v ∷ []) (fits_more g.sets sc (local_of n t ∷ []) ls (v ∷ []) f (h, tt)) (all_back (Known g) (variables_of e) (inscription_variables m) b) colour before)

-- the parts of a sum
abbrev pub EachMarked : World → Scope → ArcInscriptions → Type 0
EachMarked g sc ms = (ls : List PlainValue) → Fits g.sets sc ls → AreBound g (each_variables ms) → (colour : PlainColour) (before : ℕ) → HasTerms (terms_of_each ms colour g.setting ls before)

pub more_mean : (g : World) (sc : Scope) (m : ArcInscription) (ms : ArcInscriptions) → Marked g sc m → EachMarked g sc ms → EachMarked g sc (more_inscriptions m ms)
more_mean g sc m ms p q ls f b colour before =
    means_then _ _ (terms_behind m colour g.setting ls before) _ (p ls f (all_front (Known g) (inscription_variables m) (each_variables ms) b) colour before)
    (λ xs h. means_then _ _ (terms_of_each ms colour g.setting ls (before + tokens_in xs)) _ (q ls f (all_back (Known g) (inscription_variables m) (each_variables ms) b) colour (before + tokens_in xs)) (λ ys k. tt))

-- the arms of a `case` over a value of a type
abbrev pub ArmsMarked : World → Scope → PlainTy → ArcArms → Type 0
ArmsMarked g sc t arms =
    (ls : List PlainValue) → Fits g.sets sc ls → AreBound g (arms_variables arms) → (v : PlainValue) → HasType g.sets v t → (colour : PlainColour) (before : ℕ) → HasTerms (terms_among arms v colour g.setting ls before)

arm_has : (sets : Sets) (inner : Scope) (o : Option (List PlainValue)) (f : List PlainValue → Outcome Terms) (others : Outcome Terms) → IfSome o (Fits sets inner) → ((vs : List PlainValue) → Fits sets inner vs → HasTerms (f vs)) → HasTerms others → HasTerms (arm_or o f others)
arm_has sets inner (Some vs) f others p q r = q vs p
arm_has sets inner None f others p q r = r

pub more_arms_mean : (g : World) (sc inner : Scope) (t : PlainTy) (p : PlainPattern) (m : ArcInscription) (arms : ArcArms) → ((v : PlainValue) → HasType g.sets v t → IfSome (matched p v) (Fits g.sets inner)) → Marked g (sc ++ inner) m → ArmsMarked g sc t arms → ArmsMarked g sc t (more_arc_arms p m arms)
more_arms_mean g sc inner t p m arms fit q r ls f b v h colour before =
    arm_has g.sets inner (matched p v) (λ vs. terms_behind m colour g.setting (ls ++ vs) before) (terms_among arms v colour g.setting ls before) (fit v h)
    (λ vs k. q (ls ++ vs) (fits_more g.sets sc inner ls vs f k) (all_front (Known g) (inscription_variables m) (arms_variables arms) b) colour before)
    (r ls f (all_back (Known g) (inscription_variables m) (arms_variables arms) b) v h colour before)

pub selected_means : (g : World) (sc : Scope) (e : PlainExpr) (t : PlainTy) (arms : ArcArms) → Valued g sc e t → ArmsMarked g sc t arms → Marked g sc (selected e arms)
selected_means g sc e t arms p q ls f b colour before =
    means_then (λ v. HasType g.sets v t) _ (meant e g.setting ls) _ (p ls f (all_front (Known g) (variables_of e) (arms_variables arms) b))
    (λ v h. q ls f (all_back (Known g) (variables_of e) (arms_variables arms) b) v h colour before)
