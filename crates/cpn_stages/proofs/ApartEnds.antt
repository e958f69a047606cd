-- No two ends of the trials of a transition have an extension in common, so no two are the same.
use Rattle.std.proofs.Common.{◌≡◌, ℕ, suc, pos, Bool, true, false, if◌then◌else◌, List, [], ◌∷◌, ◌++◌, reverse, Option, Some, None, refl, sym, ap, ap₂, ◌∙◌, subst, inl, inr}
use Rattle.std.specs.List.{flat_map, AllByRecursion}
use Rattle.std.specs.Option.{option_map}
use Rattle.std.proofs.lemmas.Grind.{reverse_onto}
use Rattle.std.proofs.lemmas.Option.{same_Some}
use Rattle.cpn_definitions.specs.Value.{PlainValue, PlainValues, int, tuple, bare, applied, list, none, more}
use Rattle.cpn_definitions.specs.Marking.{Marking}
use Rattle.cpn_definitions.specs.Outcome.{Outcome, gives, faults, no_meaning}
use Rattle.cpn_definitions.specs.Inscription.{operation, cons, tupling, listing, constructing, PlainPattern, any_pattern, variable_pattern, literal_pattern, tuple_pattern, list_pattern, cons_pattern, bare_pattern, applied_pattern, PlainPatterns, no_patterns, more_patterns, PlainExpr, literal, variable, apply, PlainExprs, no_exprs, more_exprs, ArcInscription, one, times, sum_of, ArcInscriptions, no_inscriptions, more_inscriptions}
use Rattle.cpn_definitions.specs.Net.{BindingTerm, PlainArc, PlainTransition, PlainNet}
use Rattle.cpn_definitions.specs.Meaning.{meaning}
use Rattle.cpn_definitions.specs.Bindable.{constructor_pattern, list_of_two, pattern_of, patterns_of, term_with, binding_term, binding_terms_of_each, binding_terms}
use Rattle.cpn_definitions.proofs.RisingLists.{IsIn, in_from_contains, contains_from_in, in_append_left, in_map_from, each_in, of_one_in, each_appended, in_flat_from}
use Rattle.cpn_definitions.proofs.ListItems.{made_of}
use Rattle.cpn_stages.specs.Partial.{PlainPartial, Extends, bound_in}
use Rattle.cpn_stages.specs.Instances.{IsInstance, AreInstances}
use Rattle.cpn_stages.specs.Stages.{Stage, by_term, by_equation, by_size, by_value, terms_at, term_stages, Further, none_left, next_equation, next_small, AreStages, those_without}
use Rattle.cpn_stages.specs.Work.{AllDiffer}
use Rattle.cpn_stages.specs.Fitting.{fitted}
use Rattle.cpn_stages.specs.Trials.{Trial, matching, solving, are_admitted, kept, with_outcome, next, ends, IsTrialOf, AreTrialsOf}
use Rattle.cpn_stages.proofs.Partials.{extends_itself, extends_further}
use Rattle.cpn_stages.proofs.Instances.{instance_stays}
use Rattle.cpn_stages.proofs.PatternValues.{then_parts}
use Rattle.cpn_stages.proofs.Ends.{from_reverse, made_of_matching, made_of_outcome}

-- ---- patterns that are one value

abbrev mutual
  -- nowhere in the pattern is a `_`
  pub HasNoAny : PlainPattern → Type 0
  HasNoAny any_pattern = ⊥
  HasNoAny (variable_pattern x) = Unit {0}
  HasNoAny (literal_pattern v) = Unit {0}
  HasNoAny (tuple_pattern ps) = HaveNoAny ps
  HasNoAny (list_pattern ps) = HaveNoAny ps
  HasNoAny (cons_pattern p q) = HasNoAny p × HasNoAny q
  HasNoAny (bare_pattern k) = Unit {0}
  HasNoAny (applied_pattern k p) = HasNoAny p

  pub HaveNoAny : PlainPatterns → Type 0
  HaveNoAny no_patterns = Unit {0}
  HaveNoAny (more_patterns p ps) = HasNoAny p × HaveNoAny ps

abbrev items_of : PlainValue → PlainValues
items_of (list vs) = vs
items_of v = none

list_items : (vs ws : PlainValues) → list vs ≡ list ws → vs ≡ ws
list_items vs ws h = ap items_of h

mutual
  -- under a partial binding such a pattern is one value
  pub one_value : (b : PlainPartial) (p : PlainPattern) (v w : PlainValue) → HasNoAny p → IsInstance b p v → IsInstance b p w → v ≡ w
  one_value b any_pattern v w no_any first second = absurd no_any
  one_value b (variable_pattern x) v w no_any first second = same_Some v w (sym first ∙ second)
  one_value b (literal_pattern u) v w no_any first second = sym first ∙ second
  one_value b (tuple_pattern ps) (tuple vs) (tuple ws) no_any first second = ap tuple (one_row b ps vs ws no_any first second)
  one_value b (list_pattern ps) (list vs) (list ws) no_any first second = ap list (one_row b ps vs ws no_any first second)
  one_value b (cons_pattern p q) (list (more v vs)) (list (more w ws)) no_any first second =
      ap₂ (λ u us. list (more u us)) (one_value b p v w no_any.0 first.0 second.0) (list_items vs ws (one_value b q (list vs) (list ws) no_any.1 first.1 second.1))
  one_value b (bare_pattern k) (bare i) (bare j) no_any first second = ap bare (sym first ∙ second)
  one_value b (applied_pattern k p) (applied i v) (applied j w) no_any first second = ap₂ applied (sym first.0 ∙ second.0) (one_value b p v w no_any first.1 second.1)
  one_value b (tuple_pattern ps) (tuple vs) w no_any first second = absurd second
  one_value b (list_pattern ps) (list vs) w no_any first second = absurd second
  one_value b (cons_pattern p q) (list (more v vs)) w no_any first second = absurd second
  one_value b (bare_pattern k) (bare i) w no_any first second = absurd second
  one_value b (applied_pattern k p) (applied i v) w no_any first second = absurd second
  one_value b p v w no_any first second = absurd first

  one_row : (b : PlainPartial) (ps : PlainPatterns) (vs ws : PlainValues) → HaveNoAny ps → AreInstances b ps vs → AreInstances b ps ws → vs ≡ ws
  one_row b no_patterns none none no_any first second = refl
  one_row b (more_patterns p ps) (more v vs) (more w ws) no_any first second = ap₂ more (one_value b p v w no_any.0 first.0 second.0) (one_row b ps vs ws no_any.1 first.1 second.1)
  one_row b no_patterns none ws no_any first second = absurd second
  one_row b (more_patterns p ps) (more v vs) ws no_any first second = absurd second
  one_row b ps vs ws no_any first second = absurd first

-- ---- partial bindings that are apart

-- two partial bindings have no extension in common
abbrev pub AreApart : PlainPartial → PlainPartial → Type 0
AreApart b c = (d : PlainPartial) → Extends b d → Extends c d → ⊥

-- no two of several have
abbrev pub AllApart : List PlainPartial → Type 0
AllApart [] = Unit {0}
AllApart (b ∷ bs) = AllByRecursion (AreApart b) bs × AllApart bs

-- each of the first is apart from each of the second
abbrev Across : List PlainPartial → List PlainPartial → Type 0
Across bs cs = (b c : PlainPartial) → IsIn b bs → IsIn c cs → AreApart b c

apart_both : (bs cs : List PlainPartial) → AllApart bs → AllApart cs → Across bs cs → AllApart (bs ++ cs)
apart_both [] cs first second across = second
apart_both (b ∷ bs) cs first second across =
    (each_appended (AreApart b) bs cs first.0 (each_in (AreApart b) cs (λ c h. across b c (inl refl) h)), apart_both bs cs first.1 second (λ d c g h. across d c (inr g) h))

apart_reverse : (bs : List PlainPartial) → AllApart bs → AllApart (reverse bs)
apart_reverse [] are = tt
apart_reverse (b ∷ bs) are = subst AllApart (sym (reverse_onto bs b [])) (apart_both (reverse bs) (b ∷ []) (apart_reverse bs are.1) (tt, tt) across)
  where
    across : Across (reverse bs) (b ∷ [])
    across c d h (inl e) = λ ext of_c of_d. of_one_in (AreApart b) bs c are.0 (from_reverse bs c h) ext (subst (λ k. Extends k ext) (sym e) of_d) of_c
    across c d h (inr g) = absurd g

-- several lists, each of which extends one of several that are apart
apart_flat : (f : PlainPartial → List PlainPartial) (bs : List PlainPartial) → ((b c : PlainPartial) → IsIn c (f b) → Extends b c) → ((b : PlainPartial) → AllApart (f b)) → AllApart bs → AllApart (flat_map f bs)
apart_flat f [] extend each are = tt
apart_flat f (b ∷ bs) extend each are = apart_both (f b) (flat_map f bs) (each b) (apart_flat f bs extend each are.1) across
  where
    across : Across (f b) (flat_map f bs)
    across c d h g =
        let from = in_flat_from f bs d g in
        λ ext of_c of_d. of_one_in (AreApart b) bs from.0 are.0 from.1 ext (extends_further b c ext (extend b c h) of_c) (extends_further from.0 d ext (extend from.0 d from.2) of_d)

-- ---- what a trial makes is apart

kept_apart : (n : PlainNet) (o : Option PlainPartial) → AllApart (kept n o)
kept_apart n None = tt
kept_apart n (Some b) = split (are_admitted n b)
  where
    split : (test : Bool) → AllApart (if test then b ∷ [] else [])
    split true = (tt, tt)
    split false = tt

outcome_apart : (n : PlainNet) (p : PlainPattern) (b : PlainPartial) (o : Outcome PlainValue) → AllApart (with_outcome n p b o)
outcome_apart n p b (gives v) = kept_apart n (fitted p v b)
outcome_apart n p b (faults fault) = tt
outcome_apart n p b no_meaning = tt

matching_apart : (n : PlainNet) (p : PlainPattern) (vs : List PlainValue) (b : PlainPartial) → HasNoAny p → AllDiffer vs → AllApart (next n (matching p vs) b)
matching_apart n p [] b no_any differ = tt
matching_apart n p (v ∷ vs) b no_any differ = apart_both (kept n (fitted p v b)) (next n (matching p vs) b) (kept_apart n (fitted p v b)) (matching_apart n p vs b no_any differ.1) across
  where
    across : Across (kept n (fitted p v b)) (next n (matching p vs) b)
    across c d h g =
        let first = made_of_matching n p (v ∷ []) b c (in_append_left (kept n (fitted p v b)) [] c h) in
        let second = made_of_matching n p vs b d g in
        λ ext of_c of_d.
        let same : first.0 ≡ second.0 = one_value ext p first.0 second.0 no_any (instance_stays c ext p first.0 of_c first.2.matches.makes.is_instance) (instance_stays d ext p second.0 of_d second.2.matches.makes.is_instance) in
        differ.0 (contains_from_in vs v (subst (λ w. IsIn w vs) (sym same ∙ of_one first.1) second.1))
      where
        of_one : {u : PlainValue} → IsIn u (v ∷ []) → u ≡ v
        of_one (inl e) = sym e
        of_one (inr h) = absurd h

-- the pattern of a stage's trial is one value
abbrev pub HasOneValue : Stage → Type 0
HasOneValue (by_term place p) = HasNoAny p
HasOneValue (by_equation x e) = Unit {0}
HasOneValue (by_size x) = Unit {0}
HasOneValue (by_value place p v) = HasNoAny p

next_apart : (n : PlainNet) (m : Marking) (stage : Stage) (trial : Trial) (b : PlainPartial) → HasOneValue stage → IsTrialOf n m stage trial → AllApart (next n trial b)
next_apart n m (by_term place p) (matching q vs) b has of_it = matching_apart n q vs b (subst HasNoAny (sym of_it.0) has) of_it.1.differ
next_apart n m (by_term place p) (solving y f) b has of_it = absurd of_it
next_apart n m (by_equation x e) (matching q vs) b has of_it = absurd of_it
next_apart n m (by_equation x e) (solving y f) b has of_it = outcome_apart n (variable_pattern y) b (meaning n.functions f (bound_in b) 0)
next_apart n m (by_size x) (matching q vs) b has of_it = matching_apart n q vs b (subst HasNoAny (sym of_it.0) tt) of_it.1.differ
next_apart n m (by_size x) (solving y f) b has of_it = absurd of_it
next_apart n m (by_value place p v) (matching q vs) b has of_it = matching_apart n q vs b (subst HasNoAny (sym of_it.0) has) (subst AllDiffer (sym of_it.1) ((λ h. in_from_contains [] v h), tt))
next_apart n m (by_value place p v) (solving y f) b has of_it = absurd of_it

next_extends : (n : PlainNet) (trial : Trial) (b c : PlainPartial) → IsIn c (next n trial b) → Extends b c
next_extends n (matching p vs) b c h = (made_of_matching n p vs b c h).2.matches.makes.extends
next_extends n (solving x e) b c h = (made_of_outcome n (variable_pattern x) b c (meaning n.functions e (bound_in b) 0) h).2.matches.makes.extends

pub ends_extend : (n : PlainNet) (trials : List Trial) (b c : PlainPartial) → IsIn c (ends n trials b) → Extends b c
ends_extend n [] b c (inl e) = subst (Extends b) e (extends_itself b)
ends_extend n [] b c (inr h) = absurd h
ends_extend n (trial ∷ trials) b c h =
    let one = in_flat_from (ends n trials) (reverse (next n trial b)) c h in
    extends_further b one.0 c (next_extends n trial b one.0 (from_reverse (next n trial b) one.0 one.1)) (ends_extend n trials one.0 c one.2)

pub ends_apart : (n : PlainNet) (m : Marking) (stages : List Stage) (trials : List Trial) (b : PlainPartial) → AllByRecursion HasOneValue stages → AreTrialsOf n m stages trials → AllApart (ends n trials b)
ends_apart n m [] [] b has of_them = (tt, tt)
ends_apart n m [] (trial ∷ trials) b has of_them = absurd of_them
ends_apart n m (stage ∷ stages) [] b has of_them = absurd of_them
ends_apart n m (stage ∷ stages) (trial ∷ trials) b has of_them =
    apart_flat (ends n trials) (reverse (next n trial b)) (λ c d h. ends_extend n trials c d h) (λ c. ends_apart n m stages trials c has.1 of_them.1) (apart_reverse (next n trial b) (next_apart n m stage trial b has.0 of_them.0))

-- ---- the patterns of binding terms are one value

of_constructor : (k : ℕ) (ps : PlainPatterns) (p : PlainPattern) → HaveNoAny ps → constructor_pattern k ps ≡ Some p → HasNoAny p
of_constructor k no_patterns p no_any form = subst HasNoAny (same_Some (bare_pattern k) p form) tt
of_constructor k (more_patterns q no_patterns) p no_any form = subst HasNoAny (same_Some (applied_pattern k q) p form) no_any.0
of_constructor k (more_patterns q (more_patterns r ps)) p no_any form = cc

of_cons : (ps : PlainPatterns) (p : PlainPattern) → HaveNoAny ps → list_of_two ps ≡ Some p → HasNoAny p
of_cons no_patterns p no_any form = cc
of_cons (more_patterns q no_patterns) p no_any form = cc
of_cons (more_patterns q (more_patterns r no_patterns)) p no_any form = subst HasNoAny (same_Some (cons_pattern q r) p form) (no_any.0, no_any.1.0)
of_cons (more_patterns q (more_patterns r (more_patterns s ps))) p no_any form = cc

mutual
  pattern_one : (e : PlainExpr) (p : PlainPattern) → pattern_of e ≡ Some p → HasNoAny p
  pattern_one (literal w) p form = subst HasNoAny (same_Some (literal_pattern w) p form) tt
  pattern_one (variable x) p form = subst HasNoAny (same_Some (variable_pattern x) p form) tt
  pattern_one (apply tupling es) p form = let read = made_of tuple_pattern (patterns_of es) p form in subst HasNoAny read.2 (patterns_one es read.0 read.1)
  pattern_one (apply listing es) p form = let read = made_of list_pattern (patterns_of es) p form in subst HasNoAny read.2 (patterns_one es read.0 read.1)
  pattern_one (apply (constructing k) es) p form = let read = then_parts (constructor_pattern k) (patterns_of es) p form in of_constructor k read.0 p (patterns_one es read.0 read.1) read.2
  pattern_one (apply (operation cons) es) p form = let read = then_parts list_of_two (patterns_of es) p form in of_cons read.0 p (patterns_one es read.0 read.1) read.2
  pattern_one e p form = cc

  patterns_one : (es : PlainExprs) (ps : PlainPatterns) → patterns_of es ≡ Some ps → HaveNoAny ps
  patterns_one no_exprs ps form = subst HaveNoAny (same_Some no_patterns ps form) tt
  patterns_one (more_exprs e es) ps form =
      let first = then_parts (λ p. option_map (more_patterns p) (patterns_of es)) (pattern_of e) ps form in
      let rest = made_of (more_patterns first.0) (patterns_of es) ps first.2 in
      subst HaveNoAny rest.2 (pattern_one e first.0 first.1, patterns_one es rest.0 rest.1)

abbrev AllOne : List BindingTerm → Type 0
AllOne terms = AllByRecursion (λ (term : BindingTerm). HasNoAny term.pattern) terms

with_one : (count : ℕ) (e : PlainExpr) → AllOne (term_with count (pattern_of e))
with_one count e = split (pattern_of e) (λ p. pattern_one e p)
  where
    split : (o : Option PlainPattern) → ((p : PlainPattern) → o ≡ Some p → HasNoAny p) → AllOne (term_with count o)
    split None of_it = tt
    split (Some p) of_it = (of_it p refl, tt)

lone_one : (m : ArcInscription) → AllOne (binding_term m)
lone_one (one e) = with_one 1 e
lone_one (times (literal (int (pos (suc k)))) e) = with_one (suc k) e
lone_one m = tt

each_one : (ms : ArcInscriptions) → AllOne (binding_terms_of_each ms)
each_one no_inscriptions = tt
each_one (more_inscriptions m ms) = each_appended (λ (term : BindingTerm). HasNoAny term.pattern) (binding_term m) (binding_terms_of_each ms) (lone_one m) (each_one ms)

pub terms_one : (m : ArcInscription) → AllOne (binding_terms m)
terms_one (sum_of ms) = each_one ms
terms_one m = lone_one m

pub terms_have_one : (t : PlainTransition) → AllByRecursion HasOneValue (term_stages t)
terms_have_one t = each_in HasOneValue (term_stages t) (λ stage h. of_stage stage (in_flat_from terms_at t.inputs stage h))
  where
    of_stage : (stage : Stage) → (arc : PlainArc) × IsIn arc t.inputs × IsIn stage (terms_at arc) → HasOneValue stage
    of_stage stage of_arc =
        let term = in_map_from (λ (k : BindingTerm). by_term of_arc.0.place k.pattern) (binding_terms of_arc.0.expr) stage of_arc.2 in
        subst HasOneValue term.2 (of_one_in (λ (k : BindingTerm). HasNoAny k.pattern) (binding_terms of_arc.0.expr) term.0 (terms_one of_arc.0.expr) term.1)

further_have_one : (n : PlainNet) (t : PlainTransition) (left : List ℕ) (stages : List Stage) → Further n t left stages → AllByRecursion HasOneValue stages
further_have_one n t [] [] none_left = tt
further_have_one n t (x ∷ left) [] d = elim d [ ]
further_have_one n t left (by_term place p ∷ stages) d = elim d [ ]
further_have_one n t left (by_value place p v ∷ stages) d = elim d [ ]
further_have_one n t left (by_equation x e ∷ stages) (next_equation left' x' e' stages' found further) = (tt, further_have_one n t (those_without (x ∷ []) left) stages further)
further_have_one n t left (by_size x ∷ stages) (next_small left' x' stages' unsolved small further) = (tt, further_have_one n t (those_without (x ∷ []) left) stages further)

pub stages_have_one : (n : PlainNet) (t : PlainTransition) (stages : List Stage) → AreStages n t stages → AllByRecursion HasOneValue stages
stages_have_one n t stages are = subst (AllByRecursion HasOneValue) (sym are.are) (each_appended HasOneValue (term_stages t) are.further (terms_have_one t) (further_have_one n t _ are.further are.follow))
