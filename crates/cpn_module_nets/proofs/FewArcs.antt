-- Each transition of a module has as many arcs in its net as the document has at it, and no more: at most 64.
use Rattle.std.proofs.Common.{◌≡◌, ℕ, suc, ◌+◌, ◌<◌, ◌≤◌, ◌∙◌, ◌||◌, Bool, true, false, cond, List, [], ◌∷◌, ◌++◌, length, slice_index_or, map, refl, sym, ap, subst, arith, eqb-true}
use Rattle.std.specs.Prelude.{Option, Some, None}
use Rattle.std.specs.List.{AllByRecursion, list_any}
use Rattle.std.specs.Str.{bytes_eq}
use Rattle.std.proofs.lemmas.List.{get_or-map}
use Rattle.std.proofs.lemmas.List.Sums.{sum_by-cons}
use Rattle.std.proofs.lemmas.Slice.Eq.{bytes_eq-Decides}
use Rattle.std.proofs.Math.Nat.{zero-add}
use Rattle.cpn_definitions.specs.Colour.{PlainColour}
use Rattle.cpn_definitions.specs.Net.{PlainArc, PlainTransition, Coloured}
use Rattle.cpn_trees.specs.Trees.{PlainAst}
use Rattle.cpn_typing.specs.Names.{Declared}
use Rattle.cpn_typing.specs.Multisets.{input, output}
use Rattle.cpn_document.specs.Document.{RawTransition, RawArc, RawModule, arcs_on, arcs_at, most_arcs}
use Rattle.cpn_document.specs.FewArcs as documents
use Rattle.cpn_document.specs.Parts.{is_one_of}
use Rattle.cpn_document.specs.declared.document.Way.{Way}
use Rattle.cpn_document.specs.declared.document.Way.TheVariants.{ToTransition, ToPlace, Both}
use Rattle.cpn_document.specs.declared.pointers.Pointer.{Pointer}
use Rattle.cpn_module.specs.declared.hierarchy.Node.TheVariants as nodes
use Rattle.cpn_module.specs.Hierarchy.{PlainEnds, PlainStructure}
use Rattle.cpn_module.specs.Named.{position, transition_names, sub_names, node_among, ends_in}
use Rattle.cpn_readings.specs.ItemByItem.{EachIs}
use Rattle.cpn_readings.proofs.Readings.{same_read, steps}
use Rattle.cpn_module_trees.specs.Parsing.{Parsing}
use Rattle.cpn_module_trees.specs.Trees.{TransitionTrees}
use Rattle.cpn_accepted.specs.Completed.{IsCompleted}
use Rattle.cpn_accepted.specs.Nets.{colour_at}
use Rattle.cpn_module_nets.specs.Reading.{read, each_from}
use Rattle.cpn_module_nets.specs.Pointers.{expr_pointer, guard_pointer, delay_pointer}
use Rattle.cpn_module_nets.specs.Accepted.{tree_at, guard_at, delay_at, bare_transition, Sides, with_first, arc_at, sides_of, inscribed, arc_with, no_ends, ends_at, arc_of, is_at, inputs_of, outputs_of, joined_from}
use Rattle.cpn_module_nets.proofs.AcceptedArcs.{arc_case}
use Rattle.cpn_module_nets.proofs.AcceptedTexts.{each_from_all}
use Rattle.cpn_module_nets.proofs.ListFacts.{all_below}

-- ---- the arcs that an arc of the document stands for

abbrev pub on_side : Option PlainArc → ℕ
on_side None = 0
on_side (Some arc) = 1

-- as many as its way counts, at most, and all at what the arc joins
pub record AreCounted (ends : PlainEnds) (sides : Sides) : Type 0 where
  pub node : sides.node ≡ ends.node
  pub many : on_side sides.input + on_side sides.output ≤ arcs_on ends.way

module _ (ds : Declared) (colour : PlainColour) (pointer : Pointer) (ends : PlainEnds) (tree : PlainAst) where
  abbrev AreOn : Way → Sides → Type 0
  AreOn way sides = (sides.node ≡ ends.node) × (on_side sides.input + on_side sides.output ≤ arcs_on way)

  sides_counted : (way : Way) (sides : Sides) → sides_of way ds colour pointer ends tree ≡ read sides → AreOn way sides
  unfolding sides_of
  sides_counted ToTransition sides h =
      let into = steps _ (arc_at input ds colour pointer ends.place tree) sides h in
      subst (AreOn ToTransition) (same_read _ sides into.2) (refl, omega arith)
  sides_counted ToPlace sides h =
      let out = steps _ (arc_at output ds colour pointer ends.place tree) sides h in
      subst (AreOn ToPlace) (same_read _ sides out.2) (refl, omega arith)
  sides_counted Both sides h =
      let into = steps _ (arc_at input ds colour pointer ends.place tree) sides h in
      let out = steps _ (arc_at output ds colour pointer ends.place tree) sides into.2 in
      subst (AreOn Both) (same_read _ sides out.2) (refl, omega arith)

inscribed_counted : (ds : Declared) (places : List Coloured) (pointer : Pointer) (ends : PlainEnds) (text : Parsing PlainAst) (sides : Sides) → inscribed ds places pointer ends text ≡ read sides → AreCounted ends sides
unfolding inscribed
inscribed_counted ds places pointer ends text sides h =
    let tree = steps _ (tree_at pointer text) sides h in
    let on = sides_counted ds (colour_at places ends.place) pointer ends tree.0 ends.way sides tree.2 in
    record { node = on.0; many = on.1 }

arc_counted : (ds : Declared) (places : List Coloured) (pointer : Pointer) (ends : PlainEnds) (text : Parsing PlainAst) (sides : Sides) → arc_with ds places pointer ends text ≡ read sides → AreCounted ends sides
arc_counted ds places pointer ends text sides h = arc_case (AreCounted ends) ds places pointer ends text sides (λ made is k. inscribed_counted ds places pointer ends text made k) (λ is. record { node = refl; many = omega arith }) h

module _ (ds : Declared) (places : List Coloured) (m : ℕ) (s : PlainStructure) where
  later_ends : (i : ℕ) (e : PlainEnds) (es : List PlainEnds) → ((k : ℕ) → ends_at s (i + k) ≡ slice_index_or (e ∷ es) k no_ends) → (k : ℕ) → ends_at s (suc i + k) ≡ slice_index_or es k no_ends
  later_ends i e es at k = ap (ends_at s) (one_more i k) ∙ at (suc k)
    where
      one_more : (a b : ℕ) → suc a + b ≡ a + suc b
      one_more a b = omega arith

  counted_from : (i : ℕ) (texts : List (Parsing PlainAst)) (sides : List Sides) (ends : List PlainEnds) → ((k : ℕ) → ends_at s (i + k) ≡ slice_index_or ends k no_ends) → length texts ≡ length ends → each_from (arc_of ds places m s) i texts ≡ read sides
      → EachIs AreCounted ends sides
  unfolding each_from
  counted_from i [] sides [] at long h = subst (EachIs AreCounted []) (same_read [] sides h) tt
  counted_from i [] sides (e ∷ es) at long h = absurd (omega arith)
  counted_from i (text ∷ texts) sides [] at long h = absurd (omega arith)
  counted_from i (text ∷ texts) sides (e ∷ es) at long h =
      let first = steps _ (arc_of ds places m s i text) sides h in
      let rest = steps _ (each_from (arc_of ds places m s) (suc i) texts) sides first.2 in
      let here : ends_at s i ≡ e = ap (ends_at s) (no_more i) ∙ at 0 in
      subst (EachIs AreCounted (e ∷ es)) (same_read _ sides rest.2)
      (subst (λ x. AreCounted x first.0) here (arc_counted ds places (expr_pointer m i) (ends_at s i) text first.0 first.1), counted_from (suc i) texts rest.0 es (later_ends i e es at) (omega arith) rest.1)
    where
      no_more : (a : ℕ) → a ≡ a + 0
      no_more a = omega arith

  pub arcs_counted : (texts : List (Parsing PlainAst)) (sides : List Sides) → length texts ≡ length s.arcs → each_from (arc_of ds places m s) 0 texts ≡ read sides → EachIs AreCounted s.arcs sides
  arcs_counted texts sides long h = counted_from 0 texts sides s.arcs (λ k. ap (ends_at s) (zero-add k)) long h

first_many : (o : Option PlainArc) (arcs : List PlainArc) → length (with_first o arcs) ≡ on_side o + length arcs
first_many None arcs = omega arith
first_many (Some arc) arcs = omega arith

-- ---- arcs by the names of their transitions

-- the name that a name's number is that of is that name
position_finds : (name : List ℕ) (names : List (List ℕ)) (d : List ℕ) → is_one_of name names ≡ true → name ≡ slice_index_or names (position name names) d
position_finds name [] d h = cc
position_finds name (n ∷ ns) d h = by (bytes_eq name n) refl h (λ k. position_finds name ns d k)
  where
    by : (b : Bool) → bytes_eq name n ≡ b → (b || list_any (bytes_eq name) ns) ≡ true → ((list_any (bytes_eq name) ns ≡ true) → name ≡ slice_index_or ns (position name ns) d) → name ≡ slice_index_or (n ∷ ns) (cond b 0 (suc (position name ns))) d
    by true e k later = (bytes_eq-Decides name n).0 e
    by false e k later = later k

-- an arc at the transition of a number names it
named_at : (raw : RawModule) (t : ℕ) (name d : List ℕ) → is_at t (node_among (transition_names raw) (sub_names raw) name) ≡ true → name ≡ slice_index_or (transition_names raw) t d
named_at raw t name d h = by (is_one_of name (transition_names raw)) refl h
  where
    by : (b : Bool) → is_one_of name (transition_names raw) ≡ b → is_at t (cond b (nodes.Transition (position name (transition_names raw))) (nodes.Substitution (position name (sub_names raw)))) ≡ true → name ≡ slice_index_or (transition_names raw) t d
    by true e k = position_finds name (transition_names raw) d e ∙ ap (λ n. slice_index_or (transition_names raw) n d) (sym (eqb-true t (position name (transition_names raw)) k))
    by false e k = cc

module _ (raw : RawModule) (t : ℕ) (name : List ℕ) (is : (d : List ℕ) → slice_index_or (transition_names raw) t d ≡ name) where
  same_name : (other : List ℕ) → is_at t (node_among (transition_names raw) (sub_names raw) other) ≡ true → bytes_eq name other ≡ true
  same_name other h = (bytes_eq-Decides name other).1 (sym (named_at raw t other [] h ∙ is []))

  arcs_many : (arcs : List RawArc) (sides : List Sides) → EachIs AreCounted (map (ends_in raw) arcs) sides → length (inputs_of t sides) + length (outputs_of t sides) ≤ arcs_at name arcs
  arcs_many [] [] are = omega arith
  arcs_many [] (s ∷ sides) are = absurd are
  arcs_many (arc ∷ arcs) [] are = absurd are
  arcs_many (arc ∷ arcs) (s ∷ sides) are =
      subst (λ n. length (inputs_of t (s ∷ sides)) + length (outputs_of t (s ∷ sides)) ≤ n) (sym (sum_by-cons (λ (a : RawArc). cond (bytes_eq name a.transition) (arcs_on a.way) 0) arc arcs)) (by (is_at t s.node) refl (arcs_many arcs sides are.1))
    where
      by : (b : Bool) → is_at t s.node ≡ b → length (inputs_of t sides) + length (outputs_of t sides) ≤ arcs_at name arcs →
          length (cond b (with_first s.input (inputs_of t sides)) (inputs_of t sides)) + length (cond b (with_first s.output (outputs_of t sides)) (outputs_of t sides)) ≤ cond (bytes_eq name arc.transition) (arcs_on arc.way) 0 + arcs_at name arcs
      by true e rest =
          let ins = first_many s.input (inputs_of t sides) in
          let outs = first_many s.output (outputs_of t sides) in
          let here = are.0.many in
          let named : bytes_eq name arc.transition ≡ true = same_name arc.transition (ap (is_at t) (sym are.0.node) ∙ e) in
          rw named (omega (arith, rest, ins, outs, here))
      by false e rest = omega (arith, rest)

-- ---- transitions

abbrev pub HasFewArcs : PlainTransition → Type 0
HasFewArcs t = length t.inputs + length t.outputs ≤ 64

-- no arc is joined to it yet
abbrev IsBare : PlainTransition → Type 0
IsBare t = (t.inputs ≡ []) × (t.outputs ≡ [])

bare_is : (ds : Declared) (m i : ℕ) (transition : TransitionTrees) (bare : PlainTransition) → bare_transition ds m i transition ≡ read bare → IsBare bare
unfolding bare_transition
bare_is ds m i transition bare h =
    let guard = steps _ (guard_at ds (guard_pointer m i) transition.guard) bare h in
    let delay = steps _ (delay_at ds (delay_pointer m i) transition.delay) bare guard.2 in
    subst IsBare (same_read _ bare delay.2) (refl, refl)

joined_few : (t : ℕ) (xs : List PlainTransition) (sides : List Sides) → AllByRecursion IsBare xs → ((k : ℕ) → t ≤ k → k < t + length xs → length (inputs_of k sides) + length (outputs_of k sides) ≤ 64) → AllByRecursion HasFewArcs (joined_from t xs sides)
joined_few t [] sides bare few = tt
joined_few t (x ∷ xs) sides bare few = (
  subst (λ ins. length (ins ++ inputs_of t sides) + length (x.outputs ++ outputs_of t sides) ≤ 64) (sym bare.0.0)
      (subst (λ outs. length (inputs_of t sides) + length (outs ++ outputs_of t sides) ≤ 64) (sym bare.0.1) (few t (omega arith) (omega arith))),
  joined_few (suc t) xs sides bare.1 (λ k low high. few k (omega arith) (omega arith)),
)

completed_few : (bares ts : List PlainTransition) → EachIs IsCompleted bares ts → AllByRecursion HasFewArcs bares → AllByRecursion HasFewArcs ts
completed_few [] [] is all = tt
completed_few [] (t ∷ ts) is all = absurd is
completed_few (bare ∷ bares) [] is all = absurd is
completed_few (bare ∷ bares) (t ∷ ts) is all = (subst HasFewArcs (sym is.0.same) all.0, completed_few bares ts is.1 all.1)

abbrev no_transition_written : RawTransition
no_transition_written = record { name = []; guard = None; delay = None }

-- No transition of the net of a module has too many arcs, where none of the module has.
pub transitions_few : (raw : RawModule) → documents.HasFewArcs raw → (ds : Declared) (places : List Coloured) (m : ℕ) (s : PlainStructure) → s.arcs ≡ map (ends_in raw) raw.arcs
    → (trees : List TransitionTrees) → length trees ≡ length raw.transitions → (bares : List PlainTransition) → length bares ≡ length trees → each_from (bare_transition ds m) 0 trees ≡ read bares
    → (texts : List (Parsing PlainAst)) → length texts ≡ length s.arcs → (sides : List Sides) → each_from (arc_of ds places m s) 0 texts ≡ read sides → (ts : List PlainTransition) → EachIs IsCompleted (joined_from 0 bares sides) ts → AllByRecursion HasFewArcs ts
transitions_few raw few ds places m s arcs_are trees many bares long bares_are texts as_many sides sides_are ts completed =
    let counted = subst (λ ends. EachIs AreCounted ends sides) arcs_are (arcs_counted ds places m s texts sides as_many sides_are) in
    completed_few (joined_from 0 bares sides) ts completed
    (joined_few 0 bares sides (each_from_all (bare_transition ds m) IsBare (bare_is ds m) 0 trees bares bares_are) (λ k low high. few_at k (subst (λ n. k < n) (long ∙ many) (at_zero k (length bares) high)) sides counted))
  where
    at_zero : (k n : ℕ) → k < 0 + n → k < n
    at_zero k n h = omega (arith, h)

    enough : (a b : ℕ) → a ≤ b → b ≤ 64 → a ≤ 64
    enough a b h k = omega (arith, h, k)

    few_at : (k : ℕ) → k < length raw.transitions → (sides : List Sides) → EachIs AreCounted (map (ends_in raw) raw.arcs) sides → length (inputs_of k sides) + length (outputs_of k sides) ≤ 64
    few_at k lt sides counted =
        let name = (slice_index_or raw.transitions k no_transition_written).name in
        enough (length (inputs_of k sides) + length (outputs_of k sides)) (arcs_at name raw.arcs)
        (arcs_many raw k name (λ d. get_or-map (λ (t : RawTransition). t.name) raw.transitions k no_transition_written d lt) raw.arcs sides counted)
        (all_below (λ (t : RawTransition). arcs_at t.name raw.arcs ≤ most_arcs) no_transition_written raw.transitions k lt few)
