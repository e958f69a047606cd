-- The arcs of a module are accepted by the rules of typing, each at a place of it, and the input arcs carry their binding terms.
use Rattle.std.proofs.Common.{◌≡◌, ◌<◌, ℕ, Bool, true, false, cond, List, [], ◌∷◌, length, refl, subst}
use Rattle.std.specs.Prelude.{Option, Some, None}
use Rattle.std.specs.List.{AllByRecursion}
use Rattle.cpn_definitions.specs.Bindable.{binding_terms}
use Rattle.cpn_definitions.specs.Net.{PlainArc, Coloured}
use Rattle.cpn_trees.specs.Trees.{PlainAst}
use Rattle.cpn_typing.specs.Names.{Declared}
use Rattle.cpn_typing.specs.Multisets.{Side, input, output, checked_arc}
use Rattle.cpn_typing.specs.AcceptedTransitions.{IsAcceptedArc}
use Rattle.cpn_document.specs.declared.document.Way.{Way}
use Rattle.cpn_document.specs.declared.document.Way.TheVariants.{ToTransition, ToPlace, Both}
use Rattle.cpn_document.specs.declared.pointers.Pointer.{Pointer}
use Rattle.cpn_module.specs.Hierarchy.{PlainEnds}
use Rattle.cpn_module_trees.specs.Parsing.{Parsing}
use Rattle.cpn_readings.proofs.Readings.{same_read, steps}
use Rattle.cpn_accepted.specs.Nets.{colour_at}
use Rattle.cpn_module_nets.specs.Reading.{read}
use Rattle.cpn_module_nets.specs.Accepted.{tree_at, accepted_at, Sides, with_first, arc_at, sides_of, is_transition, inscribed, arc_with, is_at, inputs_of, outputs_of}
use Rattle.cpn_module_nets.proofs.AcceptedTexts.{accepted_is}

-- ---- what an arc of the document stands for

-- what holds of an arc at a transition and of one at a substitution transition holds of each
pub arc_case : (P : Sides → Type 0) (ds : Declared) (places : List Coloured) (pointer : Pointer) (ends : PlainEnds) (text : Parsing PlainAst) (sides : Sides)
    → ((made : Sides) → is_transition ends.node ≡ true → inscribed ds places pointer ends text ≡ read made → P made)
    → (is_transition ends.node ≡ false → P (record { node = ends.node; input = None; output = None })) → arc_with ds places pointer ends text ≡ read sides → P sides
unfolding arc_with
arc_case P ds places pointer ends text sides at elsewhere h = by (is_transition ends.node) refl h
  where
    by : (b : Bool) → is_transition ends.node ≡ b → cond b (inscribed ds places pointer ends text) (read (record { node = ends.node; input = None; output = None })) ≡ read sides → P sides
    by true is k = at sides is k
    by false is k = subst P (same_read _ sides k) (elsewhere is)

-- an accepted arc of a side at one of the places, whose colour set it carries
pub record IsGoodArc (ds : Declared) (places : List Coloured) (side : Side) (arc : PlainArc) : Type 0 where
  pub accepted : IsAcceptedArc ds side arc
  pub colour_is : arc.colour ≡ colour_at places arc.place
  pub place_known : arc.place < length places

-- an input arc has its binding terms too
pub record IsGoodInput (ds : Declared) (places : List Coloured) (arc : PlainArc) : Type 0 where
  pub good : IsGoodArc ds places input arc
  pub terms : arc.terms ≡ binding_terms arc.expr

abbrev pub IfThere : (PlainArc → Type 0) → Option PlainArc → Type 0
IfThere P None = Unit {0}
IfThere P (Some arc) = P arc

pub record AreGoodSides (ds : Declared) (places : List Coloured) (sides : Sides) : Type 0 where
  pub into : IfThere (IsGoodInput ds places) sides.input
  pub out : IfThere (IsGoodArc ds places output) sides.output

module _ (ds : Declared) (places : List Coloured) (p : ℕ) (known : p < length places) (pointer : Pointer) (tree : PlainAst) where
  input_good : (arc : PlainArc) → arc_at input ds (colour_at places p) pointer p tree ≡ read arc → IsGoodInput ds places arc
  unfolding arc_at
  input_good arc h =
      let m = steps _ (accepted_at pointer (checked_arc ds input (colour_at places p) tree)) arc h in
      subst (IsGoodInput ds places) (same_read _ arc m.2) (record {
        good = record { accepted = record { tree = tree; is = accepted_is pointer (checked_arc ds input (colour_at places p) tree) m.0 m.1 }; colour_is = refl; place_known = known };
        terms = refl;
      })

  output_good : (arc : PlainArc) → arc_at output ds (colour_at places p) pointer p tree ≡ read arc → IsGoodArc ds places output arc
  unfolding arc_at
  output_good arc h =
      let m = steps _ (accepted_at pointer (checked_arc ds output (colour_at places p) tree)) arc h in
      subst (IsGoodArc ds places output) (same_read _ arc m.2)
      (record { accepted = record { tree = tree; is = accepted_is pointer (checked_arc ds output (colour_at places p) tree) m.0 m.1 }; colour_is = refl; place_known = known })

sides_good : (way : Way) (ds : Declared) (places : List Coloured) (pointer : Pointer) (ends : PlainEnds) (tree : PlainAst) (sides : Sides) → ends.place < length places → sides_of way ds (colour_at places ends.place) pointer ends tree ≡ read sides → AreGoodSides ds places sides
unfolding sides_of
sides_good ToTransition ds places pointer ends tree sides known h =
    let into = steps _ (arc_at input ds (colour_at places ends.place) pointer ends.place tree) sides h in
    subst (AreGoodSides ds places) (same_read _ sides into.2) (record { into = input_good ds places ends.place known pointer tree into.0 into.1; out = tt })
sides_good ToPlace ds places pointer ends tree sides known h =
    let out = steps _ (arc_at output ds (colour_at places ends.place) pointer ends.place tree) sides h in
    subst (AreGoodSides ds places) (same_read _ sides out.2) (record { into = tt; out = output_good ds places ends.place known pointer tree out.0 out.1 })
sides_good Both ds places pointer ends tree sides known h =
    let into = steps _ (arc_at input ds (colour_at places ends.place) pointer ends.place tree) sides h in
    let out = steps _ (arc_at output ds (colour_at places ends.place) pointer ends.place tree) sides into.2 in
    subst (AreGoodSides ds places) (same_read _ sides out.2) (record { into = input_good ds places ends.place known pointer tree into.0 into.1; out = output_good ds places ends.place known pointer tree out.0 out.1 })

inscribed_good : (ds : Declared) (places : List Coloured) (pointer : Pointer) (ends : PlainEnds) (text : Parsing PlainAst) (sides : Sides) → ends.place < length places → inscribed ds places pointer ends text ≡ read sides → AreGoodSides ds places sides
unfolding inscribed
inscribed_good ds places pointer ends text sides known h =
    let tree = steps _ (tree_at pointer text) sides h in
    sides_good ends.way ds places pointer ends tree.0 sides known tree.2

pub arc_good : (ds : Declared) (places : List Coloured) (pointer : Pointer) (ends : PlainEnds) (text : Parsing PlainAst) (sides : Sides) → ends.place < length places → arc_with ds places pointer ends text ≡ read sides → AreGoodSides ds places sides
arc_good ds places pointer ends text sides known h =
    arc_case (AreGoodSides ds places) ds places pointer ends text sides (λ made is k. inscribed_good ds places pointer ends text made known k) (λ is. record { into = tt; out = tt }) h

-- ---- the arcs of a transition

first_good : (P : PlainArc → Type 0) (o : Option PlainArc) (arcs : List PlainArc) → IfThere P o → AllByRecursion P arcs → AllByRecursion P (with_first o arcs)
first_good P None arcs h all = all
first_good P (Some arc) arcs h all = (h, all)

module _ (P : PlainArc → Type 0) (t : ℕ) where
  pub inputs_all : (arcs : List Sides) → AllByRecursion (λ (sides : Sides). IfThere P sides.input) arcs → AllByRecursion P (inputs_of t arcs)
  inputs_all [] all = tt
  inputs_all (arc ∷ arcs) all = by (is_at t arc.node) (inputs_all arcs all.1)
    where
      by : (b : Bool) → AllByRecursion P (inputs_of t arcs) → AllByRecursion P (cond b (with_first arc.input (inputs_of t arcs)) (inputs_of t arcs))
      by true rest = first_good P arc.input (inputs_of t arcs) all.0 rest
      by false rest = rest

  pub outputs_all : (arcs : List Sides) → AllByRecursion (λ (sides : Sides). IfThere P sides.output) arcs → AllByRecursion P (outputs_of t arcs)
  outputs_all [] all = tt
  outputs_all (arc ∷ arcs) all = by (is_at t arc.node) (outputs_all arcs all.1)
    where
      by : (b : Bool) → AllByRecursion P (outputs_of t arcs) → AllByRecursion P (cond b (with_first arc.output (outputs_of t arcs)) (outputs_of t arcs))
      by true rest = first_good P arc.output (outputs_of t arcs) all.0 rest
      by false rest = rest
