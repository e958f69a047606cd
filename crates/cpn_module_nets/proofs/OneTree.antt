-- A document has one tree: each of its texts is parsed as one thing.
use Rattle.std.proofs.Common.{◌≡◌, ◌∙◌, ℕ, List, ap, sym}
use Rattle.std.specs.Prelude.{codes}
use Rattle.std.specs.Option.{unwrap_or}
use Rattle.cpn_trees.specs.Depth.{depth, deepest, decl_depth}
use Rattle.cpn_syntax.specs.Texts.{Text}
use Rattle.cpn_syntax.specs.Inscriptions.{Spells}
use Rattle.cpn_syntax.specs.Declarations.{SpellsDecl}
use Rattle.cpn_syntax.specs.Guards.{SpellsGuard}
use Rattle.cpn_syntax.specs.Delays.{SpellsDelay}
use Rattle.cpn_document.specs.Document.{RawPlace, RawTransition, RawArc, RawModule, RawDocument}
use Rattle.cpn_readings.proofs.RelatedReadings.{IsOne, each_one, option_one}
use Rattle.cpn_module_trees.specs.Parsing.{IsParsedAs, IsDeclaration, IsInscription, IsGuard, IsDelay}
use Rattle.cpn_module_trees.specs.Trees.{PlaceTrees, TransitionTrees, ModuleTrees, DocumentTrees, ArePlaceTrees, AreTransitionTrees, IsArcTree, AreModuleTrees, AreTrees}

parsed_one : {Tree : Type 0} (Spelled : Tree → Text → Type 0) (levels : Tree → ℕ) (text : List ℕ) → IsOne (IsParsedAs Spelled levels text)
parsed_one Spelled levels text x y h k = k.only x h.comes

places_one : (written : RawPlace) → IsOne (ArePlaceTrees written)
places_one written x y h k = same x y (h.name ∙ sym k.name) (h.colour ∙ sym k.colour) (option_one IsInscription (λ text. parsed_one (Spells 0) depth text) written.initial x.initial y.initial h.initial k.initial)
  where
    same : (x y : PlaceTrees) → x.name ≡ y.name → x.colour ≡ y.colour → x.initial ≡ y.initial → x ≡ y
    same x y a b c =
        ap {B = PlaceTrees} (λ n. record { name = n; colour = x.colour; initial = x.initial }) a ∙ ap {B = PlaceTrees} (λ n. record { name = y.name; colour = n; initial = x.initial }) b ∙ ap {B = PlaceTrees} (λ n. record { name = y.name; colour = y.colour; initial = n }) c

transitions_one : (written : RawTransition) → IsOne (AreTransitionTrees written)
transitions_one written x y h k =
    same x y (h.name ∙ sym k.name) (option_one IsGuard (λ text. parsed_one SpellsGuard deepest text) written.guard x.guard y.guard h.guard k.guard) (option_one IsDelay (λ text. parsed_one SpellsDelay depth text) written.delay x.delay y.delay h.delay k.delay)
  where
    same : (x y : TransitionTrees) → x.name ≡ y.name → x.guard ≡ y.guard → x.delay ≡ y.delay → x ≡ y
    same x y a b c =
        ap {B = TransitionTrees} (λ n. record { name = n; guard = x.guard; delay = x.delay }) a ∙ ap {B = TransitionTrees} (λ n. record { name = y.name; guard = n; delay = x.delay }) b ∙ ap {B = TransitionTrees} (λ n. record { name = y.name; guard = y.guard; delay = n }) c

arcs_one : (written : RawArc) → IsOne (IsArcTree written)
arcs_one written = parsed_one (Spells 0) depth (unwrap_or written.expr (codes "empty"))

modules_one : (written : RawModule) → IsOne (AreModuleTrees written)
modules_one written x y h k =
    same x y (each_one ArePlaceTrees places_one written.places x.places y.places h.places k.places) (each_one AreTransitionTrees transitions_one written.transitions x.transitions y.transitions h.transitions k.transitions)
    (each_one IsArcTree arcs_one written.arcs x.arcs y.arcs h.arcs k.arcs)
  where
    same : (x y : ModuleTrees) → x.places ≡ y.places → x.transitions ≡ y.transitions → x.arcs ≡ y.arcs → x ≡ y
    same x y a b c =
        ap {B = ModuleTrees} (λ n. record { places = n; transitions = x.transitions; arcs = x.arcs }) a ∙ ap {B = ModuleTrees} (λ n. record { places = y.places; transitions = n; arcs = x.arcs }) b ∙ ap {B = ModuleTrees} (λ n. record { places = y.places; transitions = y.transitions; arcs = n }) c

-- The trees of a document are one thing.
pub trees_one : (written : RawDocument) → IsOne (AreTrees written)
trees_one written x y h k =
    same x y (each_one IsDeclaration (λ text. parsed_one SpellsDecl decl_depth text) written.declarations x.declarations y.declarations h.declarations k.declarations)
    (each_one AreModuleTrees modules_one written.modules x.modules y.modules h.modules k.modules)
  where
    same : (x y : DocumentTrees) → x.declarations ≡ y.declarations → x.modules ≡ y.modules → x ≡ y
    same x y a b = ap {B = DocumentTrees} (λ n. record { declarations = n; modules = x.modules }) a ∙ ap {B = DocumentTrees} (λ n. record { declarations = y.declarations; modules = n }) b
