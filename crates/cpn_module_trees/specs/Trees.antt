-- A document with the trees of its texts. Source: own choice.
use Rattle.std.specs.Prelude.{◌≡◌, ℕ, List, Option, codes}
use Rattle.std.specs.Option.{unwrap_or}
use Rattle.cpn_trees.specs.Trees.{PlainAst, PlainAsts}
use Rattle.cpn_trees.specs.DeclTrees.{PlainDecl}
use Rattle.cpn_readings.specs.ItemByItem.{EachIs, OptionIs}
use Rattle.cpn_document.specs.Document.{RawPlace, RawTransition, RawArc, RawModule, RawDocument}
use Rattle.cpn_module_trees.specs.Parsing.{Parsing, IsDeclaration, IsInscription, IsGuard, IsDelay}

-- A place and a transition, each with what its texts are parsed as. The colour set of a place is a name.
pub record PlaceTrees : Type 0 where
  pub name : List ℕ
  pub colour : List ℕ
  pub initial : Option (Parsing PlainAst)

pub record TransitionTrees : Type 0 where
  pub name : List ℕ
  pub guard : Option (Parsing PlainAsts)
  pub delay : Option (Parsing PlainAst)

-- A module: its places, its transitions, and what the inscriptions of its arcs are parsed as.
pub record ModuleTrees : Type 0 where
  pub places : List PlaceTrees
  pub transitions : List TransitionTrees
  pub arcs : List (Parsing PlainAst)

-- A document: what its declarations are parsed as, and its modules.
pub record DocumentTrees : Type 0 where
  pub declarations : List (Parsing PlainDecl)
  pub modules : List ModuleTrees

-- ---- what each text is parsed as

pub record ArePlaceTrees (written : RawPlace) (place : PlaceTrees) : Type 0 where
  pub name : place.name ≡ written.name
  pub colour : place.colour ≡ written.colour
  pub initial : OptionIs IsInscription written.initial place.initial

pub record AreTransitionTrees (written : RawTransition) (transition : TransitionTrees) : Type 0 where
  pub name : transition.name ≡ written.name
  pub guard : OptionIs IsGuard written.guard transition.guard
  pub delay : OptionIs IsDelay written.delay transition.delay

-- The inscription of an arc; where none is written it is `empty`.
abbrev pub IsArcTree : RawArc → Parsing PlainAst → Type 0
IsArcTree written tree = IsInscription (unwrap_or written.expr (codes "empty")) tree

pub record AreModuleTrees (written : RawModule) (of_module : ModuleTrees) : Type 0 where
  pub places : EachIs ArePlaceTrees written.places of_module.places
  pub transitions : EachIs AreTransitionTrees written.transitions of_module.transitions
  pub arcs : EachIs IsArcTree written.arcs of_module.arcs

-- Each text of the document is parsed as the tree, or the refusal, that stands for it.
pub record AreTrees (written : RawDocument) (document : DocumentTrees) : Type 0 where
  pub declarations : EachIs IsDeclaration written.declarations document.declarations
  pub modules : EachIs AreModuleTrees written.modules document.modules
