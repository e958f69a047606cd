-- What holds of the names of each document that is read, and of its declarations. Source: own choice.
use Rattle.std.specs.Prelude.{◌≡◌, ℕ, ◌≤◌, true, false, List, length, map}
use Rattle.std.specs.List.{AllByRecursion, IsDistinct, list_all}
use Rattle.std.specs.Str.{bytes_eq}
use Rattle.cpn_document.specs.Document.{RawModule, RawDocument, most_declarations}
use Rattle.cpn_document.specs.Parts.{is_one_of}
use Rattle.cpn_document.specs.Texts.{is_name}

-- Each of the texts is a name, and no two of them are the same.
pub record AreNames (names : List (List ℕ)) : Type 0 where
  pub formed : list_all is_name names ≡ true
  pub distinct : IsDistinct bytes_eq names

-- In a module the places have names, no two of them the same; and so have the transitions and the substitution transitions, none of
-- which has the name of a transition.
pub record IsWellNamed (m : RawModule) : Type 0 where
  pub places : AreNames (map (λ place. place.name) m.places)
  pub transitions : AreNames (map (λ transition. transition.name) m.transitions)
  pub subs : AreNames (map (λ sub. sub.name) m.subs)
  pub apart : AllByRecursion (λ sub. is_one_of sub.name (map (λ transition. transition.name) m.transitions) ≡ false) m.subs

-- Well named: the modules of a document have names, no two of them the same; so have its fusion sets, and its monitors; and so have
-- the things of each module.
pub record AreWellNamed (d : RawDocument) : Type 0 where
  pub modules : AreNames (map (λ of_document. of_document.name) d.modules)
  pub fusions : AreNames (map (λ fusion. fusion.name) d.fusions)
  pub monitors : AreNames (map (λ monitor. monitor.name) d.monitors)
  pub each : AllByRecursion IsWellNamed d.modules

-- a document has no more declarations than it may have
abbrev pub HasFewDeclarations : RawDocument → Type 0
HasFewDeclarations document = length document.declarations ≤ most_declarations
