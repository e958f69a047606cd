-- Names that are known: that name something, given the names of the modules and those of the places of each. Source: own choice.
use Rattle.std.specs.Prelude.{◌≡◌, ℕ, true, ◌||◌, List, All}
use Rattle.cpn_document.specs.Document.{RawArc, RawAssignment, RawSub, RawModule, RawMember, RawFusion, RawDocument}
use Rattle.cpn_document.specs.Parts.{is_one_of}
use Rattle.cpn_module.specs.Named.{position, place_names, transition_names, sub_names}
use Rattle.cpn_module.specs.Names.{names_at}

-- a name among names
abbrev pub IsKnown : List ℕ → List (List ℕ) → Type 0
IsKnown name names = is_one_of name names ≡ true

-- a name of a transition, or else of a substitution transition
abbrev pub IsKnownNode : List ℕ → List (List ℕ) → List (List ℕ) → Type 0
IsKnownNode name transitions subs = (is_one_of name transitions || is_one_of name subs) ≡ true

-- the names of an arc, given those of its module
pub record IsKnownArc (places transitions subs : List (List ℕ)) (arc : RawArc) : Type 0 where
  pub place : IsKnown arc.place places
  pub node : IsKnownNode arc.transition transitions subs

-- the names of an assignment, given those of the places of the module and of the submodule
pub record IsKnownAssignment (sockets ports : List (List ℕ)) (a : RawAssignment) : Type 0 where
  pub port : IsKnown a.port ports
  pub socket : IsKnown a.socket sockets

-- the names of a substitution transition
pub record IsKnownSub (modules : List (List ℕ)) (places : List (List (List ℕ))) (sockets : List (List ℕ)) (sub : RawSub) : Type 0 where
  pub submodule : IsKnown sub.submodule modules
  pub assignments : All (IsKnownAssignment sockets (names_at places (position sub.submodule modules))) sub.assign

-- the names of a module
pub record IsKnownModule (modules : List (List ℕ)) (places : List (List (List ℕ))) (m : RawModule) : Type 0 where
  pub arcs : All (IsKnownArc (place_names m) (transition_names m) (sub_names m)) m.arcs
  pub subs : All (IsKnownSub modules places (place_names m)) m.subs

-- the names of a member of a fusion set
pub record IsKnownMember (modules : List (List ℕ)) (places : List (List (List ℕ))) (member : RawMember) : Type 0 where
  pub of_module : IsKnown member.of_module modules
  pub place : IsKnown member.place (names_at places (position member.of_module modules))

abbrev pub IsKnownFusion : List (List ℕ) → List (List (List ℕ)) → RawFusion → Type 0
IsKnownFusion modules places fusion = All (IsKnownMember modules places) fusion.members

-- Each name of a document is known: that of its top module, and those of its modules and of its fusion sets.
pub record AreKnown (modules : List (List ℕ)) (places : List (List (List ℕ))) (d : RawDocument) : Type 0 where
  pub top : IsKnown d.top modules
  pub in_modules : All (IsKnownModule modules places) d.modules
  pub in_fusions : All (IsKnownFusion modules places) d.fusions
