-- The places of a document that numbers tell. Source: own choice.
use Rattle.std.specs.Prelude.{ℕ, ◌<◌, length, slice_index_or, All}
use Rattle.cpn_document.specs.Document.{RawDocument}
use Rattle.cpn_module.specs.Hierarchy.{PlainAssignment, PlainSubstitution, PlainMember}
use Rattle.cpn_module.specs.Named.{no_module}

-- a module has a place, by their numbers
pub record IsPlaceAt (d : RawDocument) (m p : ℕ) : Type 0 where
  pub of_module : m < length d.modules
  pub place : p < length (slice_index_or d.modules m no_module).places

-- the place of a member of a fusion set
abbrev pub IsMemberAt : RawDocument → PlainMember → Type 0
IsMemberAt d member = IsPlaceAt d member.of_module member.place

-- the socket and the port of an assignment of a substitution transition of a module
pub record AreAssignedAt (d : RawDocument) (m : ℕ) (sub : PlainSubstitution) (a : PlainAssignment) : Type 0 where
  pub socket : IsPlaceAt d m a.socket
  pub port : IsPlaceAt d sub.submodule a.port

-- all of a substitution transition
abbrev pub HasPlacesAt : RawDocument → ℕ → PlainSubstitution → Type 0
HasPlacesAt d m sub = All (AreAssignedAt d m sub) sub.assignments
