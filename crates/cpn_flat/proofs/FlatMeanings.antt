-- What is accepted means the flat net of its instances, their names and their compound places, with its initial marking.
use Rattle.std.proofs.Common.{◌≡◌, ℕ, zero, suc, ◌+◌, ◌<◌, List, [], ◌∷◌, length, get_or, refl, sym, ap, ap₂, ◌∙◌, arith}
use Rattle.std.specs.Prelude.{Option, Some, None, IfSome, option_map}
use Rattle.std.specs.List.{AllByRecursion}
use Rattle.std.proofs.lemmas.List.{ext_get_or}
use Rattle.cpn_classes.specs.Numbering.{Numbering}
use Rattle.cpn_definitions.specs.Inscription.{Functions}
use Rattle.cpn_definitions.specs.Marking.{Marking}
use Rattle.cpn_definitions.specs.Net.{PlainTransition, Coloured, PlainNet}
use Rattle.cpn_document.specs.Document.{RawDocument}
use Rattle.cpn_fuse.specs.Compound.{AreCompound}
use Rattle.cpn_fuse.specs.Instances.{PlainInstance}
use Rattle.cpn_fuse.specs.Unfolded.{UnfoldingRefusal, IsUnfolded, IsRefusedFor}
use Rattle.cpn_accepted.specs.Nets.{Initial, PlainModuleNet, PlainAccepted, net_from}
use Rattle.cpn_readings.specs.Relations.{RefusesBy}
use Rattle.cpn_readings.proofs.RelatedReadings.{then_read, then_refused, refused_first, refused_next}
use Rattle.cpn_flat.specs.Refusals.{FlatRefusal, read}
use Rattle.cpn_flat.specs.Names.{AreNames}
use Rattle.cpn_flat.specs.FlatNet.{flat_net}
use Rattle.cpn_flat.specs.InitialMarking.{written_of, AreMeant, AreAllMeant, started}
use Rattle.cpn_flat.specs.Flat.{IsUnfoldedAs, unfolded, not_unfolded, too_many, written_from, all_written, flat_in}
use Rattle.cpn_flat.specs.Parts.{AreItsParts}

-- ---- the lists of what is written

module _ (modules : List PlainModuleNet) (is : List PlainInstance) (classes : Numbering) where
  pub length-written : (c : ℕ) (firsts : List ℕ) → length (written_from modules is classes c firsts) ≡ length firsts
  length-written c [] = refl
  length-written c (first ∷ firsts) = ap suc (length-written (suc c) firsts)

  written_at : (c : ℕ) (firsts : List ℕ) (k : ℕ) → k < length firsts → get_or (written_from modules is classes c firsts) k [] ≡ written_of modules is classes (c + k)
  written_at c [] k lt = absurd (omega (arith, lt))
  written_at c (first ∷ firsts) zero lt = ap (written_of modules is classes) (let e : c ≡ c + 0 = omega arith in e)
  written_at c (first ∷ firsts) (suc k) lt =
      written_at (suc c) firsts k (let e : k < length firsts = omega (arith, lt) in e) ∙ ap (written_of modules is classes) (let e : suc c + k ≡ c + suc k = omega arith in e)

  -- what is written of the compound place of a number
  pub written_here : (c : ℕ) → c < length classes.firsts → get_or (all_written modules is classes) c [] ≡ written_of modules is classes c
  written_here c lt = written_at 0 classes.firsts c lt ∙ ap (written_of modules is classes) (let e : 0 + c ≡ c = omega arith in e)

  -- lists that have of each compound place what is written of it
  pub lists_are : (lists : List (List Initial)) → length lists ≡ length classes.firsts → ((c : ℕ) → c < length classes.firsts → get_or lists c [] ≡ written_of modules is classes c) → lists ≡ all_written modules is classes
  lists_are lists long each =
      ext_get_or [] lists (all_written modules is classes) (long ∙ sym (length-written 0 classes.firsts)) (λ c lt.
      let in_firsts : c < length classes.firsts = omega (arith, lt, long) in
      each c in_firsts ∙ sym (written_here c in_firsts))

  -- all that is written has a meaning, where what is written of each compound place has
  pub all_meant : (funs : Functions) → ((c : ℕ) → AreMeant funs (written_of modules is classes c)) → AreAllMeant funs (all_written modules is classes)
  all_meant funs each = from 0 classes.firsts
    where
      from : (c : ℕ) (firsts : List ℕ) → AllByRecursion (AreMeant funs) (written_from modules is classes c firsts)
      from c [] = tt
      from c (first ∷ firsts) = (each c, from (suc c) firsts)

-- ---- the net

-- a net of its parts is the flat net under the names of these
pub net_is : (d : RawDocument) (a : PlainAccepted) (is : List PlainInstance) (classes : Numbering) (n : PlainNet) (places : List Coloured) (transitions : List PlainTransition)
    → n ≡ net_from a.declared places transitions → (parts : AreItsParts d a.hierarchy a.modules is classes places transitions) → n ≡ flat_net a is parts.names classes
net_is d a is classes n places transitions h parts = h ∙ ap₂ (λ ps ts. net_from a.declared ps ts) parts.are_places parts.are_transitions

-- ---- what is accepted

module _ (d : RawDocument) (a : PlainAccepted) where
  -- its hierarchy is not unfolded
  pub not_flat : (o : Option UnfoldingRefusal) → IfSome o (IsRefusedFor a.hierarchy) → RefusesBy (flat_in d a) (option_map too_many o)
  unfolding flat_in
  not_flat None h = tt
  not_flat (Some refusal) h = then_refused (IsUnfoldedAs a.hierarchy) _ (too_many refusal) (not_unfolded refusal h)

  module _ (is : List PlainInstance) (u : IsUnfolded a.hierarchy is) (names : List (List ℕ)) (are : AreNames d is names) (classes : Numbering) (compound : AreCompound a.hierarchy is classes) where
    -- its flat net has no initial marking
    pub not_started : (o : Option FlatRefusal) → RefusesBy (started (flat_net a is names classes) (all_written a.modules is classes)) o → RefusesBy (flat_in d a) o
    unfolding flat_in
    not_started o h =
        refused_next (IsUnfoldedAs a.hierarchy) _ is o (unfolded is u)
        (refused_next _ _ names o (names, are, refl) (refused_next _ _ classes o (classes, compound, refl) (refused_first (started (flat_net a is names classes) (all_written a.modules is classes)) _ o h)))

    -- it has
    pub is_flat : (m : Marking) → started (flat_net a is names classes) (all_written a.modules is classes) (read m) → flat_in d a (read (record { net = flat_net a is names classes; initial = m; declared = a.declared; monitors = d.monitors; phases = d.phases }))
    unfolding flat_in
    is_flat m h =
        then_read (IsUnfoldedAs a.hierarchy) _ is _ (unfolded is u) (then_read _ _ names _ (names, are, refl) (then_read _ _ classes _ (classes, compound, refl) (then_read (started (flat_net a is names classes) (all_written a.modules is classes)) _ m _ h refl)))
