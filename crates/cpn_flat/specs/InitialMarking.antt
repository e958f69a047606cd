-- The initial marking of the flat net. The members of a compound place that have a written initial marking share it: all of them
-- have the same value, which counts once. A member without one takes that of the others, and where none is written there is no
-- token. Source: own choice; initial markings are those of Jensen and Kristensen, chapter 4.
use Rattle.std.specs.Prelude.{◌≡◌, ℕ, ◌==◌, Bool, if◌then◌else◌, List, [], ◌∷◌, ◌++◌, replicate, Option, Some, None, Contains, All}
use Rattle.std.specs.List.{flat_map, AllByRecursion}
use Rattle.cpn_definitions.specs.Inscription.{Functions}
use Rattle.cpn_definitions.specs.Lists.{in_order}
use Rattle.cpn_definitions.specs.Marking.{PlainToken, Tokens, Marking, token_at, token_cmp}
use Rattle.cpn_definitions.specs.Net.{Coloured, PlainNet, place_at}
use Rattle.cpn_definitions.specs.Outcome.{Outcome, gives, faults, no_meaning}
use Rattle.cpn_definitions.specs.Terms.{PlainTerm, terms_of}
use Rattle.cpn_classes.specs.Numbering.{Numbering}
use Rattle.cpn_fuse.specs.Instances.{PlainInstance}
use Rattle.cpn_accepted.specs.Nets.{Initial, IsMeant, PlainModuleNet}
use Rattle.cpn_readings.specs.Relations.{just, ◌>>=◌, each_so}
use Rattle.cpn_flat.specs.Refusals.{init, initial_differs, Reading, read, refused}
use Rattle.cpn_flat.specs.FlatNet.{each_instance, module_net_among}

-- ---- the members of compound places

-- the initial markings of the places of the instance of number i, where they are written
abbrev pub initials_at : List PlainModuleNet → ℕ → PlainInstance → List (Option Initial)
initials_at modules i x = (module_net_among modules x.of_module).initials

-- those of all place instances, in order
abbrev pub all_initials : List PlainModuleNet → List PlainInstance → List (Option Initial)
all_initials modules is = each_instance (initials_at modules) 0 is

-- what an item of a class adds to those of the class of number c: itself, where it is written and of that class
abbrev pub added : {A : Type 0} → ℕ → ℕ → Option A → List A
added c k None = []
added c k (Some x) = if k == c then x ∷ [] else []

-- those that are written of the members of the class of number c, given the number of each item's class
abbrev pub written_in : {A : Type 0} → ℕ → List ℕ → List (Option A) → List A
written_in c [] xs = []
written_in c (k ∷ ks) [] = []
written_in c (k ∷ ks) (x ∷ xs) = added c k x ++ written_in c ks xs

-- the written initial markings of the members of each of the compound places, which are numbered from c on
abbrev pub written_of : List PlainModuleNet → List PlainInstance → Numbering → ℕ → List Initial
written_of modules is classes c = written_in c classes.numbers (all_initials modules is)

-- ---- their values

-- the token of a term of an initial marking; on a place that keeps no time stamps its stamp is 0
abbrev pub token_of : Bool → PlainTerm → PlainToken
token_of timed term = token_at term.value (if timed then term.delay else 0)

-- the tokens of terms, each as many times as its count says, in their order
abbrev pub tokens_of : Bool → List PlainTerm → Tokens
tokens_of timed terms = in_order token_cmp (flat_map (λ term. replicate term.count (token_of timed term)) terms)

-- The terms of an initial marking at a place, or its fault. One without a meaning has no reading.
abbrev pub terms_so : Coloured → Outcome (List PlainTerm) → Reading (List PlainTerm) → Type 0
terms_so place (gives terms) reading = just (read terms) reading
terms_so place (faults fault) reading = just (refused (init place.name fault)) reading
terms_so place no_meaning reading = ⊥

-- An initial marking is evaluated at time 0 under no binding.
abbrev pub value_so : Functions → Coloured → Initial → Reading (List PlainTerm) → Type 0
value_so funs place initial = terms_so place (terms_of funs initial.expr initial.colour [] 0)

-- the values of several at a place, or the fault of the first that has one
abbrev pub each_value_so : Functions → Coloured → List Initial → Reading (List (List PlainTerm)) → Type 0
each_value_so funs place = each_so (λ i. value_so funs place) 0

-- those of the members of the compound place of a number
abbrev pub values_so : PlainNet → ℕ → List Initial → Reading (List (List PlainTerm)) → Type 0
values_so n c = each_value_so n.functions (place_at n c)

-- each of the written initial markings has a meaning
abbrev pub AreMeant : Functions → List Initial → Type 0
AreMeant funs initials = AllByRecursion (λ initial. IsMeant funs (Some initial)) initials

-- the same of those of each compound place
abbrev pub AreAllMeant : Functions → List (List Initial) → Type 0
AreAllMeant funs lists = AllByRecursion (AreMeant funs) lists

-- What all of them are evaluated to, or the first fault.
abbrev pub evaluated : PlainNet → List (List Initial) → Reading (List (List (List PlainTerm))) → Type 0
evaluated n = each_so (values_so n) 0

-- What members share: those that have something written have the same tokens, which count once.
pub data IsShared (place : Coloured) : List (List PlainTerm) → Reading Tokens → Type 0 where
  none_written : IsShared place [] (read [])
  all_same : (value : List PlainTerm) (others : List (List PlainTerm)) → All (λ o. tokens_of place.colour.timed o ≡ tokens_of place.colour.timed value) others → IsShared place (value ∷ others) (read (tokens_of place.colour.timed value))
  one_differs : (value : List PlainTerm) (others : List (List PlainTerm)) (other : List PlainTerm) → Contains others other → (tokens_of place.colour.timed other ≡ tokens_of place.colour.timed value → ⊥) → IsShared place (value ∷ others) (refused (initial_differs place.name))

-- All initial markings are evaluated, then those of each compound place are held against one another.
unfoldable pub held_together : PlainNet → List (List Initial) → Reading Marking → Type 0
held_together n written = do
  values ← evaluated n written
  each_so (λ c value. IsShared (place_at n c) value) 0 values

-- The initial marking of the flat net, given the written initial markings of the members of each compound place: all of them have a meaning,
-- also those after one with a fault, and this is what they are, held together.
unfoldable pub started : PlainNet → List (List Initial) → Reading Marking → Type 0
started n written marking = AreAllMeant n.functions written × held_together n written marking
