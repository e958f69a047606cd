-- The names of instances: that of the top module, and then, from each instance down, those of the substitution transitions, joined
-- by `/`. Source: own choice.
use Rattle.std.specs.Prelude.{◌≡◌, ℕ, ◌<◌, List, [], ◌++◌, length, slice_index_or, Option, Some, None, codes}
use Rattle.cpn_document.specs.Document.{RawSub, RawDocument}
use Rattle.cpn_accepted.specs.AsWritten.{raw_module_at}
use Rattle.cpn_fuse.specs.Instances.{PlainPart, PlainInstance, instance_at}

-- the name of something that stands in what has a name
abbrev pub joined_name : List ℕ → List ℕ → List ℕ
joined_name whole name = whole ++ codes "/" ++ name

abbrev pub no_sub : RawSub
no_sub = record { name = []; submodule = []; assign = [] }

-- the name of the substitution transition of a number, in the module of a document of a number
abbrev pub sub_name_at : RawDocument → ℕ → ℕ → List ℕ
sub_name_at d m i = (slice_index_or (raw_module_at d m).subs i no_sub).name

-- the name of the instance of a number
abbrev pub name_at : List (List ℕ) → ℕ → List ℕ
name_at names i = slice_index_or names i []

-- the name of an instance, given those of the others
abbrev pub name_where : RawDocument → List PlainInstance → List (List ℕ) → PlainInstance → List ℕ
name_where d is names x = of x.part_of
  where
    of : Option PlainPart → List ℕ
    of None = (raw_module_at d x.of_module).name
    of (Some part) = joined_name (name_at names part.instance) (sub_name_at d (instance_at is part.instance).of_module part.substitution)

-- a document has the substitution transition of a number, in the module of a number
pub record HasSub (d : RawDocument) (m i : ℕ) : Type 0 where
  pub of_module : m < length d.modules
  pub sub : i < length (raw_module_at d m).subs

-- What an instance is called by is there: the module that it is of, where it stands nowhere; otherwise the substitution transition
-- that it stands for, in the module of the instance that it stands in.
abbrev pub HasItsName : RawDocument → List PlainInstance → ℕ → Option PlainPart → Type 0
HasItsName d is m None = m < length d.modules
HasItsName d is m (Some part) = HasSub d (instance_at is part.instance).of_module part.substitution

abbrev pub IsNamedIn : RawDocument → List PlainInstance → PlainInstance → Type 0
IsNamedIn d is x = HasItsName d is x.of_module x.part_of

-- The names of instances.
pub record AreNames (d : RawDocument) (is : List PlainInstance) (names : List (List ℕ)) : Type 0 where
  pub each : length names ≡ length is
  pub named : (i : ℕ) → i < length is → name_at names i ≡ name_where d is names (instance_at is i)
