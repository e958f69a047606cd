-- Instances of modules: what a hierarchy unfolds to. The top module has one instance; each instance of a module has, for each of
-- the module's substitution transitions, an instance of its submodule as a part of its own.
-- Source: Jensen and Kristensen, chapter 6; the order is an own choice.
use Rattle.std.specs.Prelude.{ℕ, suc, ◌+◌, ◌<◌, List, [], ◌∷◌, ◌++◌, length, slice_index_or, Option, Some, None}
use Rattle.cpn_module.specs.Hierarchy.{PlainSubstitution, PlainHierarchy, structure_at}

-- Where an instance stands: for a substitution transition of an instance, by the numbers of both.
pub record PlainPart : Type 0 where
  pub instance : ℕ
  pub substitution : ℕ

-- An instance: of which module, and where it stands; the instance of the top module stands nowhere.
pub record PlainInstance : Type 0 where
  pub of_module : ℕ
  pub part_of : Option PlainPart

abbrev pub no_instance : PlainInstance
no_instance = record { of_module = 0; part_of = None }

-- the instance of a number
abbrev pub instance_at : List PlainInstance → ℕ → PlainInstance
instance_at is i = slice_index_or is i no_instance

-- the instances for substitution transitions, which are numbered from i on, of the instance of number n
abbrev pub parts_from : ℕ → ℕ → List PlainSubstitution → List PlainInstance
parts_from n i [] = []
parts_from n i (sub ∷ subs) = record { of_module = sub.submodule; part_of = Some (record { instance = n; substitution = i }) } ∷ parts_from n (suc i) subs

-- the parts of an instance of number n
abbrev pub parts_of : PlainHierarchy → ℕ → PlainInstance → List PlainInstance
parts_of h n x = parts_from n 0 (structure_at h x.of_module).substitutions

-- Preorder: an instance comes before what stands below it in the tree of instances, its parts one after another, each before what
-- stands below it. The numbers run on: an instance of number n is followed by its first part as number n + 1.
mutual
  -- the instance of number n with all that stand below it, in preorder
  pub data Unfolds (h : PlainHierarchy) : ℕ → PlainInstance → List PlainInstance → Type 0 where
    with_parts : (n : ℕ) (x : PlainInstance) (below : List PlainInstance) → UnfoldEach h (suc n) (parts_of h n x) below → Unfolds h n x (x ∷ below)

  -- the same of several instances that stand beside one another, the first of them of number n
  pub data UnfoldEach (h : PlainHierarchy) : ℕ → List PlainInstance → List PlainInstance → Type 0 where
    none_left : (n : ℕ) → UnfoldEach h n [] []
    one_more : (n : ℕ) (x : PlainInstance) (xs is later : List PlainInstance) → Unfolds h n x is → UnfoldEach h (n + length is) xs later → UnfoldEach h n (x ∷ xs) (is ++ later)

-- the instance of the top module
abbrev pub top_of : PlainHierarchy → PlainInstance
top_of h = record { of_module = h.top; part_of = None }

-- The instances of a hierarchy: the preorder of its tree, from the instance of the top module.
abbrev pub AreInstances : PlainHierarchy → List PlainInstance → Type 0
AreInstances h is = Unfolds h 0 (top_of h) is

-- ---- the first instances, of a tree that need not be known whole

-- Of instances that wait, and of their parts, these come first, the first of them with the number n, and those wait behind them. An
-- instance comes before its parts, and these before what waits behind it.
pub data ComeFirst (h : PlainHierarchy) : ℕ → List PlainInstance → List PlainInstance → List PlainInstance → Type 0 where
  none_yet : (n : ℕ) (waiting : List PlainInstance) → ComeFirst h n waiting [] waiting
  one_first : (n : ℕ) (x : PlainInstance) (waiting is later : List PlainInstance) → ComeFirst h (suc n) (parts_of h n x ++ waiting) is later → ComeFirst h n (x ∷ waiting) (x ∷ is) later

-- A hierarchy has more instances than so many: that many and one come first.
pub record AreMoreThan (h : PlainHierarchy) (count : ℕ) : Type 0 where
  pub first : List PlainInstance
  pub later : List PlainInstance
  pub come : ComeFirst h 0 (top_of h ∷ []) first later
  pub many : count < length first
