-- What was accepted, where something was read.
use Rattle.std.proofs.Common.{◌≡◌, ◌∙◌, ◌+◌, ◌<◌, ℕ, zero, suc, List, [], ◌∷◌, length, slice_index_or, refl, sym, ap, subst, arith, add-zero}
use Rattle.std.specs.Prelude.{Option, Some, None}
use Rattle.std.specs.List.{AllByRecursion}
use Rattle.std.proofs.Math.Nat.{zero-add}
use Rattle.cpn_definitions.specs.Colour.{PlainColour}
use Rattle.cpn_definitions.specs.Net.{Coloured}
use Rattle.cpn_trees.specs.DeclTrees.{PlainDecl}
use Rattle.cpn_typing.specs.Names.{Declared, nothing_declared, Checked, ok}
use Rattle.cpn_typing.specs.Names as checks
use Rattle.cpn_typing.specs.Consistency.{IsConsistent}
use Rattle.cpn_typing.specs.Declarations.{declared}
use Rattle.cpn_typing.specs.Multisets.{checked_init}
use Rattle.cpn_typing.proofs.Consistent.{nothing_consistent, declared_consistent}
use Rattle.cpn_typing.proofs.MeaningsInNets.{init_means}
use Rattle.cpn_trees.specs.Trees.{PlainAst}
use Rattle.cpn_document.specs.declared.pointers.Pointer.{Pointer}
use Rattle.cpn_document.specs.declared.pointers.Pointer.TheVariants as pointers
use Rattle.cpn_readings.proofs.Readings.{same_read, steps}
use Rattle.cpn_module_trees.specs.Parsing.{Parsing}
use Rattle.cpn_module_trees.specs.Trees.{PlaceTrees}
use Rattle.cpn_accepted.specs.Nets.{Initial, IsMeant, IsOfColour, colour_at}
use Rattle.cpn_module_nets.specs.Reading.{Reading, read, each_from}
use Rattle.cpn_module_nets.specs.Accepted.{tree_at, accepted_at, declared_with, declared_from, initial_at, initial_of}
use Rattle.cpn_module_nets.specs.Pointers.{initial_pointer}

-- ---- lists

pub each_from_all : {A B : Type 0} (f : ℕ → A → Reading B) (P : B → Type 0) → ((i : ℕ) (x : A) (y : B) → f i x ≡ read y → P y) → (i : ℕ) (xs : List A) (ys : List B) → each_from f i xs ≡ read ys → AllByRecursion P ys
unfolding each_from
each_from_all f P holds i [] ys h = rw (← (same_read [] ys h)) tt
each_from_all f P holds i (x ∷ xs) ys h =
    let first = steps _ (f i x) ys h in
    let rest = steps _ (each_from f (suc i) xs) ys first.2 in
    rw (← (same_read (first.0 ∷ rest.0) ys rest.2)) (holds i x first.0 first.1, each_from_all f P holds (suc i) xs rest.0 rest.1)

pub each_from_long : {A B : Type 0} (f : ℕ → A → Reading B) (i : ℕ) (xs : List A) (ys : List B) → each_from f i xs ≡ read ys → length ys ≡ length xs
unfolding each_from
each_from_long f i [] ys h = ap length (sym (same_read [] ys h))
each_from_long f i (x ∷ xs) ys h =
    let first = steps _ (f i x) ys h in
    let rest = steps _ (each_from f (suc i) xs) ys first.2 in
    ap length (sym (same_read (first.0 ∷ rest.0) ys rest.2)) ∙ ap suc (each_from_long f (suc i) xs rest.0 rest.1)

pub one_more : (i k : ℕ) → suc i + k ≡ i + suc k
one_more i k = omega arith

-- what the item at a number is read as
pub each_from_at : {A B : Type 0} (f : ℕ → A → Reading B) (i : ℕ) (xs : List A) (ys : List B) (k : ℕ) (d : A) (e : B) → each_from f i xs ≡ read ys → k < length xs → f (i + k) (slice_index_or xs k d) ≡ read (slice_index_or ys k e)
unfolding each_from
each_from_at f i [] ys k d e h lt = absurd (omega arith)
each_from_at f i (x ∷ xs) ys zero d e h lt =
    let first = steps _ (f i x) ys h in
    let rest = steps _ (each_from f (suc i) xs) ys first.2 in
    let here : f (i + 0) x ≡ read first.0 = subst (λ j. f j x ≡ read first.0) (sym (add-zero i)) first.1 in
    subst (λ zs. f (i + 0) x ≡ read (slice_index_or zs 0 e)) (same_read (first.0 ∷ rest.0) ys rest.2) here
each_from_at f i (x ∷ xs) ys (suc k) d e h lt =
    let first = steps _ (f i x) ys h in
    let rest = steps _ (each_from f (suc i) xs) ys first.2 in
    let later : f (suc i + k) (slice_index_or xs k d) ≡ read (slice_index_or rest.0 k e) = each_from_at f (suc i) xs rest.0 k d e rest.1 (omega arith) in
    subst (λ zs. f (i + suc k) (slice_index_or xs k d) ≡ read (slice_index_or zs (suc k) e)) (same_read (first.0 ∷ rest.0) ys rest.2) (subst (λ j. f j (slice_index_or xs k d) ≡ read (slice_index_or rest.0 k e)) (one_more i k) later)

-- ---- checks

pub accepted_is : {A : Type 0} (at : Pointer) (c : Checked A) (x : A) → accepted_at at c ≡ read x → c ≡ ok x
accepted_is at (ok y) x h = ap ok (same_read y x h)
accepted_is at (checks.refused r) x h = cc

-- ---- declarations

with_good : (i : ℕ) (ds : Declared) (text : Parsing PlainDecl) (now : Declared) → IsConsistent ds → declared_with i ds text ≡ read now → IsConsistent now
unfolding declared_with
with_good i ds text now good h =
    let tree = steps _ (tree_at (pointers.Declaration i) text) now h in
    declared_consistent ds tree.0 now good (accepted_is (pointers.Declaration i) (declared ds tree.0) now tree.2)

from_good : (i : ℕ) (ds : Declared) (texts : List (Parsing PlainDecl)) (now : Declared) → IsConsistent ds → declared_from i ds texts ≡ read now → IsConsistent now
unfolding declared_from
from_good i ds [] now good h = subst IsConsistent (same_read ds now h) good
from_good i ds (text ∷ texts) now good h =
    let first = steps _ (declared_with i ds text) now h in
    from_good (suc i) first.0 texts now (with_good i ds text first.0 good first.1) first.2

pub declared_good : (texts : List (Parsing PlainDecl)) (ds : Declared) → declared_from 0 nothing_declared texts ≡ read ds → IsConsistent ds
declared_good texts ds h = from_good 0 nothing_declared texts ds nothing_consistent h

-- ---- initial markings

initial_meant : (ds : Declared) → IsConsistent ds → (colour : PlainColour) (pointer : Pointer) (text : Option (Parsing PlainAst)) (initial : Option Initial) → initial_at ds colour pointer text ≡ read initial → IsMeant ds.functions initial
unfolding initial_at
initial_meant ds good colour pointer None initial h = subst (IsMeant ds.functions) (same_read None initial h) tt
initial_meant ds good colour pointer (Some text) initial h =
    let tree = steps _ (tree_at pointer text) initial h in
    let expr = steps _ (accepted_at pointer (checked_init ds colour tree.0)) initial tree.2 in
    subst (IsMeant ds.functions) (same_read _ initial expr.2) (init_means ds good ds.functions refl colour tree.0 expr.0 (accepted_is pointer (checked_init ds colour tree.0) expr.0 expr.1) [] 0)

-- each initial marking that is read has a meaning
pub initials_meant : (ds : Declared) → IsConsistent ds → (places : List Coloured) (m : ℕ) (trees : List PlaceTrees) (initials : List (Option Initial)) → each_from (initial_of ds places m) 0 trees ≡ read initials → AllByRecursion (IsMeant ds.functions) initials
initials_meant ds good places m trees initials h = each_from_all (initial_of ds places m) (IsMeant ds.functions) (λ i place initial is. initial_meant ds good (colour_at places i) (initial_pointer m i) place.initial initial is) 0 trees initials h

initial_coloured : (ds : Declared) (colour : PlainColour) (pointer : Pointer) (text : Option (Parsing PlainAst)) (initial : Option Initial) → initial_at ds colour pointer text ≡ read initial → IsOfColour colour initial
unfolding initial_at
initial_coloured ds colour pointer None initial h = subst (IsOfColour colour) (same_read None initial h) tt
initial_coloured ds colour pointer (Some text) initial h =
    let tree = steps _ (tree_at pointer text) initial h in
    let expr = steps _ (accepted_at pointer (checked_init ds colour tree.0)) initial tree.2 in
    subst (IsOfColour colour) (same_read _ initial expr.2) refl

pub no_place_trees : PlaceTrees
no_place_trees = record { name = []; colour = []; initial = None }

-- and is for the colour set of its place
pub initials_coloured : (ds : Declared) (places : List Coloured) (m : ℕ) (trees : List PlaceTrees) (initials : List (Option Initial)) → each_from (initial_of ds places m) 0 trees ≡ read initials → (p : ℕ) → p < length trees → IsOfColour (colour_at places p) (slice_index_or initials p None)
initials_coloured ds places m trees initials h p lt =
    let at : initial_of ds places m (0 + p) (slice_index_or trees p no_place_trees) ≡ read (slice_index_or initials p None) = each_from_at (initial_of ds places m) 0 trees initials p no_place_trees None h lt in
    subst (λ k. IsOfColour (colour_at places k) (slice_index_or initials p None)) (zero-add p) (initial_coloured ds (colour_at places (0 + p)) (initial_pointer m (0 + p)) (slice_index_or trees p no_place_trees).initial (slice_index_or initials p None) at)
