-- The names and the integers that the declarations of a document bring: each name is a word, each declaration brings no more of them
-- than its text has bytes, and each integer has 64 bits.
use Rattle.std.proofs.Common.{◌≡◌, ℕ, ℤ, pos, negsuc, suc, ◌+◌, ◌*◌, ◌^◌, ◌≤◌, true, List, [], ◌∷◌, length, ap, subst, arith}
use Rattle.std.specs.List.{AllByRecursion, list_all}
use Rattle.std.proofs.lemmas.Bool.{and_from, lt-ltb}
use Rattle.cpn_definitions.specs.DistinctNames.{is_letter, is_word_byte, is_word}
use Rattle.cpn_definitions.proofs.DistinctLists.{each_also}
use Rattle.cpn_lex.specs.Lexis.{IsName, Fits}
use Rattle.cpn_lex.specs.Token as token
use Rattle.cpn_lex.specs.Token.{PlainToken}
use Rattle.cpn_lex.proofs.TokenCounts.{few_tokens, IsSpelled, names_spelled, numbers_fit}
use Rattle.cpn_syntax.proofs.DeclaredNames.{names_few, names_all}
use Rattle.cpn_syntax.proofs.DeclaredBounds.{bounds_all}
use Rattle.cpn_trees.specs.DeclTrees.{PlainDecl}
use Rattle.cpn_trees.specs.DeclaredNames.{declared_names}
use Rattle.cpn_trees.specs.DeclaredBounds.{declared_bounds}
use Rattle.cpn_trees.specs.Depth.{decl_depth}
use Rattle.cpn_syntax.specs.Declarations.{SpellsDecl}
use Rattle.cpn_document.specs.declared.pointers.Pointer.{Pointer}
use Rattle.cpn_document.specs.declared.pointers.Pointer.TheVariants as pointers
use Rattle.cpn_readings.specs.ItemByItem.{EachIs}
use Rattle.cpn_readings.proofs.Readings.{same_read, steps}
use Rattle.cpn_module_trees.specs.Parsing.{Parsing, parsed, unparsed, most_bytes, ComesTo, too_long, broken, not_spelled, spelled, IsDeclaration}
use Rattle.cpn_typing.specs.Names.{Name, Declared, nothing_declared}
use Rattle.cpn_typing.specs.Declarations.{declared}
use Rattle.cpn_typing.proofs.DistinctDeclared.{AreNamed, declared_named, nothing_named}
use Rattle.cpn_typing.proofs.ShortDeclared.{Has64Bits, DeclaresShort, declared_short, nothing_short}
use Rattle.cpn_module_nets.specs.Reading.{read}
use Rattle.cpn_module_nets.specs.Accepted.{tree_at, declared_with, declared_from}
use Rattle.cpn_module_nets.proofs.AcceptedTexts.{accepted_is}

-- a name that is a word
abbrev pub IsWord : Name → Type 0
IsWord n = is_word n ≡ true

word_from_name : (bytes : List ℕ) → IsName bytes → IsWord bytes
word_from_name [] h = absurd h
word_from_name (first ∷ rest) h = and_from (is_letter first) (list_all is_word_byte rest) h.0 h.1

-- the tree of a declaration brings words, few of them, and integers of 64 bits
record Brings (tree : PlainDecl) : Type 0 where
  pub words : AllByRecursion IsWord (declared_names tree)
  pub few : length (declared_names tree) ≤ most_bytes
  pub bounds : AllByRecursion Has64Bits (declared_bounds tree)

name_holds : (t : PlainToken) → IsSpelled t.kind → (n : List ℕ) → t.kind ≡ token.name n → IsWord n
name_holds t h n e = word_from_name n (subst IsSpelled e h)

fitting : (z : ℤ) → Fits (token.number z) → Has64Bits z
fitting (pos n) h = lt-ltb n (2 ^ 63) h.sfits
fitting (negsuc n) h = lt-ltb n (2 ^ 63) h.sfits

number_holds : (t : PlainToken) → Fits t.kind → (z : ℤ) → t.kind ≡ token.number z → Has64Bits z
number_holds t h z e = fitting z (subst Fits e h)

of_text : (text : List ℕ) (parsing : Parsing PlainDecl) (tree : PlainDecl) → ComesTo SpellsDecl decl_depth text parsing → parsing ≡ parsed tree → Brings tree
of_text text parsing tree (too_long long) e = cc
of_text text parsing tree (broken error short breaks) e = cc
of_text text parsing tree (not_spelled tokens error short lexes is refused) e = cc
of_text text parsing tree (spelled tokens made short lexes only shallow) e =
    let same : made ≡ tree = cc in
    let names = names_few made tokens only.0 in
    let few = few_tokens text tokens lexes in
    subst Brings same
    (record {
      words = names_all IsWord made tokens only.0 (each_also (λ t. IsSpelled t.kind) (λ t. (n : List ℕ) → t.kind ≡ token.name n → IsWord n) name_holds tokens (names_spelled text tokens lexes));
      few = omega (arith, names, few, short);
      bounds = bounds_all Has64Bits made tokens only.0 (each_also (λ t. Fits t.kind) (λ t. (z : ℤ) → t.kind ≡ token.number z → Has64Bits z) number_holds tokens (numbers_fit text tokens lexes));
    })

tree_is : {A : Type 0} (place : Pointer) (text : Parsing A) (tree : A) → tree_at place text ≡ read tree → text ≡ parsed tree
tree_is place (parsed made) tree h = ap parsed (same_read made tree h)
tree_is place (unparsed r) tree h = cc

-- what is declared: its names are words, no two of them the same where they have to differ; its integers have 64 bits; and there is
-- room for its variables
pub record IsDeclaredWell (room : ℕ) (ds : Declared) : Type 0 where
  pub named : AreNamed IsWord ds
  pub short : DeclaresShort ds
  pub few : length ds.variables ≤ room

-- what is declared after one declaration more
with_well : (room i : ℕ) (ds : Declared) (raw : List ℕ) (text : Parsing PlainDecl) (now : Declared) → IsDeclaration raw text → IsDeclaredWell room ds → declared_with i ds text ≡ read now → IsDeclaredWell (room + most_bytes) now
unfolding declared_with
with_well room i ds raw text now is good h =
    let tree = steps _ (tree_at (pointers.Declaration i) text) now h in
    let brings = of_text raw text tree.0 is.comes (tree_is (pointers.Declaration i) text tree.0 tree.1) in
    let is_declared = accepted_is (pointers.Declaration i) (declared ds tree.0) now tree.2 in
    let after = declared_named IsWord ds tree.0 now good.named brings.words is_declared in
    let few = brings.few in
    let more = after.1 in
    let before = good.few in
    record { named = after.0; short = declared_short ds tree.0 now good.short brings.bounds is_declared; few = omega (arith, few, more, before) }

from_well : (room i : ℕ) (ds : Declared) (raws : List (List ℕ)) (texts : List (Parsing PlainDecl)) (now : Declared) → EachIs IsDeclaration raws texts → IsDeclaredWell room ds → declared_from i ds texts ≡ read now
    → IsDeclaredWell (room + most_bytes * length raws) now
unfolding declared_from
from_well room i ds [] [] now are good h = subst (IsDeclaredWell (room + most_bytes * 0)) (same_read ds now h) (let few = good.few in record { named = good.named; short = good.short; few = omega (arith, few) })
from_well room i ds [] (text ∷ texts) now are good h = absurd are
from_well room i ds (raw ∷ raws) [] now are good h = absurd are
from_well room i ds (raw ∷ raws) (text ∷ texts) now are good h =
    let first = steps _ (declared_with i ds text) now h in
    let later = from_well (room + most_bytes) (suc i) first.0 raws texts now are.1 (with_well room i ds raw text first.0 are.0 good first.1) first.2 in
    let few = later.few in
    record { named = later.named; short = later.short; few = omega (arith, few) }

-- What the declarations of a document declare has words as names, no two of them the same where they have to differ; its integers
-- have 64 bits; and there are no more variables than their texts have room for.
pub all_well : (raws : List (List ℕ)) (texts : List (Parsing PlainDecl)) (ds : Declared) → EachIs IsDeclaration raws texts → declared_from 0 nothing_declared texts ≡ read ds → IsDeclaredWell (most_bytes * length raws) ds
all_well raws texts ds are h =
    let all = from_well 0 0 nothing_declared raws texts ds are (record { named = nothing_named IsWord; short = nothing_short; few = omega arith }) h in
    let few = all.few in
    record { named = all.named; short = all.short; few = omega (arith, few) }
