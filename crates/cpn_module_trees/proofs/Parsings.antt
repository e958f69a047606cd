-- What a text is parsed as is one thing, given that it has one list of tokens, or breaks one rule of the lexis first.
use Rattle.std.proofs.Common.{◌≡◌, ◌≢◌, ◌↔◌, ℕ, ◌<◌, ◌≤◌, List, [], ◌∷◌, ◌++◌, length, refl, sym, ap, ◌∙◌, subst, append_assoc, arith}
use Rattle.std.proofs.lemmas.List.{append-nil}
use Rattle.std.specs.Prelude.{Result, Ok, Err, IfOk}
use Rattle.cpn_lex.specs.declared.refusals.LexError.{LexError}
use Rattle.cpn_lex.specs.declared.refusals.LexError.TheVariants as lexing
use Rattle.cpn_lex.specs.Token.{PlainToken}
use Rattle.cpn_lex.specs.Tokens.{Lexes}
use Rattle.cpn_lex.specs.Refusals.{Breaks}
use Rattle.cpn_syntax.specs.declared.refusals.SyntaxError.{SyntaxError}
use Rattle.cpn_syntax.specs.declared.refusals.SyntaxError.TheVariants.{Memory, Unexpected, EndOfText, TooDeep}
use Rattle.cpn_syntax.specs.Texts.{Text}
use Rattle.cpn_syntax.specs.Parses.{SpellsOnly, CanBegin, Refuses, Parses}
use Rattle.cpn_module_trees.specs.ParsingViews.{parsing_view, IsUnlexed, IsUnspelled, IsSpelled}
use Rattle.cpn_module_trees.specs.declared.parsing.Unparsed.{Unparsed}
use Rattle.cpn_module_trees.specs.Parsing.{lexical, syntactic, Parsing, parsed, unparsed, most_bytes, most_levels, ComesTo, too_long, broken, not_spelled, spelled, IsParsedAs}

-- ---- where a list is divided

-- two ways to divide a list at an item: at the same index, or one before the other
data Divided (before other : Text) (t u : PlainToken) : Type 0 where
  same : t ≡ u → Divided before other t u
  earlier : (between : Text) → other ≡ before ++ t ∷ between → Divided before other t u
  later : (between : Text) → before ≡ other ++ u ∷ between → Divided before other t u

further_in : (x y : PlainToken) (before other : Text) (t u : PlainToken) → x ≡ y → Divided before other t u → Divided (x ∷ before) (y ∷ other) t u
further_in x y before other t u e (same h) = same h
further_in x y before other t u e (earlier between h) = earlier between (cc)
further_in x y before other t u e (later between h) = later between (cc)

divided : (before other after behind : Text) (t u : PlainToken) → before ++ t ∷ after ≡ other ++ u ∷ behind → Divided before other t u
divided [] [] after behind t u e = same (cc)
divided [] (y ∷ other) after behind t u e = let first : t ≡ y = cc in earlier other (cc)
divided (x ∷ before) [] after behind t u e = let first : x ≡ u = cc in later before (cc)
divided (x ∷ before) (y ∷ other) after behind t u e =
    let first : x ≡ y = cc in
    let rest : before ++ t ∷ after ≡ other ++ u ∷ behind = cc in
    further_in x y before other t u first (divided before other after behind t u rest)

module _ {Tree : Type 0} (Spelled : Tree → Text → Type 0) (levels : Tree → ℕ) where
  -- ---- refusals of tokens

  front_begins : (before after : Text) → CanBegin Spelled (before ++ after) → CanBegin Spelled before
  front_begins before after h = (after ++ h.0, h.1, subst (Spelled h.1) (append_assoc before after h.0) h.2)

  whole_begins : (tokens : Text) (a : Tree) → Spelled a tokens → CanBegin Spelled tokens
  whole_begins tokens a h = ([], a, subst (Spelled a) (sym (append-nil tokens)) h)

  -- tokens that can go on do so at each of them
  goes_on : (before between : Text) (t : PlainToken) → CanBegin Spelled (before ++ t ∷ between) → CanBegin Spelled (before ++ t ∷ [])
  goes_on before between t h = front_begins (before ++ t ∷ []) between (subst (CanBegin Spelled) (sym (append_assoc before (t ∷ []) between)) h)

  one_stop : (before other after behind : Text) (t u : PlainToken) → before ++ t ∷ after ≡ other ++ u ∷ behind → CanBegin Spelled before → (CanBegin Spelled (before ++ t ∷ []) → ⊥) → CanBegin Spelled other → (CanBegin Spelled (other ++ u ∷ []) → ⊥) → t ≡ u
  one_stop before other after behind t u e can cannot can_too cannot_too =
      elim (divided before other after behind t u e) [
        | same h ↦ h
        | earlier between h ↦ absurd (cannot (goes_on before between t (subst (CanBegin Spelled) h can_too)))
        | later between h ↦ absurd (cannot_too (goes_on other between u (subst (CanBegin Spelled) h can)))
      ]

  stopped : (tokens : Text) (at : ℕ) → Refuses Spelled levels tokens (Unexpected at) → CanBegin Spelled tokens → ⊥
  stopped tokens at (before, t, after, split, is, can, cannot) h = cannot (goes_on before after t (subst (CanBegin Spelled) split h))

  pub one_refusal : (tokens : Text) (e f : SyntaxError) → e ≢ Memory → f ≢ Memory → Refuses Spelled levels tokens e → Refuses Spelled levels tokens f → e ≡ f
  one_refusal tokens Memory f p q h k = absurd (p refl)
  one_refusal tokens e Memory p q h k = absurd (q refl)
  one_refusal tokens (Unexpected at) (Unexpected other_at) p q (before, t, after, split, is, can, cannot) (other, u, behind, divide, is_too, can_too, cannot_too) =
      let token : t ≡ u = one_stop before other after behind t u (sym split ∙ divide) can cannot can_too cannot_too in
      ap Unexpected (is ∙ ap (λ (x : PlainToken). x.at) token ∙ sym is_too)
  one_refusal tokens (Unexpected at) EndOfText p q h k = absurd (stopped tokens at h k.0)
  one_refusal tokens (Unexpected at) TooDeep p q h k = absurd (stopped tokens at h (whole_begins tokens k.0 k.1.0))
  one_refusal tokens EndOfText (Unexpected at) p q h k = absurd (stopped tokens at k h.0)
  one_refusal tokens EndOfText EndOfText p q h k = refl
  one_refusal tokens EndOfText TooDeep p q h k = absurd (h.1 k.0 k.1.0)
  one_refusal tokens TooDeep (Unexpected at) p q h k = absurd (stopped tokens at k (whole_begins tokens h.0 h.1.0))
  one_refusal tokens TooDeep EndOfText p q h k = absurd (k.1 h.0 h.1.0)
  one_refusal tokens TooDeep TooDeep p q h k = refl

  pub refused_or_spelled : (tokens : Text) (e : SyntaxError) (a : Tree) → e ≢ Memory → Refuses Spelled levels tokens e → SpellsOnly Spelled tokens a → levels a ≤ most_levels → ⊥
  refused_or_spelled tokens Memory a p h k low = p refl
  refused_or_spelled tokens (Unexpected at) a p h k low = stopped tokens at h (whole_begins tokens a k.0)
  refused_or_spelled tokens EndOfText a p h k low = h.1 a k.0
  refused_or_spelled tokens TooDeep a p h k low = let same_tree : h.0 ≡ a = k.1 h.0 h.1.0 in let deep : 64 < levels a = subst (λ x. 64 < levels x) same_tree h.2 in omega arith

-- a text has one list of tokens, or breaks one rule first, and not both
pub record IsLexedOnce (text : List ℕ) : Type 0 where
  pub one_list : (tokens others : List PlainToken) → Lexes text tokens → Lexes text others → tokens ≡ others
  pub one_rule : (e f : LexError) → Breaks text e → Breaks text f → e ≡ f
  pub not_both : (tokens : List PlainToken) (e : LexError) → Lexes text tokens → Breaks text e → ⊥

not_longer : (text : List ℕ) → (most_bytes < length text → ⊥) → length text ≤ most_bytes
not_longer text h = grind (arith, h)

module _ {Tree : Type 0} (Spelled : Tree → Text → Type 0) (levels : Tree → ℕ) (text : List ℕ) (once : IsLexedOnce text) where
  one_parsing : (p q : Parsing Tree) → ComesTo Spelled levels text p → ComesTo Spelled levels text q → p ≡ q
  one_parsing p q (too_long long) (too_long more) = refl
  one_parsing p q (too_long long) (broken e short breaks) = absurd (omega arith)
  one_parsing p q (too_long long) (not_spelled tokens e short lexes no_want refuses) = absurd (omega arith)
  one_parsing p q (too_long long) (spelled tokens a short lexes spells low) = absurd (omega arith)
  one_parsing p q (broken e short breaks) (too_long long) = absurd (omega arith)
  one_parsing p q (broken e short breaks) (broken f few rule) = ap (λ r. unparsed (lexical r)) (once.one_rule e f breaks rule)
  one_parsing p q (broken e short breaks) (not_spelled tokens f few lexes no_want refuses) = absurd (once.not_both tokens e lexes breaks)
  one_parsing p q (broken e short breaks) (spelled tokens a few lexes spells low) = absurd (once.not_both tokens e lexes breaks)
  one_parsing p q (not_spelled tokens e short lexes no_want refuses) (too_long long) = absurd (omega arith)
  one_parsing p q (not_spelled tokens e short lexes no_want refuses) (broken f few breaks) = absurd (once.not_both tokens f lexes breaks)
  one_parsing p q (not_spelled tokens e short lexes no_want refuses) (not_spelled others f few lexes_too no_want_too refuses_too) =
      let tokens_same : others ≡ tokens = once.one_list others tokens lexes_too lexes in
      ap (λ r. unparsed (syntactic r)) (one_refusal Spelled levels tokens e f no_want no_want_too refuses (subst (λ ts. Refuses Spelled levels ts f) tokens_same refuses_too))
  one_parsing p q (not_spelled tokens e short lexes no_want refuses) (spelled others a few lexes_too spells low) =
      let tokens_same : others ≡ tokens = once.one_list others tokens lexes_too lexes in
      absurd (refused_or_spelled Spelled levels tokens e a no_want refuses (subst (λ ts. SpellsOnly Spelled ts a) tokens_same spells) low)
  one_parsing p q (spelled tokens a short lexes spells low) (too_long long) = absurd (omega arith)
  one_parsing p q (spelled tokens a short lexes spells low) (broken f few breaks) = absurd (once.not_both tokens f lexes breaks)
  one_parsing p q (spelled tokens a short lexes spells low) (not_spelled others f few lexes_too no_want refuses) =
      let tokens_same : others ≡ tokens = once.one_list others tokens lexes_too lexes in
      absurd (refused_or_spelled Spelled levels tokens f a no_want (subst (λ ts. Refuses Spelled levels ts f) tokens_same refuses) spells low)
  one_parsing p q (spelled tokens a short lexes spells low) (spelled others b few lexes_too spells_too low_too) =
      let tokens_same : tokens ≡ others = once.one_list tokens others lexes lexes_too in
      ap parsed (spells_too.1 a (subst (Spelled a) tokens_same spells.0))

  -- what it comes to is what it is parsed as
  pub parsed_as : (p : Parsing Tree) → ComesTo Spelled levels text p → IsParsedAs Spelled levels text p
  parsed_as p h = record { comes = h; only = λ other k. one_parsing other p k h }

  -- an error of the lexer
  pub lexical_refusal : (e : LexError) → ((at : ℕ) → e ≡ lexing.BadByte at → Breaks text (lexing.BadByte at)) → ((at : ℕ) → e ≡ lexing.OpenString at → Breaks text (lexing.OpenString at))
      → ((at : ℕ) → e ≡ lexing.NumberTooLarge at → Breaks text (lexing.NumberTooLarge at)) → ((e ≡ lexing.TooLong) ↔ (most_bytes < length text)) → e ≢ lexing.Memory
      → IsParsedAs Spelled levels text (unparsed (lexical e))
  lexical_refusal lexing.Memory bad opened large long no_want = absurd (no_want refl)
  lexical_refusal (lexing.BadByte at) bad opened large long no_want = parsed_as _ (broken (lexing.BadByte at) (not_longer text (λ more. let e = long.1 more in cc)) (bad at refl))
  lexical_refusal (lexing.OpenString at) bad opened large long no_want = parsed_as _ (broken (lexing.OpenString at) (not_longer text (λ more. let e = long.1 more in cc)) (opened at refl))
  lexical_refusal (lexing.NumberTooLarge at) bad opened large long no_want = parsed_as _ (broken (lexing.NumberTooLarge at) (not_longer text (λ more. let e = long.1 more in cc)) (large at refl))
  lexical_refusal lexing.TooLong bad opened large long no_want = parsed_as _ (too_long (long.0 refl))

  -- tokens that spell a tree, and tokens that are refused
  pub tree_answer : (tokens : List PlainToken) (a : Tree) → Lexes text tokens → (most_bytes < length text → ⊥) → Spelled a tokens → ((b : Tree) → Spelled b tokens → b ≡ a) → levels a ≤ most_levels
      → IsParsedAs Spelled levels text (parsed a)
  tree_answer tokens a lexes short spells only low = parsed_as _ (spelled tokens a (not_longer text short) lexes (spells, only) low)

  pub syntactic_refusal : (tokens : List PlainToken) (e : SyntaxError) → Lexes text tokens → (most_bytes < length text → ⊥) → Refuses Spelled levels tokens e → e ≢ Memory → IsParsedAs Spelled levels text (unparsed (syntactic e))
  syntactic_refusal tokens e lexes short refuses no_want = parsed_as _ (not_spelled tokens e (not_longer text short) lexes no_want refuses)

-- ---- the answers of the program

module _ {X Y E : Type 0} (view : X → Y) (Holds : Parsing Y → Type 0) (answer : Result (Result X Unparsed) E) where
  pub if_unlexed : (e : LexError) → IfOk answer (λ p. IsUnlexed e p) → (e ≢ lexing.Memory → Holds (unparsed (lexical e))) → IfOk answer (λ p. Holds (parsing_view view p))
  if_unlexed e h k = by answer h
    where
      by : (r : Result (Result X Unparsed) E) → IfOk r (λ p. IsUnlexed e p) → IfOk r (λ p. Holds (parsing_view view p))
      by (Ok p) h' = subst (λ q. Holds (parsing_view view q)) (sym h'.1) (k h'.0)
      by (Err e') h' = tt

  pub if_unspelled : (e : SyntaxError) → IfOk answer (λ p. IsUnspelled e p) → (e ≢ Memory → Holds (unparsed (syntactic e))) → IfOk answer (λ p. Holds (parsing_view view p))
  if_unspelled e h k = by answer h
    where
      by : (r : Result (Result X Unparsed) E) → IfOk r (λ p. IsUnspelled e p) → IfOk r (λ p. Holds (parsing_view view p))
      by (Ok p) h' = subst (λ q. Holds (parsing_view view q)) (sym h'.1) (k h'.0)
      by (Err e') h' = tt

module _ {X Y E : Type 0} (view : X → Y) (Spelled : Y → Text → Type 0) (levels : Y → ℕ) (text : List ℕ) (once : IsLexedOnce text) (tokens : List PlainToken) (lexes : Lexes text tokens) (short : most_bytes < length text → ⊥) where
  -- what a parser answers for the tokens of a text
  pub if_spelled : (found : Result X SyntaxError) (answer : Result (Result X Unparsed) E) → Parses view Spelled levels tokens found → IfOk answer (λ p. IsSpelled found p) → IfOk answer (λ p. IsParsedAs Spelled levels text (parsing_view view p))
  if_spelled (Ok a) answer parses h = by answer h
    where
      by : (r : Result (Result X Unparsed) E) → IfOk r (λ p. p ≡ Ok a) → IfOk r (λ p. IsParsedAs Spelled levels text (parsing_view view p))
      by (Ok p) h' = subst (λ q. IsParsedAs Spelled levels text (parsing_view view q)) (sym h') (tree_answer Spelled levels text once tokens (view a) lexes short parses.tree parses.only parses.shallow)
      by (Err e) h' = tt
  if_spelled (Err e) answer parses h = if_unspelled view (IsParsedAs Spelled levels text) answer e h (syntactic_refusal Spelled levels text once tokens e lexes short parses.refused)
