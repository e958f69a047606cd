-- A guard and the inscription that its tokens spell.
use Rattle.std.proofs.Common.{◌≡◌, ◌≢◌, ◌⊎◌, inl, inr, Bool, true, false, ℕ, List, [], ◌∷◌, ◌++◌, map, refl, sym, ap, rules, Vec, Global, arith, length, vec_len, ◌==◌}
use Rattle.std.proofs.lemmas.Bool.Decides.{nat_tests}
use Rattle.std.proofs.lemmas.List.{length-map}
use Rattle.cpn_lex.specs.Token.{PlainToken, PlainKind}
use Rattle.cpn_lex.specs.Token as token
use Rattle.cpn_lex.specs.declared.symbols.Symbol.TheVariants as sign
use Rattle.cpn_syntax.specs.declared.refusals.SyntaxError.{SyntaxError}
use Rattle.cpn_trees.specs.declared.trees.Ast.{Ast}
use Rattle.cpn_trees.specs.declared.trees.Form.{the_lemmas}
use Rattle.cpn_trees.specs.declared.trees.Form.TheViews as view
use Rattle.cpn_trees.specs.AstViews.{ast_view}
use Rattle.cpn_syntax.specs.Texts.{Text, Is}
use Rattle.cpn_syntax.specs.Unread.{Begins}
use Rattle.cpn_trees.specs.Trees.{PlainAst, ast, list, PlainAsts, no_ast, more_asts, asts_from}
use Rattle.cpn_syntax.specs.Inscriptions.{Spells, items_line, group_line, SpellsParts, last_part, next_part}
use Rattle.cpn_syntax.specs.Completions.{Closes, nothing_more}
use Rattle.cpn_syntax.specs.Guards.{IsInBrackets, SpellsGuard, conjuncts_line, inscription_line, conjuncts_of}
use Rattle.cpn_syntax.specs.Fragments.{Halts}
use Rattle.cpn_syntax.specs.Parses.{SpellsOnly}
use Rattle.cpn_syntax.proofs.Fragments.{front_at, split_front}

-- ---- what the program makes of a tree

pub list_view : (at : ℕ) (parts : Vec Ast Global) → ast_view (record { at = at; form = view.List parts }) ≡ ast at (list (asts_from (map ast_view parts.items)))
list_view at parts = search (rules, the_lemmas)

pub unbracketed : (a : PlainAst) → conjuncts_of a false ≡ more_asts a no_ast
unbracketed (ast at (list (more_asts a rest))) = refl
unbracketed _ = refl

pub some_conjuncts : (at : ℕ) (parts : List PlainAst) → parts ≢ [] → conjuncts_of (ast at (list (asts_from parts))) true ≡ asts_from parts
some_conjuncts at [] some = absurd (some refl)
some_conjuncts at (a ∷ parts) some = refl

pub some_items : (parts : Vec Ast Global) → (vec_len parts == 0) ≡ false → map ast_view parts.items ≢ []
some_items parts some none = let e = ap length none in absurd (grind (arith, nat_tests, length-map {A = Ast} {B = PlainAst}))

-- ---- whether an inscription is a list in brackets around the text

is_bracket : (k : PlainKind) → (k ≡ token.symbol sign.OpenBracket) ⊎ (k ≡ token.symbol sign.OpenBracket → ⊥)
is_bracket (token.symbol sign.OpenBracket) = inl refl
is_bracket _ = inr (λ e. cc)

in_brackets_or_not : (a : PlainAst) (u : Text) → IsInBrackets a u ⊎ (IsInBrackets a u → ⊥)
in_brackets_or_not (ast at (list (more_asts a rest))) (t ∷ u) = is_bracket t.kind
in_brackets_or_not _ _ = inr (λ h. h)

bracket_begins : (a : PlainAst) (u : Text) → IsInBrackets a u → Begins (Is sign.OpenBracket) u
bracket_begins (ast at (list (more_asts a rest))) (t ∷ u) h = h
bracket_begins _ _ h = absurd h

not_listed : (a : PlainAst) (u : Text) → Begins (Is sign.OpenBracket) u → (IsInBrackets a u → ⊥) → conjuncts_of a true ≡ more_asts a no_ast
not_listed (ast at (list (more_asts a rest))) (t ∷ u) begins not_so = absurd (not_so begins)
not_listed (ast at (list (more_asts a rest))) [] begins not_so = absurd begins
not_listed _ _ begins not_so = refl

no_parenthesis : (a : PlainAst) (t : PlainToken) (u : Text) → Is sign.OpenParenthesis t → IsInBrackets a (t ∷ u) → ⊥
no_parenthesis (ast at (list (more_asts a rest))) t u is h = cc
no_parenthesis _ t u is h = h

in_brackets : {l : ℕ} {a : PlainAst} {u : Text} → Spells l a u → IsInBrackets a u → SpellsGuard (conjuncts_of a true) u
in_brackets (items_line t1 t2 v l opens (last_part w p) closes) h = conjuncts_line t1 t2 v opens (last_part w p) closes
in_brackets (items_line t1 t2 v l opens (next_part t w x p is rest) closes) h = conjuncts_line t1 t2 v opens (next_part t w x p is rest) closes
in_brackets (group_line t1 t2 {a = a} v l opens p closes) h = absurd (no_parenthesis a t1 (v ++ t2 ∷ []) opens h)
in_brackets _ h = absurd h

-- ---- from an inscription to a guard

guard_of : (a : PlainAst) (u : Text) (bracketed : Bool) → Spells 0 a u → (bracketed ≡ true → Begins (Is sign.OpenBracket) u) → (bracketed ≡ false → Begins (Is sign.OpenBracket) u → ⊥) → SpellsGuard (conjuncts_of a bracketed) u
guard_of a u true spelled begins none = elim (in_brackets_or_not a u) [ inl h ↦ in_brackets spelled h | inr h ↦ rw (not_listed a u (begins refl) h) (inscription_line u spelled h) ]
guard_of a u false spelled begins none = rw (unbracketed a) (inscription_line u spelled (λ h. none refl (bracket_begins a u h)))

some_guard : (a : PlainAst) (u : Text) → Spells 0 a u → (parts : PlainAsts) × SpellsGuard parts u
some_guard a u spelled = elim (in_brackets_or_not a u) [ inl h ↦ (conjuncts_of a true, in_brackets spelled h) | inr h ↦ (more_asts a no_ast, inscription_line u spelled h) ]

-- and back
listed : (at : ℕ) (parts : PlainAsts) (u : Text) → SpellsParts parts u → conjuncts_of (ast at (list parts)) true ≡ parts
listed at parts u (last_part v p) = refl
listed at parts u (next_part t v w p is rest) = refl

as_inscription : {parts : PlainAsts} {u : Text} → SpellsGuard parts u → (a : PlainAst) × Spells 0 a u
as_inscription (conjuncts_line t1 t2 v opens parts closes) = (_, items_line t1 t2 v (omega arith) opens parts closes)
as_inscription (inscription_line {a = a} v spelled h) = (a, spelled)

one_guard : {parts : PlainAsts} {u : Text} (a : PlainAst) (bracketed : Bool) → (bracketed ≡ true → Begins (Is sign.OpenBracket) u) → (bracketed ≡ false → Begins (Is sign.OpenBracket) u → ⊥)
    → ((b : PlainAst) → Spells 0 b u → b ≡ a) → SpellsGuard parts u → parts ≡ conjuncts_of a bracketed
one_guard a true begins none only (conjuncts_line t1 t2 {parts = parts} v opens p closes) = rw (← only _ (items_line t1 t2 v (omega arith) opens p closes)) (sym (listed t1.at parts v p))
one_guard a false begins none only (conjuncts_line t1 t2 v opens p closes) = absurd (none refl opens)
one_guard {u = u} a true begins none only (inscription_line {a = b} v spelled h) = rw (← only b spelled) (sym (not_listed b u (begins refl) h))
one_guard a false begins none only (inscription_line {a = b} v spelled h) = rw (← only b spelled) (sym (unbracketed b))

module _ {text : Text} where
  pub guard_read : {a : PlainAst} {bracketed : Bool} → (bracketed ≡ true → Begins (Is sign.OpenBracket) text) → (bracketed ≡ false → Begins (Is sign.OpenBracket) text → ⊥) → SpellsOnly (Spells 0) text a → SpellsOnly SpellsGuard text (conjuncts_of a bracketed)
  guard_read {a} {bracketed} begins none x = (guard_of a text bracketed x.0 begins none, λ parts guard. one_guard a bracketed begins none x.1 guard)

  pub guard_halts : {e : SyntaxError} → Halts (Spells 0) (Closes nothing_more) text e → Halts SpellsGuard (Closes nothing_more) text e
  guard_halts x = record {
    used = x.used;
    rest = x.rest;
    split = x.split;
    fault_is = x.fault_is;
    viable = let v = x.viable in let g = some_guard v.0 (x.used ++ v.1) v.2 in (g.0, v.1, g.1);
    none = λ parts v w agrees f. let s = split_front f in let i = as_inscription s.2 in x.none i.0 v w agrees (front_at s.0 v s.1 i.1 s.3);
  }
