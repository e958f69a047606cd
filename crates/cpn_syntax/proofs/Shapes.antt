-- Whatever the grammar spells has the shape of its forms.
use Rattle.std.proofs.Common.{◌≡◌, ℕ, Bool, true, ◌&&◌, List, refl}
use Rattle.cpn_lex.specs.declared.symbols.Symbol.{Symbol}
use Rattle.cpn_syntax.specs.Texts.{Text}
use Rattle.cpn_syntax.specs.Phrases.{Each, last_one, next_one}
use Rattle.cpn_trees.specs.Trees.{PlainPat, PlainPats, PlainAst, PlainAsts, PlainArms, PlainLocals}
use Rattle.cpn_trees.specs.DeclTrees.{PlainBody, PlainDecl}
use Rattle.cpn_syntax.specs.Patterns as p
use Rattle.cpn_syntax.specs.Patterns.{SpellsPat, SpellsPats}
use Rattle.cpn_syntax.specs.Inscriptions as e
use Rattle.cpn_syntax.specs.Inscriptions.{Spells, SpellsParts, SpellsTerms, SpellsArms, SpellsLocals}
use Rattle.cpn_syntax.specs.Guards.{SpellsGuard, conjuncts_line, inscription_line}
use Rattle.cpn_syntax.specs.Delays.{SpellsDelay, delay_line, later_line}
use Rattle.cpn_syntax.specs.Declarations as d
use Rattle.cpn_syntax.specs.Declarations.{SpellsBody, SpellsForm, SpellsDecl}
use Rattle.cpn_trees.specs.Shapes.{is_some, has_pat, has_part, has_arm, has_local, is_pat_shaped, are_pats_shaped, is_shaped, are_shaped, are_arms_shaped, are_locals_shaped, is_guard_shaped, is_body_shaped, is_decl_shaped}

both : {a b : Bool} → a ≡ true → b ≡ true → (a && b) ≡ true
both first second = rw (first, second) refl

all_three : {a b c : Bool} → a ≡ true → b ≡ true → c ≡ true → (a && b && c) ≡ true
all_three first second third = both (both first second) third

-- ---- patterns

mutual
  pub shaped_pat : {l : ℕ} {q : PlainPat} {u : Text} → SpellsPat l q u → is_pat_shaped q ≡ true
  shaped_pat (p.cons_line t u v q is r) = both (shaped_pat q) (shaped_pat r)
  shaped_pat (p.name_line t le is) = refl
  shaped_pat (p.any_line t le is) = refl
  shaped_pat (p.number_line t le is) = refl
  shaped_pat (p.text_line t le is) = refl
  shaped_pat (p.true_line t le is) = refl
  shaped_pat (p.false_line t le is) = refl
  shaped_pat (p.call_line t t1 t2 u le is opens parts closes) = both (shaped_pats parts).0 (shaped_pats parts).1
  shaped_pat (p.unit_line t1 t2 le opens closes) = refl
  shaped_pat (p.group_line t1 t2 u le opens q closes) = shaped_pat q
  shaped_pat (p.tuple_line t1 t2 t3 u v le opens q comma parts closes) = both (shaped_pats parts).0 (both (shaped_pat q) (shaped_pats parts).1)
  shaped_pat (p.no_items_line t1 t2 le opens closes) = refl
  shaped_pat (p.items_line t1 t2 u le opens parts closes) = (shaped_pats parts).1

  shaped_pats : {ps : PlainPats} {u : Text} → SpellsPats ps u → (has_pat ps ≡ true) × (are_pats_shaped ps ≡ true)
  shaped_pats (p.last_pat u q) = (refl, both (shaped_pat q) refl)
  shaped_pats (p.next_pat t u v q comma rest) = (refl, both (shaped_pat q) (shaped_pats rest).1)

-- ---- inscriptions

mutual
  pub shaped : {l : ℕ} {a : PlainAst} {u : Text} → Spells l a u → is_shaped a ≡ true
  shaped (e.if_line t1 t2 t3 u v w le i c th a el b) = all_three (shaped c) (shaped a) (shaped b)
  shaped (e.case_line t1 t2 u v is a of arms) = all_three (shaped a) (shaped_arms arms).0 (shaped_arms arms).1
  shaped (e.fold_line t1 n1 t2 n2 t3 t4 t5 u v w le is1 item is2 total is3 a is4 s is5 b) = all_three (shaped a) (shaped s) (shaped b)
  shaped (e.sum_line u v le a terms) = both (shaped_terms terms).0 (both (shaped a) (shaped_terms terms).1)
  shaped (e.stamp_line t n u le a is num) = shaped a
  shaped (e.infix_line t u v o le a is b) = both (shaped a) (shaped b)
  shaped (e.not_line t u le is a) = shaped a
  shaped (e.negate_line t u le is a) = shaped a
  shaped (e.component_line t n u le is num a) = shaped a
  shaped (e.number_line t le is) = refl
  shaped (e.text_line t le is) = refl
  shaped (e.true_line t le is) = refl
  shaped (e.false_line t le is) = refl
  shaped (e.empty_line t le is) = refl
  shaped (e.time_line t le is) = refl
  shaped (e.name_line t le is) = refl
  shaped (e.call_line t t1 t2 u le is opens parts closes) = both (shaped_parts parts).0 (shaped_parts parts).1
  shaped (e.unit_line t1 t2 le opens closes) = refl
  shaped (e.group_line t1 t2 u le opens a closes) = shaped a
  shaped (e.tuple_line t1 t2 t3 u v le opens a comma parts closes) = both (shaped_parts parts).0 (both (shaped a) (shaped_parts parts).1)
  shaped (e.no_items_line t1 t2 le opens closes) = refl
  shaped (e.items_line t1 t2 u le opens parts closes) = (shaped_parts parts).1
  shaped (e.let_line t1 t2 t3 u v le is1 locals is2 a is3) = all_three (shaped_locals locals).0 (shaped_locals locals).1 (shaped a)

  pub shaped_parts : {parts : PlainAsts} {u : Text} → SpellsParts parts u → (has_part parts ≡ true) × (are_shaped parts ≡ true)
  shaped_parts (e.last_part u a) = (refl, both (shaped a) refl)
  shaped_parts (e.next_part t u v a comma rest) = (refl, both (shaped a) (shaped_parts rest).1)

  shaped_terms : {terms : PlainAsts} {u : Text} → SpellsTerms terms u → (has_part terms ≡ true) × (are_shaped terms ≡ true)
  shaped_terms (e.last_term t u is a) = (refl, both (shaped a) refl)
  shaped_terms (e.next_term t u v is a rest) = (refl, both (shaped a) (shaped_terms rest).1)

  shaped_arms : {arms : PlainArms} {u : Text} → SpellsArms arms u → (has_arm arms ≡ true) × (are_arms_shaped arms ≡ true)
  shaped_arms (e.last_arm t u v q arrow a) = (refl, all_three (shaped_pat q) (shaped a) refl)
  shaped_arms (e.next_arm t1 t2 u v w q arrow a bar rest) = (refl, all_three (shaped_pat q) (shaped a) (shaped_arms rest).1)

  shaped_locals : {locals : PlainLocals} {u : Text} → SpellsLocals locals u → (has_local locals ≡ true) × (are_locals_shaped locals ≡ true)
  shaped_locals (e.last_local t1 m t2 u is n equal a) = (refl, both (shaped a) refl)
  shaped_locals (e.next_local t1 m t2 u v is n equal a rest) = (refl, both (shaped a) (shaped_locals rest).1)

pub shaped_guard : {parts : PlainAsts} {u : Text} → SpellsGuard parts u → is_guard_shaped parts ≡ true
shaped_guard (conjuncts_line t1 t2 u opens parts closes) = both (shaped_parts parts).0 (shaped_parts parts).1
shaped_guard (inscription_line u a alone) = both (shaped a) refl

pub shaped_delay : {a : PlainAst} {u : Text} → SpellsDelay a u → is_shaped a ≡ true
shaped_delay (delay_line u a) = shaped a
shaped_delay (later_line t u is a) = shaped a

-- ---- declarations

some_of_each : {A : Type 0} {Part : A → Text → Type 0} {s : Symbol} {parts : List A} {u : Text} → Each Part s parts u → is_some parts ≡ true
some_of_each (last_one u a) = refl
some_of_each (next_one t u v a is rest) = refl

shaped_body : {b : PlainBody} {u : Text} → SpellsBody b u → is_body_shaped b ≡ true
shaped_body (d.with_line t u is names) = some_of_each names
shaped_body (d.product_line t1 n t2 u is first star names) = some_of_each names
shaped_body (d.union_line t u is alternatives) = some_of_each alternatives
shaped_body _ = refl

shaped_form : {c : PlainDecl} {u : Text} → SpellsForm c u → is_decl_shaped c ≡ true
shaped_form (d.colour_set_line t1 n t2 u v is1 name is2 body timed) = shaped_body body
shaped_form (d.variables_line t1 t2 n u is1 names is2 colour) = some_of_each names
shaped_form (d.value_line t1 n t2 u is1 name is2 a) = shaped a
shaped_form (d.function_line t1 n t2 t3 t4 m t5 u v is1 name opens parameters closes is4 result is5 a) = both (some_of_each parameters) (shaped a)

pub shaped_decl : {c : PlainDecl} {u : Text} → SpellsDecl c u → is_decl_shaped c ≡ true
shaped_decl (d.decl_line t u form is) = shaped_form form
