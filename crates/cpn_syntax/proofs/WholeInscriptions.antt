-- An inscription as a part of a text.
use Rattle.std.proofs.Common.{◌≡◌, [], ◌∷◌, ◌++◌, refl, ap, append-nil, arith}
use Rattle.cpn_lex.specs.Token.{PlainToken}
use Rattle.cpn_lex.specs.declared.symbols.Symbol.TheVariants as sign
use Rattle.cpn_syntax.specs.declared.refusals.SyntaxError.{SyntaxError}
use Rattle.cpn_syntax.specs.Texts.{Text}
use Rattle.cpn_trees.specs.Trees.{PlainAst}
use Rattle.cpn_syntax.specs.Inscriptions.{Spells, time_line}
use Rattle.cpn_syntax.specs.Completions.{Closing, Closes, at_end, at_semicolon}
use Rattle.cpn_syntax.specs.Readings.{IsReadAs, BreaksOffAt}
use Rattle.cpn_syntax.specs.Fragments.{Whole, whole, Leaves, ReadsAs, Halts}
use Rattle.cpn_syntax.proofs.Fragments.{Then, next, Can, split_front, split_whole, front_at, leaves_next, halts_next, whole_ends}
use Rattle.cpn_syntax.proofs.Phrases.{a_sign, is_sign}

-- ---- of two texts that are closed alike, one is the other

last_same : (u v : Text) (s t : PlainToken) → u ++ s ∷ [] ≡ v ++ t ∷ [] → s ≡ t
last_same [] [] s t e = cc
last_same [] (y ∷ v) s t e = absurd (not_empty v (let e2 : [] ≡ v ++ t ∷ [] = cc in e2)) where
  not_empty : (v : Text) → [] ≡ v ++ t ∷ [] → ⊥
  not_empty [] e = cc
  not_empty (y ∷ v) e = cc
last_same (x ∷ u) [] s t e = absurd (not_empty u (let e2 : u ++ s ∷ [] ≡ [] = cc in e2)) where
  not_empty : (u : Text) → u ++ s ∷ [] ≡ [] → ⊥
  not_empty [] e = cc
  not_empty (y ∷ u) e = cc
last_same (x ∷ u) (y ∷ v) s t e = last_same u v s t cc

closed_same : {close : Closing} (u v w x : Text) → Closes close w → Closes close x → u ++ w ≡ v ++ x → w ≡ x
closed_same u v w x at_end at_end e = refl
closed_same u v w x (at_semicolon s is) (at_semicolon t is2) e = ap (λ z. z ∷ []) (last_same u v s t e)

module _ {close : Closing} {from : Text} where
  pub inscription_read : {to : Text} {a : PlainAst} → IsReadAs from to a → ReadsAs (Spells 0) (Closes close) from to a
  inscription_read {to} {a} x = record {
    used = x.used;
    split = x.split;
    reads = λ b w rest. let e = split_whole rest in rw (← e.0, e.1, append-nil) x.spells;
    only = λ b v w agrees f.
        let s = split_front f in
        let found = x.only close b s.0 v w agrees s.1 s.2 s.3 in
        front_at [] v (closed_same x.used s.0 w v found.1 s.3 s.1) (rw found.0 whole) s.3;
  }

  pub inscription_halts : {e : SyntaxError} → BreaksOffAt from e → Halts (Spells 0) (Closes close) from e
  inscription_halts {e} x = record {
    used = x.used;
    rest = x.rest;
    split = x.split;
    fault_is = x.fault_is;
    viable = let v = x.viable in (v.1.0, v.0, v.1.1);
    none = λ b v w agrees f. let s = split_front f in x.none close b s.0 v w agrees s.1 s.2 s.3;
  }

pub can_inscription : Can (Spells 0)
can_inscription = (_, a_sign sign.Time ∷ [], time_line (a_sign sign.Time) (omega arith) (is_sign sign.Time))

-- ---- the end of a declaration

module _ {B : Type 0} where
  pub can_inscription_next : {Rest : PlainAst → B → Text → Type 0} → ((a : PlainAst) → Can (Rest a)) → Can (Then (Spells 0) Rest)
  can_inscription_next can = let r = can can_inscription.0 in (r.0, can_inscription.1 ++ r.1, next can_inscription.1 r.1 can_inscription.2 r.2)

module _ {B : Type 0} {close : Closing} {from : Text} (f : PlainAst → B) where
  pub inscription_next : {to : Text} {a : PlainAst} → IsReadAs from to a → Leaves (Then (Spells 0) (λ a. Whole (f a))) (Whole (f a)) (Closes close) from to
  inscription_next x = leaves_next (whole_ends f (λ v ends. ends)) (inscription_read x)

  pub no_inscription_next : {e : SyntaxError} → BreaksOffAt from e → Halts (Then (Spells 0) (λ a. Whole (f a))) (Closes close) from e
  no_inscription_next x = halts_next {Within = Closes close} (whole_ends f (λ v ends. ends)) (λ a. (f a, [], whole)) (inscription_halts x)
