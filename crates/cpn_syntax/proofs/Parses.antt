-- What the reading of a whole text says of the parser's answer.
use Rattle.std.proofs.Common.{◌≡◌, ◌≢◌, ℕ, inr, Err, [], ◌∷◌, ◌++◌, refl, sym, ap, ◌∙◌, append_assoc, append-nil}
use Rattle.cpn_syntax.specs.declared.refusals.SyntaxError.{SyntaxError}
use Rattle.cpn_syntax.specs.declared.refusals.SyntaxError.TheVariants.{Memory, Unexpected, EndOfText, TooDeep}
use Rattle.cpn_syntax.specs.Texts.{Text}
use Rattle.cpn_syntax.specs.Faults.{fault_at}
use Rattle.cpn_syntax.specs.Progress.{Agrees}
use Rattle.cpn_syntax.specs.Completions.{Closes, nothing_more, at_end}
use Rattle.cpn_syntax.specs.Fragments.{Front, Whole, whole, ReadsAs, Halts}
use Rattle.cpn_syntax.specs.Parses.{SpellsOnly, CanBegin, Refuses, Parses}
use Rattle.cpn_syntax.proofs.Fragments.{front_at, split_front, split_whole}

abbrev Ends : Text → Type 0
Ends = Closes nothing_more

module _ {A : Type 0} {Spelled : A → Text → Type 0} where
  front_whole : (a : A) (u : Text) → Spelled a u → Front Spelled Ends a [] u
  front_whole a u spelled = front_at u [] (sym (append-nil u)) spelled at_end

  -- ---- nothing is left, or a token is

  pub all_read : {text to : Text} {a : A} → ReadsAs Spelled Ends text to a → to ≡ [] → SpellsOnly Spelled text a
  all_read {text} {to} {a} x none =
      let e : text ≡ x.used ++ [] = x.split ∙ ap (λ z. x.used ++ z) none in
      (rw e (x.reads a [] whole), λ b spelled. sym (split_whole (split_front (x.only b [] [] (rw none refl) (front_whole b (x.used ++ []) (rw e at spelled)))).2).0)

  pub left_over : {text to : Text} {a : A} → ReadsAs Spelled Ends text to a → (to ≡ [] → ⊥) → Halts Spelled Ends text (fault_at to)
  left_over {text} {to} {a} x some = record {
    used = x.used;
    rest = to;
    split = x.split;
    fault_is = refl;
    viable = (a, [], x.reads a [] whole);
    none = λ b v w agrees f. refused b v w agrees (x.only b v w agrees f);
  } where
    refused : (b : A) (v w : Text) → Agrees to w → Front (Whole a) Ends b v w → ⊥
    refused b v w agrees f = let s = split_front f in some (none_left to w agrees (s.1 ∙ ap (λ z. z ++ v) (split_whole s.2).1 ∙ closed v s.3)) where
      closed : (v : Text) → Ends v → v ≡ []
      closed v at_end = refl

      none_left : (to w : Text) → Agrees to w → w ≡ [] → to ≡ []
      none_left [] w agrees e = refl
      none_left (t ∷ to) w agrees e = let e2 = agrees.1 in cc

  -- ---- why a text is refused

  halts_unless : (text : Text) (e : SyntaxError) → Halts Spelled Ends text e → (depth : A → ℕ) → Refuses Spelled depth text e
  halts_unless text e x depth = rest_cases x.rest x.split x.fault_is (λ a w agrees spelled. x.none a [] w agrees (front_whole a (x.used ++ w) spelled)) where
    begun : CanBegin Spelled x.used
    begun = (x.viable.1, x.viable.0, x.viable.2)

    rest_cases : (rest : Text) → text ≡ x.used ++ rest → e ≡ fault_at rest → ((a : A) (w : Text) → Agrees rest w → Spelled a (x.used ++ w) → ⊥) → Refuses Spelled depth text e
    rest_cases [] split is none =
        let s : text ≡ x.used = split ∙ append-nil x.used in
        rw is (rw s begun, λ a spelled. none a [] refl (rw split at spelled))
    rest_cases (t ∷ after) split is none =
        rw is (x.used, t, after, split, refl, begun, λ w. none w.1 (t ∷ w.0) (w.0, refl) (rw append_assoc at w.2))

  refused_by : (depth : A → ℕ) (text : Text) (e : SyntaxError) → (e ≢ Memory → Halts Spelled Ends text e) → Refuses Spelled depth text e
  refused_by depth text Memory stops = tt
  refused_by depth text (Unexpected at) stops = halts_unless text (Unexpected at) (stops (λ e. cc)) depth
  refused_by depth text EndOfText stops = halts_unless text EndOfText (stops (λ e. cc)) depth
  refused_by depth text TooDeep stops = halts_unless text TooDeep (stops (λ e. cc)) depth

  -- it spells no tree
  spells_none : {text : Text} {e : SyntaxError} → Halts Spelled Ends text e → (a : A) → Spelled a text → ⊥
  spells_none {text} x a spelled = x.none a [] x.rest (agrees_self x.rest) (front_whole a (x.used ++ x.rest) (rw x.split at spelled)) where
    agrees_self : (rest : Text) → Agrees rest rest
    agrees_self [] = refl
    agrees_self (t ∷ rest) = (rest, refl)

  -- it spells a tree: only want of memory refuses it
  only_memory : {text : Text} (e : SyntaxError) → (e ≢ Memory → Halts Spelled Ends text e) → (a : A) → Spelled a text → e ≡ Memory
  only_memory Memory stops a spelled = refl
  only_memory (Unexpected at) stops a spelled = absurd (spells_none (stops (λ e. cc)) a spelled)
  only_memory EndOfText stops a spelled = absurd (spells_none (stops (λ e. cc)) a spelled)
  only_memory TooDeep stops a spelled = absurd (spells_none (stops (λ e. cc)) a spelled)

  pub halted : {Found : Type 0} {view : Found → A} {depth : A → ℕ} {text : Text} (e : SyntaxError) → (e ≢ Memory → Halts Spelled Ends text e) → Parses view Spelled depth text (Err e)
  halted {Found} {view} {depth} {text} e stops = record {
    tree = tt;
    shallow = tt;
    only = tt;
    refused = refused_by depth text e stops;
    complete = λ a spelled shallow. only_memory e stops a spelled;
    deep = λ a spelled deep. inr (only_memory e stops a spelled);
  }
