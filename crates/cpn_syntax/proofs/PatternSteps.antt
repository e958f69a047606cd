-- The steps of the parser of patterns: where each comes to, and where nothing goes on.
use Rattle.std.proofs.Common.{◌≡◌, ◌≢◌, ℕ, ℤ, ◌<◌, ◌≤◌, inl, inr, true, false, List, [], ◌∷◌, ◌++◌, length, refl, sym, ◌∙◌, append_assoc, append-nil, arith, Result, Ok, Err, IfOk, IfErr}
use Rattle.cpn_lex.specs.Token.{PlainToken}
use Rattle.cpn_lex.specs.declared.symbols.Symbol.{Symbol}
use Rattle.cpn_lex.specs.declared.symbols.Symbol.TheVariants as sign
use Rattle.cpn_syntax.specs.declared.refusals.SyntaxError.{SyntaxError}
use Rattle.cpn_syntax.specs.declared.refusals.SyntaxError.TheVariants as errors
use Rattle.cpn_syntax.specs.Texts.{Text, Is, IsName, IsNumber, IsText, offset_of}
use Rattle.cpn_syntax.specs.Faults.{fault_at}
use Rattle.cpn_syntax.specs.Unread.{Begins}
use Rattle.cpn_syntax.specs.Progress.{Agrees, Leads}
use Rattle.cpn_trees.specs.Trees.{PlainPat, pat, PlainPatForm, any, pat_name, pat_number, pat_text, pat_truth, pat_unit, pat_list, pat_cons, no_pat, pats_from}
use Rattle.cpn_syntax.specs.Patterns.{SpellsPat, cons_line}
use Rattle.cpn_syntax.specs.OpenPatterns.{PlainBracket, round, square, call, behind, inside, OpenPats, OpensBracket, opens_round, opens_square, opens_call, closing, bracketed}
use Rattle.cpn_syntax.specs.PatternCompletions.{SpellsSimple, a_name, an_underscore, a_number, a_text, a_true, a_false, a_unit, no_items, WantsPat, HasPat}
use Rattle.cpn_syntax.specs.ReadPatterns.{PatState, wanting, having, whole, Opened, none_open, open_behind, open_bracket, none_yet, ReadPat, TakesPat}
use Rattle.cpn_syntax.specs.PatternSteps.{step_state, PatComes, PatBreaksOff}
use Rattle.cpn_syntax.specs.declared.pattern_parser.Step.{Step}
use Rattle.cpn_syntax.proofs.Progress.{leads_on, leads_to_stop}
use Rattle.cpn_syntax.proofs.PatternCompletions.{offset_pat}
use Rattle.cpn_syntax.proofs.PatternInversions.{Next, BeginsBySign, begins_pat, no_cons, goes_on, closes_none, no_parenthesis, takes_cons}
use Rattle.cpn_syntax.proofs.ReadPatterns.{pat_down, spells_simple, spells_last, spells_next, spells_bracket, offset_bracket, goes_on_from, goes_on_any}

-- ---- what a text shows by its next token

pub begins_too : (fits : PlainToken → Type 0) (rest w : Text) → Agrees rest w → Begins fits w → Begins fits rest
begins_too fits [] w agrees begins = rw agrees at begins
begins_too fits (t ∷ rest) w agrees begins = rw agrees.1 at begins

next_begins : (s : Symbol) (After : Text → Type 0) (w : Text) → Next s After w → Begins (Is s) w
next_begins s After w next = rw next.3 next.2

next_here : (s : Symbol) (After : Text → Type 0) (t : PlainToken) (w : Text) → Next s After (t ∷ w) → After w
next_here s After t w next = let same : next.1 ≡ w = cc in rw same at next.4

next_sign : (s : Symbol) (After : Text → Type 0) (t : PlainToken) (w : Text) → Next s After (t ∷ w) → Is s t
next_sign s After t w next = let same : next.0 ≡ t = cc in rw same at next.2

-- ---- where a part is wanted

simple_comes : {form : PlainPatForm} {u : Text} (st : OpenPats) (rest : Text) → SpellsSimple form u → length rest < length (u ++ rest)
    → ((r : PlainPat × Text) (w : Text) → Agrees rest w → WantsPat st r (u ++ w) → HasPat (offset_of u) 1 (pat (offset_of u) form) st r w)
    → PatComes (wanting st) (u ++ rest) (having (offset_of u) 1 (pat (offset_of u) form) st) rest
simple_comes {u = u} st rest spells longer only = record {
  leads = record {
    used = u;
    split = refl;
    reads = λ before opened. (before, u, opened, spells_simple spells, refl, refl);
    only = only;
  };
  nearer = omega arith;
}

pub name_comes : (st : OpenPats) (n : List ℕ) (t : PlainToken) (rest : Text) → IsName n t → (Begins (Is sign.OpenParenthesis) rest → ⊥) → PatComes (wanting st) (t ∷ rest) (having t.at 1 (pat t.at (pat_name n)) st) rest
name_comes st n t rest is none = simple_comes st rest (a_name t is) (omega arith) (λ r w agrees takes. elim (rw is at (begins_pat takes)) [
  | inl has ↦ has
  | inr next ↦ absurd (none (begins_too _ rest w agrees (next_begins _ _ w next)))
])

pub underscore_comes : (st : OpenPats) (t : PlainToken) (rest : Text) → Is sign.Underscore t → PatComes (wanting st) (t ∷ rest) (having t.at 1 (pat t.at any) st) rest
underscore_comes st t rest is = simple_comes st rest (an_underscore t is) (omega arith) (λ r w agrees takes. rw is at (begins_pat takes))

pub number_comes : (st : OpenPats) (z : ℤ) (t : PlainToken) (rest : Text) → IsNumber z t → PatComes (wanting st) (t ∷ rest) (having t.at 1 (pat t.at (pat_number z)) st) rest
number_comes st z t rest is = simple_comes st rest (a_number t is) (omega arith) (λ r w agrees takes. rw is at (begins_pat takes))

pub text_comes : (st : OpenPats) (bytes : List ℕ) (t : PlainToken) (rest : Text) → IsText bytes t → PatComes (wanting st) (t ∷ rest) (having t.at 1 (pat t.at (pat_text bytes)) st) rest
text_comes st bytes t rest is = simple_comes st rest (a_text t is) (omega arith) (λ r w agrees takes. rw is at (begins_pat takes))

pub true_comes : (st : OpenPats) (t : PlainToken) (rest : Text) → Is sign.True t → PatComes (wanting st) (t ∷ rest) (having t.at 1 (pat t.at (pat_truth true)) st) rest
true_comes st t rest is = simple_comes st rest (a_true t is) (omega arith) (λ r w agrees takes. rw is at (begins_pat takes))

pub false_comes : (st : OpenPats) (t : PlainToken) (rest : Text) → Is sign.False t → PatComes (wanting st) (t ∷ rest) (having t.at 1 (pat t.at (pat_truth false)) st) rest
false_comes st t rest is = simple_comes st rest (a_false t is) (omega arith) (λ r w agrees takes. rw is at (begins_pat takes))

pub unit_comes : (st : OpenPats) (t1 t2 : PlainToken) (rest : Text) → Is sign.OpenParenthesis t1 → Is sign.CloseParenthesis t2 → PatComes (wanting st) (t1 ∷ t2 ∷ rest) (having t1.at 1 (pat t1.at pat_unit) st) rest
unit_comes st t1 t2 rest opens closes = simple_comes st rest (a_unit t1 t2 opens closes) (omega arith) (λ r w agrees takes. elim (rw opens at (begins_pat takes)) [
  | inl next ↦ next_here _ _ t2 w next
  | inr wants ↦ absurd (rw closes at (begins_pat wants))
])

pub no_items_come : (st : OpenPats) (t1 t2 : PlainToken) (rest : Text) → Is sign.OpenBracket t1 → Is sign.CloseBracket t2 → PatComes (wanting st) (t1 ∷ t2 ∷ rest) (having t1.at 1 (pat t1.at (pat_list no_pat)) st) rest
no_items_come st t1 t2 rest opens closes = simple_comes st rest (no_items t1 t2 opens closes) (omega arith) (λ r w agrees takes. elim (rw opens at (begins_pat takes)) [
  | inl next ↦ next_here _ _ t2 w next
  | inr wants ↦ absurd (rw closes at (begins_pat wants))
])

bracket_comes : {bracket : PlainBracket} {start : ℕ} {u : Text} (st : OpenPats) (rest : Text) → OpensBracket bracket start u → length rest < length (u ++ rest)
    → ((r : PlainPat × Text) (w : Text) → Agrees rest w → WantsPat st r (u ++ w) → WantsPat (inside bracket start [] ∷ st) r w)
    → PatComes (wanting st) (u ++ rest) (wanting (inside bracket start [] ∷ st)) rest
bracket_comes {u = u} st rest opens longer only = record {
  leads = record {
    used = u;
    split = refl;
    reads = λ before opened. rw (append-nil (before ++ u)) at (open_bracket u [] opened opens none_yet);
    only = only;
  };
  nearer = omega arith;
}

pub round_comes : (st : OpenPats) (t : PlainToken) (rest : Text) → Is sign.OpenParenthesis t → (Begins (Is sign.CloseParenthesis) rest → ⊥) → PatComes (wanting st) (t ∷ rest) (wanting (inside round t.at [] ∷ st)) rest
round_comes st t rest is none = bracket_comes st rest (opens_round t is) (omega arith) (λ r w agrees takes. elim (rw is at (begins_pat takes)) [
  | inl next ↦ absurd (none (begins_too _ rest w agrees (next_begins _ _ w next)))
  | inr wants ↦ wants
])

pub square_comes : (st : OpenPats) (t : PlainToken) (rest : Text) → Is sign.OpenBracket t → (Begins (Is sign.CloseBracket) rest → ⊥) → PatComes (wanting st) (t ∷ rest) (wanting (inside square t.at [] ∷ st)) rest
square_comes st t rest is none = bracket_comes st rest (opens_square t is) (omega arith) (λ r w agrees takes. elim (rw is at (begins_pat takes)) [
  | inl next ↦ absurd (none (begins_too _ rest w agrees (next_begins _ _ w next)))
  | inr wants ↦ wants
])

pub call_comes : (st : OpenPats) (n : List ℕ) (t t1 : PlainToken) (rest : Text) → IsName n t → Is sign.OpenParenthesis t1 → PatComes (wanting st) (t ∷ t1 ∷ rest) (wanting (inside (call n) t.at [] ∷ st)) rest
call_comes st n t t1 rest is opens = bracket_comes st rest (opens_call t t1 is opens) (omega arith) (λ r w agrees takes. elim (rw is at (begins_pat takes)) [
  | inl has ↦ absurd (no_parenthesis has opens)
  | inr next ↦ next_here _ _ t1 w next
])

-- nothing begins with the next token, or at the end of the text
wants_stops : (st : OpenPats) (text : Text) → ((r : PlainPat × Text) (w : Text) → Agrees text w → WantsPat st r w → ⊥) → PatBreaksOff (wanting st) text (fault_at text)
wants_stops st text none = record {
  used = [];
  rest = text;
  split = refl;
  fault_is = refl;
  viable = λ before opened. rw (append-nil before) (goes_on_any opened);
  none = none;
}

pub end_stops : (st : OpenPats) → PatBreaksOff (wanting st) [] errors.EndOfText
end_stops st = wants_stops st [] (λ r w agrees takes. rw agrees at (begins_pat takes))

pub sign_stops : (st : OpenPats) (s : Symbol) (t : PlainToken) (rest : Text) → Is s t → ((r : PlainPat × Text) (w : Text) → BeginsBySign st r s t.at w → ⊥) → PatBreaksOff (wanting st) (t ∷ rest) (errors.Unexpected t.at)
sign_stops st s t rest is none = wants_stops st (t ∷ rest) (λ r w agrees takes. none r agrees.0 (rw is at (begins_pat (rw agrees.1 at takes))))

-- ---- where a part was read

pub cons_comes : (at k : ℕ) (p : PlainPat) (st : OpenPats) (t : PlainToken) (rest : Text) → Is sign.DoubleColon t → 1 ≤ k → PatComes (having at k p st) (t ∷ rest) (wanting (behind at p ∷ st)) rest
cons_comes at k p st t rest is tight = record {
  leads = record {
    used = t ∷ [];
    split = refl;
    reads = λ before read. rw (read.4, read.5) (open_behind t read.1 read.2 (pat_down tight read.3) is);
    only = λ r w agrees takes. takes_cons takes is;
  };
  nearer = omega arith;
}

-- a part that no `::` takes
pub ends : (at k : ℕ) (p : PlainPat) (st : OpenPats) (text : Text) → (1 ≤ k → Begins (Is sign.DoubleColon) text → ⊥) → Leads ReadPat TakesPat (having at k p st) text (having at 0 p st) text
ends at k p st text none = record {
  used = [];
  split = refl;
  reads = λ before read. (read.0, read.1, read.2, pat_down (omega arith) read.3, read.4, append-nil before ∙ read.5);
  only = λ r w agrees takes. no_cons (λ tight begins. none tight (begins_too _ text w agrees begins)) takes;
}

pub comes_from_end : {at k : ℕ} {p : PlainPat} {st : OpenPats} {from to : Text} {new : PatState} → (1 ≤ k → Begins (Is sign.DoubleColon) from → ⊥) → PatComes (having at 0 p st) from new to → PatComes (having at k p st) from new to
comes_from_end {at} {k} {p} {st} {from} none comes = record { leads = leads_on (ends at k p st from none) comes.leads; nearer = comes.nearer }

pub stops_from_end : {at k : ℕ} {p : PlainPat} {st : OpenPats} {from : Text} {fault : SyntaxError} → (1 ≤ k → Begins (Is sign.DoubleColon) from → ⊥) → PatBreaksOff (having at 0 p st) from fault → PatBreaksOff (having at k p st) from fault
stops_from_end {at} {k} {p} {st} {from} none stops = leads_to_stop (ends at k p st from none) stops

-- the same of what a function gives
pub each_comes : (r : Result Step SyntaxError) (at k : ℕ) (p : PlainPat) (st st2 : OpenPats) (from to : Text) → (1 ≤ k → Begins (Is sign.DoubleColon) from → ⊥)
    → IfOk r (λ step. PatComes (having at 0 p st) from (step_state step st2) to) → IfOk r (λ step. PatComes (having at k p st) from (step_state step st2) to)
each_comes (Ok step) at k p st st2 from to none comes = comes_from_end none comes
each_comes (Err e) at k p st st2 from to none comes = tt

pub each_stops : (r : Result Step SyntaxError) (at k : ℕ) (p : PlainPat) (st : OpenPats) (from : Text) → (1 ≤ k → Begins (Is sign.DoubleColon) from → ⊥)
    → IfErr r (λ e. e ≢ errors.Memory → PatBreaksOff (having at 0 p st) from e) → IfErr r (λ e. e ≢ errors.Memory → PatBreaksOff (having at k p st) from e)
each_stops (Ok step) at k p st from none stops = tt
each_stops (Err e) at k p st from none stops = λ no_memory. stops_from_end none (stops no_memory)

none_before : {before : Text} → Opened [] before → before ≡ []
none_before none_open = refl

pub whole_comes : (at : ℕ) (p : PlainPat) (text : Text) → PatComes (having at 0 p []) text (whole p) text
whole_comes at p text = record {
  leads = record {
    used = [];
    split = refl;
    reads = λ before read. let none = none_before read.2 in rw (append-nil before, read.5, none) read.3;
    only = λ r w agrees takes. goes_on takes;
  };
  nearer = omega arith;
}

cons_read : {start : ℕ} {q p : PlainPat} {st : OpenPats} {before u : Text} → Opened (behind start q ∷ st) before → SpellsPat 0 p u → ReadPat (having start 0 (pat start (pat_cons q p)) st) (before ++ u)
cons_read {u = u} (open_behind {before = b} t v opened head is) part =
    (b, v ++ t ∷ u, opened, cons_line t v u head is part, sym (offset_pat head (t ∷ u)), append_assoc (b ++ v) (t ∷ []) u ∙ append_assoc b v (t ∷ u))

pub end_cons_comes : (at start : ℕ) (q p : PlainPat) (st : OpenPats) (text : Text) → PatComes (having at 0 p (behind start q ∷ st)) text (having start 0 (pat start (pat_cons q p)) st) text
end_cons_comes at start q p st text = record {
  leads = record {
    used = [];
    split = refl;
    reads = λ before read. rw (append-nil before, read.5) (cons_read read.2 read.3);
    only = λ r w agrees takes. goes_on takes;
  };
  nearer = omega arith;
}

-- ---- in a bracket

comma_read : {bracket : PlainBracket} {start : ℕ} {parts : List PlainPat} {p : PlainPat} {st : OpenPats} {before u : Text} (t : PlainToken) → Opened (inside bracket start parts ∷ st) before → SpellsPat 0 p u → Is sign.Comma t
    → Opened (inside bracket start (parts ++ p ∷ []) ∷ st) (before ++ u ++ t ∷ [])
comma_read {u = w} t (open_bracket {before = b} u v opened opens each) part comma =
    rw (append_assoc (b ++ u ++ v) w (t ∷ []), append_assoc (b ++ u) v (w ++ t ∷ []), ← append_assoc v w (t ∷ [])) (open_bracket u (v ++ w ++ t ∷ []) opened opens (spells_next t each part comma))

bracket_read : {bracket : PlainBracket} {start : ℕ} {parts : List PlainPat} {p : PlainPat} {st : OpenPats} {before u : Text} (t : PlainToken) → Opened (inside bracket start parts ∷ st) before → SpellsPat 0 p u → Is (closing bracket) t
    → ReadPat (having start 1 (bracketed bracket start (pats_from (parts ++ p ∷ []))) st) (before ++ u ++ t ∷ [])
bracket_read {u = w} t (open_bracket {before = b} u v opened opens each) part closes =
    (b, u ++ (v ++ w) ++ t ∷ [], opened, spells_bracket t opens (spells_last each part) closes, rw (append_assoc u (v ++ w) (t ∷ [])) (sym (offset_bracket opens (v ++ w ++ t ∷ []))), simp append_assoc)

no_comma_closes : (bracket : PlainBracket) (t : PlainToken) → Is (closing bracket) t → Is sign.Comma t → ⊥
no_comma_closes bracket t closes comma = closes_none bracket t sign.Comma (λ e. cc) (λ e. cc) closes comma

pub comma_comes : (at start : ℕ) (bracket : PlainBracket) (parts : List PlainPat) (p : PlainPat) (st : OpenPats) (t : PlainToken) (rest : Text) → Is sign.Comma t
    → PatComes (having at 0 p (inside bracket start parts ∷ st)) (t ∷ rest) (wanting (inside bracket start (parts ++ p ∷ []) ∷ st)) rest
comma_comes at start bracket parts p st t rest is = record {
  leads = record {
    used = t ∷ [];
    split = refl;
    reads = λ before read. rw read.5 (comma_read t read.2 read.3 is);
    only = λ r w agrees takes. elim (goes_on takes) [ inl next ↦ next_here _ _ t w next | inr next ↦ absurd (no_comma_closes bracket t (next_sign _ _ t w next) is) ];
  };
  nearer = omega arith;
}

pub bracket_ends : (at start : ℕ) (bracket : PlainBracket) (parts : List PlainPat) (p : PlainPat) (st : OpenPats) (t : PlainToken) (rest : Text) → Is (closing bracket) t
    → PatComes (having at 0 p (inside bracket start parts ∷ st)) (t ∷ rest) (having start 1 (bracketed bracket start (pats_from (parts ++ p ∷ []))) st) rest
bracket_ends at start bracket parts p st t rest is = record {
  leads = record {
    used = t ∷ [];
    split = refl;
    reads = λ before read. rw read.5 (bracket_read t read.2 read.3 is);
    only = λ r w agrees takes. elim (goes_on takes) [ inl next ↦ absurd (no_comma_closes bracket t is (next_sign _ _ t w next)) | inr next ↦ next_here _ _ t w next ];
  };
  nearer = omega arith;
}

pub inside_stops : (at start : ℕ) (bracket : PlainBracket) (parts : List PlainPat) (p : PlainPat) (st : OpenPats) (text : Text) → (Begins (Is sign.Comma) text → ⊥) → (Begins (Is (closing bracket)) text → ⊥)
    → PatBreaksOff (having at 0 p (inside bracket start parts ∷ st)) text (fault_at text)
inside_stops at start bracket parts p st text no_comma no_end = record {
  used = [];
  rest = text;
  split = refl;
  fault_is = refl;
  viable = λ before read. rw (append-nil before, read.5) (goes_on_from read.2 read.3);
  none = λ r w agrees takes. elim (goes_on takes) [
    | inl next ↦ no_comma (begins_too _ text w agrees (next_begins _ _ w next))
    | inr next ↦ no_end (begins_too _ text w agrees (next_begins _ _ w next))
  ];
}
