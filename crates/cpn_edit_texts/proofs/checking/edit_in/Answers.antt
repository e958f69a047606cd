-- What is named is there, and then its text is accepted; or the first of both that is not refuses the edit.
use Rattle.std.proofs.Common.{◌≡◌, ◌∙◌, ◌<◌, ℕ, List, length, map, get_or, sym, ap, subst, arith}
use Rattle.std.specs.Prelude.{Option, string_bytes}
use Rattle.std.proofs.lemmas.List.{get_or-map, length-map}
use Rattle.std.proofs.lemmas.Result.{err_from_is_err_and}
use Rattle.cpn_core.specs.Inscriptions.{expr_view, funs_view}
use Rattle.cpn_core.specs.Nets.{net_view, place_view, transition_view}
use Rattle.cpn_core.specs.declared.nets.Net.{Net}
use Rattle.cpn_core.specs.declared.nets.Place.{Place}
use Rattle.cpn_declared.specs.DeclsViews.{decls_view}
use Rattle.cpn_definitions.specs.Inscription.{Functions}
use Rattle.cpn_definitions.specs.Marking.{Tokens}
use Rattle.cpn_definitions.specs.Net.{nothing, place_at}
use Rattle.cpn_document.specs.declared.pointers.Pointer.{Pointer}
use Rattle.cpn_module_trees.specs.Parsing.{IsGuard}
use Rattle.cpn_module_trees.specs.TreesViews.{conjuncts_view}
use Rattle.cpn_monitor.specs.Views.{monitors_view}
use Rattle.cpn_monitor_texts.specs.Named.{transition_named, place_named}
use Rattle.cpn_readings.specs.Reading.{Refuses}
use Rattle.cpn_readings.specs.Relations.{RefusesBy}
use Rattle.cpn_typing.specs.Names.{Declared}
use Rattle.cpn_edit_texts.specs.Answers.{edit_refusal_of}
use Rattle.cpn_edit_texts.specs.Checked.{tokens_so}
use Rattle.cpn_edit_texts.specs.Reading.{Reading, read}
use Rattle.cpn_edit_texts.specs.Texts.{known}
use Rattle.cpn_edit_texts.proofs.CheckedEdits.{guard_unknown, guard_refused, transition_refused, guard_made, initial_unknown, tokens_refused, initial_made}
use Rattle.cpn_edit_texts.proofs.ReadEdits.{transition_there, place_there}
use Rattle.cpn_edit_texts.proofs.checking.edit_in.Goals as goal

-- ---- what is named

-- what was found under a name, as it is written
as_written : {A : Type 0} (named : List ℕ → A) (name written : List ℕ) (found : A) → found ≡ named name → name ≡ written → found ≡ named written
as_written named name written found is same = is ∙ ap named same

transition_known : (whole : Pointer) (net : Net) (name : List ℕ) (found : Option ℕ) (t : ℕ) → found ≡ transition_named (net_view net) name → known whole found ≡ read t → t < length net.transitions.items
transition_known whole net name found t is h = subst (λ (k : ℕ). t < k) (length-map net.transitions.items transition_view) (transition_there (net_view net) whole name t (ap (known whole) (sym is) ∙ h))

place_known : (whole : Pointer) (net : Net) (name : List ℕ) (found : Option ℕ) (p : ℕ) → found ≡ place_named (net_view net) name → known whole found ≡ read p → p < length net.places.items
place_known whole net name found p is h = subst (λ (k : ℕ). p < k) (length-map net.places.items place_view) (place_there (net_view net) whole name p (ap (known whole) (sym is) ∙ h))

-- ---- another guard of a transition

pub returns-in_err-number-in-Guard : goal.returns-in_err-number-in-Guard
returns-in_err-number-in-Guard c = record {
  reads = (
      let n = net_view c.args.named.now in
      let name = string_bytes c.in-Guard.transition in
      let o = edit_refusal_of c.in_err-number-in-Guard.field-0.0 in
      let found = as_written (transition_named n) c.as_str.result.now name c.transition_named.result c.transition_named.ensures.named c.as_str.ensures.value in
      let p = err_from_is_err_and c.from_residual.result c.from_residual.ensures.1 in
      rw (p.1, p.2, c.in-Guard.is)
      (guard_unknown (decls_view c.args.decls.now) n (monitors_view c.args.monitors.now) c.args.whole c.args.at name (string_bytes c.in-Guard.text) o
      (subst (λ (k : Option ℕ). Refuses o (known c.args.whole k)) found c.in_err-number-in-Guard.ensures.known)));
}

pub returns-in_err-guard-in-Guard : goal.returns-in_err-guard-in-Guard
returns-in_err-guard-in-Guard c = record {
  reads = (
      let n = net_view c.args.named.now in
      let name = string_bytes c.in-Guard.transition in
      let parsing = conjuncts_view c.in_ok-parsing-in-Guard.parsing in
      let found = as_written (transition_named n) c.as_str.result.now name c.transition_named.result c.transition_named.ensures.named c.as_str.ensures.value in
      let parsed = subst (λ (text : List ℕ). IsGuard text parsing) c.as_str-in-Guard.ensures.value c.in_ok-parsing-in-Guard.ensures.parsed in
      let p = err_from_is_err_and c.from_residual-in_err-guard-in-Guard.result c.from_residual-in_err-guard-in-Guard.ensures.1 in
      rw (p.1, p.2, c.in-Guard.is)
      (guard_refused (decls_view c.args.decls.now) n (monitors_view c.args.monitors.now) c.args.whole c.args.at name (string_bytes c.in-Guard.text) c.in_ok-number-in-Guard.number
      (ap (known c.args.whole) (sym found) ∙ c.in_ok-number-in-Guard.ensures.known) parsing parsed (edit_refusal_of c.in_err-guard-in-Guard.field-0.0) c.in_err-guard-in-Guard.ensures.reads));
}

pub edited_transition-requires-clause-there : goal.edited_transition-requires-clause-there
edited_transition-requires-clause-there c = rw c.net-net.ensures.net (transition_known c.args.whole c.args.named.now c.as_str.result.now c.transition_named.result c.in_ok-number-in-Guard.number c.transition_named.ensures.named c.in_ok-number-in-Guard.ensures.known)

pub returns-in_err-edited-in-Guard : goal.returns-in_err-edited-in-Guard
returns-in_err-edited-in-Guard c = record {
  reads = (
      let n = net_view c.args.named.now in
      let name = string_bytes c.in-Guard.transition in
      let parsing = conjuncts_view c.in_ok-parsing-in-Guard.parsing in
      let found = as_written (transition_named n) c.as_str.result.now name c.transition_named.result c.transition_named.ensures.named c.as_str.ensures.value in
      let parsed = subst (λ (text : List ℕ). IsGuard text parsing) c.as_str-in-Guard.ensures.value c.in_ok-parsing-in-Guard.ensures.parsed in
      let p = err_from_is_err_and c.from_residual-in_err-edited-in-Guard.result c.from_residual-in_err-edited-in-Guard.ensures.1 in
      rw (p.1, p.2, c.in-Guard.is)
      (transition_refused (decls_view c.args.decls.now) n (monitors_view c.args.monitors.now) c.args.whole c.args.at name (string_bytes c.in-Guard.text) c.in_ok-number-in-Guard.number
      (ap (known c.args.whole) (sym found) ∙ c.in_ok-number-in-Guard.ensures.known) parsing parsed (map expr_view c.in_ok-guard-in-Guard.guard.conjuncts.items) c.in_ok-guard-in-Guard.ensures.reads
      (edit_refusal_of c.in_err-edited-in-Guard.field-0.0) (rw (← c.net-net.ensures.net) c.in_err-edited-in-Guard.ensures.reads)));
}

pub returns-in_ok-edited-in-Guard : goal.returns-in_ok-edited-in-Guard
returns-in_ok-edited-in-Guard c = record {
  reads = (
      let n = net_view c.args.named.now in
      let name = string_bytes c.in-Guard.transition in
      let parsing = conjuncts_view c.in_ok-parsing-in-Guard.parsing in
      let found = as_written (transition_named n) c.as_str.result.now name c.transition_named.result c.transition_named.ensures.named c.as_str.ensures.value in
      let parsed = subst (λ (text : List ℕ). IsGuard text parsing) c.as_str-in-Guard.ensures.value c.in_ok-parsing-in-Guard.ensures.parsed in
      rw c.in-Guard.is
      (guard_made (decls_view c.args.decls.now) n (monitors_view c.args.monitors.now) c.args.whole c.args.at name (string_bytes c.in-Guard.text) c.in_ok-number-in-Guard.number
      (ap (known c.args.whole) (sym found) ∙ c.in_ok-number-in-Guard.ensures.known) parsing parsed (map expr_view c.in_ok-guard-in-Guard.guard.conjuncts.items) c.in_ok-guard-in-Guard.ensures.reads
      (transition_view c.in_ok-edited-in-Guard.edited) (rw (← c.net-net.ensures.net) c.in_ok-edited-in-Guard.ensures.reads)));
}

-- ---- another initial marking of a place

pub returns-in_err-number-in-Initial : goal.returns-in_err-number-in-Initial
returns-in_err-number-in-Initial c = record {
  reads = (
      let n = net_view c.args.named.now in
      let name = string_bytes c.in-Initial.place in
      let o = edit_refusal_of c.in_err-number-in-Initial.field-0.0 in
      let found = as_written (place_named n) c.as_str-in-Initial.result.now name c.place_named.result c.place_named.ensures.named c.as_str-in-Initial.ensures.value in
      let p = err_from_is_err_and c.from_residual-in_err-number-in-Initial.result c.from_residual-in_err-number-in-Initial.ensures.1 in
      rw (p.1, p.2, c.in-Initial.is)
      (initial_unknown (decls_view c.args.decls.now) n (monitors_view c.args.monitors.now) c.args.whole c.args.at name (string_bytes c.in-Initial.text) o
      (subst (λ (k : Option ℕ). Refuses o (known c.args.whole k)) found c.in_err-number-in-Initial.ensures.known)));
}

pub index-its-requires : goal.index-its-requires
index-its-requires c =
    let here = place_known c.args.whole c.args.named.now c.as_str-in-Initial.result.now c.place_named.result c.in_ok-number-in-Initial.number c.place_named.ensures.named c.in_ok-number-in-Initial.ensures.known in
    rw c.net-net.ensures.net (omega (arith, here, c.args.named.now.places.ok.0))

pub tokens_in_text-requires-clause-functions : goal.tokens_in_text-requires-clause-functions
tokens_in_text-requires-clause-functions c = ap funs_view c.deref.ensures ∙ ap (λ (n : Net). funs_view n.funs.value) c.net-net.ensures.net ∙ c.requires.editable.declares.functions

-- the tokens of a text at the place of a number, as the call asks for them
of_place
    : (ds : Declared) (net : Net) (p : ℕ) (place : Place) (funs : Functions) (at : Pointer) (text written : List ℕ) (Tells : (Reading Tokens → Type 0) → Type 0)
    → p < length net.places.items → place ≡ get_or net.places.items p place → funs ≡ (net_view net).functions → text ≡ written
    → Tells (tokens_so ds funs at (place_view place) text) → Tells (tokens_so ds (net_view net).functions at (place_at (net_view net) p) written)
of_place ds net p place funs at text written Tells lt is same_funs same h =
    let its = sym (get_or-map place_view net.places.items p place nothing lt ∙ ap place_view (sym is)) in
    rw (← its, ← same_funs, ← same) h

pub returns-in_err-tokens-in-Initial : goal.returns-in_err-tokens-in-Initial
returns-in_err-tokens-in-Initial c = record {
  reads = (
      let net = c.args.named.now in
      let ds = decls_view c.args.decls.now in
      let name = string_bytes c.in-Initial.place in
      let p = c.in_ok-number-in-Initial.number in
      let o = edit_refusal_of c.in_err-tokens-in-Initial.field-0.0 in
      let found = as_written (place_named (net_view net)) c.as_str-in-Initial.result.now name c.place_named.result c.place_named.ensures.named c.as_str-in-Initial.ensures.value in
      let lt = place_known c.args.whole net name c.place_named.result p found c.in_ok-number-in-Initial.ensures.known in
      let e = err_from_is_err_and c.from_residual-in_err-tokens-in-Initial.result c.from_residual-in_err-tokens-in-Initial.ensures.1 in
      rw (e.1, e.2, c.in-Initial.is)
      (tokens_refused ds (net_view net) (monitors_view c.args.monitors.now) c.args.whole c.args.at name (string_bytes c.in-Initial.text) p (ap (known c.args.whole) (sym found) ∙ c.in_ok-number-in-Initial.ensures.known) o
      (of_place ds net p c.index-its.result.now (funs_view c.deref.result.now) c.args.at c.as_str-in-Initial-2.result.now (string_bytes c.in-Initial.text) (λ Reads. RefusesBy Reads o)
      lt (c.index-its.ensures ∙ ap (λ (n : Net). get_or n.places.items p c.index-its.result.now) c.net-net.ensures.net) (ap funs_view c.deref.ensures ∙ ap (λ (n : Net). funs_view n.funs.value) c.net-net.ensures.net) c.as_str-in-Initial-2.ensures.value c.in_err-tokens-in-Initial.ensures.reads)));
}

pub returns-in_ok-tokens-in-Initial : goal.returns-in_ok-tokens-in-Initial
returns-in_ok-tokens-in-Initial c = record {
  reads = (
      let net = c.args.named.now in
      let ds = decls_view c.args.decls.now in
      let name = string_bytes c.in-Initial.place in
      let p = c.in_ok-number-in-Initial.number in
      let tokens = c.in_ok-tokens-in-Initial.tokens in
      let found = as_written (place_named (net_view net)) c.as_str-in-Initial.result.now name c.place_named.result c.place_named.ensures.named c.as_str-in-Initial.ensures.value in
      let lt = place_known c.args.whole net name c.place_named.result p found c.in_ok-number-in-Initial.ensures.known in
      rw c.in-Initial.is
      (initial_made ds (net_view net) (monitors_view c.args.monitors.now) c.args.whole c.args.at name (string_bytes c.in-Initial.text) p (ap (known c.args.whole) (sym found) ∙ c.in_ok-number-in-Initial.ensures.known) tokens
      (of_place ds net p c.index-its.result.now (funs_view c.deref.result.now) c.args.at c.as_str-in-Initial-2.result.now (string_bytes c.in-Initial.text) (λ Reads. Reads (read tokens))
      lt (c.index-its.ensures ∙ ap (λ (n : Net). get_or n.places.items p c.index-its.result.now) c.net-net.ensures.net) (ap funs_view c.deref.ensures ∙ ap (λ (n : Net). funs_view n.funs.value) c.net-net.ensures.net) c.as_str-in-Initial-2.ensures.value c.in_ok-tokens-in-Initial.ensures.reads)));
}
