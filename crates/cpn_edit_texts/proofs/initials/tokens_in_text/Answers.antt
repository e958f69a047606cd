-- The text is parsed, accepted, and evaluated; or one of these refuses it.
use Rattle.std.proofs.Common.{[], sym, subst}
use Rattle.std.proofs.lemmas.Result.{err_from_is_err_and}
use Rattle.cpn_core.specs.Inscriptions.{funs_view}
use Rattle.cpn_core.specs.Nets.{place_view}
use Rattle.cpn_declared.specs.DeclsViews.{decls_view}
use Rattle.cpn_definitions.specs.Colour.{PlainColour}
use Rattle.cpn_definitions.specs.Marking.{Tokens}
use Rattle.cpn_definitions.specs.Outcome.{HasMeaning}
use Rattle.cpn_definitions.specs.Terms.{terms_of}
use Rattle.cpn_definitions.proofs.TokenCounts.{tokens_are_few}
use Rattle.cpn_eval.specs.Terms.{items_view}
use Rattle.cpn_accepted.specs.Views.{initial_view}
use Rattle.cpn_module_trees.specs.TreesViews.{tree_view}
use Rattle.cpn_readings.specs.Relations.{RefusesBy}
use Rattle.cpn_edit_texts.specs.Answers.{edit_refusal_of}
use Rattle.cpn_edit_texts.specs.Checked.{tokens_so}
use Rattle.cpn_edit_texts.specs.Reading.{read}
use Rattle.cpn_edit_texts.specs.Texts.{terms_so}
use Rattle.cpn_edit_texts.proofs.CheckedEdits.{initial_refused, terms_refused, tokens_made}
use Rattle.cpn_edit_texts.proofs.ReadEdits.{given}
use Rattle.cpn_edit_texts.proofs.initials.tokens_in_text.Goals as goal

pub returns-in_err-initial : goal.returns-in_err-initial
returns-in_err-initial c = record {
  reads = (
      let p = err_from_is_err_and c.from_residual-in_err-initial.result c.from_residual-in_err-initial.ensures.1 in
      rw (p.1, p.2)
      (initial_refused (decls_view c.args.decls.now) (funs_view c.args.funs.now) c.args.at (place_view c.args.place.now) c.args.text.now (tree_view c.in_ok-parsing.parsing) c.in_ok-parsing.ensures.parsed (edit_refusal_of c.in_err-initial.field-0.0) c.in_err-initial.ensures.reads));
}

pub terms_of-requires : goal.terms_of-requires
terms_of-requires c = record {
  meant = subst (λ (colour : PlainColour). HasMeaning (terms_of (funs_view c.args.funs.now) (initial_view c.in_ok-initial.initial).expr colour [] 0)) (sym c.in_ok-initial.ensures.colour)
      (c.in_ok-initial.ensures.means c.requires.consistent (funs_view c.args.funs.now) c.requires.functions [] 0);
}

pub returns-in_err-terms : goal.returns-in_err-terms
returns-in_err-terms c = record {
  reads = (
      let funs = funs_view c.args.funs.now in
      let expr = (initial_view c.in_ok-initial.initial).expr in
      let o = edit_refusal_of c.in_err-terms.field-0.0 in
      let p = err_from_is_err_and c.from_residual-in_err-terms.result c.from_residual-in_err-terms.ensures.1 in
      rw (p.1, p.2)
      (terms_refused (decls_view c.args.decls.now) funs c.args.at (place_view c.args.place.now) c.args.text.now (tree_view c.in_ok-parsing.parsing) c.in_ok-parsing.ensures.parsed expr c.in_ok-initial.ensures.reads o
      (subst (λ (colour : PlainColour). RefusesBy (terms_so c.args.at (terms_of funs expr colour [] 0)) o) c.in_ok-initial.ensures.colour c.in_err-terms.ensures.reads)));
}

pub tokens_of-requires : goal.tokens_of-requires
tokens_of-requires c = record {
  few = (
      let funs = funs_view c.args.funs.now in
      let initial = initial_view c.in_ok-initial.initial in
      let terms = items_view c.in_ok-terms.terms in
      tokens_are_few funs initial.expr initial.colour [] 0 terms (given c.args.at (terms_of funs initial.expr initial.colour [] 0) terms c.in_ok-terms.ensures.reads));
}

pub returns : goal.returns
returns c = record {
  reads = (
      let funs = funs_view c.args.funs.now in
      let expr = (initial_view c.in_ok-initial.initial).expr in
      let terms = items_view c.in_ok-terms.terms in
      subst (λ (tokens : Tokens). tokens_so (decls_view c.args.decls.now) funs c.args.at (place_view c.args.place.now) c.args.text.now (read tokens)) (sym c.in_ok-tokens.ensures.tokens)
      (tokens_made (decls_view c.args.decls.now) funs c.args.at (place_view c.args.place.now) c.args.text.now (tree_view c.in_ok-parsing.parsing) c.in_ok-parsing.ensures.parsed expr c.in_ok-initial.ensures.reads terms
      (subst (λ (colour : PlainColour). terms_so c.args.at (terms_of funs expr colour [] 0) (read terms)) c.in_ok-initial.ensures.colour c.in_ok-terms.ensures.reads)));
}
