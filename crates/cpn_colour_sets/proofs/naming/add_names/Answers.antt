-- The next name is new, or refused with all.
use Rattle.std.proofs.Common.{◌≡◌, ◌∙◌, map, take, ap, sym, string_bytes}
use Rattle.cpn_typing.specs.ColourSets.{is_new, with_new, with_all_new, other_names}
use Rattle.cpn_declared.specs.Additions.{all_before, named_from}
use Rattle.cpn_declared.specs.Answers.{refusal_of}
use Rattle.cpn_declared.specs.DeclsViews.{decls_view}
use Rattle.cpn_colour_sets.specs.Kinds.{kind_view}
use Rattle.cpn_typing.proofs.Answered.{answers_on, refuses_through}
use Rattle.cpn_colour_sets.proofs.NameLists.{new_behind, names_with_more, next_is_new, next_is_old, named_next, added_next}
use Rattle.cpn_colour_sets.proofs.GrownDeclared.{grows_names}
use Rattle.cpn_colour_sets.proofs.naming.add_names.Goals as goal

pub returns-in_err-add_name-clause-exact : goal.returns-in_err-add_name-clause-exact
returns-in_err-add_name-clause-exact c =
    let ds = decls_view c.args.decls.now in
    let seen = map string_bytes (take c.loop-position.position c.args.names.now) in
    let n = c.as_str.result.now in
    let now = other_names (decls_view c.loop-position.decls) in
    let same : is_new n now ≡ is_new n (all_before seen (other_names ds)) =
    ap (λ d. is_new n (other_names d)) c.loop-position.invariant.added ∙ ap (is_new n) (names_with_more ds (kind_view c.args.kind.now) 0 seen) ∙ new_behind n seen (other_names ds) in
    answers_on refusal_of _ c.from_residual-in_err-add_name.result c.in_err-add_name.field-0.0 (with_all_new (map string_bytes c.args.names.now) (other_names ds)) c.from_residual-in_err-add_name.ensures.1
    (refuses_through (refusal_of c.in_err-add_name.field-0.0) (with_new n now) _
    (λ r h. sym c.loop-position.invariant.left ∙ next_is_old c.args.names.now c.loop-position.position c.index-names-position.result c.loop-position-test.true c.index-names-position.is n c.as_str.ensures.value (other_names ds) now same r h)
    c.in_err-add_name.ensures.exact)

pub loop-position-preserved : goal.loop-position-preserved
loop-position-preserved c =
    let ds = decls_view c.args.decls.now in
    let seen = map string_bytes (take c.loop-position.position c.args.names.now) in
    let n = c.as_str.result.now in
    let now = other_names (decls_view c.loop-position.decls) in
    let same : is_new n now ≡ is_new n (all_before seen (other_names ds)) =
    ap (λ d. is_new n (other_names d)) c.loop-position.invariant.added ∙ ap (is_new n) (names_with_more ds (kind_view c.args.kind.now) 0 seen) ∙ new_behind n seen (other_names ds) in
    record {
      added = added_next ds (decls_view c.loop-position.decls) (decls_view c.add_name.new.self) (named_from (kind_view c.args.kind.now) 0 seen) _ n (string_bytes c.index-names-position.result) _ (kind_view c.args.kind.now c.loop-position.position)
          c.in_ok-add_name.ensures.added c.loop-position.invariant.added c.as_str.ensures.value c.in_ok-meaning.ensures.exact (named_next c.args.names.now c.loop-position.position c.index-names-position.result c.loop-position-test.true c.index-names-position.is (kind_view c.args.kind.now));
      left = next_is_new c.args.names.now c.loop-position.position c.index-names-position.result c.loop-position-test.true c.index-names-position.is n c.as_str.ensures.value (other_names ds) now same _ c.in_ok-add_name.ensures.exact ∙ c.loop-position.invariant.left;
    }

pub returns-in_err-meaning-clause-grown : goal.returns-in_err-meaning-clause-grown
returns-in_err-meaning-clause-grown c = grows_names (decls_view c.args.decls.now) (decls_view c.loop-position.decls) _ c.loop-position.invariant.added

pub returns-in_err-add_name-clause-grown : goal.returns-in_err-add_name-clause-grown
returns-in_err-add_name-clause-grown c = grows_names (decls_view c.args.decls.now) (decls_view c.add_name.new.self) _ (c.in_err-add_name.ensures.unchanged ∙ c.loop-position.invariant.added)

pub returns-clause-grown : goal.returns-clause-grown
returns-clause-grown c = grows_names (decls_view c.args.decls.now) (decls_view c.loop-position.decls) _ c.loop-position.invariant.added
