-- The next alternative is accepted, or refused with all.
use Rattle.std.proofs.Common.{◌≡◌, ◌∙◌, ◌+◌, ◌∷◌, [], ◌++◌, length, map, drop, option_map, ap, sym, arith, refl}
use Rattle.std.proofs.lemmas.List.{map-append, length-append}
use Rattle.cpn_core.specs.Colours.{shape_view}
use Rattle.cpn_trees.specs.DeclTrees.{alternative_view}
use Rattle.cpn_typing.specs.ColourSets.{alternatives_of, constructors_from, other_names}
use Rattle.cpn_declared.specs.Additions.{with_names, all_before}
use Rattle.cpn_colour_sets.specs.Alternatives.{alternative_in, constructor_with}
use Rattle.cpn_declared.specs.Answers.{refusal_of}
use Rattle.cpn_declared.specs.DeclsViews.{decls_view, constructor_view}
use Rattle.cpn_colour_sets.proofs.AlternativeLists.{with_front, next_refused, next_accepted, constructor_added, alternatives_done, alternative_left, none_left, constructors_long}
use Rattle.cpn_typing.proofs.Answered.{answers_on, refuses_through}
use Rattle.cpn_colour_sets.proofs.GrownDeclared.{grows_same, grows_names, grows_on}
use Rattle.cpn_colour_sets.proofs.colour_sets.add_alternatives.Goals as goal

pub returns-in_err-shape-clause-exact : goal.returns-in_err-shape-clause-exact
returns-in_err-shape-clause-exact c =
    let ds = decls_view c.args.decls.now in
    let ss = map (option_map shape_view) c.loop-position.shapes.items in
    let cs = map constructor_view c.loop-position.constructors.items in
    let a = alternative_view c.index-alternatives-position.result in
    answers_on refusal_of _ c.from_residual-in_err-shape.result c.in_err-shape.field-0.0 (alternatives_of ds (map alternative_view c.args.alternatives.now) (other_names ds)) c.from_residual-in_err-shape.ensures.1
    (refuses_through (refusal_of c.in_err-shape.field-0.0) (alternative_in (decls_view c.loop-position.decls) a) _
    (λ r h. sym c.loop-position.invariant.left
    ∙ ap (λ rest. with_front ss cs (alternatives_of ds rest (all_before (map (λ c. c.name) cs) (other_names ds)))) (alternative_left c.args.alternatives.now c.loop-position.position c.index-alternatives-position.result c.loop-position-test.true c.index-alternatives-position.is)
    ∙ next_refused ds (decls_view c.loop-position.decls) c.args.union ss cs c.loop-position.invariant.added a (map alternative_view (drop (c.loop-position.position + 1) c.args.alternatives.now)) r h)
    c.in_err-shape.ensures.exact)

pub loop-position-preserved : goal.loop-position-preserved
loop-position-preserved c =
    let ds = decls_view c.args.decls.now in
    let ss = map (option_map shape_view) c.loop-position.shapes.items in
    let cs = map constructor_view c.loop-position.constructors.items in
    let a = alternative_view c.index-alternatives-position.result in
    let o = option_map shape_view c.in_ok-shape.shape in
    let rest = map alternative_view (drop (c.loop-position.position + 1) c.args.alternatives.now) in
    let shapes_are : map (option_map shape_view) c.push.new.self.items ≡ ss ++ o ∷ [] = ap (map (option_map shape_view)) c.in_ok-push.ensures.items ∙ map-append (option_map shape_view) c.loop-position.shapes.items (c.in_ok-shape.shape ∷ []) in
    let seen : map constructor_view c.push-in-loop-position.new.self.items ≡ cs ++ constructor_view c.in_ok-shape.constructor ∷ [] =
    ap (map constructor_view) c.in_ok-push-2.ensures.items ∙ map-append constructor_view c.loop-position.constructors.items (c.in_ok-shape.constructor ∷ []) in
    let constructors_are : map constructor_view c.push-in-loop-position.new.self.items ≡ cs ++ constructor_with a.constructor o ∷ [] = seen ∙ ap (λ x. cs ++ x ∷ []) c.in_ok-shape.ensures.named in
    record {
      added = constructor_added ds (decls_view c.loop-position.decls) c.args.union ss cs c.loop-position.invariant.added a rest (decls_view c.add_alternative.new.decls) c.loop-position.position (constructor_view c.in_ok-shape.constructor) (constructors_long c.loop-position.constructors.items ∙ c.loop-position.invariant.count) c.in_ok-shape.ensures.added
          ∙ ap (λ more. with_names ds (constructors_from c.args.union 0 more)) (sym seen);
      left = ap (λ shapes. with_front shapes (map constructor_view c.push-in-loop-position.new.self.items) (alternatives_of ds rest (all_before (map (λ c. c.name) (map constructor_view c.push-in-loop-position.new.self.items)) (other_names ds)))) shapes_are
          ∙ ap (λ more. with_front (ss ++ o ∷ []) more (alternatives_of ds rest (all_before (map (λ c. c.name) more) (other_names ds)))) constructors_are
          ∙ next_accepted ds (decls_view c.loop-position.decls) c.args.union ss cs c.loop-position.invariant.added a rest o c.in_ok-shape.ensures.exact
          ∙ ap (λ left. with_front ss cs (alternatives_of ds left (all_before (map (λ c. c.name) cs) (other_names ds)))) (sym (alternative_left c.args.alternatives.now c.loop-position.position c.index-alternatives-position.result c.loop-position-test.true c.index-alternatives-position.is))
          ∙ c.loop-position.invariant.left;
      count = ap length c.in_ok-push-2.ensures.items ∙ length-append c.loop-position.constructors.items (c.in_ok-shape.constructor ∷ []) ∙ ap (λ k. k + 1) c.loop-position.invariant.count;
    }

pub returns-clause-exact : goal.returns-clause-exact
returns-clause-exact c =
    let ds = decls_view c.args.decls.now in
    let ss = map (option_map shape_view) c.loop-position.shapes.items in
    let cs = map constructor_view c.loop-position.constructors.items in
    sym c.loop-position.invariant.left
    ∙ ap (λ left. with_front ss cs (alternatives_of ds left (all_before (map (λ c. c.name) cs) (other_names ds)))) (none_left c.args.alternatives.now c.loop-position.position (omega arith))
    ∙ alternatives_done ss cs

pub returns-in_err-shapes-clause-grown : goal.returns-in_err-shapes-clause-grown
returns-in_err-shapes-clause-grown c = grows_same (decls_view c.args.decls.now) (decls_view c.args.decls.now) refl

pub returns-in_err-constructors-clause-grown : goal.returns-in_err-constructors-clause-grown
returns-in_err-constructors-clause-grown c = grows_same (decls_view c.args.decls.now) (decls_view c.args.decls.now) refl

pub returns-in_err-shape-clause-grown : goal.returns-in_err-shape-clause-grown
returns-in_err-shape-clause-grown c = grows_names (decls_view c.args.decls.now) (decls_view c.add_alternative.new.decls) _ (c.in_err-shape.ensures.unchanged ∙ c.loop-position.invariant.added)

pub returns-in_err-push-clause-grown : goal.returns-in_err-push-clause-grown
returns-in_err-push-clause-grown c =
    grows_on (decls_view c.args.decls.now) (decls_view c.loop-position.decls) (decls_view c.add_alternative.new.decls)
    (grows_names (decls_view c.args.decls.now) (decls_view c.loop-position.decls) _ c.loop-position.invariant.added)
    (grows_names (decls_view c.loop-position.decls) (decls_view c.add_alternative.new.decls) _ c.in_ok-shape.ensures.added)

pub returns-in_err-push-2-clause-grown : goal.returns-in_err-push-2-clause-grown
returns-in_err-push-2-clause-grown c =
    grows_on (decls_view c.args.decls.now) (decls_view c.loop-position.decls) (decls_view c.add_alternative.new.decls)
    (grows_names (decls_view c.args.decls.now) (decls_view c.loop-position.decls) _ c.loop-position.invariant.added)
    (grows_names (decls_view c.loop-position.decls) (decls_view c.add_alternative.new.decls) _ c.in_ok-shape.ensures.added)

pub returns-clause-grown : goal.returns-clause-grown
returns-clause-grown c = grows_names (decls_view c.args.decls.now) (decls_view c.loop-position.decls) _ c.loop-position.invariant.added
