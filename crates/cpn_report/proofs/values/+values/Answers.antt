-- What is written is the text of what was given, level by level, and what is asked for below is of the shape that is
-- declared for it.
use Rattle.std.proofs.Common.{◌∙◌, ◌≤◌, sym, subst, ℕ, Option, Some, None, arith, rules, append_assoc}
use denote.Param.Weighed.{most, at_most}
use Rattle.std.specs.Prelude.{codes}
use Rattle.std.specs.String.{string_bytes}
use Rattle.cpn_core.specs.declared.values.Value as values
use Rattle.cpn_core.specs.declared.colours.Shape as shapes
use Rattle.cpn_core.specs.Nets.{net_view}
use Rattle.cpn_report.proofs.ShapedText.{shape_for, have_next, names_next, tuple_step, all_have_next, list_step, constructor_named, is_counted, never_bare, argument_has, argument_is_named, applied_text, constructed_has, constructed_named}
use Rattle.cpn_report.proofs.values.+values.Goals as goal

-- how deep the argument of a constructor is
abbrev depth_of : Option shapes.Shape → ℕ
depth_of None = 0
depth_of (Some s) = shapes.size-Shape s

pub push_value-push_constructed-requires : goal.push_value-push_constructed-requires
push_value-push_constructed-requires t c = (
  search (rules, values.the_lemmas, shapes.the_lemmas),
  (
    constructed_has (net_view c.args.net.now) c.args.value.now c.args.shape.now c.in-Con.position c.in-Con.argument c.in-Union.number c.in-Union.constructors c.deref-in-Union.result.now c.in-Con.is c.in-Union.is c.deref-in-Union.ensures c.requires.admitted,
    constructed_named (net_view c.args.net.now) c.args.value.now c.args.shape.now c.in-Con.position c.in-Con.argument c.in-Union.number c.in-Union.constructors c.deref-in-Union.result.now c.in-Con.is c.in-Union.is c.deref-in-Union.ensures c.requires.named,
  ),
)

pub push_constructed-name_at-requires : goal.push_constructed-name_at-requires
push_constructed-name_at-requires t c = record {
  known = rw c.deref.ensures.value (constructor_named (net_view c.args.net.now) c.args.constructors.now.items c.args.position c.args.argument.now c.args.number c.requires.admitted c.requires.named);
}

pub push_constructed-index-requires : goal.push_constructed-index-requires
push_constructed-index-requires t c = omega (arith, is_counted c.args.constructors.now.items c.args.position c.args.argument.now c.args.number c.requires.admitted)

pub push_constructed-unreachable-requires : goal.push_constructed-unreachable-requires
push_constructed-unreachable-requires t c = never_bare (net_view c.args.net.now) c.args.constructors.now.items c.args.position c.args.argument.now c.in-Some.value c.args.number c.index.result.now c.in-Some.is c.index.ensures c.requires.admitted c.in_default-index.is

pub push_constructed-push_value-requires : goal.push_constructed-push_value-requires
push_constructed-push_value-requires t c =
    let lt = is_counted c.args.constructors.now.items c.args.position c.args.argument.now c.args.number c.requires.admitted in
    let at = at_most depth_of c.args.constructors.now.items c.args.position c.index.result.now lt in
    let deep : shapes.size-Shape c.in-Some-index.shape ≤ most depth_of c.args.constructors.now.items = subst (λ d. depth_of d ≤ most depth_of c.args.constructors.now.items) (sym c.index.ensures ∙ c.in-Some-index.is) at in (
      search (rules, values.the_lemmas, shapes.the_lemmas),
      (
        rw c.deref-in-Some.ensures (argument_has (net_view c.args.net.now) c.args.constructors.now.items c.args.position c.args.argument.now c.in-Some.value c.args.number c.index.result.now c.in-Some.is c.index.ensures c.requires.admitted c.in-Some-index.shape c.in-Some-index.is),
        argument_is_named (net_view c.args.net.now) c.args.constructors.now.items c.args.position c.args.argument.now c.in-Some.value c.args.number c.index.result.now c.in-Some.is c.index.ensures c.requires.admitted c.in-Some-index.shape c.in-Some-index.is c.requires.named,
      ),
    )

pub push_constructed-returns-in_ok-push_str-3 : goal.push_constructed-returns-in_ok-push_str-3
push_constructed-returns-in_ok-push_str-3 t c = record {
  written = rw (applied_text (net_view c.args.net.now) c.args.constructors.now.items c.args.position c.args.argument.now c.in-Some.value c.args.number c.index.result.now c.in-Some.is c.index.ensures c.requires.admitted c.in-Some-index.shape c.in-Some-index.is) (search (rules, append_assoc));
}

pub push_tuple-index-requires : goal.push_tuple-index-requires
push_tuple-index-requires t c = omega (arith, shape_for c.args.items.now.items c.args.shapes.now.items c.loop-number.number (omega arith) c.loop-number.invariant.admitted)

pub push_tuple-push_value-requires : goal.push_tuple-push_value-requires
push_tuple-push_value-requires t c =
    let lt = shape_for c.args.items.now.items c.args.shapes.now.items c.loop-number.number (omega arith) c.loop-number.invariant.admitted in
    let at = at_most shapes.size-Shape c.args.shapes.now.items c.loop-number.number c.index.result.now lt in
    let deep : shapes.size-Shape c.index.result.now ≤ most shapes.size-Shape c.args.shapes.now.items = subst (λ s. shapes.size-Shape s ≤ most shapes.size-Shape c.args.shapes.now.items) (sym c.index.ensures) at in (
      search (rules, values.the_lemmas, shapes.the_lemmas),
      (
        (have_next c.args.items.now.items c.args.shapes.now.items c.loop-number.number c.index-in-loop-number.result.now c.index.result.now (omega arith) (shape_for c.args.items.now.items c.args.shapes.now.items c.loop-number.number (omega arith) c.loop-number.invariant.admitted) c.index-in-loop-number.ensures c.index.ensures c.loop-number.invariant.admitted).0,
        (names_next c.args.items.now.items c.args.shapes.now.items c.loop-number.number c.index-in-loop-number.result.now c.index.result.now (omega arith) (shape_for c.args.items.now.items c.args.shapes.now.items c.loop-number.number (omega arith) c.loop-number.invariant.admitted) c.index-in-loop-number.ensures c.index.ensures (net_view c.args.net.now) c.loop-number.invariant.named).0,
      ),
    )

pub push_tuple-loop-number-preserved : goal.push_tuple-loop-number-preserved
push_tuple-loop-number-preserved t c =
    let for_it = shape_for c.args.items.now.items c.args.shapes.now.items c.loop-number.number (omega arith) c.loop-number.invariant.admitted in
    let have = have_next c.args.items.now.items c.args.shapes.now.items c.loop-number.number c.index-in-loop-number.result.now c.index.result.now (omega arith) for_it c.index-in-loop-number.ensures c.index.ensures c.loop-number.invariant.admitted in
    record {
      admitted = have.1;
      named = (names_next c.args.items.now.items c.args.shapes.now.items c.loop-number.number c.index-in-loop-number.result.now c.index.result.now (omega arith) for_it c.index-in-loop-number.ensures c.index.ensures (net_view c.args.net.now) c.loop-number.invariant.named).1;
      written = tuple_step c.args.items.now.items c.args.shapes.now.items c.loop-number.number c.index-in-loop-number.result.now c.index.result.now (omega arith) for_it c.index-in-loop-number.ensures c.index.ensures (net_view c.args.net.now) (codes ",") (string_bytes c.loop-number.out) (string_bytes c.push_comma.new.out) _ have.1 c.loop-number.invariant.written (search rules);
    }

pub push_list-loop-number-preserved : goal.push_list-loop-number-preserved
push_list-loop-number-preserved t c = record {
  admitted = (all_have_next c.args.items.now.items c.args.shape.now c.loop-number.number c.index.result.now (omega arith) c.index.ensures c.loop-number.invariant.admitted).1;
  written = list_step c.args.items.now.items c.args.shape.now c.loop-number.number c.index.result.now (omega arith) c.index.ensures (net_view c.args.net.now) (codes ",") (string_bytes c.loop-number.out) (string_bytes c.push_comma.new.out) _ c.loop-number.invariant.written (search rules);
}
