-- The values first, and then what is shared.
use Rattle.std.proofs.Common.{List, sym, subst, arith}
use Rattle.std.specs.Prelude.{Vec}
use Rattle.std.specs.Borrow.{Bor}
use Rattle.std.specs.declared.alloc.Global.{Global}
use Rattle.std.proofs.lemmas.Result.{err_from_is_err_and}
use Rattle.cpn_core.specs.Nets.{net_view}
use Rattle.cpn_core.specs.declared.inscriptions.ArcExpr.{ArcExpr}
use Rattle.cpn_eval.specs.declared.term.Term.{Term}
use Rattle.cpn_accepted.specs.Nets.{Initial}
use Rattle.cpn_flat.specs.WrittenViews.{written_view, lists_view}
use Rattle.cpn_flat.specs.Values.{value_lists_view, AreAllFew}
use Rattle.cpn_flat.specs.Answers.{refusal_of}
use Rattle.cpn_flat.proofs.SharedMarkings.{seen}
use Rattle.cpn_flat.proofs.StartedMarkings.{started_refused, started_read, started_apart, as_many_seen, few_tokens}
use Rattle.cpn_flat.proofs.starting.marking_of.Goals as goal

-- the written initial markings of a list
abbrev look : Vec (Bor ArcExpr) Global → List Initial
look list = written_view list.items

pub shared_marking-requires-clause-as_many : goal.shared_marking-requires-clause-as_many
shared_marking-requires-clause-as_many c =
    let long = as_many_seen (net_view c.args.net.now) look c.args.written.now seen c.in_ok-values.values.items c.in_ok-values.ensures.values in
    let same = c.as_slice.ensures.value in
    rw same (omega (arith, long, c.requires.as_many))

pub shared_marking-requires-clause-small : goal.shared_marking-requires-clause-small
shared_marking-requires-clause-small c =
    let long = as_many_seen (net_view c.args.net.now) look c.args.written.now seen c.in_ok-values.values.items c.in_ok-values.ensures.values in
    let same = c.as_slice.ensures.value in
    rw same (omega (arith, long, c.requires.few))

pub shared_marking-requires-clause-few : goal.shared_marking-requires-clause-few
shared_marking-requires-clause-few c =
    subst (λ (values : List (Vec (Vec Term Global) Global)). AreAllFew (value_lists_view values)) (sym c.as_slice.ensures.value)
    (few_tokens (net_view c.args.net.now) (lists_view c.args.written.now) (value_lists_view c.in_ok-values.values.items) c.in_ok-values.ensures.values)

pub returns : goal.returns
returns c = record {
  started = started_read (net_view c.args.net.now) (lists_view c.args.written.now) c.requires.meant (value_lists_view c.in_ok-values.values.items) c.in_ok-values.ensures.values c.in_ok-marking.marking
      (rw c.as_slice.ensures.value at c.in_ok-marking.ensures.shared);
}

pub returns-in_err-values : goal.returns-in_err-values
returns-in_err-values c = record {
  started = (
      let p = err_from_is_err_and c.from_residual.result c.from_residual.ensures.1 in
      rw (p.1, p.2) (started_refused (net_view c.args.net.now) (lists_view c.args.written.now) c.requires.meant (refusal_of c.in_err-values.field-0.0) c.in_err-values.ensures.values));
}

pub returns-in_err-marking : goal.returns-in_err-marking
returns-in_err-marking c = record {
  started = (
      let p = err_from_is_err_and c.from_residual-in_err-marking.result c.from_residual-in_err-marking.ensures.1 in
      rw (p.1, p.2) (started_apart (net_view c.args.net.now) (lists_view c.args.written.now) c.requires.meant (value_lists_view c.in_ok-values.values.items) c.in_ok-values.ensures.values (refusal_of c.in_err-marking.field-0.0) (rw c.as_slice.ensures.value at c.in_err-marking.ensures.shared)));
}
