-- Each item is the next one of the list, and is read or refused with it.
use Rattle.std.proofs.Common.{arith, refl}
use Rattle.std.proofs.lemmas.Result.{err_from_is_err_and}
use Rattle.serde_json.specs.View.{view}
use Rattle.cpn_document.specs.Answers.{refusal_of}
use Rattle.cpn_document.proofs.ReadLists.{values_more, values_done}
use Rattle.cpn_readings.proofs.BrokenRules.{item_kept, item_broken, items_kept}
use Rattle.cpn_document.proofs.lists.items_of.Goals as goal

pub returns-in_err-read : goal.returns-in_err-read
returns-in_err-read g c = record {
  gives = (let p = err_from_is_err_and c.from_residual-in_err-read.result c.from_residual-in_err-read.ensures.1 in
      rw (p.1, p.2) (item_broken view c.args.list.now c.loop-number.number c.index-list-number.result c.loop-number-test.true c.index-list-number.is _ _ (refusal_of c.in_err-read.field-0.0) c.loop-number.invariant.rest c.in_err-read.ensures.gives));
}

pub loop-number-init : goal.loop-number-init
loop-number-init g c = record {
  values = rw c.in_ok-items.ensures.items refl;
  rest = refl;
  len = c.in_ok-items.ensures.len;
  room = c.in_ok-items.ensures.capacity;
}

pub push_reserved-requires : goal.push_reserved-requires
push_reserved-requires g c = omega (arith, c.loop-number.invariant.len, c.loop-number.invariant.room, c.loop-number-test.true)

pub loop-number-preserved : goal.loop-number-preserved
loop-number-preserved g c = record {
  values = rw c.push_reserved.ensures.items (values_more view c.args.list.now c.loop-number.number c.index-list-number.result c.loop-number-test.true c.index-list-number.is g.T.Item.value_in g.T.Item.seen c.loop-number.items.items c.in_ok-read.field-0 _ c.in_ok-read.ensures.gives.0 c.loop-number.invariant.values);
  rest = item_kept view c.args.list.now c.loop-number.number c.index-list-number.result c.loop-number-test.true c.index-list-number.is _ _ c.in_ok-read.ensures.gives.1 c.loop-number.invariant.rest;
  len = omega (arith, c.push_reserved.ensures.len, c.loop-number.invariant.len);
  room = rw c.push_reserved.ensures.capacity c.loop-number.invariant.room;
}

pub returns : goal.returns
returns g c = record {
  gives = (values_done view c.args.list.now c.loop-number.number (omega arith) g.T.Item.value_in g.T.Item.seen c.loop-number.items.items _ c.loop-number.invariant.values, items_kept view c.args.list.now c.loop-number.number (omega arith) _ _ c.loop-number.invariant.rest);
}
