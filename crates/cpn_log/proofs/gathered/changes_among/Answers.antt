-- One item more is told where its stamps differ.
use Rattle.std.proofs.Common.{not, sym, ap, ◌∙◌, arith}
use Rattle.cpn_log.specs.Gathered.{differs}
use Rattle.cpn_tmset.specs.ChangedViews.{change_view, changes_view}
use Rattle.cpn_log.proofs.ToldItems.{passed_more, left_out_more}
use Rattle.cpn_log.proofs.gathered.changes_among.Goals as goal
use Rattle.cpn_log.proofs.gathered.changes_among.Goals.{then-not-have_same_stamps+in_ok-tell, else-not-have_same_stamps}

pub loop-change-preserved : goal.loop-change-preserved
loop-change-preserved c =
    let test = differs c.args.old.now c.args.new.now in
    let items = c.args.touched.now in
    let i = c.loop-change.change-index in
    let change = c.change-item.result in
    let before = changes_view c.loop-change.changes in
    elim c.if-not-have_same_stamps.branch [
      | then-not-have_same_stamps+in_ok-tell w ↦
          ap changes_view w.changes-is
          ∙ passed_more change_view test items i change before (changes_view w.tell.new.changes) (omega arith) c.change-item.is c.loop-change.invariant (ap not (sym c.have_same_stamps.ensures ∙ w.if-not-have_same_stamps.true)) w.in_ok-tell.ensures
      | else-not-have_same_stamps w ↦
          ap changes_view w.changes-is
          ∙ left_out_more change_view test items i change before (omega arith) c.change-item.is c.loop-change.invariant (ap not (sym c.have_same_stamps.ensures ∙ w.if-not-have_same_stamps.false))
    ]
