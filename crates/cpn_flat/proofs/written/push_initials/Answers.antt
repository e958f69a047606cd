-- All initial markings were added.
use Rattle.std.proofs.Common.{◌++◌, sym, ap, ◌∙◌, arith}
use Rattle.std.proofs.lemmas.List.{take_all, append-nil}
use Rattle.cpn_accepted.specs.Views.{initials_view}
use Rattle.cpn_flat.specs.WrittenViews.{optional_view}
use Rattle.cpn_flat.proofs.written.push_initials.Goals as goal

pub loop-initial-init : goal.loop-initial-init
loop-initial-init c = sym (append-nil (optional_view c.args.initials.now.items))

pub returns : goal.returns
returns c = record { pushed = c.loop-initial.invariant ∙ ap (λ initials. optional_view c.args.initials.now.items ++ initials_view initials) (take_all c.loop-initial.initial-index c.args.module.now.initials.items (let e = c.loop-initial-test.false in omega (arith, c.deref-initial-items.ensures.len))) }
