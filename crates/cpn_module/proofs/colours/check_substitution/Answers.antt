-- The next assignment has colour sets that agree, or breaks its rule.
use Rattle.std.proofs.Common.{◌∙◌, get_or, arith}
use Rattle.cpn_readings.proofs.BrokenRules.{items_kept}
use Rattle.cpn_declared.specs.DeclsViews.{decls_view}
use Rattle.cpn_document.specs.Views.{document_view}
use Rattle.cpn_module.specs.Views.{assigned_view, substitution_view}
use Rattle.cpn_module.proofs.ColourRules.{read_kept, read_broken, found_agree, at_slice}
use Rattle.cpn_module.proofs.OneRule.{rule_kept, rule_broken}
use Rattle.cpn_module.specs.PlacesAt.{AreAssignedAt}
use Rattle.cpn_module.proofs.CheckedItems.{seen_at, at_position}
use Rattle.cpn_module.proofs.colours.check_substitution.Goals as goal

pub colour_name-socket-requires : goal.colour_name-socket-requires
colour_name-socket-requires c = record { there = (seen_at (AreAssignedAt (document_view c.args.document.now) c.args.in_module (substitution_view c.args.substitution.now)) assigned_view c.as_slice-assignments.result.now c.loop-number.number (get_or c.as_slice-assignments.result.now c.loop-number.number (record { port = 0; socket = 0 })) (omega arith) (at_position c.as_slice-assignments.result.now c.loop-number.number (record { port = 0; socket = 0 }) (omega arith)) (rw c.as_slice-assignments.ensures.value c.requires.there)).socket }

pub colour_name-port-requires : goal.colour_name-port-requires
colour_name-port-requires c = record { there = (seen_at (AreAssignedAt (document_view c.args.document.now) c.args.in_module (substitution_view c.args.substitution.now)) assigned_view c.as_slice-assignments.result.now c.loop-number.number (get_or c.as_slice-assignments.result.now c.loop-number.number (record { port = 0; socket = 0 })) (omega arith) (at_position c.as_slice-assignments.result.now c.loop-number.number (record { port = 0; socket = 0 }) (omega arith)) (rw c.as_slice-assignments.ensures.value c.requires.there)).port }

pub returns-then-not-colours_agree : goal.returns-then-not-colours_agree
returns-then-not-colours_agree c =
    let broken = found_agree (decls_view c.args.decls.now) _ _ _ _ _ _ c.colours_agree.ensures.exact c.colour_name-socket.ensures.exact c.colour_name-port.ensures.exact c.if-not-colours_agree.true in
    record { checks = rw c.at_assignment-here.ensures.exact (read_broken assigned_view c.as_slice-assignments.result.now c.loop-number.number (record { port = 0; socket = 0 }) (omega arith) _ _ _ (c.loop-number.invariant.rest ∙ at_slice assigned_view _ _ _ c.as_slice-assignments.ensures.value) (rule_broken _ _ broken)) }

pub loop-number-preserved : goal.loop-number-preserved
loop-number-preserved c =
    let kept = found_agree (decls_view c.args.decls.now) _ _ _ _ _ _ c.colours_agree.ensures.exact c.colour_name-socket.ensures.exact c.colour_name-port.ensures.exact c.if-not-colours_agree.false in
    record { rest = read_kept assigned_view c.as_slice-assignments.result.now c.loop-number.number (record { port = 0; socket = 0 }) (omega arith) _ _ (rule_kept _ _ kept) c.loop-number.invariant.rest }

pub returns : goal.returns
returns c = record { checks = items_kept assigned_view c.as_slice-assignments.result.now c.loop-number.number (omega arith) _ _ (c.loop-number.invariant.rest ∙ at_slice assigned_view _ _ _ c.as_slice-assignments.ensures.value) }
