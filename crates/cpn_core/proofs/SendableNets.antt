-- The data of nets may cross threads, whole (`IsSend`) and shared (`IsSync`).
use denote.Param.Send.{IsSend, IsSync, sendable}
use denote.Param.SendFields.{declared_send, declared_sync}
use Rattle.std.proofs.Crossing as std
use Rattle.cpn_core.proofs.colours.Shape.TheLaws.TheKnot as shapes
use Rattle.cpn_core.proofs.faults.EvalFault.TheSendSync as faults
use Rattle.cpn_core.proofs.inscriptions.Expr.TheLaws.TheKnot as exprs
use Rattle.cpn_core.proofs.inscriptions.MExpr.TheLaws.TheKnot as multisets
use Rattle.cpn_core.proofs.inscriptions.Op.TheSendSync as ops
use Rattle.cpn_core.proofs.inscriptions.Pat.TheLaws.TheKnot as patterns
use Rattle.cpn_core.proofs.values.Value.TheLaws.TheKnot as values
use Rattle.cpn_memory.specs.contracts.texts.Text as text
use Rattle.cpn_core.specs.contracts.bindings.Element as element
use Rattle.cpn_core.specs.contracts.colours.Colour as colour
use Rattle.cpn_core.specs.contracts.entries.EnabledElement as enabled
use Rattle.cpn_core.specs.contracts.faults.EvalFault as fault
use Rattle.cpn_core.specs.contracts.inscriptions.ArcExpr as arc
use Rattle.cpn_core.specs.contracts.inscriptions.Funs as funs
use Rattle.cpn_core.specs.contracts.inscriptions.Guard as guard
use Rattle.cpn_core.specs.contracts.needs.Needs as needs
use Rattle.cpn_core.specs.contracts.nets.Net as net
use Rattle.cpn_core.specs.contracts.nets.PlaceArc as place_arc
use Rattle.cpn_core.specs.contracts.nets.Transition as transition
use Rattle.cpn_core.specs.contracts.occurrences.Occurrence as occurrence
use Rattle.cpn_core.specs.contracts.outputs.Outputs as outputs

pub fault_send : IsSend fault.the_row
fault_send = faults.the_send

pub fault_sync : IsSync fault.the_row
fault_sync = faults.the_sync

pub text_send : IsSend text.the_row
text_send = search (std.crosses, sendable) depth 20

pub text_sync : IsSync text.the_row
text_sync = search (std.crosses, sendable) depth 20

pub colour_send : IsSend colour.the_row
colour_send = search (std.crosses, shapes.crosses_both, sendable) depth 60 fits 20000

pub colour_sync : IsSync colour.the_row
colour_sync = search (std.crosses, shapes.crosses_both, sendable) depth 60 fits 20000

pub element_send : IsSend element.the_row
element_send = search (text_send, std.crosses, values.crosses, sendable) depth 60 fits 20000

pub element_sync : IsSync element.the_row
element_sync = search (text_sync, std.crosses, values.crosses, sendable) depth 60 fits 20000

pub needs_send : IsSend needs.the_row
needs_send = search (text_send, std.crosses, values.crosses, sendable) depth 60 fits 20000

pub needs_sync : IsSync needs.the_row
needs_sync = search (text_sync, std.crosses, values.crosses, sendable) depth 60 fits 20000

pub outputs_send : IsSend outputs.the_row
outputs_send = search (text_send, std.crosses, values.crosses, sendable) depth 60 fits 20000

pub outputs_sync : IsSync outputs.the_row
outputs_sync = search (text_sync, std.crosses, values.crosses, sendable) depth 60 fits 20000

pub enabled_send : IsSend enabled.the_row
enabled_send = search (element_send, element_sync, needs_send, std.crosses, sendable) depth 60 fits 20000

pub enabled_sync : IsSync enabled.the_row
enabled_sync = search (element_send, element_sync, needs_sync, std.crosses, sendable) depth 60 fits 20000

pub occurrence_send : IsSend occurrence.the_row
occurrence_send = search (element_send, element_sync, std.crosses, sendable) depth 60 fits 20000

pub occurrence_sync : IsSync occurrence.the_row
occurrence_sync = search (element_send, element_sync, std.crosses, sendable) depth 60 fits 20000

pub funs_send : IsSend funs.the_row
funs_send = search (ops.the_field_send, ops.the_field_sync, text_send, text_sync, std.crosses, exprs.crosses, patterns.crosses, values.crosses, sendable) depth 60 fits 20000

pub funs_sync : IsSync funs.the_row
funs_sync = search (ops.the_field_send, ops.the_field_sync, text_send, text_sync, std.crosses, exprs.crosses, patterns.crosses, values.crosses, sendable) depth 60 fits 20000

pub guard_send : IsSend guard.the_row
guard_send = search (ops.the_field_send, text_send, std.crosses, exprs.crosses, patterns.crosses, values.crosses, sendable) depth 60 fits 20000

pub guard_sync : IsSync guard.the_row
guard_sync = search (ops.the_field_sync, text_sync, std.crosses, exprs.crosses, patterns.crosses, values.crosses, sendable) depth 60 fits 20000

pub arc_send : IsSend arc.the_row
arc_send = declared_send arc.the_type (colour_send, (search (ops.the_field_send, text_send, std.crosses, exprs.crosses, patterns.crosses, values.crosses, multisets.crosses, sendable) depth 60 fits 20000, (search (text_send, std.crosses, patterns.crosses, values.crosses, sendable) depth 60 fits 20000, tt)))

pub arc_sync : IsSync arc.the_row
arc_sync = declared_sync arc.the_type (colour_sync, (search (ops.the_field_sync, text_sync, std.crosses, exprs.crosses, patterns.crosses, values.crosses, multisets.crosses, sendable) depth 60 fits 20000, (search (text_sync, std.crosses, patterns.crosses, values.crosses, sendable) depth 60 fits 20000, tt)))

pub place_arc_send : IsSend place_arc.the_row
place_arc_send = declared_send place_arc.the_type (search sendable depth 20, (std.Arc-send _ arc_send arc_sync, tt))

pub place_arc_sync : IsSync place_arc.the_row
place_arc_sync = declared_sync place_arc.the_type (search sendable depth 20, (std.Arc-sync _ arc_send arc_sync, tt))

pub transition_send : IsSend transition.the_row
transition_send = declared_send transition.the_type (search (std.crosses, sendable) depth 20, (std.Arc-send _ guard_send guard_sync, (search (ops.the_field_send, ops.the_field_sync, text_send, text_sync, std.crosses, exprs.crosses, patterns.crosses, values.crosses, sendable) depth 60 fits 20000, (std.Vec-send _ place_arc_send, (std.Vec-send _ place_arc_send, (search (std.crosses, sendable) depth 20, tt))))))

pub transition_sync : IsSync transition.the_row
transition_sync = declared_sync transition.the_type (search (std.crosses, sendable) depth 20, (std.Arc-sync _ guard_send guard_sync, (search (ops.the_field_send, ops.the_field_sync, text_send, text_sync, std.crosses, exprs.crosses, patterns.crosses, values.crosses, sendable) depth 60 fits 20000, (std.Vec-sync _ place_arc_sync, (std.Vec-sync _ place_arc_sync, (search (std.crosses, sendable) depth 20, tt))))))

pub net_send : IsSend net.the_row
net_send = declared_send net.the_type (search (std.crosses, shapes.crosses_both, sendable) depth 60 fits 20000, (std.Vec-send _ transition_send, (search (std.crosses, shapes.crosses_both, sendable) depth 60 fits 20000, (search (std.crosses, sendable) depth 20, (search (std.crosses, sendable) depth 20, (std.Arc-send _ funs_send funs_sync, tt))))))

pub net_sync : IsSync net.the_row
net_sync = declared_sync net.the_type (search (std.crosses, shapes.crosses_both, sendable) depth 60 fits 20000, (std.Vec-sync _ transition_sync, (search (std.crosses, shapes.crosses_both, sendable) depth 60 fits 20000, (search (std.crosses, sendable) depth 20, (search (std.crosses, sendable) depth 20, (std.Arc-sync _ funs_send funs_sync, tt))))))

-- what a `search` needs for a field that has values
pub ruleset of_values = (text_send, text_sync, values.crosses)

-- and for one that has an inscription
pub ruleset of_exprs = (ops.the_field_send, ops.the_field_sync, of_values, exprs.crosses, patterns.crosses)
