-- The plans of searches may cross threads, whole (`IsSend`) and shared (`IsSync`).
use denote.Param.Send.{IsSend, IsSync, sendable}
use denote.Param.SendFields.{declared_send, declared_sync, variants_send, variants_sync}
use Rattle.std.proofs.Crossing as std
use Rattle.cpn_core.proofs.SendableNets as nets
use Rattle.cpn_search.specs.contracts.plan.Plan as plan
use Rattle.cpn_search.specs.contracts.plan.Stage as stage
use Rattle.cpn_search.specs.contracts.plans.Plans as plans
use Rattle.cpn_search.specs.contracts.shared.SharedEquation as equation
use Rattle.cpn_search.specs.contracts.shared.SharedTerm as term

pub term_send : IsSend term.the_row
term_send = declared_send term.the_type (std.Arc-send _ nets.arc_send nets.arc_sync, (search sendable depth 20, tt))

pub term_sync : IsSync term.the_row
term_sync = declared_sync term.the_type (std.Arc-sync _ nets.arc_send nets.arc_sync, (search sendable depth 20, tt))

pub equation_send : IsSend equation.the_row
equation_send = declared_send equation.the_type (std.Arc-send _ nets.guard_send nets.guard_sync, (search sendable depth 20, tt))

pub equation_sync : IsSync equation.the_row
equation_sync = declared_sync equation.the_type (std.Arc-sync _ nets.guard_send nets.guard_sync, (search sendable depth 20, tt))

pub stage_send : IsSend stage.the_row
stage_send = variants_send stage.enum ((search sendable depth 20, (term_send, tt)), ((search sendable depth 20, (equation_send, tt)), ((search sendable depth 20, (search (nets.of_values, std.crosses, sendable) depth 60 fits 20000, tt)), tt)))

pub stage_sync : IsSync stage.the_row
stage_sync = variants_sync stage.enum ((search sendable depth 20, (term_sync, tt)), ((search sendable depth 20, (equation_sync, tt)), ((search sendable depth 20, (search (nets.of_values, std.crosses, sendable) depth 60 fits 20000, tt)), tt)))

pub plan_send : IsSend plan.the_row
plan_send = declared_send plan.the_type (std.Vec-send _ stage_send, tt)

pub plan_sync : IsSync plan.the_row
plan_sync = declared_sync plan.the_type (std.Vec-sync _ stage_sync, tt)

pub plans_send : IsSend plans.the_row
plans_send = declared_send plans.the_type (std.Vec-send _ plan_send, tt)

pub plans_sync : IsSync plans.the_row
plans_sync = declared_sync plans.the_type (std.Vec-sync _ plan_sync, tt)
