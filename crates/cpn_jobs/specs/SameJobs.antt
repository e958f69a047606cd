-- When two jobs are the same: all their contents are.
use Rattle.std.proofs.Common.{◌≡◌, ◌==◌, Bool, true, ◌&&◌, refl, ap, ap₂, ◌∙◌}
use Rattle.std.specs.Bool.{beq}
use Rattle.std.specs.Cmp.{unsigned_Decides, booleans_Decides}
use Rattle.std.proofs.lemmas.Bool.{and_parts, and_from}
use lib.Pointwise.{pointwise}
use Rattle.cpn_same.specs.Equality.{DecidesEquality, decides_from, lists_decide, options_decide, same_options}
use Rattle.cpn_same.specs.SameElements.{same_element, elements_decide}
use Rattle.cpn_same.specs.SameInscriptions.{same_expr, exprs_decide, same_functions, functions_decide}
use Rattle.cpn_same.specs.SameArcs.{same_arc_expr, arc_exprs_decide}
use Rattle.cpn_jobs.specs.Work.{PlainWorkArc, PlainWork, PlainJob}

-- whether two arcs are the same: to one place, timed or untimed in both, with the same inscription
abbrev pub same_work_arc : PlainWorkArc → PlainWorkArc → Bool
same_work_arc arc other = (arc.place == other.place) && (beq arc.timed other.timed && same_arc_expr arc.inscription other.inscription)

-- whether work is the same: with the same functions, the same delay and the same output arcs
abbrev pub same_work : PlainWork → PlainWork → Bool
same_work work other = same_functions work.functions other.functions && (same_options same_expr work.delay other.delay && pointwise same_work_arc work.outputs other.outputs)

-- whether two jobs are the same: of one element, at one time, with the same work
abbrev pub same_job : PlainJob → PlainJob → Bool
same_job job other = same_element job.element other.element && ((job.time == other.time) && same_work job.work other.work)

-- ---- laws

pub work_arcs_decide : DecidesEquality same_work_arc
work_arcs_decide = decides_from same_work_arc itself one
  where
    itself : (arc : PlainWorkArc) → same_work_arc arc arc ≡ true
    itself arc =
        and_from (arc.place == arc.place) (beq arc.timed arc.timed && same_arc_expr arc.inscription arc.inscription) ((unsigned_Decides arc.place arc.place).1 refl)
        (and_from (beq arc.timed arc.timed) (same_arc_expr arc.inscription arc.inscription) ((booleans_Decides arc.timed arc.timed).1 refl) ((arc_exprs_decide arc.inscription arc.inscription).1 refl))

    one : (arc other : PlainWorkArc) → same_work_arc arc other ≡ true → arc ≡ other
    one arc other is =
        let all = and_parts (arc.place == other.place) (beq arc.timed other.timed && same_arc_expr arc.inscription other.inscription) is in
        let both = and_parts (beq arc.timed other.timed) (same_arc_expr arc.inscription other.inscription) all.1 in
        ap (λ place. record { place = place; timed = arc.timed; inscription = arc.inscription }) ((unsigned_Decides arc.place other.place).0 all.0)
        ∙ ap₂ (λ timed inscription. record { place = other.place; timed = timed; inscription = inscription }) ((booleans_Decides arc.timed other.timed).0 both.0) ((arc_exprs_decide arc.inscription other.inscription).0 both.1)

pub works_decide : DecidesEquality same_work
works_decide = decides_from same_work itself one
  where
    itself : (work : PlainWork) → same_work work work ≡ true
    itself work =
        and_from (same_functions work.functions work.functions) (same_options same_expr work.delay work.delay && pointwise same_work_arc work.outputs work.outputs) ((functions_decide work.functions work.functions).1 refl)
        (and_from (same_options same_expr work.delay work.delay) (pointwise same_work_arc work.outputs work.outputs) ((options_decide same_expr exprs_decide work.delay work.delay).1 refl) ((lists_decide same_work_arc work_arcs_decide work.outputs work.outputs).1 refl))

    one : (work other : PlainWork) → same_work work other ≡ true → work ≡ other
    one work other is =
        let all = and_parts (same_functions work.functions other.functions) (same_options same_expr work.delay other.delay && pointwise same_work_arc work.outputs other.outputs) is in
        let both = and_parts (same_options same_expr work.delay other.delay) (pointwise same_work_arc work.outputs other.outputs) all.1 in
        ap (λ functions. record { functions = functions; delay = work.delay; outputs = work.outputs }) ((functions_decide work.functions other.functions).0 all.0)
        ∙ ap₂ (λ delay outputs. record { functions = other.functions; delay = delay; outputs = outputs }) ((options_decide same_expr exprs_decide work.delay other.delay).0 both.0) ((lists_decide same_work_arc work_arcs_decide work.outputs other.outputs).0 both.1)

pub jobs_decide : DecidesEquality same_job
jobs_decide = decides_from same_job itself one
  where
    itself : (job : PlainJob) → same_job job job ≡ true
    itself job =
        and_from (same_element job.element job.element) ((job.time == job.time) && same_work job.work job.work) ((elements_decide job.element job.element).1 refl)
        (and_from (job.time == job.time) (same_work job.work job.work) ((unsigned_Decides job.time job.time).1 refl) ((works_decide job.work job.work).1 refl))

    one : (job other : PlainJob) → same_job job other ≡ true → job ≡ other
    one job other is =
        let all = and_parts (same_element job.element other.element) ((job.time == other.time) && same_work job.work other.work) is in
        let both = and_parts (job.time == other.time) (same_work job.work other.work) all.1 in
        ap (λ element. record { element = element; time = job.time; work = job.work }) ((elements_decide job.element other.element).0 all.0)
        ∙ ap₂ (λ time work. record { element = other.element; time = time; work = work }) ((unsigned_Decides job.time other.time).0 both.0) ((works_decide job.work other.work).0 both.1)
