-- The lines of places are written, and none where the report is brief.
use Rattle.std.proofs.Common.{rules, arith, map, sym}
use Rattle.std.specs.String.{string_bytes}
use Rattle.std.proofs.lemmas.Grind.{common_steps}
use Rattle.cpn_core.specs.Nets.{net_view, place_view}
use Rattle.cpn_report.proofs.ReportTexts.{places_on, places_off, places_brief}
use Rattle.cpn_report.proofs.reports.push_places.Goals as goal

pub returns-in_ok-push_place_lines-in-On : goal.returns-in_ok-push_place_lines-in-On
returns-in_ok-push_place_lines-in-On c =
    let net = c.args.finished.now.setup.net.value in
    record { written = rw (c.in-On.is, places_on (string_bytes c.args.out.now) (net_view net) (map place_view net.places.items) c.args.finished.now.marking) (first_of (search rules, grind (arith, common_steps))) }

pub returns-in_ok-push_place_lines-in-Off : goal.returns-in_ok-push_place_lines-in-Off
returns-in_ok-push_place_lines-in-Off c =
    let net = c.args.finished.now.setup.net.value in
    record { written = rw (c.in-Off.is, places_off (string_bytes c.args.out.now) (net_view net) (map place_view net.places.items) c.args.finished.now.marking) (first_of (search rules, grind (arith, common_steps))) }

pub returns-in-Brief : goal.returns-in-Brief
returns-in-Brief c =
    let net = c.args.finished.now.setup.net.value in
    record { written = rw c.in-Brief.is (sym (places_brief (string_bytes c.args.out.now) (net_view net) (map place_view net.places.items) c.args.finished.now.marking)) }
