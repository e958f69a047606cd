-- Each place of a marking has an entry, and holds the tokens in it. Each turn writes the line of the next place.
use Rattle.std.proofs.Common.{◌≡◌, ◌<◌, ◌++◌, ◌∙◌, ap, refl, subst, true, [], length, map, get_or, slice_index_or, arith, rules}
use Rattle.std.proofs.lemmas.List.{length-map}
use Rattle.std.specs.List.{list_all}
use Rattle.std.specs.String.{string_bytes}
use Rattle.cpn_definitions.specs.Marking.{tokens_at}
use Rattle.cpn_definitions.specs.Sound.{may_hold}
use Rattle.cpn_definitions.specs.Named.{is_named}
use Rattle.cpn_definitions.proofs.Markings.{marking_length}
use Rattle.cpn_core.specs.Nets.{net_view, place_view}
use Rattle.cpn_report.specs.Lines.{place_text, ended, lines_text}
use Rattle.cpn_report.specs.Report.{place_lines_from}
use Rattle.cpn_report.proofs.JoinedTexts.{written_more}
use Rattle.cpn_report.proofs.PrintableNets.{seen_at, passes_seen, held_at}
use Rattle.cpn_report.proofs.places.push_place_lines.Goals as goal

pub unwrap-tokens-requires : goal.unwrap-tokens-requires
unwrap-tokens-requires c = c.get.ensures.present.1 (omega (arith, simp length-map at (marking_length (map place_view c.args.places.now) c.args.marking.now c.requires.marking)))

pub push_place_line-requires-clause-held : goal.push_place_line-requires-clause-held
push_place_line-requires-clause-held c =
    let items : c.unwrap-tokens.result.now ≡ slice_index_or c.args.marking.now c.loop-number.number [] = search rules in
    let lt : c.loop-number.number < length (map place_view c.args.places.now) = simp length-map c.loop-number-test.true in
    let held = held_at (map place_view c.args.places.now) c.args.marking.now c.loop-number.number (place_view c.index-places-number.result) c.requires.marking lt in
    let this = seen_at place_view c.args.places.now c.loop-number.number c.index-places-number.result (place_view c.index-places-number.result) c.loop-number-test.true c.index-places-number.is in
    rw items (subst (λ place. list_all (may_hold place.colour) (get_or c.args.marking.now c.loop-number.number []) ≡ true) this held)

pub push_place_line-requires-clause-named : goal.push_place_line-requires-clause-named
push_place_line-requires-clause-named c = passes_seen (is_named (net_view c.args.net.now)) place_view c.args.places.now c.loop-number.number c.index-places-number.result c.loop-number-test.true c.index-places-number.is c.requires.named

pub loop-number-preserved : goal.loop-number-preserved
loop-number-preserved c =
    let items : c.unwrap-tokens.result.now ≡ slice_index_or c.args.marking.now c.loop-number.number [] = search rules in
    written_more
    (λ i places. lines_text (net_view c.args.net.now) (place_lines_from i (map place_view places) c.args.marking.now))
    (λ i place. ended (place_text (net_view c.args.net.now) (place_view place) (tokens_at c.args.marking.now i)))
    (λ i place places. refl)
    c.args.places.now c.loop-number.number c.index-places-number.result _ _ _ c.loop-number-test.true c.index-places-number.is c.loop-number.invariant
    (c.in_ok-push_place_line.ensures.written ∙ ap (λ tokens. string_bytes c.loop-number.out ++ ended (place_text (net_view c.args.net.now) (place_view c.index-places-number.result) tokens)) items)
