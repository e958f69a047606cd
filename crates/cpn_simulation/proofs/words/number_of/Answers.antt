-- The option's value is read as the number that it spells.
use Rattle.std.proofs.Common.{◌∙◌, [], sym, ap}
use Rattle.std.specs.Prelude.{unwrap_or}
use Rattle.std.specs.Str.Parse.{ParsesUnsigned, ExplainsUnsignedError, HasUnsignedDigitsIfOk}
use Rattle.clap.specs.Words.{found_of}
use Rattle.clap.proofs.WalkLemmas.{first_value-rows}
use Rattle.cpn_simulation.specs.Options.{number_text}
use Rattle.cpn_simulation.proofs.Readings.{number_read}
use Rattle.cpn_simulation.proofs.words.number_of.Goals as goal

pub returns-clause-value : goal.returns-clause-value
returns-clause-value c =
    let text = c.requires in
    let read = number_read _ (λ bs r. ParsesUnsigned 64 10 bs r × ExplainsUnsignedError 10 bs r × HasUnsignedDigitsIfOk bs r) _ _ text.0 c.get_one.result (λ u x g. g.0) (c.get_one.ensures.value text.0 text.2) text.3 in
    ap (λ o. unwrap_or o 0) (sym c.unwrap.ensures ∙ read) ∙ ap (λ o. number_text (unwrap_or o [])) (sym text.1 ∙ first_value-rows (found_of c.args.matches.now) c.args.option.name.now)
