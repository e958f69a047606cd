-- The option's value is the first of its row.
use Rattle.std.proofs.Common.{◌∙◌, [], sym, ap, option_map}
use Rattle.std.specs.Prelude.{unwrap_or}
use Rattle.clap.specs.Words.{found_of}
use Rattle.clap.proofs.WalkLemmas.{first_value-rows}
use Rattle.cpn_simulation.proofs.words.word_of.Goals as goal

pub returns : goal.returns
returns c =
    ap (λ o. unwrap_or o []) (ap (option_map (λ s. s.now)) (sym c.unwrap.ensures) ∙ c.get_str.ensures ∙ first_value-rows (found_of c.args.matches.now) c.args.name.now)
