-- The options are those of the definition, one after another.
use Rattle.std.proofs.Common.{◌≡◌, ◌∙◌, ap, false, true}
use Rattle.std.proofs.Math.Path.{ap₂}
use Rattle.clap.specs.Words.{AddsArg, App, Rule, app_of, rule_of, with_rule}
use Rattle.clap.specs.Simple.{app_of_fields, on_top}
use Rattle.clap.specs.declared.builder.arg.Arg.{Arg}
use Rattle.clap.specs.declared.builder.command.Command.{Command}
use Rattle.cpn_simulation.proofs.words.command_line.Goals as goal

-- one more option
added : (old new : Command) (a : Arg) (app : App) (r : Rule) → AddsArg old a new → a.global ≡ false → app_of old ≡ app → rule_of a ≡ r → app_of new ≡ with_rule app r
added old new a app r adds local is rule = adds.shape local ∙ ap₂ with_rule is rule

pub returns : goal.returns
returns c =
    let start = ap app_of_fields c.disable_help_flag.ensures ∙ ap (λ f. app_of_fields (record f { disable_help_flag = true })) c.no_binary_name.ensures
    ∙ ap (on_top (λ s. record s { no_binary_name = true; disable_help_flag = true })) c.new.ensures.app in
    let mode = added _ _ _ _ _ c.in_ok-arg.ensures c.word_option.ensures.local start c.word_option.ensures.rule in
    let seed = added _ _ _ _ _ c.in_ok-arg-2.ensures c.number_option.ensures.local mode c.number_option.ensures.rule in
    let workers = added _ _ _ _ _ c.in_ok-arg-3.ensures c.number_option-2.ensures.local seed c.number_option-2.ensures.rule in
    let steps = added _ _ _ _ _ c.in_ok-arg-4.ensures c.number_option-3.ensures.local workers c.number_option-3.ensures.rule in
    let until = added _ _ _ _ _ c.in_ok-arg-5.ensures c.number_option-4.ensures.local steps c.number_option-4.ensures.rule in
    added _ _ _ _ _ c.in_ok-command.ensures c.word_option-2.ensures.local until c.word_option-2.ensures.rule
