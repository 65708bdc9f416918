use Rattle.std.proofs.Common.{◌∙◌, ap, ap₂, take, true}
use Rattle.clap.specs.Simple.{Shape, app_of_fields, on_top, with_rule}
use Rattle.option_words.specs.Command.{command_of}
use Rattle.option_words.specs.Found.{known_of}
use Rattle.option_words.proofs.Simple.{next_known, one_option_more}
use Rattle.option_words.proofs.line.with_options.Goals as goal

abbrev quiet : Shape → Shape
quiet s = record s { disable_version_flag = true }

abbrev helpless : Shape → Shape
helpless s = record s { disable_help_flag = true }

abbrev nameless : Shape → Shape
nameless s = record s { no_binary_name = true }

pub loop-option-init : goal.loop-option-init
unfolding command_of
loop-option-init c =
    ap app_of_fields c.disable_version_flag-command.ensures
    ∙ ap (on_top quiet) (ap app_of_fields c.disable_help_flag.ensures ∙ ap (on_top helpless) (ap app_of_fields c.no_binary_name.ensures ∙ ap (on_top nameless) c.new.ensures.app))

pub loop-option-preserved : goal.loop-option-preserved
loop-option-preserved c =
    let known = known_of (take c.loop-option.option-index c.args.options.now) in
    c.in_ok-command.ensures.shape c.option_arg.ensures.local ∙ ap₂ with_rule c.loop-option.invariant c.option_arg.ensures.rule ∙ one_option_more known _ ∙ next_known c.args.options.now c.loop-option.option-index _ c.loop-option-test.true
