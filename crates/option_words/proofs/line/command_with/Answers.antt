use Rattle.std.proofs.Common.{◌∙◌, ap, ap₂, sym, Bool}
use Rattle.std.proofs.lemmas.Result.{IfOk-weaker}
use Rattle.clap.specs.Simple.{with_rule}
use Rattle.option_words.specs.Command.{command_of}
use Rattle.option_words.specs.Found.{known_of}
use Rattle.option_words.proofs.Simple.{stems_more}
use Rattle.option_words.proofs.line.command_with.Goals as goal

pub returns-then-with_stems : goal.returns-then-with_stems
returns-then-with_stems c =
    let known = known_of c.args.options.now in
    IfOk-weaker c.arg.result _ _ (λ new h.
    h.shape c.stem_arg.ensures.local ∙ ap₂ with_rule c.in_ok-command.ensures c.stem_arg.ensures.rule ∙ stems_more known ∙ ap (λ (b : Bool). command_of known b) (sym c.if-with_stems.true)) c.arg.ensures
