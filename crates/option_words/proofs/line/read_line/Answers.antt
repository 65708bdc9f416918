use Rattle.std.proofs.Common.{◌∙◌, sym, subst, ap, List, Option, Err}
use Rattle.std.specs.Prelude.{option_and_then}
use Rattle.std.specs.Result.{result_map_both}
use Rattle.clap.specs.Walk.{Text, texts}
use Rattle.option_words.specs.Found.{clap_found, known_of, line_in, line_plain}
use Rattle.option_words.specs.Grammar.{Known, Line, only_if}
use Rattle.option_words.specs.Spelled.{Spells, said}
use Rattle.std.specs.Prelude.{option_map}
use Rattle.option_words.proofs.Lines.{line_from, stopped}
use Rattle.option_words.proofs.line.read_line.Goals as goal

pub returns-in-Ok : goal.returns-in-Ok
returns-in-Ok c =
    let known : List Known = known_of c.args.options.now in
    let words : List Text = texts c.args.words.now in
    let same = line_from known c.args.with_stems words c.requires ∙ ap (option_and_then (only_if (line_plain known))) c.in-Ok.ensures in
    subst (λ (o : Option Line). Spells o (result_map_both said (λ e. e) c.plain_line.result)) (sym same) c.plain_line.ensures

pub returns-in-Err : goal.returns-in-Err
returns-in-Err c =
    let known : List Known = known_of c.args.options.now in
    let words : List Text = texts c.args.words.now in
    subst (λ (o : Option Line). Spells o (Err c.in-Err.stop)) (sym (line_from known c.args.with_stems words c.requires))
    (stopped (only_if (line_plain known)) (option_map line_in (clap_found known c.args.with_stems words)) c.in-Err.stop c.in-Err.ensures)
