use Rattle.std.proofs.Common.{rules, ◌∙◌, ap, List, inl, inr}
use Rattle.clap.specs.Faults.{is_simple_and_free}
use Rattle.clap.specs.Simple.{app_of, is_simple}
use Rattle.clap.specs.Walk.{Text, rows_of, texts}
use Rattle.clap.specs.Words.{found_of}
use Rattle.option_words.specs.Found.{known_of}
use Rattle.option_words.proofs.Simple.{clap_finds_none, clap_finds_rows, command_is_free, command_is_simple}
use Rattle.option_words.proofs.line.clap_line.Goals as goal

pub returns-in-Ok-try_get_matches_from : goal.returns-in-Ok-try_get_matches_from
returns-in-Ok-try_get_matches_from c =
    let known = known_of c.args.options.now in
    let words : List Text = texts c.args.words.now in
    let found = c.in-Ok-try_get_matches_from.ensures in
    clap_finds_rows known c.args.with_stems words (rows_of (found_of c.in-Ok-try_get_matches_from.matches)) (app_of c.in-Ok.command) c.in-Ok.ensures
    (found.kinds (ap is_simple_and_free c.in-Ok.ensures ∙ command_is_free known c.args.with_stems))
    (found.matches (ap is_simple c.in-Ok.ensures ∙ command_is_simple known c.args.with_stems)).0

pub returns : goal.returns
returns c =
    let known = known_of c.args.options.now in
    let words : List Text = texts c.args.words.now in
    elim (c.in-Err.ensures.kinds (ap is_simple_and_free c.in-Ok.ensures ∙ command_is_free known c.args.with_stems)) [
      | inl memory ↦ search (rules, memory)
      | inr among ↦ clap_finds_none known c.args.with_stems words (app_of c.in-Ok.command) _ c.in-Ok.ensures among
    ]
