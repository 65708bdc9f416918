use Rattle.std.proofs.Common.{◌∙◌, sym, ap, cond, None, Bool}
use Rattle.clap.specs.Walk.{first_of, rows_of}
use Rattle.clap.specs.Words.{found_of}
use Rattle.clap.proofs.WalkLemmas.{first_value-rows}
use Rattle.option_words.proofs.line.Found.value.Goals as goal

pub returns : goal.returns
returns c =
    let name = c.args.name.now in
    let found = found_of c.args.self.now.matches in
    c.get_str.ensures ∙ first_value-rows found name ∙ ap (λ (b : Bool). cond b None (first_of name (rows_of found))) (sym (sym c.is_stem_id.ensures ∙ c.if-is_stem_id.false))
