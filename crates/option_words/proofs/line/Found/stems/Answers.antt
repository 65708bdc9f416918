use Rattle.std.proofs.Common.{◌∙◌, ap, []}
use Rattle.std.specs.Prelude.{unwrap_or}
use Rattle.clap.specs.Words.{found_of}
use Rattle.clap.proofs.WalkLemmas.{raw_values-rows}
use Rattle.option_words.specs.Found.{stem_id}
use Rattle.option_words.proofs.line.Found.stems.Goals as goal

pub returns : goal.returns
returns c = ap (λ o. unwrap_or o []) (c.get_raw.ensures ∙ raw_values-rows (found_of c.args.self.now.matches) stem_id)
