use Rattle.std.proofs.Common.{◌≡◌, ◌++◌, ◌∷◌, [], List, Vec, Global, map, sym, ◌∙◌, subst, ap, rules, ℕ}
use Rattle.std.proofs.lemmas.List.{map-append}
use Rattle.stream_lines.specs.declared.reading.StreamLines.{StreamLines}
use Rattle.trials.specs.Starts.{AreWhole}
use Rattle.trials.proofs.WholeTexts.{whole_more}
use Rattle.trials.proofs.texts.all_lines.Goals as goal

pub loop-bytes-preserved : goal.loop-bytes-preserved
loop-bytes-preserved c =
    let bytes = c.in-Some.bytes in
    let texts = c.loop-bytes.yielded in
    let items : Vec ℕ Global → List ℕ = λ v. v.items in
    let more : map items (texts ++ bytes ∷ []) ≡ map items texts ++ bytes.items ∷ [] = map-append items texts (bytes ∷ []) in
    let pushed : c.push.new.self.items ≡ c.loop-bytes.list.items ++ c.in_ok-lines.lines ∷ [] = search rules in
    subst (λ ts. AreWhole ts c.push.new.self.items) (sym more)
    (subst (λ rs. AreWhole (map items texts ++ bytes.items ∷ []) rs) (sym pushed) (whole_more (map items texts) c.loop-bytes.list.items bytes.items c.in_ok-lines.lines c.loop-bytes.invariant c.in_ok-lines.ensures))
