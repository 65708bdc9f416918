use Rattle.edit_split.proofs.Refused.{many_sinks, many_sources, no_sinks, no_sources, sides_last}
use Rattle.edit_split.proofs.refusing.refusal_of_lists.Goals as goal

pub returns-then-sources-eq0 : goal.returns-then-sources-eq0
returns-then-sources-eq0 c = no_sources c.args.sources.now c.args.sinks.now c.if-sources-eq0.true

pub returns-then-sinks-eq0 : goal.returns-then-sinks-eq0
returns-then-sinks-eq0 c = no_sinks c.args.sources.now c.args.sinks.now c.if-sources-eq0.false c.if-sinks-eq0.true

pub returns-then-sources-gt64 : goal.returns-then-sources-gt64
returns-then-sources-gt64 c = many_sources c.args.sources.now c.args.sinks.now c.if-sources-eq0.false c.if-sinks-eq0.false c.if-sources-gt64.true

pub returns-then-sinks-gt64 : goal.returns-then-sinks-gt64
returns-then-sinks-gt64 c = many_sinks c.args.sources.now c.args.sinks.now c.if-sources-eq0.false c.if-sinks-eq0.false c.if-sources-gt64.false c.if-sinks-gt64.true

pub returns : goal.returns
returns c = sides_last c.args.sources.now c.args.sinks.now c.on_both_sides.result c.if-sources-eq0.false c.if-sinks-eq0.false c.if-sources-gt64.false c.if-sinks-gt64.false c.on_both_sides.ensures
