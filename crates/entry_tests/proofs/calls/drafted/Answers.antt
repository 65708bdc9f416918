use Rattle.entry_tests.proofs.calls.drafted.Goals as goal

pub remake-requires : goal.remake-requires
remake-requires c = let p = c.requires.planned in record { plan = (p.b, p.log, p.image, p.legal) }
