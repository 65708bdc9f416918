-- Inner: no clause of `run` is made of it.
-- The sink behind one that hands all on.
use Rattle.fault_texts.specs.declared.last_line.LastLine.{LastLine}

abbrev pub inner : {K : Type 0} → LastLine K → K
inner k = k.sink
