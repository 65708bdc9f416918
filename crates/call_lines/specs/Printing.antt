-- What an output gained.
use Rattle.std.specs.Prelude.{◌⊎◌, ℕ, List}
use Rattle.std.specs.Io.KnownBytes.{Appends}
use Rattle.pcg_base.specs.Causes.{Rose}
use Rattle.pcg_base.specs.States.{SinkState}
use Rattle.pcg_base.specs.Told.{AppendsFront}

-- an output gained just this text, or it failed and gained a front of it
abbrev pub Prints : SinkState → SinkState → List ℕ → Type 0
Prints out out' text = Appends out.held out'.held text ⊎ (AppendsFront out.held out'.held text × Rose out.faults out'.faults)
