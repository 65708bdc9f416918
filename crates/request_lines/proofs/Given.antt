-- What is meant is given, if it is what was found or if memory ran out.
use Rattle.std.proofs.Common.{◌≡◌, Result, Ok, Err, refl, sym}
use Rattle.op_model.specs.declared.request.LineError.{LineError}
use Rattle.op_model.specs.declared.request.LineError.TheVariants as errors
use Rattle.request_lines.specs.Asking.{Gives, ◌>>=◌}

-- what was found is what is meant
pub gives_found : {A : Type 0} (r w : Result A LineError) → r ≡ w → Gives r w
gives_found (Ok x) w e = sym e
gives_found (Err errors.NoMemory) w e = tt
gives_found (Err (errors.LineTooLong bytes)) w e = sym e
gives_found (Err errors.NotJson) w e = sym e
gives_found (Err errors.NotObject) w e = sym e
gives_found (Err (errors.MissingField name)) w e = sym e
gives_found (Err (errors.BadField name)) w e = sym e
gives_found (Err errors.NoSuchCommand) w e = sym e

-- the first fault is the fault of the whole
pub gives_fault : {A B : Type 0} (e : LineError) (r : Result A LineError) (f : A → Result B LineError) → Gives {A = A} (Err e) r → Gives {A = B} (Err e) (r >>= f)
gives_fault errors.NoMemory r f g = tt
gives_fault (errors.LineTooLong bytes) r f g = rw g refl
gives_fault errors.NotJson r f g = rw g refl
gives_fault errors.NotObject r f g = rw g refl
gives_fault (errors.MissingField name) r f g = rw g refl
gives_fault (errors.BadField name) r f g = rw g refl
gives_fault errors.NoSuchCommand r f g = rw g refl
