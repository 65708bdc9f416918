use Rattle.std.proofs.Common.{◌≡◌, false}
use Rattle.client_session.specs.Sessions.{is_stopped}
use Rattle.serve_tests.proofs.session_tests.gives_lines.Given as goal

abbrev pub invariant-loop-line : goal.invariant-loop-line
invariant-loop-line l = is_stopped l.session ≡ false
