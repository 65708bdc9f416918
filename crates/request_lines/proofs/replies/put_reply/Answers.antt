use Rattle.std.proofs.Common.{ap}
use Rattle.request_lines.specs.Texts.{text_of_reply}
use Rattle.request_lines.proofs.Putting.{puts_same}
use Rattle.request_lines.proofs.replies.put_reply.Goals as goal

pub returns-in-NoMemory : goal.returns-in-NoMemory
unfolding text_of_reply
returns-in-NoMemory g c = puts_same (ap text_of_reply c.in-NoMemory.is) c.put_bare.ensures
