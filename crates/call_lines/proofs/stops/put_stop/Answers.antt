use Rattle.std.proofs.Common.{ap}
use Rattle.request_lines.proofs.Putting.{puts_same}
use Rattle.call_lines.specs.Texts.{stop_text}
use Rattle.call_lines.proofs.stops.put_stop.Goals as goal

pub returns-in-BadWords : goal.returns-in-BadWords
unfolding stop_text
returns-in-BadWords g c = puts_same (ap stop_text c.in-BadWords.is) c.put.ensures

pub returns-in-ReadFault : goal.returns-in-ReadFault
unfolding stop_text
returns-in-ReadFault g c = puts_same (ap stop_text c.in-ReadFault.is) c.put_file.ensures

pub returns-in-WriteFault : goal.returns-in-WriteFault
unfolding stop_text
returns-in-WriteFault g c = puts_same (ap stop_text c.in-WriteFault.is) c.put_file-in-WriteFault.ensures

pub returns-in-TooLong : goal.returns-in-TooLong
unfolding stop_text
returns-in-TooLong g c = puts_same (ap stop_text c.in-TooLong.is) c.put_file-in-TooLong.ensures

pub returns-in-NoMemory : goal.returns-in-NoMemory
unfolding stop_text
returns-in-NoMemory g c = puts_same (ap stop_text c.in-NoMemory.is) c.put-in-NoMemory.ensures
