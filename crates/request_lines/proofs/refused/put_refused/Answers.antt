use Rattle.request_lines.specs.Refused.{refused_text}
use Rattle.request_lines.proofs.refused.put_refused.Goals as goal

pub returns-in-TooEarly : goal.returns-in-TooEarly
unfolding refused_text
returns-in-TooEarly g c = rw c.in-TooEarly.is c.put_number.ensures

pub returns-in-Unpublished : goal.returns-in-Unpublished
unfolding refused_text
returns-in-Unpublished g c = rw c.in-Unpublished.is c.put_number-in-Unpublished.ensures

pub returns-in-NoSuchSupervoxel : goal.returns-in-NoSuchSupervoxel
unfolding refused_text
returns-in-NoSuchSupervoxel g c = rw c.in-NoSuchSupervoxel.is c.put_id.ensures

pub returns-in-NotARoot : goal.returns-in-NotARoot
unfolding refused_text
returns-in-NotARoot g c = rw c.in-NotARoot.is c.put_id-in-NotARoot.ensures

pub returns-in-NoSuchRoot : goal.returns-in-NoSuchRoot
unfolding refused_text
returns-in-NoSuchRoot g c = rw c.in-NoSuchRoot.is c.put_id-in-NoSuchRoot.ensures

pub returns-in-NoSuchOp : goal.returns-in-NoSuchOp
unfolding refused_text
returns-in-NoSuchOp g c = rw c.in-NoSuchOp.is c.put_op.ensures

pub returns-in-NoPairs : goal.returns-in-NoPairs
unfolding refused_text
returns-in-NoPairs g c = rw c.in-NoPairs.is c.put_plain.ensures

pub returns-in-TooManyPairs : goal.returns-in-TooManyPairs
unfolding refused_text
returns-in-TooManyPairs g c = rw c.in-TooManyPairs.is c.put_number-in-TooManyPairs.ensures

pub returns-in-NoMarks : goal.returns-in-NoMarks
unfolding refused_text
returns-in-NoMarks g c = rw c.in-NoMarks.is c.put_plain-in-NoMarks.ensures

pub returns-in-TooManyMarks : goal.returns-in-TooManyMarks
unfolding refused_text
returns-in-TooManyMarks g c = rw c.in-TooManyMarks.is c.put_number-in-TooManyMarks.ensures

pub returns-in-BothSides : goal.returns-in-BothSides
unfolding refused_text
returns-in-BothSides g c = rw c.in-BothSides.is c.put_id-in-BothSides.ensures

pub returns-in-NotAnEdit : goal.returns-in-NotAnEdit
unfolding refused_text
returns-in-NotAnEdit g c = rw c.in-NotAnEdit.is c.put_op-in-NotAnEdit.ensures

pub returns-in-NotInForce : goal.returns-in-NotInForce
unfolding refused_text
returns-in-NotInForce g c = rw c.in-NotInForce.is c.put_op-in-NotInForce.ensures

pub returns-in-InForce : goal.returns-in-InForce
unfolding refused_text
returns-in-InForce g c = rw c.in-InForce.is c.put_op-in-InForce.ensures

pub returns-in-Overtaken : goal.returns-in-Overtaken
unfolding refused_text
returns-in-Overtaken g c = rw c.in-Overtaken.is c.put_number-in-Overtaken.ensures

pub returns-in-TooLarge : goal.returns-in-TooLarge
unfolding refused_text
returns-in-TooLarge g c = rw c.in-TooLarge.is c.put_number-in-TooLarge.ensures

pub returns-in-ClockEnd : goal.returns-in-ClockEnd
unfolding refused_text
returns-in-ClockEnd g c = rw c.in-ClockEnd.is c.put_number-in-ClockEnd.ensures

pub returns-in-NoMemory : goal.returns-in-NoMemory
unfolding refused_text
returns-in-NoMemory g c = rw c.in-NoMemory.is c.put_bare.ensures
