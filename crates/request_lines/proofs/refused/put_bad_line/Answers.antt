use Rattle.request_lines.specs.Refused.{bad_line_text}
use Rattle.request_lines.proofs.refused.put_bad_line.Goals as goal

pub returns-in-LineTooLong : goal.returns-in-LineTooLong
unfolding bad_line_text
returns-in-LineTooLong g c = rw c.in-LineTooLong.is c.put_line_too_long.ensures

pub returns-in-NotJson : goal.returns-in-NotJson
unfolding bad_line_text
returns-in-NotJson g c = rw c.in-NotJson.is c.put_bare.ensures

pub returns-in-NotObject : goal.returns-in-NotObject
unfolding bad_line_text
returns-in-NotObject g c = rw c.in-NotObject.is c.put_bare-in-NotObject.ensures

pub returns-in-MissingField : goal.returns-in-MissingField
unfolding bad_line_text
returns-in-MissingField g c = rw c.in-MissingField.is c.put_field.ensures

pub returns-in-BadField : goal.returns-in-BadField
unfolding bad_line_text
returns-in-BadField g c = rw c.in-BadField.is c.put_field-in-BadField.ensures

pub returns-in-NoSuchCommand : goal.returns-in-NoSuchCommand
unfolding bad_line_text
returns-in-NoSuchCommand g c = rw c.in-NoSuchCommand.is c.put_bare-in-NoSuchCommand.ensures

pub returns-in-NoMemory : goal.returns-in-NoMemory
unfolding bad_line_text
returns-in-NoMemory g c = rw c.in-NoMemory.is c.put_bare-in-NoMemory.ensures
