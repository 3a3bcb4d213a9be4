-- A program as data.
use Rattle.portus_core.specs.declared.program.Program.{Program}
use Rattle.portus_core.specs.Programs.{Form, form_over}

-- the data of a program
abbrev pub form_of : Program → Form
form_of program = form_over program.fields.items program.controls.items program.blocks.items
