-- A flow may go to another thread.
use denote.Struct.Declared.{shape}
use denote.Param.Send.{IsSend, recorded_send, struct_send, sendable}
use Rattle.std.proofs.Crossing.{crosses}
use Rattle.portus_core.proofs.program.Expr.TheLaws.TheKnot as knot
use Rattle.portus_core.specs.contracts.program.Cmd as Cmd
use Rattle.portus_core.specs.contracts.program.Block as Block
use Rattle.portus_core.specs.contracts.program.Program as Program
use Rattle.reg_code.specs.contracts.checked.Checked as Checked
use Rattle.reg_code.specs.contracts.code.Code as Code
use Rattle.reg_code.proofs.code.Code.TheSendSync as code
use Rattle.reg_compiler.specs.contracts.built.Built as Built
use Rattle.fold_machine.specs.contracts.machine.Machine as Machine
use Rattle.link_model.specs.contracts.link.Link as Link
use Rattle.link_model.proofs.link.Link.TheSendSync as link
use Rattle.open_flow.specs.contracts.entry.Entry as Entry
use Rattle.open_flow.specs.contracts.cell.OpenCell as Cell

cmd-send : IsSend Cmd.the_row
cmd-send = search (crosses, knot.crosses, sendable) depth 60 fits 20000

block-send : IsSend Block.the_row
block-send = search (cmd-send, crosses, knot.crosses, sendable) depth 60 fits 20000

program-send : IsSend (Program.the_field).row
program-send = search (block-send, crosses, knot.crosses, sendable) depth 60 fits 20000

code-send : IsSend Code.the_row
code-send = code.the_send

checked-send : IsSend (Checked.the_field).row
checked-send = search (code-send, crosses, sendable) depth 60 fits 20000

built-send : IsSend Built.the_row
built-send =
    recorded_send _ _ _ Built.the_type.to_one
    (struct_send (shape Built.the_type) (program-send, (checked-send, (search (crosses, sendable) depth 60 fits 20000, tt))))

entry-send : IsSend Entry.the_row
entry-send = search (built-send, crosses, knot.crosses, sendable) depth 60 fits 20000

machine-send : IsSend Machine.the_row
machine-send = search (crosses, sendable) depth 60 fits 20000

link-send : IsSend Link.the_row
link-send = link.the_send

pub cell-send : IsSend Cell.the_row
cell-send = search (entry-send, machine-send, link-send, crosses, sendable) depth 60 fits 20000
