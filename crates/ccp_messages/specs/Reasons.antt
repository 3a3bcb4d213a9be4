-- The reasons for which a frame is refused, by number.
use Rattle.std.specs.Prelude.{ℕ, ◌==◌, if◌then◌else◌, Option, Some, None, unwrap_or}
use Rattle.ccp_messages.specs.declared.reason.Reason.{Reason}
use Rattle.ccp_messages.specs.declared.reason.Reason.TheVariants.{FlowAbove, FlowExists, NoFlow, ProgramAbove}
use Rattle.ccp_messages.specs.declared.reason.Reason.TheVariants.{ProgramExists, NoProgram, NotAccepted, NoRegister}
use Rattle.ccp_messages.specs.declared.reason.Reason.TheVariants.{TooWide}

-- the number of a reason, in a Refused
abbrev pub number_of_reason : Reason → ℕ
number_of_reason FlowAbove = 1
number_of_reason FlowExists = 2
number_of_reason NoFlow = 3
number_of_reason ProgramAbove = 4
number_of_reason ProgramExists = 5
number_of_reason NoProgram = 6
number_of_reason NotAccepted = 7
number_of_reason NoRegister = 8
number_of_reason TooWide = 9

-- the reason that has this number, if one has it
abbrev pub reason_at : ℕ → Option Reason
reason_at n =
    if n == 1 then Some FlowAbove else
    if n == 2 then Some FlowExists else
    if n == 3 then Some NoFlow else
    if n == 4 then Some ProgramAbove else
    if n == 5 then Some ProgramExists else
    if n == 6 then Some NoProgram else
    if n == 7 then Some NotAccepted else
    if n == 8 then Some NoRegister else
    if n == 9 then Some TooWide else None

-- the reason of a number from 1 to 9
abbrev pub reason_of : ℕ → Reason
reason_of n = unwrap_or (reason_at n) TooWide
