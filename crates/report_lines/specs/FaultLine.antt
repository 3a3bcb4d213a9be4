-- The line of a fault: the epoch and acknowledgement, and the kind and place.
use Rattle.std.specs.Prelude.{ℕ, Option, Some, None, List, [], codes, decimal}
use Rattle.ccp_base.specs.declared.arithmetic.FaultKind.{FaultKind}
use Rattle.ccp_base.specs.declared.arithmetic.FaultKind.TheVariants.{Overflow, Underflow, ZeroDivisor}
use Rattle.ccp_base.specs.declared.exchange.Notice.{Notice}
use Rattle.ccp_base.specs.declared.place.Place.{Place}
use Rattle.ccp_base.specs.Text.{◌⧺◌}

abbrev pub kind_text : FaultKind → List ℕ
kind_text Overflow = codes "Overflow"
kind_text Underflow = codes "Underflow"
kind_text ZeroDivisor = codes "ZeroDivisor"

-- the epoch, and the number of the faulting acknowledgement
abbrev pub fault_head : ℕ → ℕ → List ℕ
fault_head epoch at = codes "fault epoch=" ⧺ decimal epoch ⧺ codes " ack=" ⧺ decimal at

-- the place of the operation that faulted, to the end of the line
abbrev pub place_tail : Place → List ℕ
place_tail place = codes " at=" ⧺ decimal place.line ⧺ codes ":" ⧺ decimal place.column ⧺ codes "\n"

abbrev pub fault_line : ℕ → ℕ → FaultKind → Place → List ℕ
fault_line epoch at kind place = fault_head epoch at ⧺ codes " kind=" ⧺ kind_text kind ⧺ place_tail place

-- the line of a notice's fault, whose operation has this place
abbrev pub notice_line : Notice → Place → List ℕ
notice_line notice place = fault_line notice.epoch notice.at notice.kind place

-- the line of a notice's fault, if its instruction has a place
abbrev pub placed_line : Notice → Option Place → List ℕ
placed_line notice None = []
placed_line notice (Some place) = notice_line notice place
