-- The part of a driven flow in the live text: as that of any flow, with `own` as its agent, and as each reply the values
-- of its answer.
use Rattle.std.specs.Prelude.{ℕ, ◌+◌, Option, Some, None, List, [], ◌∷◌, codes, decimal}
use Rattle.ccp_base.specs.FieldReg.{Pair}
use Rattle.ccp_base.specs.Text.{◌⧺◌}
use Rattle.ccp_base.specs.declared.fields.FieldReg.{FieldReg}
use Rattle.ccp_base.specs.declared.fields.FieldReg.TheVariants.{Cwnd, Rate, Control}
use Rattle.ccp_base.specs.declared.place.Place.{Place}
use Rattle.flow_core.specs.declared.book.TicketLine.{TicketLine}
use Rattle.flow_core.specs.LiveText.{Account, Sources, account_of, account_end_line, epoch_lines, fault_lines}
use Rattle.flow_core.specs.World.{World}
use Rattle.live_lines.specs.AnsweredLines.{answered_line}
use Rattle.live_lines.specs.FlowLabels.{labelled_line, own}
use Rattle.driven_flow.specs.declared.case.DrivenCase.{DrivenCase}
use Rattle.driven_flow.specs.Driven.{Given, over_sources}

-- ---- answers

-- a value that is written, after the name of what it is written to
abbrev pub value_text : FieldReg → ℕ → List ℕ
value_text Cwnd value = codes "cwnd=" ⧺ decimal value
value_text Rate value = codes "rate=" ⧺ decimal value
value_text (Control i) value = codes "control" ⧺ decimal i ⧺ codes "=" ⧺ decimal value

-- values after the first one, each after a comma
abbrev pub further_values : List Pair → List ℕ
further_values [] = []
further_values (pair ∷ rest) = codes "," ⧺ value_text pair.0 pair.1 ⧺ further_values rest

-- values in order, with a comma between them
abbrev pub values_text : List Pair → List ℕ
values_text [] = []
values_text (pair ∷ rest) = value_text pair.0 pair.1 ⧺ further_values rest

-- an answer that changes to this program, if it is a change, with these values
abbrev pub reply_text : Option ℕ → List Pair → List ℕ
reply_text None [] = codes "none"
reply_text None (pair ∷ rest) = codes "update:" ⧺ values_text (pair ∷ rest)
reply_text (Some program) values = codes "change:" ⧺ decimal program ⧺ codes ":" ⧺ values_text values

abbrev pub given_text : Given → List ℕ
given_text given = reply_text given.program given.values

-- ---- the part

-- the tickets, numbered from this one on, each with its answer
abbrev pub given_lines : Sources → ℕ → List TicketLine → List Given → List ℕ
given_lines sources number [] answers = []
given_lines sources number (ticket ∷ tickets) [] = []
given_lines sources number (ticket ∷ tickets) (given ∷ answers) =
    answered_line sources number ticket (given_text given) ⧺ given_lines sources (number + 1) tickets answers

-- the flow, its epochs, its faults, its tickets with these answers, and how it stands at the end
abbrev pub driven_account_text : Sources → DrivenCase → Account → List Given → List ℕ
driven_account_text sources case account answers =
    labelled_line case.flow case.name own
    ⧺ epoch_lines 0 account.epochs
    ⧺ fault_lines account.faults
    ⧺ given_lines sources 0 account.tickets answers
    ⧺ account_end_line sources account

-- a driven flow's part of the text, if this is its state over the sources and these are its answers
abbrev pub driven_part : Sources → DrivenCase → World Place → List Given → List ℕ
driven_part sources case w answers =
    driven_account_text sources case (account_of (over_sources sources case) w) answers
