-- What the code writes of a driven flow, over the codes, is its part of the live text, over the sources.
use Rattle.std.proofs.Common.{◌≡◌, ◌∙◌, ℕ, ◌+◌, List, [], ◌∷◌, length, map, codes, decimal, refl}
use Rattle.ccp_base.specs.Text.{◌⧺◌}
use Rattle.ccp_base.specs.declared.place.Place.{Place}
use Rattle.portus_core.specs.Epoch.{Track}
use Rattle.reg_compiler.specs.declared.built.Built.{Built}
use Rattle.flow_core.specs.declared.book.TicketLine.{TicketLine}
use Rattle.flow_core.specs.Books.{ticket_line}
use Rattle.flow_core.specs.Lift.{Placing, map_answered, map_content, map_failure, map_world}
use Rattle.flow_core.specs.LiveText.{Account, Sources, account_of, end_of, epoch_lines, fault_lines, fields_at, last_line, report_count, reports_told, sources_of, told_text}
use Rattle.flow_core.specs.Readings.{Flow}
use Rattle.flow_core.specs.World.{Answered, Content, Failure, World, of_failure, of_report, notice_of, told_as, track_of}
use Rattle.live_lines.specs.AnsweredLines.{answered_text}
use Rattle.live_lines.specs.FaultPlaces.{placed}
use Rattle.live_lines.specs.FlowLabels.{labelled_line, own}
use Rattle.driven_flow.specs.declared.case.DrivenCase.{DrivenCase}
use Rattle.driven_flow.specs.Driven.{Codes, DrivenState, Given, ReadsAlike, flow_by, over_codes, over_sources, placed_in, sourced_by, state_by, world_by}
use Rattle.driven_flow.specs.DrivenAccounts.{account_by}
use Rattle.driven_flow.specs.DrivenText.{driven_account_text, driven_part, given_lines, given_text}

module _ (read : Codes) (programs : List (ℕ × Built)) (case : DrivenCase) where
  abbrev texts : Sources
  texts = sources_of programs

  abbrev by_codes : Flow ℕ
  by_codes = over_codes read case

  abbrev by_sources : Flow Place
  by_sources = over_sources texts case

  abbrev place : Placing
  place = placed_in programs

  -- a notice has its fault's instruction
  faults-placed : (faults : List (Failure ℕ)) → map (placed place) (map (notice_of by_codes) faults) ≡ map (map_failure place) faults
  faults-placed [] = refl
  faults-placed (fault ∷ rest) = λ i. map_failure place fault ∷ faults-placed rest i

  -- a fault's place isn't shown with its ticket
  told-shown : (told : Content ℕ) (answer : List ℕ)
      → told_text texts (told_as by_codes told) answer ≡ told_text texts (told_as by_sources (map_content place told)) answer
  told-shown (of_report report) answer = refl
  told-shown (of_failure failure) answer = refl

  count-shown : (told : Content ℕ) → reports_told (told_as by_codes told) ≡ reports_told (told_as by_sources (map_content place told))
  count-shown (of_report report) = refl
  count-shown (of_failure failure) = refl

  -- the lines of tickets over the codes, and over the sources
  abbrev coded : List (Answered ℕ) → List TicketLine
  coded tickets = map (ticket_line by_codes) tickets

  abbrev sourced : List (Answered ℕ) → List TicketLine
  sourced tickets = map (ticket_line by_sources) (map (map_answered place) tickets)

  tickets-shown : (number : ℕ) (tickets : List (Answered ℕ)) (answers : List Given)
      → given_lines texts number (coded tickets) answers ≡ given_lines texts number (sourced tickets) answers
  tickets-shown number [] answers = refl
  tickets-shown number (ticket ∷ rest) [] = refl
  tickets-shown number (ticket ∷ rest) (given ∷ answers) =
      λ i. (codes "ticket " ⧺ decimal number ⧺ codes " " ⧺ told-shown ticket.told (answered_text (ticket_line by_codes ticket) (given_text given)) i)
      ⧺ tickets-shown (number + 1) rest answers i

  counts-shown : (tickets : List (Answered ℕ)) → report_count (coded tickets) ≡ report_count (sourced tickets)
  counts-shown [] = refl
  counts-shown (ticket ∷ rest) = λ i. count-shown ticket.told i + counts-shown rest i

  -- an account with these tickets
  abbrev with_tickets : Account → List TicketLine → Account
  with_tickets account tickets = record account { tickets = tickets }

  pub account-shown : (account : Account) (tickets : List (Answered ℕ)) (answers : List Given)
      → driven_account_text texts case (with_tickets account (coded tickets)) answers
      ≡ driven_account_text texts case (with_tickets account (sourced tickets)) answers
  account-shown account tickets answers =
      λ i. labelled_line case.flow case.name own
      ⧺ epoch_lines 0 account.epochs
      ⧺ fault_lines account.faults
      ⧺ tickets-shown 0 tickets answers i
      ⧺ last_line (fields_at texts account.program) (counts-shown tickets i) account.held (length account.faults) account.end

  -- the account of a state with this track in the present epoch
  abbrev pub account_at : World Place → Track → Account
  account_at w track = record (account_of by_sources w) { end = end_of (length w.acks) track }

module _ (programs : List (ℕ × Built)) (s : DrivenState) (alike : ReadsAlike programs s) where
  abbrev lifted : World Place
  lifted = map_world (placed_in programs) (world_by s)

  abbrev track : Track
  track = track_of (flow_by s) (world_by s)

  -- the account over the codes, with its faults as they are over the sources
  abbrev account : Account
  account = record (account_at s.programs programs s.case lifted track) { tickets = (account_by programs s).tickets }

  accounts : account_by programs s ≡ account
  accounts = λ i. record account { faults = faults-placed s.programs programs s.case (world_by s).faults i }

  pub account-driven : driven_account_text (sources_of programs) s.case (account_by programs s) s.answers
      ≡ driven_part (sources_of programs) s.case (state_by (sourced_by programs s) s) s.answers
  account-driven =
      (λ i. driven_account_text (sources_of programs) s.case (accounts i) s.answers)
      ∙ account-shown s.programs programs s.case account (world_by s).answered s.answers
      ∙ (λ i. driven_account_text (sources_of programs) s.case (account_at s.programs programs s.case (alike.state i) (alike.track i)) s.answers)
