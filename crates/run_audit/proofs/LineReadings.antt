-- What is read off the lines of an account.
use Rattle.std.proofs.Common.{◌≡◌, not, ℕ, ◌+◌, ◌^◌, ◌<◌, true, false, Option, Some, List, [], ◌∷◌, ◌++◌, drop, codes, decimal, nat_eq, refl, ap, ◌∙◌, arith, cond, append_assoc, append-nil}
use Rattle.std.specs.Bool.{⊤}
use Rattle.std.specs.List.{list_all, starts_with}
use Rattle.ccp_base.specs.declared.arithmetic.FaultKind.{FaultKind}
use Rattle.ccp_base.specs.declared.arithmetic.FaultKind.TheVariants.{Overflow, Underflow, ZeroDivisor}
use Rattle.ccp_base.specs.declared.exchange.Reply.{Reply}
use Rattle.ccp_base.specs.declared.exchange.Reply.TheVariants.{Nothing, Update, Change}
use Rattle.ccp_base.specs.declared.exchange.Report as report_type
use Rattle.ccp_base.specs.declared.exchange.Told.{Told}
use Rattle.ccp_base.specs.declared.exchange.Told.TheVariants.{Report, Fault}
use Rattle.ccp_base.specs.declared.parts.Separator.TheVariants.{LineFeed, Blank}
use Rattle.ccp_base.specs.declared.place.Place.{Place}
use Rattle.ccp_base.specs.Parts.{separates, parts_of, with_first}
use Rattle.portus_core.specs.declared.program.Decl.{Decl}
use Rattle.report_lines.specs.FieldsText.{window_text, field_text, fields_text}
use Rattle.report_lines.specs.ReportLine.{report_head}
use Rattle.report_lines.specs.FaultLine.{kind_text, fault_head}
use Rattle.flow_core.specs.declared.book.EpochLine.{EpochLine}
use Rattle.flow_core.specs.declared.book.TicketLine.{TicketLine}
use Rattle.flow_core.specs.World.{Failure}
use Rattle.reg_compiler.specs.Sources.{Sources}
use Rattle.flow_core.specs.LiveText.{fields_at, Account, epoch_lines, fault_lines, reply_text, answer_text, told_text, ticket_lines, ticket_text, account_end_line}
use Rattle.run_audit.specs.PartLeft.{body_text}
use Rattle.run_audit.specs.Marks.{marks_at, ticket_marks, past, first_number, marked_number, number_by, marks_if, marks_in, marks_of_lines, text_marks}
use Rattle.run_audit.proofs.ForcedLemmas.{AreWithin}
use Rattle.ccp_base.proofs.DecimalLemmas.{joined, joined-append, numeral_of-decimal}
use Rattle.run_audit.proofs.Pieces.{IsPlain, plain-append, ended-part, decimal-plain, IsQuiet, quiet-append, quiet-decimal, ArePlain, AreQuiet, quiet-plain, first_line, taken-past, answered-past}

-- a line is the first of a text
line-marks : (pieces : List (List ℕ)) (rest : List ℕ) → ArePlain pieces → starts_with nat_eq (joined pieces []) (codes "end ") ≡ false
    → text_marks (joined pieces (codes "\n" ++ rest)) ≡ marks_in (joined pieces []) ++ text_marks rest
line-marks pieces rest are other =
    ap marks_of_lines (first_line pieces rest are)
    ∙ ap (λ b. cond b [] (marks_in (joined pieces []) ++ text_marks rest)) other

-- a line of quiet pieces shows no letter
quiet_line : (pieces : List (List ℕ)) (rest : List ℕ) → AreQuiet pieces → starts_with nat_eq (joined pieces []) (codes "end ") ≡ false
    → text_marks (joined pieces (codes "\n" ++ rest)) ≡ text_marks rest
quiet_line pieces rest are other =
    line-marks pieces rest (quiet-plain pieces are) other
    ∙ ap (λ (o : Option (List ℕ)). marks_if (marked_number o) (number_by (codes "answered=") (joined pieces [])) ++ text_marks rest) (taken-past pieces [] are)

-- ---- epochs and faults

pub epochs-marks : (number : ℕ) (epochs : List EpochLine) (more : List ℕ) → text_marks (epoch_lines number epochs ++ more) ≡ text_marks more
epochs-marks number [] more = refl
epochs-marks number (epoch ∷ rest) more =
    ap text_marks (append_assoc (joined pieces (codes "\n" ++ [])) (epoch_lines (number + 1) rest) more ∙ joined-append pieces (codes "\n" ++ []) (epoch_lines (number + 1) rest ++ more))
    ∙ quiet_line pieces (epoch_lines (number + 1) rest ++ more) are refl
    ∙ epochs-marks (number + 1) rest more
  where
    pieces : List (List ℕ)
    pieces = codes "epoch " ∷ decimal number ∷ codes " program=" ∷ decimal epoch.program ∷ codes " at=" ∷ decimal epoch.at ∷ codes " cwnd=" ∷ decimal epoch.cwnd ∷ []

    are : AreQuiet pieces
    are = (
      record { plain = record { plain = refl }; taken = λ rest. refl; answered = λ rest. refl },
      (
        quiet-decimal number,
        (
          record { plain = record { plain = refl }; taken = λ rest. refl; answered = λ rest. refl },
          (
            quiet-decimal epoch.program,
            (
              record { plain = record { plain = refl }; taken = λ rest. refl; answered = λ rest. refl },
              (
                quiet-decimal epoch.at,
                (
                  record { plain = record { plain = refl }; taken = λ rest. refl; answered = λ rest. refl },
                  (
                    quiet-decimal epoch.cwnd,
                    tt,
                  ),
                ),
              ),
            ),
          ),
        ),
      ),
    )

quiet-kind : (kind : FaultKind) → IsQuiet (kind_text kind)
quiet-kind Overflow = record { plain = record { plain = refl }; taken = λ rest. refl; answered = λ rest. refl }
quiet-kind Underflow = record { plain = record { plain = refl }; taken = λ rest. refl; answered = λ rest. refl }
quiet-kind ZeroDivisor = record { plain = record { plain = refl }; taken = λ rest. refl; answered = λ rest. refl }

quiet-fault_head : (epoch at : ℕ) → IsQuiet (fault_head epoch at)
quiet-fault_head epoch at =
    quiet-append {x = codes "fault epoch="} {y = decimal epoch ++ (codes " ack=" ++ decimal at)}
    (record { plain = record { plain = refl }; taken = λ rest. refl; answered = λ rest. refl })
    (quiet-append {x = decimal epoch} {y = codes " ack=" ++ decimal at} (quiet-decimal epoch)
    (quiet-append {x = codes " ack="} {y = decimal at} (record { plain = record { plain = refl }; taken = λ rest. refl; answered = λ rest. refl }) (quiet-decimal at)))

pub faults-marks : (faults : List (Failure Place)) (more : List ℕ) → text_marks (fault_lines faults ++ more) ≡ text_marks more
faults-marks [] more = refl
faults-marks (failure ∷ rest) more =
    ap text_marks (append_assoc (joined pieces (codes "\n" ++ [])) (fault_lines rest) more ∙ joined-append pieces (codes "\n" ++ []) (fault_lines rest ++ more))
    ∙ quiet_line pieces (fault_lines rest ++ more) are refl
    ∙ faults-marks rest more
  where
    pieces : List (List ℕ)
    pieces = fault_head failure.epoch failure.at ∷ codes " kind=" ∷ kind_text failure.kind ∷ codes " at=" ∷ decimal failure.site.line ∷ codes ":" ∷ decimal failure.site.column ∷ []

    are : AreQuiet pieces
    are = (
      quiet-fault_head failure.epoch failure.at,
      (
        record { plain = record { plain = refl }; taken = λ rest. refl; answered = λ rest. refl },
        (
          quiet-kind failure.kind,
          (
            record { plain = record { plain = refl }; taken = λ rest. refl; answered = λ rest. refl },
            (
              quiet-decimal failure.site.line,
              (
                record { plain = record { plain = refl }; taken = λ rest. refl; answered = λ rest. refl },
                (
                  quiet-decimal failure.site.column,
                  tt,
                ),
              ),
            ),
          ),
        ),
      ),
    )

-- ---- tickets

abbrev told_pieces : Sources → Told → List ℕ → List (List ℕ)
told_pieces sources (Report report) answer =
    report_head report ∷ answer ∷ codes " now=" ∷ decimal report.now ∷ window_text report.cwnd report.rate
    ∷ fields_text (fields_at sources report.program) report.fields ∷ []
told_pieces sources (Fault notice) answer = fault_head notice.epoch notice.at ∷ answer ∷ []

told-pieces : (sources : Sources) (told : Told) (answer rest : List ℕ) → told_text sources told answer ++ rest ≡ joined (told_pieces sources told answer) (codes "\n" ++ rest)
told-pieces sources (Report report) answer rest = joined-append (told_pieces sources (Report report) answer) (codes "\n" ++ []) rest
told-pieces sources (Fault notice) answer rest = joined-append (told_pieces sources (Fault notice) answer) (codes "\n" ++ []) rest

-- what stands before and after the answer
abbrev told_front : Told → List ℕ
told_front (Report report) = report_head report
told_front (Fault notice) = fault_head notice.epoch notice.at

abbrev told_back : Sources → Told → List (List ℕ)
told_back sources (Report report) =
    codes " now=" ∷ decimal report.now ∷ window_text report.cwnd report.rate ∷ fields_text (fields_at sources report.program) report.fields ∷ []
told_back sources (Fault notice) = []

told-split : (sources : Sources) (told : Told) (answer : List ℕ) → told_pieces sources told answer ≡ told_front told ∷ answer ∷ told_back sources told
told-split sources (Report report) answer = refl
told-split sources (Fault notice) answer = refl

literal_dots : IsQuiet (codes "..")
literal_dots = record { plain = record { plain = refl }; taken = λ rest. refl; answered = λ rest. refl }

quiet-report_head : (report : report_type.Report) → IsQuiet (report_head report)
quiet-report_head report =
    quiet-append {x = codes "report program="} {y = from_program} (record { plain = record { plain = refl }; taken = λ rest. refl; answered = λ rest. refl })
    (quiet-append {x = decimal report.program} {y = codes " epoch=" ++ from_epoch} (quiet-decimal report.program)
    (quiet-append {x = codes " epoch="} {y = from_epoch} (record { plain = record { plain = refl }; taken = λ rest. refl; answered = λ rest. refl })
    (quiet-append {x = decimal report.epoch} {y = codes " span=" ++ from_first} (quiet-decimal report.epoch)
    (quiet-append {x = codes " span="} {y = from_first} (record { plain = record { plain = refl }; taken = λ rest. refl; answered = λ rest. refl })
    (quiet-append {x = decimal report.first} {y = codes ".." ++ decimal report.end} (quiet-decimal report.first)
    (quiet-append {x = codes ".."} {y = decimal report.end} literal_dots (quiet-decimal report.end)))))))
  where
    from_first : List ℕ
    from_first = decimal report.first ++ (codes ".." ++ decimal report.end)

    from_epoch : List ℕ
    from_epoch = decimal report.epoch ++ (codes " span=" ++ from_first)

    from_program : List ℕ
    from_program = decimal report.program ++ (codes " epoch=" ++ from_epoch)

quiet-front : (told : Told) → IsQuiet (told_front told)
quiet-front (Report report) = quiet-report_head report
quiet-front (Fault notice) = quiet-fault_head notice.epoch notice.at

-- ---- plain pieces after the answer

-- no name of a field has a line's end
abbrev pub ArePlainly : List Decl → Type 0
ArePlainly [] = ⊤
ArePlainly (decl ∷ rest) = IsPlain LineFeed decl.name × ArePlainly rest

-- nor any of these sources
pub record HasPlainNames (sources : Sources) : Type 0 where
  pub at : (number : ℕ) → ArePlainly (fields_at sources number)

literal : (text : List ℕ) → list_all (λ byte. not (separates LineFeed byte)) text ≡ true → IsPlain LineFeed text
literal text is = record { plain = is }

plain-fields : (decls : List Decl) (values : List ℕ) → ArePlainly decls → IsPlain LineFeed (fields_text decls values)
plain-fields [] values are = literal [] refl
plain-fields (decl ∷ decls) [] are = literal [] refl
plain-fields (decl ∷ decls) (value ∷ values) are =
    plain-append {x = field_text decl value} {y = fields_text decls values}
    (plain-append {x = codes " "} {y = decl.name ++ (codes "=" ++ decimal value)} (literal (codes " ") refl)
    (plain-append {x = decl.name} {y = codes "=" ++ decimal value} are.0
    (plain-append {x = codes "="} {y = decimal value} (literal (codes "=") refl) (decimal-plain LineFeed value))))
    (plain-fields decls values are.1)

plain-window : (cwnd rate : ℕ) → IsPlain LineFeed (window_text cwnd rate)
plain-window cwnd rate =
    plain-append {x = codes " cwnd="} {y = decimal cwnd ++ (codes " rate=" ++ decimal rate)} (literal (codes " cwnd=") refl)
    (plain-append {x = decimal cwnd} {y = codes " rate=" ++ decimal rate} (decimal-plain LineFeed cwnd)
    (plain-append {x = codes " rate="} {y = decimal rate} (literal (codes " rate=") refl) (decimal-plain LineFeed rate)))

plain-reply : (reply : Reply) → IsPlain LineFeed (reply_text reply)
plain-reply Nothing = literal (codes "none") refl
plain-reply (Update cwnd) = plain-append {x = codes "update:"} {y = decimal cwnd} (literal (codes "update:") refl) (decimal-plain LineFeed cwnd)
plain-reply (Change program cwnd cap) =
    plain-append {x = codes "change:"} {y = decimal program ++ (codes ":" ++ (decimal cwnd ++ (codes ":" ++ decimal cap)))} (literal (codes "change:") refl)
    (plain-append {x = decimal program} {y = codes ":" ++ (decimal cwnd ++ (codes ":" ++ decimal cap))} (decimal-plain LineFeed program)
    (plain-append {x = codes ":"} {y = decimal cwnd ++ (codes ":" ++ decimal cap)} (literal (codes ":") refl)
    (plain-append {x = decimal cwnd} {y = codes ":" ++ decimal cap} (decimal-plain LineFeed cwnd)
    (plain-append {x = codes ":"} {y = decimal cap} (literal (codes ":") refl) (decimal-plain LineFeed cap)))))

-- what follows the number of an answer's first count, and of its second one
abbrev after_answered : TicketLine → List ℕ
after_answered ticket = codes " reply=" ++ reply_text ticket.reply

abbrev after_taken : TicketLine → List ℕ
after_taken ticket = codes " answered=" ++ (decimal ticket.answered ++ after_answered ticket)

plain-answer : (ticket : TicketLine) → IsPlain LineFeed (answer_text ticket)
plain-answer ticket =
    plain-append {x = codes " taken="} {y = decimal ticket.taken ++ after_taken ticket} (literal (codes " taken=") refl)
    (plain-append {x = decimal ticket.taken} {y = after_taken ticket} (decimal-plain LineFeed ticket.taken)
    (plain-append {x = codes " answered="} {y = decimal ticket.answered ++ after_answered ticket} (literal (codes " answered=") refl)
    (plain-append {x = decimal ticket.answered} {y = after_answered ticket} (decimal-plain LineFeed ticket.answered)
    (plain-append {x = codes " reply="} {y = reply_text ticket.reply} (literal (codes " reply=") refl) (plain-reply ticket.reply)))))

plain-back : (sources : Sources) (told : Told) → HasPlainNames sources → ArePlain (told_back sources told)
plain-back sources (Report report) named = (
  literal (codes " now=") refl,
  (
    decimal-plain LineFeed report.now,
    (
      plain-window report.cwnd report.rate,
      (
        plain-fields (fields_at sources report.program) report.fields (named.at report.program),
        tt,
      ),
    ),
  ),
)
plain-back sources (Fault notice) named = tt

-- ---- the counts of an answer

-- the number before a blank is read
number-front : (n : ℕ) (more : List ℕ) → n < 2 ^ 64 → marked_number (Some (decimal n ++ 32 ∷ more)) ≡ Some n
number-front n more fits = ap first_number (ended-part Blank (decimal n) 32 more (decimal-plain Blank n) refl) ∙ numeral_of-decimal n fits

taken-read : (ticket : TicketLine) (back : List ℕ) → ticket.taken < 2 ^ 64 → number_by (codes "taken=") (answer_text ticket ++ back) ≡ Some ticket.taken
taken-read ticket back fits =
    ap (λ text. marked_number (Some text)) (append_assoc (decimal ticket.taken) (after_taken ticket) back)
    ∙ number-front ticket.taken (codes "answered=" ++ ((decimal ticket.answered ++ after_answered ticket) ++ back)) fits

answered-read : (ticket : TicketLine) (back : List ℕ) → ticket.answered < 2 ^ 64 → number_by (codes "answered=") (answer_text ticket ++ back) ≡ Some ticket.answered
answered-read ticket back fits =
    ap (λ text. marked_number (past (codes "answered=") text)) (append_assoc (decimal ticket.taken) (after_taken ticket) back)
    ∙ ap marked_number ((quiet-decimal ticket.taken).answered (after_taken ticket ++ back))
    ∙ ap (λ text. marked_number (Some text)) (append_assoc (decimal ticket.answered) (after_answered ticket) back)
    ∙ number-front ticket.answered (codes "reply=" ++ (reply_text ticket.reply ++ back)) fits

-- ---- the line of a ticket

abbrev ticket_front : ℕ → Told → List (List ℕ)
ticket_front number told = codes "ticket " ∷ decimal number ∷ codes " " ∷ told_front told ∷ []

abbrev ticket_pieces : Sources → ℕ → TicketLine → List (List ℕ)
ticket_pieces sources number ticket =
    codes "ticket " ∷ decimal number ∷ codes " " ∷ told_front ticket.told ∷ answer_text ticket ∷ told_back sources ticket.told

quiet-ticket_front : (number : ℕ) (told : Told) → AreQuiet (ticket_front number told)
quiet-ticket_front number told = (
  record { plain = record { plain = refl }; taken = λ rest. refl; answered = λ rest. refl },
  (
    quiet-decimal number,
    (
      record { plain = record { plain = refl }; taken = λ rest. refl; answered = λ rest. refl },
      (
        quiet-front told,
        tt,
      ),
    ),
  ),
)

plain-ticket : (sources : Sources) (number : ℕ) (ticket : TicketLine) → HasPlainNames sources → ArePlain (ticket_pieces sources number ticket)
plain-ticket sources number ticket named =
    let front = quiet-plain (ticket_front number ticket.told) (quiet-ticket_front number ticket.told) in
    (front.0, (front.1.0, (front.1.1.0, (front.1.1.1.0, (plain-answer ticket, plain-back sources ticket.told named)))))

ticket-marks : (sources : Sources) (number : ℕ) (ticket : TicketLine) → ticket.taken < 2 ^ 64 → ticket.answered < 2 ^ 64
    → marks_in (joined (ticket_pieces sources number ticket) []) ≡ marks_at ticket.taken ticket.answered
ticket-marks sources number ticket taken answered =
    let back = joined (told_back sources ticket.told) [] in
    let front = quiet-ticket_front number ticket.told in
    let t : number_by (codes "taken=") (joined (ticket_pieces sources number ticket) []) ≡ Some ticket.taken =
    ap marked_number (taken-past (ticket_front number ticket.told) (answer_text ticket ++ back) front) ∙ taken-read ticket back taken in
    let a : number_by (codes "answered=") (joined (ticket_pieces sources number ticket) []) ≡ Some ticket.answered =
    ap marked_number (answered-past (ticket_front number ticket.told) (answer_text ticket ++ back) front) ∙ answered-read ticket back answered in
    λ i. marks_if (t i) (a i)

pub tickets-marks : (sources : Sources) → HasPlainNames sources → (most : ℕ) → most < 2 ^ 64 → (number : ℕ) (tickets : List TicketLine) (more : List ℕ) → AreWithin most (ticket_marks tickets)
    → text_marks (ticket_lines sources number tickets ++ more) ≡ ticket_marks tickets ++ text_marks more
tickets-marks sources named most fits number [] more within = refl
tickets-marks sources named most fits number (ticket ∷ rest) more within =
    ap text_marks text
    ∙ line-marks (ticket_pieces sources number ticket) (later ++ more) (plain-ticket sources number ticket named) refl
    ∙ ap (λ ms. ms ++ text_marks (later ++ more)) (ticket-marks sources number ticket (omega (arith, fits, within.0)) (omega (arith, fits, within.1.0)))
    ∙ ap (λ ms. marks_at ticket.taken ticket.answered ++ ms) (tickets-marks sources named most fits (number + 1) rest more within.1.1)
  where
    later : List ℕ
    later = ticket_lines sources (number + 1) rest

    text : ticket_lines sources number (ticket ∷ rest) ++ more ≡ joined (ticket_pieces sources number ticket) (codes "\n" ++ (later ++ more))
    text =
        append_assoc (ticket_text sources number ticket) later more
        ∙ joined-append (codes "ticket " ∷ decimal number ∷ codes " " ∷ []) (told_text sources ticket.told (answer_text ticket)) (later ++ more)
        ∙ ap (joined (codes "ticket " ∷ decimal number ∷ codes " " ∷ [])) (
        told-pieces sources ticket.told (answer_text ticket) (later ++ more)
        ∙ ap (λ pieces. joined pieces (codes "\n" ++ (later ++ more))) (told-split sources ticket.told (answer_text ticket)))

-- ---- the end

pub end-marks : (after : List ℕ) → text_marks (codes "end " ++ after) ≡ []
end-marks after = go (parts_of LineFeed after)
  where
    go : (parts : List (List ℕ)) → marks_of_lines (with_first 101 (with_first 110 (with_first 100 (with_first 32 parts)))) ≡ []
    go [] = refl
    go (part ∷ rest) = refl

-- ---- an account

-- what is read off an account's text are the letters of its tickets
pub account-marks : (sources : Sources) → HasPlainNames sources → (most : ℕ) → most < 2 ^ 64 → (account : Account) (more : List ℕ) → AreWithin most (ticket_marks account.tickets)
    → text_marks (body_text sources account ++ more) ≡ ticket_marks account.tickets
account-marks sources named most fits account more within =
    let e = epoch_lines 0 account.epochs in
    let f = fault_lines account.faults in
    let t = ticket_lines sources 0 account.tickets in
    let d = account_end_line sources account in
    ap text_marks (append_assoc e (f ++ (t ++ d)) more)
    ∙ epochs-marks 0 account.epochs ((f ++ (t ++ d)) ++ more)
    ∙ ap text_marks (append_assoc f (t ++ d) more)
    ∙ faults-marks account.faults ((t ++ d) ++ more)
    ∙ ap text_marks (append_assoc t d more)
    ∙ tickets-marks sources named most fits 0 account.tickets (d ++ more) within
    ∙ ap (λ ms. ticket_marks account.tickets ++ ms) (end-marks (drop 4 (d ++ more)))
    ∙ append-nil (ticket_marks account.tickets)
