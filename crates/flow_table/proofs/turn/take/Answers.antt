use Rattle.std.proofs.Common.{◌≡◌, Ok, Err, Some, None, option_map, sym, ap, ◌∙◌}
use Rattle.agent_core.specs.declared.ticket.Ticket.{Ticket}
use Rattle.flow_core.specs.declared.cores.TakeFault.TheVariants as fault
use Rattle.flow_core.specs.Cells.{out_number_at}
use Rattle.flow_table.proofs.TurnLemmas.{may-be-taken, made-T, nearer-T}
use Rattle.flow_table.proofs.turn.take.Goals as goal

pub returns-in-Ok-clause-made : goal.returns-in-Ok-clause-made
returns-in-Ok-clause-made c is =
    nearer-T c.args.cell.now c.take.new.self c.in-Ok.ensures.ok c.in-Ok.ensures.world
    (may-be-taken c.args.cell.now c.requires
    (λ still. absurd (let wrong : Ok c.in-Ok.field-0 ≡ Err fault.NotYet = sym c.in-Ok.is ∙ c.take.ensures.not_yet.1 still in (cc))))

pub returns-in-Ok-clause-order : goal.returns-in-Ok-clause-order
returns-in-Ok-clause-order c is =
    made-T c.args.cell.now c.take.new.self c.in-Ok.ensures.ok
    (may-be-taken c.args.cell.now c.requires
    (λ still. absurd (let wrong : Ok c.in-Ok.field-0 ≡ Err fault.NotYet = sym c.in-Ok.is ∙ c.take.ensures.not_yet.1 still in (cc))))

pub returns-in-Err-Out-clause-not : goal.returns-in-Err-Out-clause-not
returns-in-Err-Out-clause-not c is =
    let cell = c.args.cell.now in
    let n = c.in-Err-Out.field-0-0 in
    let refused : c.take.result ≡ Err (fault.Out n) = c.in-Err-Out.is ∙ ap Err c.in-Err-Out.field-0-is in
    let out : out_number_at cell ≡ Some n = (c.take.ensures.out n).0 refused in
    let none : out_number_at cell ≡ None = ap (option_map (λ (ticket : Ticket). ticket.number)) c.requires in
    absurd (let wrong : None ≡ Some n = sym none ∙ out in (cc))
