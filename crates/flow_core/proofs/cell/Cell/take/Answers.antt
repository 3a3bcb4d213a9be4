use Rattle.std.proofs.Common.{◌≡◌, ℕ, ◌↔◌, true, Option, Some, option_map, OnOk, Err, ap, ◌∙◌, subst}
use Rattle.agent_core.specs.declared.ticket.Ticket.{Ticket}
use Rattle.flow_core.specs.declared.cores.TakeFault.TheVariants.{NotYet, Out}
use Rattle.flow_core.specs.declared.letter.Letter.TheVariants.{T}
use Rattle.flow_core.specs.World.{World, after_take}
use Rattle.flow_core.specs.Words.{is_still}
use Rattle.flow_core.specs.Books.{out_ticket}
use Rattle.flow_core.specs.Cores.{flow_in}
use Rattle.flow_core.specs.Cells.{CellState, world_at, out_number_at}
use Rattle.flow_core.proofs.CellLemmas.{cell_of, same, cell-taken, world-grown, ticket-at}
use Rattle.flow_core.proofs.cell.Cell.take.Goals as goal

pub invariant_of-self : goal.invariant_of-self
invariant_of-self c =
    cell-taken c.self.inside.core c.self.inside.link c.self.invariant c.take.result c.take.new.self c.take.ensures.ok c.take.ensures.world c.take.ensures.unchanged

pub returns-clause-not_yet : goal.returns-clause-not_yet
returns-clause-not_yet c =
    let core = c.self.inside.core in
    subst (λ (still : _). (c.take.result ≡ Err NotYet) ↔ (still ≡ true))
    (ap is_still (same core c.self.inside.link c.self.invariant) ∙ ap (λ (cell : CellState). is_still (world_at cell)) c.self.view_is)
    c.take.ensures.not_yet

pub returns-clause-out : goal.returns-clause-out
returns-clause-out c = λ n.
    let core = c.self.inside.core in
    subst (λ (number : Option ℕ). (c.take.result ≡ Err (Out n)) ↔ (number ≡ Some n))
    (ap (λ (w : World ℕ). option_map (λ (ticket : Ticket). ticket.number) (out_ticket (flow_in core) w)) (same core c.self.inside.link c.self.invariant) ∙ ap out_number_at c.self.view_is)
    (c.take.ensures.out n)

pub returns-clause-world : goal.returns-clause-world
returns-clause-world c =
    let core = c.self.inside.core in
    subst (λ (w : World ℕ). OnOk c.take.result (world_at (cell_of c.take.new.self) ≡ after_take w)) (ap world_at c.self.view_is)
    (world-grown core c.take.new.self T c.take.result c.take.ensures.ok)

pub returns-clause-ticket : goal.returns-clause-ticket
returns-clause-ticket c =
    ticket-at c.take.new.self c.self.inside.link
    (cell-taken c.self.inside.core c.self.inside.link c.self.invariant c.take.result c.take.new.self c.take.ensures.ok c.take.ensures.world c.take.ensures.unchanged)
    c.take.result c.take.ensures.ticket
