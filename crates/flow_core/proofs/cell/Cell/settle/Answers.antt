use Rattle.std.proofs.Common.{◌≡◌, ℕ, ◌↔◌, Option, Some, option_map, IsOk, IfErr, OnOk, ap, ◌∙◌, subst}
use Rattle.agent_core.specs.declared.ticket.Ticket.{Ticket}
use Rattle.flow_core.specs.declared.letter.Letter.TheVariants.{C}
use Rattle.flow_core.specs.World.{World, after_answer}
use Rattle.flow_core.specs.Books.{out_ticket}
use Rattle.flow_core.specs.Cores.{flow_in}
use Rattle.flow_core.specs.Cells.{CellState, flow_at, world_at, out_at, out_number_at}
use Rattle.flow_core.proofs.CellLemmas.{cell_of, same, cell-settled, world-grown}
use Rattle.flow_core.proofs.cell.Cell.settle.Goals as goal

pub invariant_of-self : goal.invariant_of-self
invariant_of-self c =
    cell-settled c.self.inside.core c.self.inside.link c.self.invariant c.settle.result c.settle.new.self c.settle.ensures.ok c.settle.ensures.world c.settle.ensures.unchanged

pub returns-clause-settled : goal.returns-clause-settled
returns-clause-settled c =
    let core = c.self.inside.core in
    subst (λ (out : Option Ticket). IsOk c.settle.result ↔ (out ≡ Some c.args.answer))
    (ap (out_ticket (flow_in core)) (same core c.self.inside.link c.self.invariant) ∙ ap out_at c.self.view_is)
    c.settle.ensures.settled

pub returns-clause-world : goal.returns-clause-world
returns-clause-world c =
    let core = c.self.inside.core in
    subst (λ (cell : CellState). OnOk c.settle.result (world_at (cell_of c.settle.new.self) ≡ after_answer (flow_at cell) (world_at cell))) c.self.view_is
    (world-grown core c.settle.new.self C c.settle.result c.settle.ensures.ok)

pub returns-clause-stale : goal.returns-clause-stale
returns-clause-stale c =
    let core = c.self.inside.core in
    subst (λ (number : Option ℕ). IfErr c.settle.result (λ stale. (stale.answer ≡ c.args.answer) × (stale.out ≡ number)))
    (ap (λ (w : World ℕ). option_map (λ (ticket : Ticket). ticket.number) (out_ticket (flow_in core) w)) (same core c.self.inside.link c.self.invariant) ∙ ap out_number_at c.self.view_is)
    c.settle.ensures.stale
