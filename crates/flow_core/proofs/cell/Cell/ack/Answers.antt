use Rattle.std.proofs.Common.{◌≡◌, ℕ, ◌+◌, ◌<◌, List, [], ◌∷◌, ◌++◌, length, refl, ap, sym, ◌∙◌, subst, arith}
use Rattle.std.proofs.lemmas.Bool.{true≢false}
use Rattle.ccp_base.specs.declared.ack.Ack.{Ack}
use Rattle.link_model.specs.Link.{ack_after}
use Rattle.link_model.specs.Standing.{LinkState, Stands}
use Rattle.flow_core.specs.declared.case.Case.{Case}
use Rattle.flow_core.specs.World.{World, track_of, after_ack}
use Rattle.flow_core.specs.Cores.{CoreState, flow_in, world_in, acked_as, met_in, ran_met}
use Rattle.flow_core.specs.Cells.{CellState, flow_at, world_at, ack_at, acked_at, ran_at, IsCell}
use Rattle.flow_core.proofs.CellLemmas.{cell_of, same, acks-same, cell-A, world-A-at}
use Rattle.flow_core.proofs.cell.Cell.ack.Goals as goal

-- the link's acknowledgement, by what the core and the link say
given : (core : CoreState) (link : LinkState) → IsCell core link → (window : ℕ) (ack : Ack)
    → window ≡ (track_of (flow_in core) (world_in core)).env.cwnd
    → ((windows : List ℕ) → Stands link windows → ack ≡ ack_after link.case windows window)
    → ack ≡ ack_after core.case.link (world_in core).windows (track_of (flow_in core) (world_in core)).env.cwnd
given core link cell window ack is_window is_ack =
    is_ack (world_in core).windows cell.stands ∙ (λ i. ack_after (cell.case i) (world_in core).windows (is_window i))

at-link : (core : CoreState) (link : LinkState) → IsCell core link → (ack : Ack)
    → ack ≡ ack_after core.case.link (world_in core).windows (track_of (flow_in core) (world_in core)).env.cwnd
    → ack ≡ ack_at (cell_of core)
at-link core link cell ack is_ack =
    is_ack ∙ ap (λ (w : World ℕ). ack_after core.case.link w.windows (track_of (flow_in core) w).env.cwnd) (same core link cell)

pub invariant_of-self : goal.invariant_of-self
invariant_of-self g c =
    let core = c.self.inside.core in
    let link = c.self.inside.link in
    let window : c.cwnd-window.result ≡ (track_of (flow_in core) (world_in core)).env.cwnd = c.cwnd-window.ensures in
    let is_ack = given core link c.self.invariant c.cwnd-window.result c.next-ack.result window c.next-ack.ensures.ack in
    let most : c.case.result.now.acks ≡ core.case.acks = ap (λ (case : Case). case.acks) c.case.ensures.case in
    let left : length core.acks < core.case.acks = omega (arith, c.if-acks-case.false, c.acks.ensures, most) in
    cell-A core link c.self.invariant c.next-ack.result c.ack.new.self c.next-ack.new.self left c.in-Ok.ensures.ok c.in-Ok.ensures.world is_ack
    c.next-ack.ensures.case
    (subst (λ (n : ℕ). Stands c.next-ack.new.self ((world_in core).windows ++ n ∷ [])) window (c.next-ack.ensures.stands (world_in core).windows c.self.invariant.stands))
    c.next-ack.ensures.calls

pub returns-then-acks-case-clause-ended : goal.returns-then-acks-case-clause-ended
returns-then-acks-case-clause-ended g c =
    let core = c.self.inside.core in
    let most : c.case.result.now.acks ≡ core.case.acks = ap (λ (case : Case). case.acks) c.case.ensures.case in
    let acks : length core.acks ≡ length (world_at c.args.self.now).acks =
    ap length (acks-same core c.self.inside.link c.self.invariant) ∙ ap (λ (cell : CellState). length (world_at cell).acks) c.self.view_is in
    let case : core.case.acks ≡ c.args.self.now.case.acks = ap (λ (cell : CellState). cell.case.acks) c.self.view_is in
    (λ _. omega (arith, c.if-acks-case.true, c.acks.ensures, most, acks, case), λ _. refl)

pub returns-clause-ended : goal.returns-clause-ended
returns-clause-ended g c =
    let core = c.self.inside.core in
    let most : c.case.result.now.acks ≡ core.case.acks = ap (λ (case : Case). case.acks) c.case.ensures.case in
    let acks : length core.acks ≡ length (world_at c.args.self.now).acks =
    ap length (acks-same core c.self.inside.link c.self.invariant) ∙ ap (λ (cell : CellState). length (world_at cell).acks) c.self.view_is in
    let case : core.case.acks ≡ c.args.self.now.case.acks = ap (λ (cell : CellState). cell.case.acks) c.self.view_is in
    (λ wrong. absurd (true≢false (sym wrong)), λ all. absurd (omega (arith, all, c.if-acks-case.false, c.acks.ensures, most, acks, case)))

pub returns-clause-world : goal.returns-clause-world
returns-clause-world g c =
    world-A-at c.self.inside.core c.ack.new.self c.next-ack.result c.in-Ok.ensures.ok
    ∙ ap (λ (cell : CellState). after_ack (flow_at cell) (ack_at cell) (world_at cell)) c.self.view_is

pub returns-clause-acked : goal.returns-clause-acked
returns-clause-acked g c =
    let core = c.self.inside.core in
    let link = c.self.inside.link in
    let world = same core link c.self.invariant in
    let ack = at-link core link c.self.invariant c.next-ack.result (given core link c.self.invariant c.cwnd-window.result c.next-ack.result c.cwnd-window.ensures c.next-ack.ensures.ack) in
    c.in-Ok.ensures.acked ∙ (λ i. acked_as (met_in (flow_in core) (world i) (ack i)).0) ∙ ap acked_at c.self.view_is

pub returns-clause-steps : goal.returns-clause-steps
returns-clause-steps g c =
    let core = c.self.inside.core in
    let link = c.self.inside.link in
    let world = same core link c.self.invariant in
    let ack = at-link core link c.self.invariant c.next-ack.result (given core link c.self.invariant c.cwnd-window.result c.next-ack.result c.cwnd-window.ensures c.next-ack.ensures.ack) in
    c.in-Ok.ensures.steps
    ∙ ap (λ (n : ℕ). c.args.steps.now + n) ((λ i. ran_met core.case (world i) (ack i)) ∙ ap ran_at c.self.view_is)
