use Rattle.std.proofs.Common.{List, map, sym, ◌∙◌, subst}
use Rattle.portus_core.specs.declared.program.Block.{Block}
use Rattle.portus_core.specs.Programs.{part_of}
use Rattle.portus_core.specs.ProgramForm.{form_of}
use Rattle.portus_core.specs.Blocks.{before_blocks, blocks_of}
use Rattle.portus_core.proofs.EnvShapes.{IsEnvOf-blocks}
use Rattle.portus_core.proofs.ValidIsRunnable.{are_runnable-from_valid}
use Rattle.range_cases.specs.declared.case.Case.{Case}
use Rattle.range_cases.specs.Cases.{HasSizes, IsAmong, LeadsTo}
use Rattle.program_bounds.specs.declared.found.Found.{Found}
use Rattle.program_bounds.specs.declared.premises.Kind.{Kind}
use Rattle.program_bounds.specs.Premises.{IsOfSome}
use Rattle.program_bounds.proofs.TurnLemmas.{turned_run}
use Rattle.program_bounds.proofs.UpdateLemmas.{within_widens}
use Rattle.program_bounds.proofs.turns.turn.Goals as goal

pub blocks-requires : goal.blocks-requires
blocks-requires c = rw c.deref.ensures.value (are_runnable-from_valid (form_of c.args.program.now) c.args.program.now.valid)

pub returns-clause-turn : goal.returns-clause-turn
returns-clause-turn c env ack room shape kept meets has_room =
    let form = form_of c.args.program.now in
    let found : Found = record { faults = c.blocks-2.new.faults; report = c.settle.new.report } in
    let sizes : HasSizes c.sizes_of-sizes.result env = record {
      fields = shape.fields ∙ sym c.sizes_of-sizes.ensures.fields;
      controls = shape.controls ∙ sym c.sizes_of-sizes.ensures.controls;
    } in
    let kinds : IsOfSome c.as_slice.result.now ack = subst (λ (ks : List Kind). IsOfSome ks ack) (sym c.as_slice.ensures) meets.kind in
    let among : IsAmong c.in_ok-cases.cases.items ack (before_blocks env) = c.in_ok-cases.ensures env ack kept sizes kinds in
    turned_run form found c.args.number c.settle.new.next c.update.new.state c.blocks-2.new.ends.items ack env room (blocks_of form.blocks ack (before_blocks env))
    (subst (λ (bs : List Block). LeadsTo c.blocks-2.new.faults c.args.number c.blocks-2.new.ends.items ack (blocks_of (map part_of bs) ack (before_blocks env))) c.deref.ensures.value
    (c.in_ok-blocks.ensures.leads ack (before_blocks env) (subst (λ (cs : List Case). IsAmong cs ack (before_blocks env)) (sym c.as_slice-2.ensures.value) among)))
    (IsEnvOf-blocks form form.blocks ack (before_blocks env) shape)
    (λ going here whole. c.settle.ensures.settled ack going room (subst (λ (cs : List Case). IsAmong cs ack going) (sym c.as_slice-3.ensures.value) here) whole has_room)
    (within_widens c.settle.new.next c.update.new.state c.update.ensures.widens)
    (within_widens c.settle.new.next c.update.new.state c.update.ensures.widens env (c.settle.ensures.within env kept))

pub returns-clause-within : goal.returns-clause-within
returns-clause-within c env kept = within_widens c.settle.new.next c.update.new.state c.update.ensures.widens env (c.settle.ensures.within env kept)
