use Rattle.std.proofs.Common.{List, map, sym, subst}
use Rattle.portus_core.specs.declared.program.Block.{Block}
use Rattle.portus_core.specs.declared.program.Cmd.{Cmd}
use Rattle.portus_core.specs.Programs.{term_of, action_of, part_of}
use Rattle.portus_core.specs.Command.{value_in, run_commands}
use Rattle.portus_core.specs.Blocks.{at_block, blocks_of}
use Rattle.range_cases.specs.declared.case.Case.{Case}
use Rattle.range_cases.specs.Cases.{IsAmong, LeadsTo}
use Rattle.range_cases.proofs.BlockLemmas.{leads_block}
use Rattle.range_cases.proofs.steps.+blocks.Goals as goal

pub returns-in_ok-blocks-in-Some-clause-leads : goal.returns-in_ok-blocks-in-Some-clause-leads
returns-in_ok-blocks-in-Some-clause-leads t c ack going among =
    subst (λ (xs : List Block). LeadsTo c.blocks-in-Some.new.faults c.args.turn c.blocks-in-Some.new.ends.items ack (blocks_of (map part_of xs) ack going)) (sym c.in-Some.ensures.cases.0)
    (leads_block c.enter.new.faults c.body.new.faults c.blocks-in-Some.new.faults c.args.turn c.enter.new.held.items c.body.new.ends.items c.enter.new.next.items c.leave.new.next.items c.leave.new.ends.items c.blocks-in-Some.new.ends.items ack
    (value_in (term_of c.in-Some.part.now.condition) ack (at_block going)) (map action_of c.in-Some.part.now.body.items) (blocks_of (map part_of c.in-Some.rest.now) ack) (at_block going)
    (c.in_ok-enter-in-Some.ensures.enters ack going among)
    (λ cause at listed. c.blocks-in-Some.ensures.listed cause at (c.body.ensures.listed cause at listed))
    (λ g held. subst (λ (xs : List Cmd). LeadsTo c.body.new.faults c.args.turn c.body.new.ends.items ack (run_commands (map action_of xs) ack g)) c.deref.ensures.value
    (c.in_ok-body-in-Some.ensures.leads ack g (subst (λ (xs : List Case). IsAmong xs ack g) (sym c.as_slice.ensures.value) held)))
    c.blocks-in-Some.ensures.listed
    (λ g ran. c.in_ok-leave-in-Some.ensures.parts ack g (subst (λ (xs : List Case). IsAmong xs ack g) (sym c.as_slice-in-Some.ensures.value) ran))
    c.in_ok-leave-in-Some.ensures.next
    c.in_ok-blocks-in-Some.ensures.keeps
    (λ g next. c.in_ok-blocks-in-Some.ensures.leads ack g (subst (λ (xs : List Case). IsAmong xs ack g) (sym c.as_slice-in-Some-2.ensures.value) next)))
