use Rattle.portus_core.specs.Programs.{term_of}
use Rattle.portus_core.specs.Command.{value_in}
use Rattle.portus_core.specs.Blocks.{at_block}
use Rattle.range_cases.specs.Cases.{IsCase}
use Rattle.range_cases.proofs.BlockLemmas.{condition_parts}
use Rattle.range_cases.proofs.steps.enter_case.Goals as goal

pub returns-clause-enters : goal.returns-clause-enters
returns-clause-enters c ack going is =
    let begun : IsCase c.at_block-begun.result ack (at_block going) = c.at_block-begun.ensures ack going is in
    condition_parts c.evaluated.new.faults c.evaluated.new.faults c.args.turn c.in_ok-evaluated.field-0 c.put_some.new.made.items c.put_some-2.new.made.items ack (at_block going)
    (value_in (term_of c.args.condition.now) ack (at_block going)) (c.in_ok-evaluated.ensures.meets ack (at_block going) begun) (λ cause at listed. listed)
    (λ value same truth. c.in_ok-put_some.ensures.has ack (at_block going) (c.refined.ensures ack (at_block going) value begun same truth))
    (λ value same truth. c.in_ok-put_some-2.ensures.has ack (at_block going) (c.refined-2.ensures ack (at_block going) value begun same truth))
