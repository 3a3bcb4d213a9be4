use Rattle.driven_flow.proofs.StepLemmas.{step-settled, is-settled}
use Rattle.driven_flow.proofs.letters.settle.Goals as goal

pub returns-clause-driven : goal.returns-clause-driven
returns-clause-driven c =
    is-settled c.args.programs.now c.args.case.now c.args.running.now c.requires.driven c.requires.out c.close.new.self c.apply.new.running c.args.answer.now
    c.close.ensures.frame c.apply.ensures

pub returns-clause-step : goal.returns-clause-step
returns-clause-step c =
    step-settled c.args.programs.now c.args.case.now c.args.running.now c.requires.driven c.requires.out c.close.new.self c.apply.new.running c.args.answer.now
    c.close.ensures.frame c.apply.ensures
