use Rattle.ccp_run.proofs.TimelineLemmas.{acks_told}
use Rattle.ccp_run.proofs.modes.acks.run_acks.Goals as goal

pub returns-clause-tells : goal.returns-clause-tells
returns-clause-tells g c =
    acks_told c.args.scene.programs c.requires.numbered c.args.scene.cases c.requires.coded c.cases_text-text.result c.text_output.result
    c.cases_text-text.ensures.text c.cases_text-text.ensures.source c.text_output.ensures.text c.text_output.ensures.books c.text_output.ensures.ran
