use Rattle.ccp_run.proofs.CampaignLemmas.{table_told}
use Rattle.ccp_run.proofs.modes.campaign.run_campaign.Goals as goal

pub returns-clause-tells : goal.returns-clause-tells
returns-clause-tells g c =
    table_told c.args.wire c.args.scene.programs c.args.scene.cases c.cases_text-text.result c.text_output.result c.cases_text-text.ensures
    c.text_output.ensures.text c.text_output.ensures.books c.text_output.ensures.ran
