use Rattle.campaign_report.proofs.check.check_text.Goals as goal

pub summary-requires : goal.summary-requires
summary-requires c = c.args.built.now.compiled
