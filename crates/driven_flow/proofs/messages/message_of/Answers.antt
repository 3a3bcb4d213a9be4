use Rattle.std.proofs.Common.{ap, ◌∙◌, subst}
use Rattle.driven_flow.specs.Session.{version_for, IsShort}
use Rattle.driven_flow.proofs.SessionLemmas.{report-framed}
use Rattle.driven_flow.proofs.messages.message_of.Goals as goal

pub returns-in-Report-clause-frame : goal.returns-in-Report-clause-frame
returns-in-Report-clause-frame c =
    report-framed c.in-Report.report (subst IsShort c.in-Report.is c.requires) c.len.ensures.within c.version_for-version.result
    (c.version_for-version.ensures ∙ ap version_for c.len.ensures.len)
