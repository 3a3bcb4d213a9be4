use Rattle.std.proofs.Common.{sym}
use Rattle.flow_core.specs.Readings.{over_codes}
use Rattle.flow_core.proofs.SummaryLemmas.{summary-ack, summary-take, summary-answer, summary-legal, summary-complete}
use Rattle.flow_core.proofs.case.Case.summary_law.Goals as goal

pub returns : goal.returns
returns c =
    let flow = over_codes c.args.self.now in
    record {
      heard = λ ack w. sym (summary-ack flow ack w);
      taken = λ w. sym (summary-take flow w);
      answered = λ w. sym (summary-answer flow w);
      legal = λ letter w. sym (summary-legal flow letter w);
      complete = λ w. sym (summary-complete flow w);
    }
