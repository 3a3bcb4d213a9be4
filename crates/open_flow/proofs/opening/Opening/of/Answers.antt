use Rattle.std.proofs.Common.{arith}
use Rattle.open_flow.proofs.opening.Opening.of.Goals as goal

pub returns : goal.returns
returns c = record {
  link = c.in_ok-link.ensures.case;
  stands = c.in_ok-link.ensures.stands;
  calls = c.in_ok-link.ensures.calls;
  machine = c.in_ok-machine.ensures;
  entries = c.in_ok-entries.ensures.entries.0;
  installed = c.in_ok-entries.ensures.installed.0;
  epochs = c.in_ok-entries.ensures.epochs.0;
  reports = c.in_ok-account.ensures.reports.0;
  faults = c.in_ok-account.ensures.faults.0;
  word = c.in_ok-entries.ensures.word.0;
  entries_room = omega (arith, c.in_ok-entries.ensures.entries.1, c.len-steps.ensures);
  installed_room = omega (arith, c.in_ok-entries.ensures.installed.1, c.len-steps.ensures);
  epochs_room = omega (arith, c.in_ok-entries.ensures.epochs.1, c.len-steps.ensures);
  reports_room = c.in_ok-account.ensures.reports.1;
  faults_room = omega (arith, c.in_ok-account.ensures.faults.1, c.len-steps.ensures);
  word_room = omega (arith, c.in_ok-entries.ensures.word.1, c.len-steps.ensures);
}
