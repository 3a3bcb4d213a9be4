use Rattle.std.proofs.Common.{◌≡◌, drop}
use Rattle.campaign_report.specs.BookText.{last_program}
use Rattle.campaign_report.proofs.live.last_program.Given as goal

abbrev pub invariant-loop-epoch : goal.invariant-loop-epoch
invariant-loop-epoch l = last_program l.program (drop l.epoch-index l.epochs) ≡ last_program 0 l.epochs
