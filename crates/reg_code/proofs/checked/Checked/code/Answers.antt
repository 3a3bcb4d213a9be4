use Rattle.reg_code.proofs.RanLaws.{RunsWithin-every}
use Rattle.reg_code.proofs.SoundLemmas.{IsSound-accepted}
use Rattle.reg_code.proofs.checked.Checked.code.Goals as goal

pub returns-clause-sound : goal.returns-clause-sound
returns-clause-sound c = IsSound-accepted c.args.self.now.code c.args.self.now.accepted

pub returns-clause-within : goal.returns-clause-within
returns-clause-within c = RunsWithin-every c.args.self.now.code
