-- What a flow of a rollout has beside its case before its first letter.
use Rattle.std.specs.Prelude.{◌≡◌, ◌+◌, ◌*◌, ◌≤◌, [], length}
use Rattle.fold_machine.specs.MachineState.{fresh_machine}
use Rattle.link_model.specs.Standing.{Stands}
use Rattle.scene_members.specs.declared.open_case.OpenCase.{OpenCase}
use Rattle.open_flow.specs.declared.opening.Opening.{Opening}

-- what a flow of the case has before its first letter: a link without a call, a machine that runs nothing, and lists
-- without an item, with room for all that the case's acknowledgements and steps make
pub record IsOpening (case : OpenCase) (opening : Opening) : Type 0 where
  pub link : opening.link.case ≡ case.link
  pub stands : Stands opening.link []
  pub calls : opening.link.standing.calls ≡ 0
  pub machine : opening.machine ≡ fresh_machine case.cwnd 0 0
  pub entries : opening.entries.items ≡ []
  pub installed : opening.installed.items ≡ []
  pub epochs : opening.epochs.items ≡ []
  pub reports : opening.account.reports.items ≡ []
  pub faults : opening.account.faults.items ≡ []
  pub word : opening.word.items ≡ []
  pub entries_room : length case.steps ≤ opening.entries.room
  pub installed_room : length case.steps ≤ opening.installed.room
  pub epochs_room : length case.steps ≤ opening.epochs.room
  pub reports_room : case.acks ≤ opening.account.reports.room
  pub faults_room : length case.steps ≤ opening.account.faults.room
  pub word_room : case.acks + 2 * length case.steps ≤ opening.word.room
