use Rattle.std.proofs.Common.{◌≡◌, ◌+◌, ◌++◌, List, fold, length, map, drop, option_map}
use Rattle.std.specs.Option.{option_or}
use Rattle.ccp_base.specs.declared.ack.Ack.{Ack}
use Rattle.ccp_base.specs.declared.place.Place.{Place}
use Rattle.portus_core.specs.Programs.{Form}
use Rattle.portus_core.specs.ProgramForm.{form_of}
use Rattle.portus_core.specs.Epoch.{by_source, after}
use Rattle.portus_core.specs.Reports.{reports, epoch_fault}
use Rattle.reg_code.specs.declared.code.Code.{Code}
use Rattle.fold_run.specs.declared.folding.Folding.{Folding}
use Rattle.fold_run.specs.Fold.{fold_reporter, with_room, fold_start, fold_reports, fold_fault, told_fault}
use Rattle.fold_run.specs.Folding.{folding_track, folding_code_run, IsFoldOf, HasNotice}
use Rattle.fold_run.specs.Ran.{running_after, running_start}
use Rattle.fold_run.proofs.fold.fold.Given as goal

-- the fold so far, with what the acknowledgements that are left make of it, is the fold of all
pub record IsOnTheWay (form : Form) (code : Code) (places : List Place) (acks left : List Ack) (folding : Folding) : Type 0 where
  pub track : after (by_source form) (map with_room left) (folding_track folding) ≡ after (by_source form) (map with_room acks) (fold_start form)
  pub running : fold (running_after code) (folding_code_run folding) left ≡ fold (running_after code) (running_start code) acks
  pub reports : folding.reports ++ reports (by_source form) fold_reporter (map with_room left) (folding_track folding) ≡ fold_reports form acks
  pub fault : option_or (option_map (told_fault places) folding.fault) (epoch_fault (by_source form) (map with_room left) (folding_track folding)) ≡ fold_fault form acks
  pub notice : HasNotice acks places folding
  pub fold : IsFoldOf code folding
  pub suffix : left ≡ drop folding.count acks
  pub counted : folding.count + length left ≡ length acks

abbrev pub invariant-loop-ack : goal.invariant-loop-ack
invariant-loop-ack g l = IsOnTheWay (form_of l.built.program) l.built.code.code l.built.places l.acks l.left l.folding

abbrev pub decreases-loop-ack : goal.decreases-loop-ack
decreases-loop-ack g l = length l.left
