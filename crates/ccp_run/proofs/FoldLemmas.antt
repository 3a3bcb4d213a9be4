-- What a fold's reports, fault and end show.
use Rattle.std.proofs.Common.{◌≡◌, ◌∙◌, ℕ, Bool, true, false, Option, Some, None, option_map, unwrap_or, Result, Ok, Err, IfOk, List, [], ◌∷◌, length, map, ap, sym, refl}
use Rattle.std.specs.List.{All}
use Rattle.std.specs.Option.{ForSome}
use Rattle.std.proofs.lemmas.List.Elements.{All-append, All-cons, All-nil}
use Rattle.std.proofs.lemmas.Option.{slice_get-get_or}
use Rattle.ccp_base.specs.declared.ack.Ack.{Ack}
use Rattle.ccp_base.specs.declared.exchange.Notice.{Notice}
use Rattle.ccp_base.specs.declared.place.Place.{Place}
use Rattle.portus_core.specs.declared.env.Env.{Env}
use Rattle.portus_core.specs.declared.env.Mean.{Mean}
use Rattle.portus_core.specs.declared.env.Mean.TheVariants as mean
use Rattle.portus_core.specs.Blocks.{before_blocks, blocks_of}
use Rattle.portus_core.specs.Command.{Going}
use Rattle.portus_core.proofs.EnvShapes.{IsEnvOf-blocks, IsEnvOf-declared_env, IsEnvOf-one_of}
use Rattle.portus_core.specs.Epoch.{by_source, outcome_of, Track, after_event, after, heard}
use Rattle.portus_core.specs.OneAcknowledgement.{IsEnvOf, answered, settled, one_of}
use Rattle.portus_core.specs.Programs.{Form}
use Rattle.portus_core.specs.Reports.{reports, reports_at, reports_met, report_of}
use Rattle.portus_core.specs.Value.{Cause}
use Rattle.report_lines.specs.FaultLine.{fault_line, placed_line}
use Rattle.campaign_report.specs.FoldText.{ShowsAll, fault_part}
use Rattle.reg_compiler.specs.Simulation.{missing_place, place_at}
use Rattle.fold_run.specs.Fold.{IsFoldNotice, fold_reporter, fold_reports, fold_end, fold_start, told_fault, with_room}
use Rattle.ccp_run.specs.Fold.{stopping_line}

module _ (form : Form) where
  -- a report of an acknowledgement shows as many fields as the program declares
  abbrev Shows : Mean → Type 0
  Shows mean.Quiet = Unit {0}
  Shows (mean.Reported fields) = length fields ≡ length form.fields
  Shows mean.Held = Unit {0}
  Shows (mean.Fault kind place) = Unit {0}

  shows_answered : (asked room : Bool) (env : Env) → IsEnvOf form env → Shows (answered form asked room env).0
  shows_answered false room env shape = tt
  shows_answered true false env shape = tt
  shows_answered true true env shape = shape.fields

  shows_settled : (env : Env) (room : Bool) (run : Result Going Cause) → IfOk run (λ done. IsEnvOf form done.env) → Shows (settled form env room run).0
  shows_settled env room (Ok going) kept = shows_answered going.asked room going.env kept
  shows_settled env room (Err cause) kept = tt

  shows_one : (env : Env) (ack : Ack) → IsEnvOf form env → Shows (one_of form env ack true).0
  shows_one env ack shape = shows_settled env true (blocks_of form.blocks ack (before_blocks env)) (IsEnvOf-blocks form form.blocks ack (before_blocks env) shape)

  shown_outcome : (track : Track) (ack : Ack) (meant : Mean) (env : Env) → Shows meant → All (ShowsAll form.fields) (reports_met fold_reporter track ack (outcome_of meant) env)
  shown_outcome track ack mean.Quiet env shows = All-nil (ShowsAll form.fields)
  shown_outcome track ack (mean.Reported fields) env shows =
      All-cons (ShowsAll form.fields) (report_of fold_reporter track ack env fields) [] shows (All-nil (ShowsAll form.fields))
  shown_outcome track ack mean.Held env shows = All-nil (ShowsAll form.fields)
  shown_outcome track ack (mean.Fault kind place) env shows = All-nil (ShowsAll form.fields)

  shown_at : (track : Track) (ack : Ack) → IsEnvOf form track.env → All (ShowsAll form.fields) (reports_at (by_source form) fold_reporter (with_room ack) track)
  shown_at track ack shape = go track.is_stopped
    where
      go : (stopped : Bool) → All (ShowsAll form.fields) (let met = heard (by_source form) stopped track.env ack true in reports_met fold_reporter track ack met.0 met.1)
      go true = All-nil (ShowsAll form.fields)
      go false = shown_outcome track ack (one_of form track.env ack true).0 (one_of form track.env ack true).1 (shows_one track.env ack shape)

  keeps_shape : (track : Track) (ack : Ack) → IsEnvOf form track.env → IsEnvOf form (after_event (by_source form) (with_room ack) track).env
  keeps_shape track ack shape = go track.is_stopped
    where
      go : (stopped : Bool) → IsEnvOf form (heard (by_source form) stopped track.env ack true).1
      go true = shape
      go false = IsEnvOf-one_of form track.env ack true shape

  shown : (acks : List Ack) (track : Track) → IsEnvOf form track.env → All (ShowsAll form.fields) (reports (by_source form) fold_reporter (map with_room acks) track)
  shown [] track shape = All-nil (ShowsAll form.fields)
  shown (ack ∷ rest) track shape =
      let next = after_event (by_source form) (with_room ack) track in
      All-append (ShowsAll form.fields) (reports_at (by_source form) fold_reporter (with_room ack) track) (reports (by_source form) fold_reporter (map with_room rest) next)
      (shown_at track ack shape) (shown rest next (keeps_shape track ack shape))

  shape_after : (acks : List Ack) (track : Track) → IsEnvOf form track.env → IsEnvOf form (after (by_source form) (map with_room acks) track).env
  shape_after [] track shape = shape
  shape_after (ack ∷ rest) track shape = shape_after rest (after_event (by_source form) (with_room ack) track) (keeps_shape track ack shape)

  pub reports_show_all : (acks : List Ack) → All (ShowsAll form.fields) (fold_reports form acks)
  reports_show_all acks = shown acks (fold_start form) (IsEnvOf-declared_env form 0 0 0)

  pub end_shows_all : (acks : List Ack) → length (fold_end form acks).fields ≡ length form.fields
  end_shows_all acks = (shape_after acks (fold_start form) (IsEnvOf-declared_env form 0 0 0)).fields

-- the line of a fold's fault is that of the notice which reports it
pub line_of_notice : (acks : List Ack) (places : List Place) (window : ℕ) (fault : Option Notice) (told : Option (ℕ × Cause)) → ForSome fault (IsFoldNotice acks places window) → option_map (told_fault places) fault ≡ told → fault_part places fault ≡ stopping_line told
line_of_notice acks places window None told notice same = ap stopping_line same
line_of_notice acks places window (Some n) told notice same =
    let is = notice n refl in
    let found = slice_get-get_or places n.index missing_place is.placed in
    ap (placed_line n) (found ∙ ap (λ place. Some place) (sym (ap (λ place. unwrap_or place missing_place) found)))
    ∙ ap (λ epoch. fault_line epoch n.at n.kind (place_at places n.index)) is.epoch
    ∙ ap stopping_line same
