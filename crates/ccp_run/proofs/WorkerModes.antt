-- The modes that have workers have what the theorem asks of a mode, and so has every task.
use Rattle.std.proofs.Common.{refl, inl, ℕ}
use Rattle.scene_members.specs.declared.mode.SceneMode.TheVariants as scene
use Rattle.scenario_json.specs.Rollout.{rollout_of}
use Rattle.scenario_json.specs.SharedScenes.{shared_scene_of}
use Rattle.ccp_run.specs.AcksRuns.{TellsAcks}
use Rattle.ccp_run.specs.Campaign.{TellsCampaign}
use Rattle.ccp_run.specs.Live.{TellsLive}
use Rattle.ccp_run.specs.Modes.{Task, Alone, Live, Campaign, Soak, Rollout, Shared, Timeline, Acks, SharedTimeline, SharedAcks, Driven, rules_of}
use Rattle.ccp_run.specs.Rollout.{IsRolloutOutput}
use Rattle.ccp_run.specs.Shared.{IsSharedOutput}
use Rattle.ccp_run.specs.SharedSeries.{SeriesText, IsSeriesOutput, series_rules, shared_timeline_text, shared_acks_text}
use Rattle.ccp_run.specs.Soak.{soak_rules}
use Rattle.ccp_run.specs.Timeline.{TellsTimeline}
use Rattle.ccp_run.proofs.AloneModes.{alone_mode}
use Rattle.ccp_run.proofs.DriveModes.{drive_text_mode}
use Rattle.ccp_run.proofs.ModeLaws.{IsMode}
use Rattle.ccp_run.proofs.ScenarioInputs.{text_mode, scene_mode}

soak_mode : (number : ℕ) → IsMode (soak_rules number)
soak_mode number = record {
  settled = λ bytes. record {
    some = inl tt;
    apart = λ refusal input bad. bad;
    one_refusal = λ left right l r. absurd l;
    made = λ output made. tt;
  };
  begins = refl;
  quiet = λ _ bytes. refl;
  plain = λ _. (refl, λ bytes. tt);
  unread = λ _ bytes refusal bad. bad;
}

series_mode : (text : SeriesText) → IsMode (series_rules text)
series_mode text = text_mode shared_scene_of (IsSeriesOutput text) (λ bytes output made. (_, made.scenario.text))

pub is_mode : (task : Task) → IsMode (rules_of task)
is_mode (Alone alone) = alone_mode alone
is_mode (Live wire) = scene_mode scene.Live (TellsLive wire)
is_mode (Campaign wire) = scene_mode scene.Campaign (TellsCampaign wire)
is_mode (Soak number) = soak_mode number
is_mode Rollout = text_mode rollout_of IsRolloutOutput (λ bytes output made. (_, made.scenario.text))
is_mode Shared = text_mode shared_scene_of IsSharedOutput (λ bytes output made. (_, made.scenario.text))
is_mode (Timeline wire) = scene_mode scene.Live (TellsTimeline wire)
is_mode Acks = scene_mode scene.Live TellsAcks
is_mode (SharedTimeline wire) = series_mode (shared_timeline_text wire)
is_mode SharedAcks = series_mode shared_acks_text
is_mode (Driven text wire) = drive_text_mode text wire
