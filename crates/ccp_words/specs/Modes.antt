-- The names of the modes that the tool has.
use Rattle.std.specs.Prelude.{ℕ, Option, option_map, List, [], ◌∷◌, map, find, codes}
use Rattle.std.specs.Str.{bytes_eq}
use Rattle.ccp_words.specs.declared.mode.Alone.TheVariants.{Check, Fold, Feed, Audit, Drive}
use Rattle.ccp_words.specs.declared.mode.DriveText.TheVariants as text
use Rattle.ccp_words.specs.declared.mode.ToolMode.{ToolMode}
use Rattle.ccp_words.specs.declared.mode.ToolMode.TheVariants.{Alone, Live, Campaign, Soak, Rollout, Shared, Timeline, Acks}
use Rattle.ccp_words.specs.declared.mode.ToolMode.TheVariants.{SharedTimeline, SharedAcks, Driven}

-- each mode that is there, after its name
abbrev pub modes : List (List ℕ × ToolMode)
modes =
    (codes "check", Alone Check) ∷ (codes "fold", Alone Fold) ∷ (codes "feed", Alone Feed)
    ∷ (codes "audit", Alone Audit) ∷ (codes "live", Live) ∷ (codes "campaign", Campaign) ∷ (codes "soak", Soak)
    ∷ (codes "rollout", Rollout) ∷ (codes "shared", Shared) ∷ (codes "timeline", Timeline) ∷ (codes "acks", Acks)
    ∷ (codes "shared-timeline", SharedTimeline) ∷ (codes "shared-acks", SharedAcks)
    ∷ (codes "drive", Alone Drive) ∷ (codes "drive-table", Driven text.Table)
    ∷ (codes "drive-timeline", Driven text.Timeline) ∷ (codes "drive-acks", Driven text.Acks) ∷ []

abbrev pub mode_names : List (List ℕ)
mode_names = map (λ mode. mode.0) modes

-- the mode of a name, or none
abbrev pub mode_named : List ℕ → Option ToolMode
mode_named name = option_map (λ mode. mode.1) (find (λ mode. bytes_eq name mode.0) modes)
