use Rattle.std.proofs.Common.{◌≡◌, []}
use Rattle.serde_json.specs.View.{members_view}
use Rattle.scene_members.specs.Rollout.{texts_from}
use Rattle.scene_members.specs.OpenCases.{texts_of}
use Rattle.scene_members.proofs.open_texts.texts_from.Given as goal

abbrev pub invariant-loop-name : goal.invariant-loop-name
invariant-loop-name l =
    texts_from (texts_of l.texts) (members_view l.name-iterator) ≡ texts_from [] (members_view l.members.entries)
