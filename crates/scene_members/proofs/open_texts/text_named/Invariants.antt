use Rattle.std.proofs.Common.{◌≡◌, length}
use Rattle.scene_members.specs.Rollout.{text_named}
use Rattle.scene_members.specs.OpenCases.{texts_of}
use Rattle.scene_members.proofs.open_texts.text_named.Given as goal

abbrev pub invariant-loop-text : goal.invariant-loop-text
invariant-loop-text l = text_named l.name (texts_of l.rest) ≡ text_named l.name (texts_of l.texts)

abbrev pub decreases-loop-text : goal.decreases-loop-text
decreases-loop-text l = length l.rest
