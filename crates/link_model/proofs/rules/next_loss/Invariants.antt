use Rattle.std.proofs.Common.{ℕ, ◌-◌, ◌<◌, length, slice_index}
use Rattle.link_model.proofs.rules.next_loss.Given as goal

abbrev pub invariant-loop-loss : goal.invariant-loop-loss
invariant-loop-loss l = (i : ℕ) → i < l.place → slice_index l.losses i < l.number

abbrev pub decreases-loop-loss : goal.decreases-loop-loss
decreases-loop-loss l = length l.losses - l.place
