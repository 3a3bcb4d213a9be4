use Rattle.reply_frames.proofs.parts.+exact_number.Given as goal

abbrev pub decreases-exact_number : goal.decreases-exact_number
decreases-exact_number l = l.width
