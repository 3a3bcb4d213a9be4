use Rattle.reply_frames.proofs.parts.+limited_number.Given as goal

abbrev pub decreases-limited_number : goal.decreases-limited_number
decreases-limited_number l = l.width
