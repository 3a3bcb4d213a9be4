-- The laws of whole frames.
use Rattle.std.specs.Prelude.{◌≡◌, ℕ, ◌≤◌, List, [], ◌++◌, length}
use Rattle.ccp_base.specs.Limits.{most_frame_bytes}
use Rattle.reply_frames.specs.Decoding.{needed_of}
use Rattle.reply_frames.specs.Whole.{AreBytes, IsFrame}

-- no frame is a proper prefix of another
abbrev pub PrefixFree : Type 0
PrefixFree = (bytes more : List ℕ) → IsFrame bytes → IsFrame (bytes ++ more) → more ≡ []

-- a prefix of a frame that is as long as a head says how long the frame is
abbrev pub Needed : Type 0
Needed =
    (bytes more : List ℕ)
    → AreBytes (bytes ++ more)
    → IsFrame (bytes ++ more)
    → 16 ≤ length bytes
    → needed_of bytes ≡ length (bytes ++ more)

-- no frame is longer than that of the largest Install
abbrev pub Longest : Type 0
Longest = (bytes : List ℕ) → AreBytes bytes → IsFrame bytes → length bytes ≤ most_frame_bytes
