-- The end of an input that was read to its end.
use Rattle.std.specs.Prelude.{◌≡◌, ℕ, Bool, true, false}
use Rattle.ccp_base.specs.Outside.{Rose}
use Rattle.feed_core.specs.declared.ending.FeedEnd.{FeedEnd}
use Rattle.feed_core.specs.declared.ending.FeedEnd.TheVariants.{Whole, Cut, WriteFailed}

-- no bytes are left and no message is missing, and the sink finished or failed; or the input ends too early at this
-- place, and the sink is finished if it was
abbrev pub IsLast : (before now : ℕ) → (was_finished is_finished : Type 0) → (waits : Bool) → (place left : ℕ)
    → FeedEnd → Type 0
IsLast before now was_finished is_finished waits place left Whole = (left ≡ 0) × (waits ≡ false) × is_finished
IsLast before now was_finished is_finished waits place left (Cut start) =
    (left ≡ 0 → waits ≡ true) × (start ≡ place) × (was_finished → is_finished)
IsLast before now was_finished is_finished waits place left WriteFailed =
    (left ≡ 0) × (waits ≡ false) × Rose before now
IsLast before now was_finished is_finished waits place left _ = ⊥
