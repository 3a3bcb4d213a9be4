-- The parts of an answer with the state after it.
use Rattle.std.proofs.Common.{◌≡◌, ap}
use Rattle.feed_core.specs.Feed.{Answer}
use Rattle.feed_core.specs.FeedBytes.{answer_bytes}

pub answer-part : {S : Type 0} {p q : Answer × S} → p ≡ q → answer_bytes p.0 ≡ answer_bytes q.0
answer-part {S = S} same = ap (λ (a : Answer × S). answer_bytes a.0) same

pub state-part : {S : Type 0} {p q : Answer × S} → p ≡ q → p.1 ≡ q.1
state-part {S = S} same = ap (λ (a : Answer × S). a.1) same
