-- The packets that wait have the chances from the first one after now on, up to the last one that was given.
use Rattle.std.proofs.Common.{◌≡◌, ℕ, ◌+◌, ◌-◌, ◌<◌, ◌≤◌, Bool, true, false, cond, ltb, leb, ltb-true, ◌||◌, List, ◌∷◌, length, max, refl, ap, sym, ◌∙◌, arith, inl, inr, ◌⊎◌}
use Rattle.std.proofs.lemmas.Bool.{cases_lt, ltb-false}
use Rattle.link_model.specs.declared.link_case.LinkCase.{LinkCase}
use Rattle.link_model.specs.Traces.{IsTrace}
use Rattle.link_model.specs.Chances.{chance_time, first_chance}
use Rattle.link_model.specs.Link.{Packet, Lost, Served, waiting, chances_past, is_listed, is_marked, packet_after}
use Rattle.link_model.specs.Flights.{IsQueued}
use Rattle.link_model.proofs.ChanceLemmas.{first_chance_le, le_first_chance, first_chance_max}

pub IsQueued-later : (times : List ℕ) (now then_ : ℕ) (packets : List Packet) → now ≤ then_ → IsQueued times now packets → IsQueued times then_ packets
IsQueued-later times now then_ packets order queued at after = queued at (omega arith)

module _ (times : List ℕ) (trace : IsTrace times) where
  -- the first chance after a time isn't before the first one at or after an earlier time
  later_from : (now at : ℕ) → now ≤ at → first_chance times now 0 ≤ first_chance times (at + 1) 0
  later_from now at order =
      first_chance_le times trace now (first_chance times (at + 1) 0)
      (let late : at + 1 ≤ chance_time times (first_chance times (at + 1) 0) = le_first_chance times trace (at + 1) (first_chance times (at + 1) 0) (omega arith) in omega arith)

  -- one more packet of this chance
  waits_more : (at past own count : ℕ) (b : Bool) → ltb at (chance_time times own) ≡ b → past ≤ own
      → count ≡ past - first_chance times (at + 1) 0 → (own ≡ past) ⊎ (own ≤ first_chance times (at + 1) 0)
      → cond b (count + 1) count ≡ own + 1 - first_chance times (at + 1) 0
  waits_more at past own count true is order count_is place =
      let waits_is : first_chance times (at + 1) 0 ≤ own = first_chance_le times trace (at + 1) own (let h : at < chance_time times own = ltb-true at (chance_time times own) is in omega arith) in
      elim place as (λ _. count + 1 ≡ own + 1 - first_chance times (at + 1) 0) [ inl same ↦ omega arith | inr first ↦ omega arith ]
  waits_more at past own count false is order count_is place =
      let passed : own < first_chance times (at + 1) 0 =
      elim (cases_lt own (first_chance times (at + 1) 0)) as (λ _. own < first_chance times (at + 1) 0) [
        | inl below ↦ below
        | inr not_under ↦ absurd (let late = le_first_chance times trace (at + 1) own not_under in let early : chance_time times own ≤ at = ltb-false at (chance_time times own) is in omega arith)
      ] in
      omega arith

  queued_served : (now own sent_at : ℕ) (marked : Bool) (packets : List Packet) → own ≡ max (chances_past packets) (first_chance times now 0)
      → IsQueued times now packets → IsQueued times now (record { sent_at = sent_at; fate = Served own marked } ∷ packets)
  queued_served now own sent_at marked packets own_is queued at after =
      let past = chances_past packets in
      let place : (own ≡ past) ⊎ (own ≤ first_chance times (at + 1) 0) =
      elim (cases_lt past (first_chance times now 0)) as (λ _. (own ≡ past) ⊎ (own ≤ first_chance times (at + 1) 0))
      [ inl before ↦ inr (omega (arith, later_from now at after)) | inr not_before ↦ inl (omega arith) ] in
      let counted = waits_more at past own (waiting times at packets) (ltb at (chance_time times own)) refl (omega arith) (queued at after) place in
      let last : max (own + 1) past ≡ own + 1 = omega arith in
      counted ∙ ap (λ m. m - first_chance times (at + 1) 0) (sym last)

  -- one more packet, which is lost or gets a chance
  pub queued_by : (b marked : Bool) (now own sent_at : ℕ) (packets : List Packet) → own ≡ max (chances_past packets) (first_chance times now 0)
      → IsQueued times now packets → IsQueued times now (record { sent_at = sent_at; fate = cond b Lost (Served own marked) } ∷ packets)
  queued_by true marked now own sent_at packets own_is queued = queued
  queued_by false marked now own sent_at packets own_is queued = queued_served now own sent_at marked packets own_is queued

-- the packets that wait are counted after one more is sent, too
pub IsQueued-sent : (case : LinkCase) (now : ℕ) (packets : List Packet) → IsTrace case.trace → IsQueued case.trace now packets → IsQueued case.trace now (packet_after case now packets ∷ packets)
IsQueued-sent case now packets trace queued =
    let queue = waiting case.trace now packets in
    queued_by case.trace trace (is_listed (length packets) case.losses || leb case.queue queue) (is_marked case.mark queue) now (first_chance case.trace now (chances_past packets)) now packets
    (first_chance_max case.trace trace now (chances_past packets)) queued
