-- What a link keeps of every packet in flight, step by step.
use Rattle.std.proofs.Common.{◌≡◌, ℕ, zero, suc, ◌+◌, ◌-◌, ◌≤◌, Bool, true, false, cond, leb, ◌||◌, List, [], ◌∷◌, ◌++◌, length, drop, slice_get, Some, None, max, refl, ap, sym, ◌∙◌, arith}
use Rattle.ccp_base.specs.declared.ack.Ack.{Ack}
use Rattle.link_model.specs.declared.link_case.LinkCase.{LinkCase}
use Rattle.link_model.specs.declared.arrival.Arrival.{Arrival}
use Rattle.link_model.specs.Traces.{IsTrace}
use Rattle.link_model.specs.Chances.{first_chance}
use Rattle.link_model.specs.Link.{Packet, Fate, Lost, Served, allowance, is_listed, is_marked, arrival_of, past_in, arrival_ack, timeout_ack, run_of, ack_after}
use Rattle.link_model.specs.Standing.{Standing, arrival_by, arrivals_by, arrivals_of, lost_last_by, lost_last, standing_of}
use Rattle.link_model.specs.LinkMoves.{flight_count, with_fate, with_packet, sending, ack_by, acked_by, next_ack, next_standing}
use Rattle.link_model.proofs.Whole.{Landing, Arrived, AllLost, Whole, whole_of, packet_by, landing, landing_by, staying, with_flight, with_ack, sent_whole, next_whole}
use Rattle.link_model.proofs.Whole as whole
use Rattle.link_model.proofs.Refinement as refinement

abbrev pub kept : LinkCase → Whole → Standing
kept case all = record {
  time = all.time;
  past = all.past;
  arrivals = arrivals_of case 0 all.flight;
  lost = lost_last 0 all.flight;
  chance = all.chance;
  sent = all.sent;
  acked = all.acked;
  calls = all.calls;
}

module _ (case : LinkCase) where
  -- ---- one more packet

  arrivals-lost : (n sent_at : ℕ) (flight : List Packet) → arrivals_of case n (flight ++ record { sent_at = sent_at; fate = Lost } ∷ []) ≡ arrivals_of case n flight
  arrivals-lost n sent_at [] = refl
  arrivals-lost n sent_at (packet ∷ rest) =
      ap (λ xs. arrivals_by case n packet.sent_at packet.fate xs (arrivals_of case 0 (rest ++ record { sent_at = sent_at; fate = Lost } ∷ []))) (arrivals-lost (n + 1) sent_at rest)
      ∙ ap (arrivals_by case n packet.sent_at packet.fate (arrivals_of case (n + 1) rest)) (arrivals-lost 0 sent_at rest)

  lost_by-more : (fate : Fate) (a b : ℕ) → lost_last_by fate (a + 1) (b + 1) ≡ lost_last_by fate a b + 1
  lost_by-more Lost a b = refl
  lost_by-more (Served chance marked) a b = refl

  lost_last-lost : (n sent_at : ℕ) (flight : List Packet) → lost_last n (flight ++ record { sent_at = sent_at; fate = Lost } ∷ []) ≡ lost_last n flight + 1
  lost_last-lost n sent_at [] = refl
  lost_last-lost n sent_at (packet ∷ rest) =
      ap (λ m. lost_last_by packet.fate m (lost_last 0 (rest ++ record { sent_at = sent_at; fate = Lost } ∷ []))) (lost_last-lost (n + 1) sent_at rest)
      ∙ ap (lost_last_by packet.fate (lost_last (n + 1) rest + 1)) (lost_last-lost 0 sent_at rest)
      ∙ lost_by-more packet.fate (lost_last (n + 1) rest) (lost_last 0 rest)

  lost_by-none : (fate : Fate) → lost_last_by fate 0 0 ≡ 0
  lost_by-none Lost = refl
  lost_by-none (Served chance marked) = refl

  lost_last-served : (n sent_at chance : ℕ) (marked : Bool) (flight : List Packet) → lost_last n (flight ++ record { sent_at = sent_at; fate = Served chance marked } ∷ []) ≡ 0
  lost_last-served n sent_at chance marked [] = refl
  lost_last-served n sent_at chance marked (packet ∷ rest) =
      ap (λ m. lost_last_by packet.fate m (lost_last 0 (rest ++ record { sent_at = sent_at; fate = Served chance marked } ∷ []))) (lost_last-served (n + 1) sent_at chance marked rest)
      ∙ ap (lost_last_by packet.fate 0) (lost_last-served 0 sent_at chance marked rest)
      ∙ lost_by-none packet.fate

  arrivals_by-push : (n own : ℕ) (fate : Fate) (xs ys : List Arrival) (a b : ℕ) (last : ℕ → Arrival)
      → arrivals_by case n own fate (xs ++ last a ∷ []) (ys ++ last b ∷ []) ≡ arrivals_by case n own fate xs ys ++ last (lost_last_by fate a b) ∷ []
  arrivals_by-push n own Lost xs ys a b last = refl
  arrivals_by-push n own (Served chance marked) xs ys a b last = refl

  arrivals-served : (n sent_at chance : ℕ) (marked : Bool) (flight : List Packet)
      → arrivals_of case n (flight ++ record { sent_at = sent_at; fate = Served chance marked } ∷ []) ≡ arrivals_of case n flight ++ arrival_by case (lost_last n flight) sent_at chance marked ∷ []
  arrivals-served n sent_at chance marked [] = refl
  arrivals-served n sent_at chance marked (packet ∷ rest) =
      ap (λ xs. arrivals_by case n packet.sent_at packet.fate xs (arrivals_of case 0 (rest ++ record { sent_at = sent_at; fate = Served chance marked } ∷ []))) (arrivals-served (n + 1) sent_at chance marked rest)
      ∙ ap (arrivals_by case n packet.sent_at packet.fate (arrivals_of case (n + 1) rest ++ arrival_by case (lost_last (n + 1) rest) sent_at chance marked ∷ [])) (arrivals-served 0 sent_at chance marked rest)
      ∙ arrivals_by-push n packet.sent_at packet.fate (arrivals_of case (n + 1) rest) (arrivals_of case 0 rest) (lost_last (n + 1) rest) (lost_last 0 rest) (λ lost. arrival_by case lost sent_at chance marked)

  count_by : (n sent_at m : ℕ) (fate : Fate) (rest : List Packet) → flight_count (arrivals_of case (n + 1) rest) (lost_last (n + 1) rest) ≡ n + 1 + m
      → flight_count (arrivals_of case 0 rest) (lost_last 0 rest) ≡ 0 + m
      → flight_count (arrivals_by case n sent_at fate (arrivals_of case (n + 1) rest) (arrivals_of case 0 rest)) (lost_last_by fate (lost_last (n + 1) rest) (lost_last 0 rest)) ≡ n + suc m
  count_by n sent_at m Lost rest after_lost after_served = omega (arith, after_lost)
  count_by n sent_at m (Served chance marked) rest after_lost after_served = omega (arith, after_served)

  pub count-flight : (n : ℕ) (flight : List Packet) → flight_count (arrivals_of case n flight) (lost_last n flight) ≡ n + length flight
  count-flight n [] = omega arith
  count-flight n (packet ∷ rest) = count_by n packet.sent_at (length rest) packet.fate rest (count-flight (n + 1) rest) (count-flight 0 rest)

  -- ---- sending

  abbrev parts : Whole → List Arrival → ℕ → ℕ → Standing
  parts all arrivals lost chance = record {
    time = all.time;
    past = all.past;
    arrivals = arrivals;
    lost = lost;
    chance = chance;
    sent = all.sent + 1;
    acked = all.acked;
    calls = all.calls;
  }

  kept-lost : (all : Whole) → kept case (whole.with_packet all (record { sent_at = all.time; fate = Lost })) ≡ with_fate case Lost (kept case all)
  kept-lost all =
      ap (λ xs. parts all xs (lost_last 0 (all.flight ++ record { sent_at = all.time; fate = Lost } ∷ [])) all.chance) (arrivals-lost 0 all.time all.flight)
      ∙ ap (λ n. parts all (arrivals_of case 0 all.flight) n all.chance) (lost_last-lost 0 all.time all.flight)

  kept-served : (all : Whole) (own : ℕ) (marked : Bool) → all.chance ≤ own
      → kept case (whole.with_packet all (record { sent_at = all.time; fate = Served own marked })) ≡ with_fate case (Served own marked) (kept case all)
  kept-served all own marked order =
      let last : max (own + 1) all.chance ≡ own + 1 = omega arith in
      let arrivals = arrivals_of case 0 all.flight ++ arrival_by case (lost_last 0 all.flight) all.time own marked ∷ [] in
      ap (λ xs. parts all xs (lost_last 0 (all.flight ++ record { sent_at = all.time; fate = Served own marked } ∷ [])) (max (own + 1) all.chance)) (arrivals-served 0 all.time own marked all.flight)
      ∙ ap (λ n. parts all arrivals n (max (own + 1) all.chance)) (lost_last-served 0 all.time own marked all.flight)
      ∙ ap (parts all arrivals 0) last

  kept-by : (b : Bool) (all : Whole) (own : ℕ) (marked : Bool) → all.chance ≤ own
      → kept case (whole.with_packet all (record { sent_at = all.time; fate = cond b Lost (Served own marked) })) ≡ with_fate case (cond b Lost (Served own marked)) (kept case all)
  kept-by true all own marked order = kept-lost all
  kept-by false all own marked order = kept-served all own marked order

  kept-packet : (all : Whole) → kept case (whole.with_packet all (packet_by case all (first_chance case.trace all.time 0) (first_chance case.trace (all.time + 1) 0))) ≡ with_packet case (kept case all)
  kept-packet all =
      let waiting = all.chance - first_chance case.trace (all.time + 1) 0 in
      let own = max all.chance (first_chance case.trace all.time 0) in
      kept-by (is_listed all.sent case.losses || leb case.queue waiting) all own (is_marked case.mark waiting) (omega arith)

  kept-sending : (more : ℕ) (all : Whole) → kept case (whole.sending case (first_chance case.trace all.time 0) (first_chance case.trace (all.time + 1) 0) more all) ≡ sending case more (kept case all)
  kept-sending zero all = refl
  kept-sending (suc more) all =
      kept-sending more (whole.with_packet all (packet_by case all (first_chance case.trace all.time 0) (first_chance case.trace (all.time + 1) 0)))
      ∙ ap (sending case more) (kept-packet all)

  -- ---- acknowledging

  -- what lands of all packets is the first one that isn't lost
  abbrev LandsAs : ℕ → List Packet → Landing → Type 0
  LandsAs n flight (Arrived sent_at chance marked lost) =
      (arrivals_of case n flight ≡ arrival_by case lost sent_at chance marked ∷ arrivals_of case 0 (staying flight)) × (lost_last n flight ≡ lost_last 0 (staying flight))
  LandsAs n flight (AllLost lost) = (arrivals_of case n flight ≡ []) × (lost_last n flight ≡ lost) × (staying flight ≡ [])

  lands_after : (n sent_at : ℕ) (rest : List Packet) (later : Landing) → LandsAs (n + 1) rest later → LandsAs n (record { sent_at = sent_at; fate = Lost } ∷ rest) later
  lands_after n sent_at rest (Arrived own chance marked lost) lands = lands
  lands_after n sent_at rest (AllLost lost) lands = lands

  lands_by : (n sent_at : ℕ) (fate : Fate) (rest : List Packet) (later : Landing) → LandsAs (n + 1) rest later
      → LandsAs n (record { sent_at = sent_at; fate = fate } ∷ rest) (landing_by fate sent_at n later)
  lands_by n sent_at Lost rest later lands = lands_after n sent_at rest later lands
  lands_by n sent_at (Served chance marked) rest later lands = (refl, refl)

  lands_as : (n : ℕ) (flight : List Packet) → LandsAs n flight (landing flight n)
  lands_as n [] = (refl, refl, refl)
  lands_as n (packet ∷ rest) = lands_by n packet.sent_at packet.fate rest (landing rest (n + 1)) (lands_as (n + 1) rest)

  kept-timeout : (all : Whole) (lost : ℕ) → LandsAs 0 all.flight (AllLost lost)
      → whole.ack_by case (with_flight all (staying all.flight)) (AllLost lost) ≡ ack_by case (kept case all) None
  kept-timeout all lost lands =
      ap (λ stay. timeout_ack case (all.time + case.timeout_us) all.past lost stay all.acked all.sent) (ap length lands.2)
      ∙ ap (λ n. timeout_ack case (all.time + case.timeout_us) all.past n 0 all.acked all.sent) (sym lands.1)

  kept-arrival : (all : Whole) (sent_at chance : ℕ) (marked : Bool) (lost : ℕ) → LandsAs 0 all.flight (Arrived sent_at chance marked lost)
      → whole.ack_by case (with_flight all (staying all.flight)) (Arrived sent_at chance marked lost) ≡ ack_by case (kept case all) (Some (arrival_by case lost sent_at chance marked))
  kept-arrival all sent_at chance marked lost lands =
      let stay = staying all.flight in
      let count : length stay ≡ flight_count (arrivals_of case 0 stay) (lost_last 0 stay) = omega (arith, count-flight 0 stay) in
      let ack : ℕ → Ack = λ n. arrival_ack case sent_at (arrival_of case chance) marked all.past lost n (all.acked + 1) all.sent in
      let rest : arrivals_of case 0 stay ≡ drop 1 (arrivals_of case 0 all.flight) = sym (ap (drop 1) lands.0) in
      ap ack count
      ∙ ap (λ n. ack (flight_count (arrivals_of case 0 stay) n)) (sym lands.1)
      ∙ ap (λ xs. ack (flight_count xs (lost_last 0 all.flight))) rest

  kept-ack_by : (all : Whole) (l : Landing) → LandsAs 0 all.flight l
      → whole.ack_by case (with_flight all (staying all.flight)) l ≡ ack_by case (kept case all) (slice_get (arrivals_of case 0 all.flight) 0)
  kept-ack_by all (AllLost lost) lands =
      kept-timeout all lost lands ∙ ap (λ xs. ack_by case (kept case all) (slice_get xs 0)) (sym lands.0)
  kept-ack_by all (Arrived sent_at chance marked lost) lands =
      kept-arrival all sent_at chance marked lost lands ∙ ap (λ xs. ack_by case (kept case all) (slice_get xs 0)) (sym lands.0)

  abbrev after : Whole → ℕ → Ack → List Arrival → ℕ → ℕ → Standing
  after all time ack arrivals lost acked = record {
    time = time;
    past = past_in ack;
    arrivals = arrivals;
    lost = lost;
    chance = all.chance;
    sent = all.sent;
    acked = acked;
    calls = all.calls + 1;
  }

  kept-acked_by : (all : Whole) (l : Landing) → LandsAs 0 all.flight l
      → kept case (with_ack (with_flight all (staying all.flight)) (whole.ack_by case (with_flight all (staying all.flight)) l))
      ≡ acked_by case (kept case all) (slice_get (arrivals_of case 0 all.flight) 0)
  kept-acked_by all (AllLost lost) lands =
      let same : all.acked + 0 ≡ all.acked = omega arith in
      let ack = whole.ack_by case (with_flight all (staying all.flight)) (AllLost lost) in
      ap (λ flight. after all (all.time + case.timeout_us) ack (arrivals_of case 0 flight) (lost_last 0 flight) (all.acked + 0)) lands.2
      ∙ ap (after all (all.time + case.timeout_us) ack [] 0) same
      ∙ ap (λ a. after all (all.time + case.timeout_us) a [] 0 all.acked) (kept-timeout all lost lands)
      ∙ ap (λ xs. acked_by case (kept case all) (slice_get xs 0)) (sym lands.0)
  kept-acked_by all (Arrived sent_at chance marked lost) lands =
      let stay = staying all.flight in
      let rest : arrivals_of case 0 stay ≡ drop 1 (arrivals_of case 0 all.flight) = sym (ap (drop 1) lands.0) in
      let arrival = arrival_of case chance in
      let ack = whole.ack_by case (with_flight all stay) (Arrived sent_at chance marked lost) in
      ap (λ n. after all arrival ack (arrivals_of case 0 stay) n (all.acked + 1)) (sym lands.1)
      ∙ ap (λ xs. after all arrival ack xs (lost_last 0 all.flight) (all.acked + 1)) rest
      ∙ ap (λ a. after all arrival a (drop 1 (arrivals_of case 0 all.flight)) (lost_last 0 all.flight) (all.acked + 1)) (kept-arrival all sent_at chance marked lost lands)
      ∙ ap (λ xs. acked_by case (kept case all) (slice_get xs 0)) (sym lands.0)

  -- ---- one call

  kept-sent : (window : ℕ) (all : Whole) → kept case (sent_whole case window all) ≡ sending case (allowance case window - flight_count (arrivals_of case 0 all.flight) (lost_last 0 all.flight)) (kept case all)
  kept-sent window all =
      kept-sending (allowance case window - length all.flight) all
      ∙ ap (λ n. sending case (allowance case window - n) (kept case all)) (let e : length all.flight ≡ flight_count (arrivals_of case 0 all.flight) (lost_last 0 all.flight) = omega (arith, count-flight 0 all.flight) in e)

  kept-next_ack : (window : ℕ) (all : Whole) → next_ack case window (kept case all) ≡ whole.next_ack case window all
  kept-next_ack window all =
      let sent = sent_whole case window all in
      ap (λ s. ack_by case s (slice_get s.arrivals 0)) (sym (kept-sent window all))
      ∙ sym (kept-ack_by sent (landing sent.flight 0) (lands_as 0 sent.flight))

  kept-next : (window : ℕ) (all : Whole) → next_standing case window (kept case all) ≡ kept case (next_whole case window all)
  kept-next window all =
      let sent = sent_whole case window all in
      ap (λ s. acked_by case s (slice_get s.arrivals 0)) (sym (kept-sent window all))
      ∙ sym (kept-acked_by sent (landing sent.flight 0) (lands_as 0 sent.flight))

-- ---- lists of windows

pub next_ack_same : (case : LinkCase) → IsTrace case.trace → (windows : List ℕ) (window : ℕ) (standing : Standing) → standing ≡ standing_of case (run_of case windows)
    → next_ack case window standing ≡ ack_after case windows window
next_ack_same case trace windows window standing same =
    ap (next_ack case window) same
    ∙ kept-next_ack case window (whole_of (run_of case windows))
    ∙ refinement.next_ack_same case trace windows window (whole_of (run_of case windows)) refl

pub next_standing_same : (case : LinkCase) → IsTrace case.trace → (windows : List ℕ) (window : ℕ) (standing : Standing) → standing ≡ standing_of case (run_of case windows)
    → next_standing case window standing ≡ standing_of case (run_of case (windows ++ window ∷ []))
next_standing_same case trace windows window standing same =
    ap (next_standing case window) same
    ∙ kept-next case window (whole_of (run_of case windows))
    ∙ ap (kept case) (refinement.next_whole_same case trace windows window (whole_of (run_of case windows)) refl)
