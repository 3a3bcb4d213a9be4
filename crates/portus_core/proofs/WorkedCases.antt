-- Small programs with their reports, worked out by hand.
use Rattle.std.proofs.Common.{◌≡◌, refl, ℕ, ◌-◌, ◌^◌, true, false, Some, Ok, Err, List, [], ◌∷◌}
use Rattle.std.specs.Prelude.{codes}
use Rattle.ccp_base.specs.declared.ack.Ack.{Ack}
use Rattle.ccp_base.specs.Acknowledgement.{ack_of, flag_number}
use Rattle.ccp_base.specs.declared.arithmetic.FaultKind.TheVariants.{Overflow, ZeroDivisor}
use Rattle.ccp_base.specs.declared.exchange.Report.{Report}
use Rattle.ccp_base.specs.declared.fields.FieldReg.TheVariants as reg
use Rattle.ccp_base.specs.declared.place.Place.{Place}
use Rattle.portus_core.specs.declared.env.StartFault.TheVariants.{BadRegister}
use Rattle.portus_core.specs.declared.program.Decl.{Decl}
use Rattle.ccp_base.specs.declared.operation.Op2.TheVariants as op
use Rattle.ccp_base.specs.RunningEpochs.{Reporter}
use Rattle.portus_core.specs.declared.program.Var.TheVariants as var
use Rattle.portus_core.specs.Programs.{Term, number, truth, name, pair, Action, set, ewma, zero_micros, report, fall, Part, Form}
use Rattle.portus_core.specs.Epoch.{epoch_start, declared_env, Event, acknowledged, updated, Track, track_at, by_source, after}
use Rattle.portus_core.specs.Reports.{reports, tail, epoch_fault}

abbrev at : ℕ → Place
at column = record { line = 1; column = column }

abbrev zeros : Ack
zeros = ack_of []

abbrev acked : ℕ → Event
acked bytes = acknowledged (record zeros { bytes_acked = bytes }) true

abbrev at_time : ℕ → Event
at_time now = acknowledged (record zeros { now = now }) true

abbrev plain : ℕ → Decl
plain start = record { name = codes "x"; volatile = false; start = start; truth = false }

abbrev volatile_num : Decl
volatile_num = record { name = codes "x"; volatile = true; start = 0; truth = false }

abbrev volatile_truth : Decl
volatile_truth = record { name = codes "x"; volatile = true; start = 0; truth = true }

abbrev part : Term → List Action → Part
part condition body = record { condition = condition; body = body; locals = 0 }

abbrev program : List Decl → List Decl → List Part → Form
program fields controls blocks = record { fields = fields; controls = controls; blocks = blocks }

abbrev field : ℕ → Term
field i = name (var.Field i)

abbrev prim : ℕ → Term
prim n = name (var.Prim n)

abbrev first_reporter : Reporter
first_reporter = record { flow = 0; program = 0; number = 0 }

abbrev first_track : Form → Track
first_track form = track_at 0 (declared_env form 0 0 0)

abbrev all_reports : Form → List Event → List Report
all_reports form events = reports (by_source form) first_reporter events (first_track form)

-- a report of the first epoch: its span, the time and the fields
abbrev spanning : ℕ → ℕ → ℕ → List ℕ → Report
spanning first end now fields = record { flow = 0; program = 0; epoch = 0; first = first; end = end; now = now; cwnd = 0; rate = 0; fields = fields }

abbrev last_track : Form → List Event → Track
last_track form events = after (by_source form) events (first_track form)

-- bytes are added up, and reported from 3000 on
abbrev counter : Form
counter = program (volatile_num ∷ []) []
    (part (truth true) (set (var.Field 0) (pair op.Add (at 57) (field 0) (prim 0)) ∷ fall ∷ [])
    ∷ part (pair op.Gt (at 118) (field 0) (number 2999)) (report ∷ [])
    ∷ [])

abbrev three : List Event
three = acked 1500 ∷ acked 1500 ∷ acked 1500 ∷ []

starts_with_declared_values : epoch_start (program (plain 5 ∷ []) (plain 6 ∷ plain 7 ∷ []) []) ((reg.Control 1, 8) ∷ (reg.Cwnd, 9) ∷ []) 1 2 3 ≡ Ok (record { fields = 5 ∷ []; controls = 6 ∷ 8 ∷ []; cwnd = 9; rate = 2; zero = 3 })
starts_with_declared_values = refl

has_no_such_control : epoch_start (program [] [] []) ((reg.Control 0, 5) ∷ []) 0 0 0 ≡ Err (BadRegister 0)
has_no_such_control = refl

reports_the_first_span : all_reports counter three ≡ spanning 0 2 0 (3000 ∷ []) ∷ []
reports_the_first_span = refl

keeps_the_last_span : (tail (by_source counter) three (first_track counter) ≡ (2, 3)) × ((last_track counter three).env.fields ≡ 1500 ∷ [])
keeps_the_last_span = (refl, refl)

-- two reports, the second one by the time since the first
abbrev measurement : Form
measurement = program (volatile_num ∷ volatile_num ∷ volatile_num ∷ volatile_truth ∷ volatile_num ∷ volatile_num ∷ []) []
    (part (truth true)
    (set (var.Field 5) (prim 9)
    ∷ set (var.Field 4) (prim 13)
    ∷ set (var.Field 0) (pair op.Add (at 1) (field 0) (prim 0))
    ∷ set (var.Field 1) (pair op.Add (at 2) (field 1) (prim 3))
    ∷ set (var.Field 2) (prim 6)
    ∷ set (var.Field 3) (prim flag_number)
    ∷ fall ∷ [])
    ∷ part (pair op.Or (at 3) (field 3) (field 2)) (report ∷ zero_micros ∷ [])
    ∷ part (pair op.Gt (at 4) (name var.Micros) (prim 13)) (report ∷ zero_micros ∷ [])
    ∷ [])

abbrev measured : ℕ → ℕ → ℕ → ℕ → Event
measured now misordered lost in_flight = acknowledged (record zeros {
  now = now;
  bytes_acked = 1448;
  packets_misordered = misordered;
  lost_pkts_sample = lost;
  rtt_sample_us = 10000;
  packets_in_flight = in_flight;
}) true

reports_a_loss_and_then_by_time : all_reports measurement (measured 10000 0 0 9 ∷ measured 10500 1 1 7 ∷ measured 20600 0 0 8 ∷ []) ≡ spanning 0 2 10500 (2896 ∷ 1 ∷ 1 ∷ 0 ∷ 10000 ∷ 7 ∷ []) ∷ spanning 2 3 20600 (1448 ∷ 0 ∷ 0 ∷ 0 ∷ 10000 ∷ 8 ∷ []) ∷ []
reports_a_loss_and_then_by_time = refl

abbrev asks_twice : Form
asks_twice = program [] [] (part (truth true) (report ∷ fall ∷ []) ∷ part (truth true) (report ∷ fall ∷ []) ∷ [])

reports_once : all_reports asks_twice (at_time 5 ∷ []) ≡ spanning 0 1 5 [] ∷ []
reports_once = refl

abbrev overflowing : Form
overflowing = program (plain 0 ∷ []) []
    (part (truth true)
    (set (var.Field 0) (number 7)
    ∷ set (var.Field 0) (pair op.Add (at 63) (number (2 ^ 64 - 1)) (number 1))
    ∷ report ∷ [])
    ∷ [])

abbrev two : List Event
two = at_time 1 ∷ at_time 2 ∷ []

stops_at_an_overflow : (all_reports overflowing two ≡ []) × (epoch_fault (by_source overflowing) two (first_track overflowing) ≡ Some (0, (Overflow, at 63))) × (last_track overflowing two ≡ record { env = declared_env overflowing 0 0 0; is_stopped = true; first = 0; count = 2 })
stops_at_an_overflow = (refl, refl, refl)

stays_stopped_after_an_update : (last_track overflowing (at_time 1 ∷ updated ((reg.Cwnd, 4) ∷ []) ∷ at_time 2 ∷ [])) ≡ record { env = declared_env overflowing 4 0 0; is_stopped = true; first = 0; count = 2 }
stays_stopped_after_an_update = refl

abbrev dividing : Form
dividing = program (plain 0 ∷ []) []
    (part (pair op.And (at 31) (truth false) (pair op.Eq (at 41) (number 1) (pair op.Div (at 45) (number 1) (number 0)))) (report ∷ []) ∷ [])

works_out_both_parts : epoch_fault (by_source dividing) (at_time 1 ∷ []) (first_track dividing) ≡ Some (0, (ZeroDivisor, at 45))
works_out_both_parts = refl

abbrev blending : ℕ → Form
blending start = program (plain start ∷ []) (plain 200 ∷ []) (part (truth true) (ewma (at 54) (var.Field 0) 2 (name (var.Control 0)) ∷ report ∷ []) ∷ [])

moves_towards_the_value : all_reports (blending 100) two ≡ spanning 0 1 1 (180 ∷ []) ∷ spanning 1 2 2 (196 ∷ []) ∷ []
moves_towards_the_value = refl

takes_the_first_value : all_reports (blending 0) two ≡ spanning 0 1 1 (200 ∷ []) ∷ spanning 1 2 2 (200 ∷ []) ∷ []
takes_the_first_value = refl

-- acknowledgements are counted and reported, the second one without room
abbrev counting : Decl → Form
counting decl = program (decl ∷ []) [] (part (truth true) (set (var.Field 0) (pair op.Add (at 1) (field 0) (number 1)) ∷ report ∷ []) ∷ [])

abbrev second_held : List Event
second_held = acknowledged zeros true ∷ acknowledged zeros false ∷ acknowledged zeros true ∷ []

reports_a_held_span_later : all_reports (counting (plain 0)) second_held ≡ spanning 0 1 0 (1 ∷ []) ∷ spanning 1 3 0 (3 ∷ []) ∷ []
reports_a_held_span_later = refl

keeps_a_volatile_field_that_is_held : all_reports (counting volatile_num) second_held ≡ spanning 0 1 0 (1 ∷ []) ∷ spanning 1 3 0 (2 ∷ []) ∷ []
keeps_a_volatile_field_that_is_held = refl
