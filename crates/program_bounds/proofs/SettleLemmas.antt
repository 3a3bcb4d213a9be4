-- What an acknowledgement answers, and what resets its volatile names.
use Rattle.std.proofs.Common.{◌≡◌, ℕ, suc, zero, ◌<◌, ◌⊎◌, inl, inr, Bool, true, false, IsTrue, Option, List, [], ◌∷◌, length, map, get_or, if◌then◌else◌, refl, ap, sym, arith}
use Rattle.ccp_base.specs.declared.ack.Ack.{Ack}
use Rattle.value_ranges.specs.declared.range.Range.{Range}
use Rattle.value_ranges.specs.Ranges.{IsIn}
use Rattle.portus_core.specs.declared.env.Env.{Env}
use Rattle.portus_core.specs.declared.env.Mean.{Mean}
use Rattle.portus_core.specs.declared.env.Mean.TheVariants.{Quiet, Reported, Held, Fault}
use Rattle.portus_core.specs.declared.program.Decl.{Decl}
use Rattle.portus_core.specs.Programs.{Form}
use Rattle.portus_core.specs.Command.{Going}
use Rattle.portus_core.specs.OneAcknowledgement.{reset, reset_of, answered}
use Rattle.range_cases.specs.declared.case.Case.{Case}
use Rattle.range_cases.specs.declared.case.Kept.{Kept}
use Rattle.range_cases.specs.Cases.{IsKept, IsCase, IsAmong}
use Rattle.program_bounds.specs.Bounded.{AreShown, ShowsIn}
use Rattle.program_bounds.specs.Turns.{IsShown, IsSettled, IsWithin, KeepsReport}

pub settled_quiet : (form : Form) (report : Option Kept) (next : Kept) (asked room : Bool) (env : Env) → asked ≡ false → IsKept next env → IsSettled report next (answered form asked room env)
settled_quiet form report next true room env never kept = cc
settled_quiet form report next false room env never kept = record { shown = tt; kept = kept }

pub settled_asked : (form : Form) (report : Option Kept) (next : Kept) (asked room : Bool) (env : Env) → asked ≡ true → (room ≡ false → IsKept next env) → IsKept next (reset_of form env)
    → ShowsIn report env.fields env.cwnd env.rate → IsSettled report next (answered form asked room env)
settled_asked form report next false room env asks held after shown = cc
settled_asked form report next true true env asks held after shown = record { shown = shown; kept = after }
settled_asked form report next true false env asks held after shown = record { shown = tt; kept = held refl }

pub ruleset settles = (settled_quiet, settled_asked)

-- the value of a name after a reset
pub reset_at : (decls : List Decl) (values : List ℕ) (i : ℕ) (decl : Decl) → length values ≡ length decls → i < length decls → decl ≡ get_or decls i decl
    → get_or (reset decls values) i 0 ≡ (if decl.volatile then decl.start else get_or values i 0)
reset_at [] values i decl long within at = absurd (omega arith)
reset_at (first ∷ rest) [] i decl long within at = absurd (omega arith)
reset_at (first ∷ rest) (value ∷ values) zero decl long within at = ap (λ (d : Decl). if d.volatile then d.start else value) (sym at)
reset_at (first ∷ rest) (value ∷ values) (suc i) decl long within at = reset_at rest values i decl (omega arith) (omega arith) at

pub length_reset : (decls : List Decl) (values : List ℕ) → length (reset decls values) ≡ length values
length_reset [] values = refl
length_reset (decl ∷ decls) [] = refl
length_reset (decl ∷ decls) (value ∷ values) = ap (λ n. suc n) (length_reset decls values)

-- without room there isn't always room
pub without_room : (has_room room : Bool) → (IsTrue has_room → IsTrue room) → room ≡ false → has_room ≡ false
without_room false room has none = refl
without_room true room has none = let some : room ≡ true = has refl in cc

lows_in : (ranges : List Range) (i : ℕ) (past : Range) → IsIn past 0 → IsIn (get_or ranges i past) (get_or (map (λ (r : Range). r.lo) ranges) i 0)
lows_in [] i past has = has
lows_in (range ∷ rest) zero past has = record { above = omega arith; below = range.ordered }
lows_in (range ∷ rest) (suc i) past has = lows_in rest i past has

-- what was shown is shown by wider ranges
pub shown_widens : (old new : Kept) (fields : List ℕ) (cwnd rate : ℕ) → ((env : Env) → IsKept old env → IsKept new env) → AreShown old fields cwnd rate → AreShown new fields cwnd rate
shown_widens old new fields cwnd rate widens shown =
    let env : Env = record { fields = fields; controls = map (λ (r : Range). r.lo) old.controls; cwnd = cwnd; rate = rate; zero = 0 } in
    let kept : IsKept new env = widens env (record { fields = shown.fields_in; controls = record { each = λ i past has. lows_in old.controls i past has }; cwnd = shown.cwnd_in; rate = shown.rate_in }) in
    record { fields_in = kept.fields; cwnd_in = kept.cwnd; rate_in = kept.rate }

shown_keeps : (old new : Option Kept) (mean : Mean) (env : Env) → KeepsReport old new → IsShown old (mean, env) → IsShown new (mean, env)
shown_keeps old new Quiet env keeps shown = tt
shown_keeps old new (Reported fields) env keeps shown = keeps fields env.cwnd env.rate shown
shown_keeps old new Held env keeps shown = tt
shown_keeps old new (Fault kind place) env keeps shown = tt

-- one case more is settled
pub settle_step : (old new : Option Kept) (small large : Kept) (case : Case) (rest : List Case) (ack : Ack) (going : Going) (mean : Mean) (env : Env) → KeepsReport old new → IsWithin small large
    → (IsCase case ack going → IsSettled new large (mean, env)) → IsAmong (case ∷ rest) ack going ⊎ IsSettled old small (mean, env) → IsAmong rest ack going ⊎ IsSettled new large (mean, env)
settle_step old new small large case rest ack going mean env keeps within here (inl (inl is)) = inr (here is)
settle_step old new small large case rest ack going mean env keeps within here (inl (inr later)) = inl later
settle_step old new small large case rest ack going mean env keeps within here (inr done) = inr (record { shown = shown_keeps old new mean env keeps done.shown; kept = within env done.kept })

pub among_none : (cases : List Case) (ack : Ack) (going : Going) → length cases ≡ 0 → IsAmong cases ack going → ⊥
among_none [] ack going none among = among
among_none (case ∷ rest) ack going none among = absurd (omega arith)
