-- The parts of a code go into a frame and come back.
use Rattle.std.proofs.Common.{◌≡◌, ℕ, zero, suc, ◌≤◌, Bool, true, false, List, [], ◌∷◌, refl, ap, ◌∙◌, arith}
use Rattle.std.specs.Prelude.{map}
use Rattle.std.specs.List.{AllByRecursion}
use Rattle.ccp_base.specs.Acknowledgement.{bool_number}
use Rattle.reg_code.specs.declared.code.Event.{Event}
use Rattle.reg_code.specs.declared.code.Implicit.{Implicit}
use Rattle.reg_code.specs.declared.code.Implicit.TheVariants.{Flag, Fall, Send, Micros, Cwnd, Rate}
use Rattle.reg_code.specs.declared.code.Instr.{Instr}
use Rattle.reg_code.specs.declared.code.Reg.{Reg}
use Rattle.reg_code.specs.declared.code.Reg.TheVariants as reg
use Rattle.reg_code.specs.declared.code.Start.{Start}
use Rattle.reg_code.specs.OperationNumberLaws.{op_back, op_again, op_low}
use Rattle.reply_frames.specs.declared.outline.Instruction.{Instruction}
use Rattle.reply_frames.specs.Frames as parts
use Rattle.reply_frames.specs.FrameBytes.{StartFits, IsEvent, IsRegister, IsInstruction}
use Rattle.reply_frames.proofs.BodyLaws.{truth-back, truth-again}
use Rattle.ccp_messages.specs.CodeParts.{implicit_number, implicit_of, register, register_part, reg_by, decoded_reg, start_part, decoded_start, event_part, decoded_event, instruction_part, decoded_instr}
use Rattle.ccp_messages.specs.Messages.{IsTypedStart, IsTypedEvent, IsTypedReg, IsTypedInstr}

-- ---- from a code and back

implicit-back : (which : Implicit) → implicit_of (implicit_number which) ≡ which
implicit-back Flag = refl
implicit-back Fall = refl
implicit-back Send = refl
implicit-back Micros = refl
implicit-back Cwnd = refl
implicit-back Rate = refl

reg-back : (r : Reg) → decoded_reg (register_part r) ≡ r
reg-back (reg.Imm value) = refl
reg-back (reg.Prim n) = refl
reg-back (reg.Report i) = refl
reg-back (reg.Control i) = refl
reg-back (reg.Implicit which) = ap (λ w. reg.Implicit w) (implicit-back which)
reg-back (reg.Local i) = refl
reg-back (reg.Temp i) = refl

start-back : (start : Start) → decoded_start (start_part start) ≡ start
start-back start = ap (λ b. record { volatile = b; value = start.value }) (truth-back start.volatile)

instr-back : (i : Instr) → decoded_instr (instruction_part i) ≡ i
instr-back i =
    let o = op_back i.op in
    let a = reg-back i.to in
    let b = reg-back i.left in
    let c = reg-back i.right in
    ap (λ o. record { op = o; to = decoded_reg (register_part i.to); left = decoded_reg (register_part i.left); right = decoded_reg (register_part i.right) }) o
    ∙ ap (λ r. record { op = i.op; to = r; left = decoded_reg (register_part i.left); right = decoded_reg (register_part i.right) }) a
    ∙ ap (λ r. record { op = i.op; to = i.to; left = r; right = decoded_reg (register_part i.right) }) b
    ∙ ap (λ r. record { op = i.op; to = i.to; left = i.left; right = r }) c

pub map-back : {A B : Type 0} (f : A → B) (g : B → A) → ((x : A) → g (f x) ≡ x) → (xs : List A) → map g (map f xs) ≡ xs
map-back f g back [] = refl
map-back f g back (x ∷ xs) = ap (λ y. y ∷ map g (map f xs)) (back x) ∙ ap (λ ys. x ∷ ys) (map-back f g back xs)

pub starts-back : (starts : List Start) → map decoded_start (map start_part starts) ≡ starts
starts-back starts = map-back start_part decoded_start start-back starts

pub events-back : (events : List Event) → map decoded_event (map event_part events) ≡ events
events-back events = map-back event_part decoded_event (λ event. refl) events

pub instrs-back : (instrs : List Instr) → map decoded_instr (map instruction_part instrs) ≡ instrs
instrs-back instrs = map-back instruction_part decoded_instr instr-back instrs

-- ---- from a frame and back

implicit-again : (n : ℕ) → n ≤ 5 → implicit_number (implicit_of n) ≡ n
implicit-again zero le = refl
implicit-again (suc zero) le = refl
implicit-again (suc (suc zero)) le = refl
implicit-again (suc (suc (suc zero))) le = refl
implicit-again (suc (suc (suc (suc zero)))) le = refl
implicit-again (suc (suc (suc (suc (suc zero))))) le = refl
implicit-again (suc (suc (suc (suc (suc (suc n)))))) le = absurd (omega arith)

register-again : (class n : ℕ) → IsRegister (register class n) → (register_part (reg_by class n) ≡ register class n) × IsTypedReg (reg_by class n)
register-again zero n ok = (refl, omega (arith, ok.1))
register-again (suc zero) n ok = (refl, omega (arith, ok.1))
register-again (suc (suc zero)) n ok = (refl, omega (arith, ok.1))
register-again (suc (suc (suc zero))) n ok = (refl, omega (arith, ok.1))
register-again (suc (suc (suc (suc zero)))) n ok = (ap (λ n. register 4 n) (implicit-again n ok.1), tt)
register-again (suc (suc (suc (suc (suc zero))))) n ok = (refl, omega (arith, ok.1))
register-again (suc (suc (suc (suc (suc (suc zero)))))) n ok = (refl, omega (arith, ok.1))
register-again (suc (suc (suc (suc (suc (suc (suc class))))))) n ok = absurd (omega (arith, ok.0))

start-again : (start : parts.Start) → StartFits start → (start_part (decoded_start start) ≡ start) × IsTypedStart (decoded_start start)
start-again start ok = (ap (λ n. record { volatile = n; value = start.value }) (truth-again start.volatile ok.0), ok.1)

instruction-again : (i : Instruction) → IsInstruction i → (instruction_part (decoded_instr i) ≡ i) × IsTypedInstr (decoded_instr i)
instruction-again i ok =
    let o = op_again i.op ok.0 in
    let a = register-again i.to.class i.to.number ok.1 in
    let b = register-again i.left.class i.left.number ok.2 in
    let c = register-again i.right.class i.right.number ok.3 in (
      ap (λ o. record { op = o; to = register_part (decoded_reg i.to); left = register_part (decoded_reg i.left); right = register_part (decoded_reg i.right) }) o
          ∙ ap (λ r. record { op = i.op; to = r; left = register_part (decoded_reg i.left); right = register_part (decoded_reg i.right) }) a.0
          ∙ ap (λ r. record { op = i.op; to = i.to; left = r; right = register_part (decoded_reg i.right) }) b.0
          ∙ ap (λ r. record { op = i.op; to = i.to; left = i.left; right = r }) c.0,
      (a.1, b.1, c.1),
    )

pub map-again : {A B : Type 0} (f : A → B) (g : B → A) (Valid : A → Type 0) (Typed : B → Type 0) → ((x : A) → Valid x → (g (f x) ≡ x) × Typed (f x)) → (xs : List A) → AllByRecursion Valid xs → (map g (map f xs) ≡ xs) × AllByRecursion Typed (map f xs)
map-again f g Valid Typed again [] valid = (refl, tt)
map-again f g Valid Typed again (x ∷ xs) valid =
    let here = again x valid.0 in
    let others = map-again f g Valid Typed again xs valid.1 in
    (ap (λ y. y ∷ map g (map f xs)) here.0 ∙ ap (λ ys. x ∷ ys) others.0, (here.1, others.1))

pub starts-again : (starts : List parts.Start) → AllByRecursion StartFits starts → (map start_part (map decoded_start starts) ≡ starts) × AllByRecursion IsTypedStart (map decoded_start starts)
starts-again starts ok = map-again decoded_start start_part StartFits IsTypedStart start-again starts ok

pub events-again : (events : List parts.EventLengths) → AllByRecursion IsEvent events → (map event_part (map decoded_event events) ≡ events) × AllByRecursion IsTypedEvent (map decoded_event events)
events-again events ok = map-again decoded_event event_part IsEvent IsTypedEvent (λ event fits. (refl, fits)) events ok

pub instructions-again : (instructions : List Instruction) → AllByRecursion IsInstruction instructions → (map instruction_part (map decoded_instr instructions) ≡ instructions) × AllByRecursion IsTypedInstr (map decoded_instr instructions)
instructions-again instructions ok = map-again decoded_instr instruction_part IsInstruction IsTypedInstr instruction-again instructions ok

-- ---- what is typed has a place in a frame

implicit-low : (which : Implicit) → implicit_number which ≤ 5
implicit-low Flag = omega arith
implicit-low Fall = omega arith
implicit-low Send = omega arith
implicit-low Micros = omega arith
implicit-low Cwnd = omega arith
implicit-low Rate = omega arith

register-fits : (r : Reg) → IsTypedReg r → IsRegister (register_part r)
register-fits (reg.Imm value) typed = (omega arith, omega arith)
register-fits (reg.Prim n) typed = (omega arith, omega arith)
register-fits (reg.Report i) typed = (omega arith, omega arith)
register-fits (reg.Control i) typed = (omega arith, omega arith)
register-fits (reg.Implicit which) typed = (omega arith, implicit-low which)
register-fits (reg.Local i) typed = (omega arith, omega arith)
register-fits (reg.Temp i) typed = (omega arith, omega arith)

pub truth-low : (b : Bool) → bool_number b ≤ 1
truth-low true = omega arith
truth-low false = omega arith

pub map-all : {A B : Type 0} (f : A → B) (P : A → Type 0) (Q : B → Type 0) → ((x : A) → P x → Q (f x)) → (xs : List A) → AllByRecursion P xs → AllByRecursion Q (map f xs)
map-all f P Q step [] all = tt
map-all f P Q step (x ∷ xs) all = (step x all.0, map-all f P Q step xs all.1)

pub starts-fit : (starts : List Start) → AllByRecursion IsTypedStart starts → AllByRecursion StartFits (map start_part starts)
starts-fit starts all = map-all start_part IsTypedStart StartFits (λ start fits. (truth-low start.volatile, fits)) starts all

pub events-fit : (events : List Event) → AllByRecursion IsTypedEvent events → AllByRecursion IsEvent (map event_part events)
events-fit events all = map-all event_part IsTypedEvent IsEvent (λ event fits. fits) events all

pub instructions-fit : (instrs : List Instr) → AllByRecursion IsTypedInstr instrs → AllByRecursion IsInstruction (map instruction_part instrs)
instructions-fit instrs all = map-all instruction_part IsTypedInstr IsInstruction (λ i fits. (op_low i.op, register-fits i.to fits.0, register-fits i.left fits.1, register-fits i.right fits.2)) instrs all
